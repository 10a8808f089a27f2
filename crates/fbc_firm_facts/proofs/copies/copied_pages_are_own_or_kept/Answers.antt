use Rattle.fbc_legal.specs.Scene.{scene_of}
use Rattle.fbc_legal.proofs.Induction.{IsCoherent-legal}
use Rattle.fbc_firm_facts.proofs.CopyLeans.{own-or-kept}
use Rattle.fbc_firm_facts.proofs.copies.copied_pages_are_own_or_kept.Goals as goal

pub returns : goal.returns
returns c = λ shape file history owner page content legal has. own-or-kept (scene_of shape file history) (IsCoherent-legal shape file history legal) owner page content has
