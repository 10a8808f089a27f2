use Rattle.std.proofs.Common.{◌≡◌, true}
use Rattle.fbc_legal.specs.Scene.{scene_of}
use Rattle.fbc_legal.proofs.Induction.{IsCoherent-legal}
use Rattle.fbc_firm_facts.proofs.CopyLeans.{copy-leans}
use Rattle.fbc_firm_facts.proofs.copies.copies_carry_leans.Goals as goal

pub returns : goal.returns
returns c = λ shape file history owner edited page content passes legal has shows first.
    copy-leans (scene_of shape file history) (IsCoherent-legal shape file history legal) owner page content has edited (λ found stamps. passes found stamps ≡ true) shows first
