use Rattle.fbc_legal.proofs.Induction.{IsCoherent-legal}
use Rattle.fbc_legal.specs.Scene.{scene_of}
use Rattle.fbc_world.specs.World.{world_of}
use Rattle.fbc_closed_cuts.specs.Cut.{view}
use Rattle.fbc_firm_facts.proofs.HeadersSeen.{header-grown}
use Rattle.fbc_firm_facts.proofs.headers.seen_edits_grow_headers.Goals as goal

pub returns : goal.returns
returns c = λ shape file before actor page edit owner content cut legal seen.
    header-grown (scene_of shape file before) (IsCoherent-legal shape file before legal) actor edit content (view (world_of shape file before) cut) page
    seen.sees.guard seen.fits seen.sees.sees.edited_page.page
