-- What the header shows in each view with all drafts of an owner stays so when it grows with headers.
use Rattle.std.proofs.Common.{◌≡◌, ℕ, Bool, true}
use Rattle.fbc_kinds.specs.declared.shapes.Shape.{Shape}
use Rattle.fbc_kinds.specs.View.{View}
use Rattle.fbc_page_edits.specs.Edited.{with_page}
use Rattle.fbc_world.specs.declared.events.Act.{Act}
use Rattle.fbc_world.specs.History.{History}
use Rattle.fbc_world.specs.World.{world_of}
use Rattle.fbc_legal.specs.Scene.{scene_of}
use Rattle.fbc_legal.proofs.Induction.{IsCoherent-legal}
use Rattle.fbc_closed_cuts.specs.Cut.{view}
use Rattle.fbc_closed_cuts.specs.Upheld.{IsUpheld}
use Rattle.fbc_firm_facts.specs.HeaderFacts.{GrowsWithHeaders}
use Rattle.fbc_firm_facts.proofs.EditsLeave.{edits-leave}
use Rattle.fbc_firm_facts.proofs.EventsLeave.{IsKeptWhereEdited}
use Rattle.fbc_firm_facts.proofs.HeadersSeen.{header-grown}

pub header-kept : (shape : Shape) (file : View) (before : History) (owner actor : ℕ) (landed : Bool) (passes : View → Bool) → IsUpheld (scene_of shape file before) → GrowsWithHeaders passes
    → (act : Act) → IsKeptWhereEdited shape file before owner (λ view. passes view ≡ true) actor landed act
header-kept shape file before owner actor landed passes u grows act page e is legal holds =
    edits-leave shape file before actor page e landed legal u owner (λ view. passes view ≡ true)
    (λ content cut seen is_passed.
    grows (view (world_of shape file before) cut) (with_page (view (world_of shape file before) cut) page content)
    (header-grown (scene_of shape file before) (IsCoherent-legal shape file before legal.0) actor e content (view (world_of shape file before) cut) page seen.sees.guard seen.fits seen.sees.sees.edited_page.page) is_passed)
    holds
