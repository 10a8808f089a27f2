-- What holds of every view that has all drafts of an owner, and when an edit leaves it.
use Rattle.std.proofs.Common.{ℕ}
use Rattle.fbc_kinds.specs.declared.edits.Edit.{Edit}
use Rattle.fbc_kinds.specs.declared.pages.Page.{Page}
use Rattle.fbc_kinds.specs.declared.shapes.Shape.{Shape}
use Rattle.fbc_kinds.specs.View.{View}
use Rattle.fbc_page_edits.specs.Edited.{with_page}
use Rattle.fbc_world.specs.History.{History}
use Rattle.fbc_world.specs.World.{World, world_of}
use Rattle.fbc_closed_cuts.specs.Cut.{Cut, view}
use Rattle.fbc_closed_cuts.specs.Firm.{HasOwnDrafts}
use Rattle.fbc_firm_facts.specs.EditLeaves.{IsOwnViewOfEdit}

abbrev pub HoldsFirmly : World → ℕ → (View → Type 0) → Type 0
HoldsFirmly w owner Holds = (cut : Cut) → HasOwnDrafts w owner cut → Holds (view w cut)

abbrev pub LeavesIn : Shape → View → History → ℕ → ℕ → Edit → ℕ → (View → Type 0) → Type 0
LeavesIn shape file before actor page e owner Holds =
    (content : Page) (cut : Cut)
    → IsOwnViewOfEdit shape file before actor page e owner content cut
    → Holds (view (world_of shape file before) cut)
    → Holds (with_page (view (world_of shape file before) cut) page content)
