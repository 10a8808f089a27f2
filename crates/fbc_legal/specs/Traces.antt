-- What the events before have left that no page shows: who took a page, who unnamed it, who put a back value where it
-- stands, and by which edit it came to be reached no more.
use Rattle.std.specs.Prelude.{◌≡◌, ◌/◌, ℕ, ◌∷◌, Some, true}
use Rattle.fbc_kinds.specs.declared.edits.Edit.{Edit}
use Rattle.fbc_kinds.specs.declared.edits.Edit.TheVariants.{FreePage, PutCell, TakePage}
use Rattle.fbc_kinds.specs.declared.pages.Cell.{Cell}
use Rattle.fbc_kinds.specs.declared.shapes.Shape.{Shape}
use Rattle.fbc_kinds.specs.Limits.{inventory_bits}
use Rattle.fbc_kinds.specs.View.{View, data_of, inventory_page, is_back, pointer_of, tip_of}
use Rattle.fbc_page_edits.specs.Facing.{IsLinked}
use Rattle.fbc_world.specs.declared.events.Act.TheVariants.{Local}
use Rattle.fbc_world.specs.declared.events.LocalEvent.TheVariants as local
use Rattle.fbc_world.specs.History.{History, Moment}
use Rattle.fbc_world.specs.World.{world_of}
use Rattle.fbc_legal.specs.Scene.{newest_after}
use Rattle.fbc_legal.specs.Stamps.{born_in_newest, stamp_after, stamps_of}

-- A view names a page as a transaction inventory, pointer or data page.
pub data IsNamed (view : View) (page : ℕ) : Type 0 where
  tip : (sequence : ℕ) → tip_of view sequence ≡ Some page → IsNamed view page
  pointer : (relation sequence : ℕ) → pointer_of view relation sequence ≡ Some page → IsNamed view page
  data_page : (relation sequence : ℕ) → data_of view relation sequence ≡ Some page → IsNamed view page

-- The moment is this edit of the page by the owner.
pub record IsEditOf (owner page : ℕ) (edit : Edit) (moment : Moment) : Type 0 where
  pub actor : moment.event.actor ≡ owner
  pub act : moment.event.act ≡ Local (local.Edit page edit)

-- The page inventory that covers a page.
abbrev pub inventory_over : Shape → ℕ → ℕ
inventory_over shape page = inventory_page shape.size (page / inventory_bits shape.size)

-- At the moment nobody takes the page, and nobody frees it, in the page inventory that covers it.
abbrev pub TakesNot : Shape → ℕ → Moment → Type 0
TakesNot shape page moment = (owner : ℕ) → ¬ IsEditOf owner (inventory_over shape page) (TakePage page) moment

abbrev pub FreesNot : Shape → ℕ → Moment → Type 0
FreesNot shape page moment = (owner : ℕ) → ¬ IsEditOf owner (inventory_over shape page) (FreePage page) moment

-- The owner took the page, and since then nobody has taken it and the newest pages have not named it.
pub data IsTakenBy (shape : Shape) (file : View) (owner page : ℕ) : History → Type 0 where
  taken : (before : History) (moment : Moment)
      → IsEditOf owner (inventory_over shape page) (TakePage page) moment
      → IsTakenBy shape file owner page (moment ∷ before)
  still : (before : History) (moment : Moment)
      → IsTakenBy shape file owner page before
      → TakesNot shape page moment
      → ¬ IsNamed (newest_after shape file (moment ∷ before)) page
      → IsTakenBy shape file owner page (moment ∷ before)

-- By an edit of the owner the newest pages came to name the page no more.
pub record Unnames (shape : Shape) (file : View) (owner page : ℕ) (before : History) (moment : Moment) : Type 0 where
  pub edited : ℕ
  pub edit : Edit
  pub is : IsEditOf owner edited edit moment
  pub named : IsNamed (newest_after shape file before) page
  pub unnamed : ¬ IsNamed (newest_after shape file (moment ∷ before)) page

-- The last edit by which the newest pages came to name the page no more is the owner's, and nobody has freed it since.
pub data IsUnnamedBy (shape : Shape) (file : View) (owner page : ℕ) : History → Type 0 where
  unnamed : (before : History) (moment : Moment)
      → Unnames shape file owner page before moment
      → IsUnnamedBy shape file owner page (moment ∷ before)
  still : (before : History) (moment : Moment)
      → IsUnnamedBy shape file owner page before
      → FreesNot shape page moment
      → ((other : ℕ) → ¬ Unnames shape file other page before moment)
      → IsUnnamedBy shape file owner page (moment ∷ before)

-- The owner's edit of this number put a back value into the cell, and the newest pages have not reached it since.
pub data IsMovedBy (shape : Shape) (file : View) (owner page cell stamp : ℕ) : History → Type 0 where
  moved : (before : History) (moment : Moment) (content : Cell)
      → IsEditOf owner page (PutCell cell content) moment
      → is_back content.flag ≡ true
      → stamp ≡ stamp_after before
      → IsMovedBy shape file owner page cell stamp (moment ∷ before)
  still : (before : History) (moment : Moment)
      → IsMovedBy shape file owner page cell stamp before
      → ¬ IsLinked (newest_after shape file (moment ∷ before)) page cell
      → IsMovedBy shape file owner page cell stamp (moment ∷ before)

-- The stamp of a cell of the newest pages after a history.
abbrev pub born_after_all : Shape → View → History → ℕ → ℕ → ℕ
born_after_all shape file past page cell = born_in_newest (world_of shape file past) (stamps_of shape file past) page cell

-- By this edit of the owner on that page the newest pages came to reach the cell no more. They have not reached it since,
-- and what stands in it has stayed.
pub data IsUnlinkedBy (shape : Shape) (file : View) (page cell owner edited stamp : ℕ) : History → Type 0 where
  unlinked : (before : History) (moment : Moment) (edit : Edit)
      → IsEditOf owner edited edit moment
      → IsLinked (newest_after shape file before) page cell
      → ¬ IsLinked (newest_after shape file (moment ∷ before)) page cell
      → born_after_all shape file (moment ∷ before) page cell ≡ born_after_all shape file before page cell
      → stamp ≡ stamp_after before
      → IsUnlinkedBy shape file page cell owner edited stamp (moment ∷ before)
  still : (before : History) (moment : Moment)
      → IsUnlinkedBy shape file page cell owner edited stamp before
      → ¬ IsLinked (newest_after shape file (moment ∷ before)) page cell
      → born_after_all shape file (moment ∷ before) page cell ≡ born_after_all shape file before page cell
      → IsUnlinkedBy shape file page cell owner edited stamp (moment ∷ before)
