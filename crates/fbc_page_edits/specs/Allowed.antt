-- What a view shows where an edit of one of its pages may come.
use Rattle.std.specs.Prelude.{◌≡◌, ◌≤◌, ◌+◌, ◌*◌, ℕ, length, Option, Some, None, true}
use Rattle.fbc_kinds.specs.declared.edits.Edit.{Edit}
use Rattle.fbc_kinds.specs.declared.edits.Edit.TheVariants as edit
use Rattle.fbc_kinds.specs.declared.pages.Header.{Header}
use Rattle.fbc_kinds.specs.declared.pages.Page.{Page}
use Rattle.fbc_kinds.specs.declared.pages.Page.TheVariants as kind
use Rattle.fbc_kinds.specs.declared.pages.Relation.{Relation}
use Rattle.fbc_kinds.specs.declared.shapes.Shape.{Shape}
use Rattle.fbc_kinds.specs.Edits.{applied, formatted}
use Rattle.fbc_kinds.specs.Limits.{slots}
use Rattle.fbc_kinds.specs.Reach.{InventoryRole, ReachesPage, shows_role}
use Rattle.fbc_kinds.specs.Sound.{IsSound}
use Rattle.fbc_kinds.specs.View.{View, header_of, inventory_page, named_in, next_of, relation_of, slot_in}
use Rattle.fbc_page_edits.specs.Edited.{IsOfShape}
use Rattle.fbc_page_edits.specs.Facing.{HasNoVersion, IsReady}

-- A header names one more transaction inventory page, which is ready.
abbrev pub AllowsTip : Shape → View → ℕ → Option Header → Type 0
AllowsTip shape view page None = ⊥
AllowsTip shape view page (Some header) = IsReady shape view page 3 0 (length header.tips)

-- A header names one more pointer page of a relation, which is ready.
abbrev pub AllowsPointer : Shape → View → ℕ → ℕ → Option Relation → Type 0
AllowsPointer shape view relation page None = ⊥
AllowsPointer shape view relation page (Some entry) = IsReady shape view page 4 relation (length entry.pointers)

-- A header counts one more page inventory, which has its kind and sequence.
abbrev pub AllowsInventory : Shape → View → Option Header → Type 0
AllowsInventory shape view None = ⊥
AllowsInventory shape view (Some header) =
    shows_role (InventoryRole header.inventories) (inventory_page shape.size header.inventories) (view (inventory_page shape.size header.inventories)) ≡ true

-- A pointer page names one more data page in a slot that names none; the data page is ready.
abbrev pub AllowsName : Shape → View → ℕ → ℕ → Option Page → Type 0
AllowsName shape view slot page (Some (kind.Pointer pointer)) =
    (slot_in (Some (kind.Pointer pointer)) slot ≡ Some 0) × IsReady shape view page 5 pointer.relation (pointer.sequence * slots shape.size + slot)
AllowsName shape view slot page _ = ⊥

-- A pointer page names a data page no more, which has no version.
abbrev pub AllowsUnname : View → ℕ → ℕ → Type 0
AllowsUnname view edited slot = (page : ℕ) → named_in (view edited) slot ≡ Some page → HasNoVersion view page

-- What the view shows where this edit of a header, a page inventory or a pointer page may come, or this format.
abbrev pub Allows : Shape → View → ℕ → Edit → Type 0
Allows shape view edited (edit.SetNext next) = next_of view ≤ next
Allows shape view edited (edit.AddTip page) = AllowsTip shape view page (header_of view)
Allows shape view edited (edit.AddPointer relation page) = AllowsPointer shape view relation page (relation_of view relation)
Allows shape view edited edit.AddInventory = AllowsInventory shape view (header_of view)
Allows shape view edited (edit.TakePage page) = Unit {0}
Allows shape view edited (edit.FreePage page) = ¬ ReachesPage view page
Allows shape view edited (edit.Name slot page) = AllowsName shape view slot page (view edited)
Allows shape view edited (edit.Unname slot) = AllowsUnname view edited slot
Allows shape view edited (edit.Format page_kind page relation sequence) = ¬ ReachesPage view edited
Allows shape view edited _ = ⊥

-- A format carries the page that it makes.
abbrev pub CarriesPage : ℕ → Edit → Type 0
CarriesPage number (edit.Format page_kind page relation sequence) = page ≡ number
CarriesPage number _ = Unit {0}

-- The content is the page after the edit. A format fits also where the bytes spell no page.
abbrev pub Fits : Shape → Edit → Option Page → Page → Type 0
Fits shape (edit.Format page_kind page relation sequence) old content = formatted shape page_kind page relation sequence ≡ Some content
Fits shape any (Some before) content = applied shape any before ≡ Some content
Fits shape any None content = ⊥

-- An edit of a page of a sound view may come, and makes this content of the page.
pub record IsAllowedEdit (shape : Shape) (view : View) (number : ℕ) (any : Edit) (content : Page) : Type 0 where
  pub of_shape : IsOfShape shape view
  pub sound : IsSound view
  pub own : CarriesPage number any
  pub fits : Fits shape any (view number) content
  pub allowed : Allows shape view number any
