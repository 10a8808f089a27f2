-- What an edit makes of the cells of its page.
use Rattle.std.proofs.Common.{◌≡◌, ◌∙◌, ◌==◌, ◌<◌, ℕ, Bool, true, false, if◌then◌else◌, length, Option, Some, None, refl, sym, ap, slice_get, nat_lt}
use Rattle.std.specs.Prelude.{slice_set}
use Rattle.std.proofs.lemmas.Bool.{ltb-true}
use Rattle.fbc_kinds.specs.declared.edits.Edit.{Edit}
use Rattle.fbc_kinds.specs.declared.edits.Edit.TheVariants as edit
use Rattle.fbc_kinds.specs.declared.pages.Cell.{Cell}
use Rattle.fbc_kinds.specs.declared.pages.Data.{Data}
use Rattle.fbc_kinds.specs.declared.pages.Page.{Page}
use Rattle.fbc_kinds.specs.declared.pages.Page.TheVariants as kind
use Rattle.fbc_kinds.specs.declared.shapes.Shape.{Shape}
use Rattle.fbc_kinds.specs.DataSpelling.{empty_cell}
use Rattle.fbc_kinds.specs.Edits.{is_version, value_length}
use Rattle.fbc_kinds.specs.View.{cell_in}
use Rattle.fbc_kinds.proofs.EditLimits.{slice_get-set_other, slice_get-set_same}
use Rattle.fbc_kinds.proofs.Heads.{both_pass}
use Rattle.fbc_kinds.proofs.Tests.{differ_from_test, same_from_test}
use Rattle.fbc_origins.specs.Owed.{leaves_cells}
use Rattle.fbc_page_edits.specs.Allowed.{Fits}
use Rattle.fbc_page_edits.proofs.Fitted.{adds_inventory, adds_pointer, adds_tip, frees_mark, given_some, names_slot, raises_next, takes_mark, unnames_slot}

pub cells-left : (shape : Shape) (e : Edit) (before : Option Page) (content : Page) → leaves_cells e ≡ true → Fits shape e before content → (cell : ℕ) → cell_in (Some content) cell ≡ cell_in before cell
cells-left shape (edit.SetNext next) before content left fits cell = let r = raises_next shape next before content fits in rw (r.changes.stands, ← r.changes.made) refl
cells-left shape (edit.AddTip page) before content left fits cell = let r = adds_tip shape page before content fits in rw (r.changes.stands, ← r.changes.made) refl
cells-left shape (edit.AddPointer relation page) before content left fits cell = let r = adds_pointer shape relation page before content fits in rw (r.changes.stands, ← r.changes.made) refl
cells-left shape edit.AddInventory before content left fits cell = let r = adds_inventory shape before content fits in rw (r.changes.stands, ← r.changes.made) refl
cells-left shape (edit.TakePage page) before content left fits cell = let r = takes_mark shape page before content fits in rw (r.stands, ← r.made) refl
cells-left shape (edit.FreePage page) before content left fits cell = let r = frees_mark shape page before content fits in rw (r.stands, ← r.made) refl
cells-left shape (edit.Name slot page) before content left fits cell = let r = names_slot shape slot page before content fits in rw (r.stands, ← r.made) refl
cells-left shape (edit.Unname slot) before content left fits cell = let r = unnames_slot shape slot before content fits in rw (r.stands, ← r.made) refl
cells-left shape (edit.Mark number state) (Some (kind.Tip tip)) content left fits cell = let r = given_some _ _ content fits in rw (← r.1) refl
cells-left shape (edit.Mark number state) None content left fits cell = absurd fits
cells-left shape (edit.Mark number state) (Some _) content left fits cell = cc
cells-left shape (edit.PutCell place new) before content left fits cell = cc
cells-left shape (edit.ClearCell place) before content left fits cell = cc
cells-left shape (edit.Format k page relation sequence) before content left fits cell = cc

-- The cells of a data page with one of them set.
set-cells : (d : Data) (cell : ℕ) (new : Cell) (content : Page) → cell < length d.cells → kind.Data (record d { cells = slice_set d.cells cell new }) ≡ content → (place : ℕ)
    → cell_in (Some content) place ≡ (if place == cell then Some new else slice_get d.cells place)
set-cells d cell new content inside made place = ap (λ (p : Page). cell_in (Some p) place) (sym made) ∙ go (place == cell) refl where
  go : (b : Bool) → place == cell ≡ b → slice_get (slice_set d.cells cell new) place ≡ (if b then Some new else slice_get d.cells place)
  go true is = ap (slice_get (slice_set d.cells cell new)) (same_from_test place cell is) ∙ slice_get-set_same d.cells cell new inside
  go false is = slice_get-set_other d.cells cell place new (differ_from_test place cell is)

pub cells-put : (shape : Shape) (cell : ℕ) (new : Cell) (before : Option Page) (content : Page) → Fits shape (edit.PutCell cell new) before content → (place : ℕ)
    → cell_in (Some content) place ≡ (if place == cell then Some new else cell_in before place)
cells-put shape cell new (Some (kind.Data d)) content fits place =
    let made = given_some _ _ content fits in
    set-cells d cell new content (ltb-true _ _ (both_pass (nat_lt cell (length d.cells)) (is_version (value_length shape d.relation) new) made.0).0) made.1 place
cells-put shape cell new None content fits place = absurd fits
cells-put shape cell new (Some _) content fits place = cc

pub cells-cleared : (shape : Shape) (cell : ℕ) (before : Option Page) (content : Page) → Fits shape (edit.ClearCell cell) before content → (place : ℕ)
    → cell_in (Some content) place ≡ (if place == cell then Some empty_cell else cell_in before place)
cells-cleared shape cell (Some (kind.Data d)) content fits place = let made = given_some _ _ content fits in set-cells d cell empty_cell content (ltb-true _ _ made.0) made.1 place
cells-cleared shape cell None content fits place = absurd fits
cells-cleared shape cell (Some _) content fits place = cc
