-- A cell that an edit leaves with a stamp of before held, before it, a version of the same kind with that stamp.
use Rattle.std.proofs.Common.{◌≡◌, ◌∙◌, ◌≤◌, ◌==◌, ℕ, suc, Bool, true, false, Option, Some, None, if◌then◌else◌, refl, sym, ap, arith}
use Rattle.std.proofs.lemmas.Option.{same_Some}
use Rattle.fbc_kinds.specs.declared.edits.Edit.{Edit}
use Rattle.fbc_kinds.specs.declared.edits.Edit.TheVariants as edit
use Rattle.fbc_kinds.specs.declared.pages.Cell.{Cell}
use Rattle.fbc_kinds.specs.declared.pages.Page.{Page}
use Rattle.fbc_kinds.specs.declared.shapes.Shape.{Shape}
use Rattle.fbc_kinds.specs.DataSpelling.{empty_cell}
use Rattle.fbc_kinds.specs.View.{cell_in}
use Rattle.fbc_page_edits.specs.Allowed.{Fits}
use Rattle.fbc_legal.specs.Stamps.{Stamps, born_after, stamped, takes_link}
use Rattle.fbc_origins.proofs.CellsAfter.{cells-cleared, cells-left, cells-put}
use Rattle.fbc_origins.specs.Owed.{leaves_cells}
use Rattle.fbc_origins.proofs.LinkTaken.{taken}
use Rattle.fbc_origins.proofs.LinksNext.{plain_born}

-- A version of the same kind stood there with the stamp.
pub record IsOlder (cells : Option Page) (stamps : Stamps) (cell stamp : ℕ) (version : Cell) : Type 0 where
  pub born : stamps.born cell ≡ stamp
  pub old : Cell
  pub stands : cell_in cells cell ≡ Some old
  pub flag : old.flag ≡ version.flag

module _ (count : ℕ) (born : ℕ → ℕ → ℕ) (old_page : Option Page) (s : Stamps) (content : Page) (cell stamp : ℕ) (past : stamp ≤ count) (version : Cell) where
  abbrev Older : Type 0
  Older = IsOlder old_page s cell stamp version

  fresh : (X : Type 0) → suc count ≡ stamp → X
  fresh X is = absurd (grind (arith, past, is))

  same_cell : cell_in (Some content) cell ≡ cell_in old_page cell → s.born cell ≡ stamp → cell_in (Some content) cell ≡ Some version → Older
  same_cell same is stands = record { born = is; old = version; stands = sym same ∙ stands; flag = refl }

  put_over : (new : Cell) → new ≡ version → (found : Option Cell) → cell_in old_page cell ≡ found → born_after (suc count) (s.born cell) new found ≡ stamp → Older
  put_over new same None there is = fresh _ is
  put_over new same (Some old) there is = go (takes_link old new) refl is where
    go : (b : Bool) → takes_link old new ≡ b → (if b then s.born cell else suc count) ≡ stamp → Older
    go false takes at = fresh _ at
    go true takes at = record { born = at; old = old; stands = there; flag = (taken old new takes).flag ∙ ap (λ (v : Cell). v.flag) same }

  plain : (shape : Shape) (e : Edit) → leaves_cells e ≡ true → Fits shape e old_page content → (stamped (suc count) born old_page e s).born cell ≡ stamp → cell_in (Some content) cell ≡ Some version → Older
  plain shape e leaves fits is stands = same_cell (cells-left shape e old_page content leaves fits cell) (sym (plain_born (suc count) born old_page e s leaves cell) ∙ is) stands

  pub older-cell : (shape : Shape) (e : Edit) → Fits shape e old_page content → (stamped (suc count) born old_page e s).born cell ≡ stamp → cell_in (Some content) cell ≡ Some version → Older
  older-cell shape (edit.PutCell place new) fits is stands = go (cell == place) refl (sym (cells-put shape place new old_page content fits cell) ∙ stands) is where
    go : (b : Bool) → (cell == place) ≡ b → (if b then Some new else cell_in old_page cell) ≡ Some version → (if b then born_after (suc count) (s.born cell) new (cell_in old_page cell) else s.born cell) ≡ stamp → Older
    go true same found at = put_over new (same_Some new version found) (cell_in old_page cell) refl at
    go false apart found at = record { born = at; old = version; stands = found; flag = refl }
  older-cell shape (edit.ClearCell place) fits is stands = go (cell == place) refl (sym (cells-cleared shape place old_page content fits cell) ∙ stands) is where
    go : (b : Bool) → (cell == place) ≡ b → (if b then Some empty_cell else cell_in old_page cell) ≡ Some version → (if b then suc count else s.born cell) ≡ stamp → Older
    go true same found at = fresh _ at
    go false apart found at = record { born = at; old = version; stands = found; flag = refl }
  older-cell shape (edit.Format k number relation sequence) fits is stands = fresh _ is
  older-cell shape (edit.SetNext next) fits is stands = plain shape (edit.SetNext next) refl fits is stands
  older-cell shape (edit.AddTip page) fits is stands = plain shape (edit.AddTip page) refl fits is stands
  older-cell shape (edit.AddPointer relation page) fits is stands = plain shape (edit.AddPointer relation page) refl fits is stands
  older-cell shape edit.AddInventory fits is stands = plain shape edit.AddInventory refl fits is stands
  older-cell shape (edit.TakePage page) fits is stands = plain shape (edit.TakePage page) refl fits is stands
  older-cell shape (edit.FreePage page) fits is stands = plain shape (edit.FreePage page) refl fits is stands
  older-cell shape (edit.Mark number state) fits is stands = plain shape (edit.Mark number state) refl fits is stands
  older-cell shape (edit.Name slot page) fits is stands = plain shape (edit.Name slot page) refl fits is stands
  older-cell shape (edit.Unname slot) fits is stands = plain shape (edit.Unname slot) refl fits is stands
