-- How an edit of a data page leaves its newest versions lone and not held.
use Rattle.std.proofs.Common.{◌≡◌, ◌∙◌, ◌==◌, ℕ, zero, suc, Bool, true, false, if◌then◌else◌, Option, Some, None, replicate, slice_get, refl, sym, ap, subst}
use Rattle.std.proofs.lemmas.Option.{same_Some}
use Rattle.fbc_kinds.specs.declared.edits.Edit.{Edit}
use Rattle.fbc_kinds.specs.declared.edits.Edit.TheVariants as edit
use Rattle.fbc_kinds.specs.declared.pages.Cell.{Cell}
use Rattle.fbc_kinds.specs.declared.pages.Page.{Page}
use Rattle.fbc_kinds.specs.declared.pages.Page.TheVariants as kind
use Rattle.fbc_kinds.specs.declared.shapes.Shape.{Shape}
use Rattle.fbc_kinds.specs.DataSpelling.{empty_cell}
use Rattle.fbc_kinds.specs.Edits.{data_formatted, formatted, inventory_formatted, pointer_formatted, tip_formatted, value_length}
use Rattle.fbc_kinds.specs.Limits.{cells}
use Rattle.fbc_kinds.specs.Reach.{DataRole, has_role, shows_role}
use Rattle.fbc_kinds.specs.View.{cell_in, is_top}
use Rattle.fbc_page_edits.specs.Allowed.{Fits}
use Rattle.fbc_page_edits.proofs.Fitted.{adds_inventory, adds_pointer, adds_tip, frees_mark, given_some, names_slot, raises_next, takes_mark, unnames_slot}
use Rattle.fbc_numbers.proofs.CutFacts.{clash}
use Rattle.fbc_origins.specs.Owed.{leaves_cells}
use Rattle.fbc_origins.proofs.CellsAfter.{cells-cleared, cells-put}
use Rattle.fbc_firm_facts.specs.Grounds.{HasLoneTops, IsLoneUnheld}

module _ (shape : Shape) (relation sequence page : ℕ) where
  abbrev shows_data : Option Page → Bool
  shows_data content = shows_role (DataRole relation sequence) page content

  -- An edit that leaves all cells makes no data page.
  pub no-data : (e : Edit) (old : Option Page) (content : Page) → leaves_cells e ≡ true → Fits shape e old content → shows_data (Some content) ≡ false
  no-data (edit.SetNext next) old content left fits = let r = raises_next shape next old content fits in rw (← r.changes.made) refl
  no-data (edit.AddTip number) old content left fits = let r = adds_tip shape number old content fits in rw (← r.changes.made) refl
  no-data (edit.AddPointer other number) old content left fits = let r = adds_pointer shape other number old content fits in rw (← r.changes.made) refl
  no-data edit.AddInventory old content left fits = let r = adds_inventory shape old content fits in rw (← r.changes.made) refl
  no-data (edit.TakePage number) old content left fits = let r = takes_mark shape number old content fits in rw (← r.made) refl
  no-data (edit.FreePage number) old content left fits = let r = frees_mark shape number old content fits in rw (← r.made) refl
  no-data (edit.Name slot number) old content left fits = let r = names_slot shape slot number old content fits in rw (← r.made) refl
  no-data (edit.Unname slot) old content left fits = let r = unnames_slot shape slot old content fits in rw (← r.made) refl
  no-data (edit.Mark number state) (Some (kind.Tip tip)) content left fits = let r = given_some _ _ content fits in rw (← r.1) refl
  no-data (edit.Mark number state) None content left fits = absurd fits
  no-data (edit.Mark number state) (Some _) content left fits = cc
  no-data (edit.PutCell place new) old content left fits = cc
  no-data (edit.ClearCell place) old content left fits = cc
  no-data (edit.Format k number other place) old content left fits = cc

  pub role-put : (cell : ℕ) (new : Cell) (old : Option Page) (content : Page) → Fits shape (edit.PutCell cell new) old content → shows_data (Some content) ≡ shows_data old
  role-put cell new (Some (kind.Data d)) content fits = ap (λ (p : Page). has_role (DataRole relation sequence) page p) (sym (given_some _ _ content fits).1)
  role-put cell new None content fits = absurd fits
  role-put cell new (Some _) content fits = cc

  role-cleared : (cell : ℕ) (old : Option Page) (content : Page) → Fits shape (edit.ClearCell cell) old content → shows_data (Some content) ≡ shows_data old
  role-cleared cell (Some (kind.Data d)) content fits = ap (λ (p : Page). has_role (DataRole relation sequence) page p) (sym (given_some _ _ content fits).1)
  role-cleared cell None content fits = absurd fits
  role-cleared cell (Some _) content fits = cc

  module _ (held : ℕ → Bool) where
    -- One cell is another now, and that one is lone as well if it has a newest version.
    one-lone : (old : Option Page) (content : Page) (cell : ℕ) (new : Cell) → HasLoneTops held relation sequence page old → shows_data (Some content) ≡ shows_data old
        → ((place : ℕ) → cell_in (Some content) place ≡ (if place == cell then Some new else cell_in old place)) → (is_top new.flag ≡ true → IsLoneUnheld held new)
        → HasLoneTops held relation sequence page (Some content)
    one-lone old content cell new was same cells_are lone role place top there first = go (place == cell) (sym (cells_are place) ∙ there) where
      go : (b : Bool) → (if b then Some new else cell_in old place) ≡ Some top → IsLoneUnheld held top
      go true is = let one : new ≡ top = same_Some new top is in subst (IsLoneUnheld held) one (lone (ap (λ (v : Cell). is_top v.flag) one ∙ first))
      go false is = was (sym same ∙ role) place top is first

    pub put-lone : (cell : ℕ) (new : Cell) (old : Option Page) (content : Page) → Fits shape (edit.PutCell cell new) old content → HasLoneTops held relation sequence page old
        → (is_top new.flag ≡ true → IsLoneUnheld held new) → HasLoneTops held relation sequence page (Some content)
    put-lone cell new old content fits was lone = one-lone old content cell new was (role-put cell new old content fits) (cells-put shape cell new old content fits) lone

    pub cleared-lone : (cell : ℕ) (old : Option Page) (content : Page) → Fits shape (edit.ClearCell cell) old content → HasLoneTops held relation sequence page old → HasLoneTops held relation sequence page (Some content)
    cleared-lone cell old content fits was = one-lone old content cell empty_cell was (role-cleared cell old content fits) (cells-cleared shape cell old content fits) (λ first. absurd cc)

    pub other-lone : (e : Edit) (old : Option Page) (content : Page) → leaves_cells e ≡ true → Fits shape e old content → HasLoneTops held relation sequence page (Some content)
    other-lone e old content left fits role = absurd (clash (shows_data (Some content)) role (no-data e old content left fits))

    -- A page that was just made has no version.
    replicated : (count place : ℕ) (top : Cell) → slice_get (replicate count empty_cell) place ≡ Some top → is_top top.flag ≡ false
    replicated zero place top is = cc
    replicated (suc count) zero top is = ap (λ (v : Cell). is_top v.flag) (sym (same_Some empty_cell top is))
    replicated (suc count) (suc place) top is = replicated count place top is

    pub formatted-top : (page_kind number other place : ℕ) (content : Page) → formatted shape page_kind number other place ≡ Some content → (cell : ℕ) (top : Cell) → cell_in (Some content) cell ≡ Some top → is_top top.flag ≡ false
    formatted-top page_kind number other place content is cell top there = two (page_kind == 2) (page_kind == 3) (page_kind == 4) (page_kind == 5) is where
      two : (a b c d : Bool) → (if a then inventory_formatted shape.size number place else if b then tip_formatted shape.size number place else if c then pointer_formatted shape number other place else if d then data_formatted shape number other place else None) ≡ Some content → is_top top.flag ≡ false
      two true b c d made = absurd (let r = given_some _ _ content made in let none : None ≡ Some top = ap (λ (p : Page). cell_in (Some p) cell) r.1 ∙ there in cc)
      two false true c d made = absurd (let none : None ≡ Some top = ap (λ (p : Page). cell_in (Some p) cell) (same_Some _ content made) ∙ there in cc)
      two false false true d made = absurd (let r = given_some _ _ content made in let none : None ≡ Some top = ap (λ (p : Page). cell_in (Some p) cell) r.1 ∙ there in cc)
      two false false false true made = let r = given_some _ _ content made in replicated (cells shape.size (value_length shape other)) cell top (ap (λ (p : Page). cell_in (Some p) cell) r.1 ∙ there)
      two false false false false made = cc
