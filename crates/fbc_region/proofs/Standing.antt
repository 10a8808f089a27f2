-- A draft stands under its page's number where what is kept there does.
use Rattle.std.proofs.Common.{◌≡◌, ℕ, Bool, true, false, ◌==◌, if◌then◌else◌, [], ◌∷◌, ◌++◌, Option, Some, None, refl, arith}
use Rattle.std.specs.Prelude.{option_and_then, slice_get, slice_set}
use Rattle.std.proofs.lemmas.Bool.Decides.{nat_tests}
use Rattle.fbc_kinds.specs.declared.edits.Edit.{Edit}
use Rattle.fbc_kinds.specs.declared.edits.Edit.TheVariants as edit
use Rattle.fbc_kinds.specs.declared.pages.Header.{Header}
use Rattle.fbc_kinds.specs.declared.pages.Page.{Page}
use Rattle.fbc_kinds.specs.declared.pages.Page.TheVariants as kind
use Rattle.fbc_kinds.specs.declared.pages.Relation.{Relation}
use Rattle.fbc_kinds.specs.declared.shapes.Shape.{Shape}
use Rattle.fbc_kinds.specs.Edits.{applied, data_formatted, formatted, given, inventory_formatted, pointed, pointer_formatted, takes_page, tip_formatted, with_entry}
use Rattle.fbc_kinds.specs.Limits.{pointer_limit}
use Rattle.fbc_kinds.specs.File.{stands_under}
use Rattle.fbc_world.specs.PageCell.{edited}
use Rattle.fbc_legal.proofs.HeaderRanks.{is_format}

-- What stands, if there is a page.
abbrev pub Stands : ℕ → Option Page → Type 0
Stands number None = Unit {0}
Stands number (Some page) = stands_under number page ≡ true

given_stands : (number : ℕ) (b : Bool) (page after : Page) → stands_under number page ≡ true → given b page ≡ Some after → stands_under number after ≡ true
given_stands number true page after stands is = let same : page ≡ after = cc in rw (← same) stands
given_stands number false page after stands is = absurd cc

module _ (shape : Shape) (number : ℕ) where
  of_pointer : (header : Header) (relation page : ℕ) (after : Page) → number == 0 ≡ true → applied shape (edit.AddPointer relation page) (kind.Header header) ≡ Some after → stands_under number after ≡ true
  of_pointer header relation page after stands is = entry_of (slice_get header.relations relation) is where
    fits : (entry : Relation) (b : Bool) → with_entry relation header (if b then Some (record entry { pointers = entry.pointers ++ page ∷ [] }) else None) ≡ Some after → stands_under number after ≡ true
    fits entry false is' = absurd cc
    fits entry true is' =
        let same : kind.Header (record header { relations = slice_set header.relations relation (record entry { pointers = entry.pointers ++ page ∷ [] }) }) ≡ after = cc in
        rw (← same) stands

    entry_of : (o : Option Relation) → with_entry relation header (option_and_then (λ entry. pointed entry page) o) ≡ Some after → stands_under number after ≡ true
    entry_of None is' = absurd cc
    entry_of (Some entry) is' = fits entry (takes_page pointer_limit entry.pointers page) is'

  applied_stands : (e : Edit) (before after : Page) → is_format e ≡ false → stands_under number before ≡ true → applied shape e before ≡ Some after → stands_under number after ≡ true
  applied_stands (edit.AddPointer relation page) (kind.Header header) after plain stands is = of_pointer header relation page after stands is
  applied_stands (edit.SetNext next) (kind.Header header) after plain stands is = given_stands number _ _ after stands is
  applied_stands (edit.AddTip page) (kind.Header header) after plain stands is = given_stands number _ _ after stands is
  applied_stands edit.AddInventory (kind.Header header) after plain stands is = given_stands number _ _ after stands is
  applied_stands (edit.TakePage page) (kind.Inventory inventory) after plain stands is = given_stands number _ _ after stands is
  applied_stands (edit.FreePage page) (kind.Inventory inventory) after plain stands is = given_stands number _ _ after stands is
  applied_stands (edit.Mark marked state) (kind.Tip tip) after plain stands is = given_stands number _ _ after stands is
  applied_stands (edit.Name slot page) (kind.Pointer pointer) after plain stands is = given_stands number _ _ after stands is
  applied_stands (edit.Unname slot) (kind.Pointer pointer) after plain stands is = given_stands number _ _ after stands is
  applied_stands (edit.PutCell cell content) (kind.Data d) after plain stands is = given_stands number _ _ after stands is
  applied_stands (edit.ClearCell cell) (kind.Data d) after plain stands is = given_stands number _ _ after stands is
  applied_stands (edit.Format page_kind page relation sequence) before after plain stands is = absurd cc
  applied_stands e before after plain stands is = absurd cc

  -- A page that is made stands under the number that it carries.
  formatted_stands : (page_kind relation sequence : ℕ) (after : Page) → formatted shape page_kind number relation sequence ≡ Some after → stands_under number after ≡ true
  formatted_stands page_kind relation sequence after is = go (page_kind == 2) (page_kind == 3) (page_kind == 4) (page_kind == 5) is where
    self : number == number ≡ true
    self = grind (arith, nat_tests)

    go : (a b c d : Bool)
        → (if a then inventory_formatted shape.size number sequence else (if b then tip_formatted shape.size number sequence
        else (if c then pointer_formatted shape number relation sequence else (if d then data_formatted shape number relation sequence else None)))) ≡ Some after
        → stands_under number after ≡ true
    go true b c d is' = given_stands number _ _ after self is'
    go false true c d is' = given_stands number true _ after self is'
    go false false true d is' = given_stands number _ _ after self is'
    go false false false true is' = given_stands number _ _ after self is'
    go false false false false is' = absurd cc

  abbrev pub CarriesNumber : Edit → Type 0
  CarriesNumber (edit.Format page_kind page relation sequence) = page ≡ number
  CarriesNumber e = Unit {0}

  pub edited_stands : (e : Edit) (before : Option Page) (after : Page) → CarriesNumber e → Stands number before → edited shape e before ≡ Some after → stands_under number after ≡ true
  edited_stands (edit.Format page_kind page relation sequence) None after own stands is = formatted_stands page_kind relation sequence after (rw own at is)
  edited_stands (edit.Format page_kind page relation sequence) (Some before) after own stands is = formatted_stands page_kind relation sequence after (rw own at is)
  edited_stands e None after own stands is = absurd cc
  edited_stands e (Some before) after own stands is = applied_stands e before after refl stands is
