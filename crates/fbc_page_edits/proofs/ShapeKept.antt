-- An edit leaves pages within their limits, and relations with their lengths of values.
use Rattle.std.proofs.Common.{◌≡◌, ◌∙◌, ◌⊎◌, inl, inr, ℕ, Bool, true, false, ◌==◌, if◌then◌else◌, Option, Some, None, slice_get, set, refl, sym, subst, arith}
use Rattle.std.specs.Option.{option_and_then}
use Rattle.std.proofs.lemmas.Bool.{cases_eq}
use Rattle.std.proofs.lemmas.Bool.Decides.{nat_tests}
use Rattle.std.proofs.lemmas.Option.{same_Some, slice_get_within}
use Rattle.fbc_kinds.specs.declared.edits.Edit.{Edit}
use Rattle.fbc_kinds.specs.declared.edits.Edit.TheVariants as edit
use Rattle.fbc_kinds.specs.declared.pages.Header.{Header}
use Rattle.fbc_kinds.specs.declared.pages.Page.{Page}
use Rattle.fbc_kinds.specs.declared.pages.Page.TheVariants as kind
use Rattle.fbc_kinds.specs.declared.pages.Relation.{Relation}
use Rattle.fbc_kinds.specs.declared.shapes.Shape.{Shape}
use Rattle.fbc_kinds.specs.Edits.{IsEdit, IsShape, IsWithinLimits, applied, value_length}
use Rattle.fbc_kinds.specs.View.{View, header_in}
use Rattle.fbc_kinds.proofs.EditLimits.{slice_get-set_other, slice_get-set_same}
use Rattle.fbc_kinds.proofs.EditsKept.{edits_keep_limits}
use Rattle.fbc_page_edits.specs.Allowed.{Fits}
use Rattle.fbc_page_edits.specs.Edited.{IsOfShape, with_page}
use Rattle.fbc_page_edits.proofs.Fitted.{AddsPointer, ChangesHeader, adds_inventory, adds_pointer, adds_tip, pointing, raises_next}

module _ (shape : Shape) (is : IsShape shape) where
  within : (e : Edit) (old : Option Page) (content : Page) → IsEdit e → ((before : Page) → old ≡ Some before → IsWithinLimits shape before) → Fits shape e old content → IsWithinLimits shape content
  within (edit.Format k p r s) old content small each fits = edits_keep_limits shape (edit.Format k p r s) kind.Blank content is small tt fits
  within (edit.SetNext next) (Some before) content small each fits = edits_keep_limits shape (edit.SetNext next) before content is small (each before refl) fits
  within (edit.AddTip page) (Some before) content small each fits = edits_keep_limits shape (edit.AddTip page) before content is small (each before refl) fits
  within (edit.AddPointer relation page) (Some before) content small each fits = edits_keep_limits shape (edit.AddPointer relation page) before content is small (each before refl) fits
  within edit.AddInventory (Some before) content small each fits = edits_keep_limits shape edit.AddInventory before content is small (each before refl) fits
  within (edit.TakePage page) (Some before) content small each fits = edits_keep_limits shape (edit.TakePage page) before content is small (each before refl) fits
  within (edit.FreePage page) (Some before) content small each fits = edits_keep_limits shape (edit.FreePage page) before content is small (each before refl) fits
  within (edit.Mark number state) (Some before) content small each fits = edits_keep_limits shape (edit.Mark number state) before content is small (each before refl) fits
  within (edit.Name slot page) (Some before) content small each fits = edits_keep_limits shape (edit.Name slot page) before content is small (each before refl) fits
  within (edit.Unname slot) (Some before) content small each fits = edits_keep_limits shape (edit.Unname slot) before content is small (each before refl) fits
  within (edit.PutCell cell new) (Some before) content small each fits = edits_keep_limits shape (edit.PutCell cell new) before content is small (each before refl) fits
  within (edit.ClearCell cell) (Some before) content small each fits = edits_keep_limits shape (edit.ClearCell cell) before content is small (each before refl) fits
  within _ None content small each fits = absurd fits

-- The entry of a relation, in the header that a page is.
abbrev entry_in : Option Page → ℕ → Option Relation
entry_in page relation = option_and_then (λ (h : Header). slice_get h.relations relation) (header_in page)

abbrev HaveLengths : Shape → Option Page → Type 0
HaveLengths shape page = (relation : ℕ) (entry : Relation) → entry_in page relation ≡ Some entry → entry.length ≡ value_length shape relation

-- A page that is no header has no entries.
no_header : (shape : Shape) (content : Page) → header_in (Some content) ≡ None → HaveLengths shape (Some content)
no_header shape content none relation entry is =
    let empty : entry_in (Some content) relation ≡ None = rw none refl in
    absurd (let both : None ≡ Some entry = sym empty ∙ is in cc)

stays_other : (shape : Shape) (e : Edit) (before content : Page) → header_in (Some before) ≡ None → applied shape e before ≡ Some content → header_in (Some content) ≡ None
stays_other shape (edit.Format k p r s) before content none is = grind (arith, is)
stays_other shape e before content none is = grind (arith, none, is)

module _ (shape : Shape) where
  -- The same relations have the same lengths.
  same_relations : (old : Option Page) (content : Page) (before after : Header) → ChangesHeader old content before after → after.relations ≡ before.relations → HaveLengths shape old → HaveLengths shape (Some content)
  same_relations old content before after c same lengths relation entry is =
      lengths relation entry (rw c.stands (rw (← same) (subst (λ (p : Page). entry_in (Some p) relation ≡ Some entry) (sym c.made) is)))

  pointer_lengths : (old : Option Page) (relation page : ℕ) (content : Page) → AddsPointer old relation page content → HaveLengths shape old → HaveLengths shape (Some content)
  pointer_lengths old relation page content a lengths r entry is = go (cases_eq r relation) where
    made : slice_get (set a.header.relations relation (pointing a.entry page)) r ≡ Some entry
    made = subst (λ (p : Page). entry_in (Some p) r ≡ Some entry) (sym a.changes.made) is

    go : (r ≡ relation) ⊎ (r ≡ relation → ⊥) → entry.length ≡ value_length shape r
    go (inl same) =
        let here : slice_get (set a.header.relations relation (pointing a.entry page)) relation ≡ Some (pointing a.entry page) =
        slice_get-set_same a.header.relations relation (pointing a.entry page) (slice_get_within a.header.relations relation a.entry a.entry_is) in
        let its : pointing a.entry page ≡ entry = same_Some _ entry (sym here ∙ subst (λ n. slice_get (set a.header.relations relation (pointing a.entry page)) n ≡ Some entry) same made) in
        rw (← its, same) (lengths relation a.entry (rw a.changes.stands a.entry_is))
    go (inr other) = lengths r entry (rw a.changes.stands (sym (slice_get-set_other a.header.relations relation r (pointing a.entry page) other) ∙ made))

  header_lengths : (e : Edit) (header : Header) (content : Page) → HaveLengths shape (Some (kind.Header header)) → Fits shape e (Some (kind.Header header)) content → HaveLengths shape (Some content)
  header_lengths (edit.SetNext next) header content lengths fits =
      let a = raises_next shape next (Some (kind.Header header)) content fits in
      same_relations (Some (kind.Header header)) content a.header _ a.changes refl lengths
  header_lengths (edit.AddTip page) header content lengths fits =
      let a = adds_tip shape page (Some (kind.Header header)) content fits in
      same_relations (Some (kind.Header header)) content a.header _ a.changes refl lengths
  header_lengths edit.AddInventory header content lengths fits =
      let a = adds_inventory shape (Some (kind.Header header)) content fits in
      same_relations (Some (kind.Header header)) content a.header _ a.changes refl lengths
  header_lengths (edit.AddPointer relation page) header content lengths fits =
      pointer_lengths (Some (kind.Header header)) relation page content (adds_pointer shape relation page (Some (kind.Header header)) content fits) lengths
  header_lengths (edit.Format k p r s) header content lengths fits = no_header shape content (stays_other shape (edit.Format k p r s) kind.Blank content refl fits)
  header_lengths _ header content lengths fits = absurd cc

  other_lengths : (e : Edit) (before content : Page) → header_in (Some before) ≡ None → Fits shape e (Some before) content → HaveLengths shape (Some content)
  other_lengths (edit.Format k p r s) before content none fits = no_header shape content (stays_other shape (edit.Format k p r s) before content none fits)
  other_lengths (edit.SetNext next) before content none fits = no_header shape content (stays_other shape (edit.SetNext next) before content none fits)
  other_lengths (edit.AddTip page) before content none fits = no_header shape content (stays_other shape (edit.AddTip page) before content none fits)
  other_lengths (edit.AddPointer relation page) before content none fits = no_header shape content (stays_other shape (edit.AddPointer relation page) before content none fits)
  other_lengths edit.AddInventory before content none fits = no_header shape content (stays_other shape edit.AddInventory before content none fits)
  other_lengths (edit.TakePage page) before content none fits = no_header shape content (stays_other shape (edit.TakePage page) before content none fits)
  other_lengths (edit.FreePage page) before content none fits = no_header shape content (stays_other shape (edit.FreePage page) before content none fits)
  other_lengths (edit.Mark number state) before content none fits = no_header shape content (stays_other shape (edit.Mark number state) before content none fits)
  other_lengths (edit.Name slot page) before content none fits = no_header shape content (stays_other shape (edit.Name slot page) before content none fits)
  other_lengths (edit.Unname slot) before content none fits = no_header shape content (stays_other shape (edit.Unname slot) before content none fits)
  other_lengths (edit.PutCell cell new) before content none fits = no_header shape content (stays_other shape (edit.PutCell cell new) before content none fits)
  other_lengths (edit.ClearCell cell) before content none fits = no_header shape content (stays_other shape (edit.ClearCell cell) before content none fits)

  lengths_kept : (e : Edit) (old : Option Page) (content : Page) → HaveLengths shape old → Fits shape e old content → HaveLengths shape (Some content)
  lengths_kept e (Some (kind.Header header)) content lengths fits = header_lengths e header content lengths fits
  lengths_kept e (Some (kind.Inventory i)) content lengths fits = other_lengths e (kind.Inventory i) content refl fits
  lengths_kept e (Some (kind.Tip t)) content lengths fits = other_lengths e (kind.Tip t) content refl fits
  lengths_kept e (Some (kind.Pointer p)) content lengths fits = other_lengths e (kind.Pointer p) content refl fits
  lengths_kept e (Some (kind.Data d)) content lengths fits = other_lengths e (kind.Data d) content refl fits
  lengths_kept e (Some kind.Blank) content lengths fits = other_lengths e kind.Blank content refl fits
  lengths_kept (edit.Format k p r s) None content lengths fits = no_header shape content (stays_other shape (edit.Format k p r s) kind.Blank content refl fits)
  lengths_kept _ None content lengths fits = absurd fits

pub shape-kept : (shape : Shape) (view : View) (number : ℕ) (e : Edit) (content : Page) → IsOfShape shape view → IsEdit e → Fits shape e (view number) content → IsOfShape shape (with_page view number content)
shape-kept shape view number e content of small fits = record {
  is_shape = of.is_shape;
  within = λ p page is. each p page (p == number) is;
  lengths = go (0 == number) refl;
} where
  each : (p : ℕ) (page : Page) (b : Bool) → (if b then Some content else view p) ≡ Some page → IsWithinLimits shape page
  each p page true is = subst (IsWithinLimits shape) (same_Some content page is) (within shape of.is_shape e (view number) content small (of.within number) fits)
  each p page false is = of.within p page is

  go : (b : Bool) → 0 == number ≡ b → HaveLengths shape (if b then Some content else view 0)
  go true same =
      let it : number ≡ 0 = grind (arith, nat_tests, same) in
      lengths_kept shape e (view number) content (rw it of.lengths) fits
  go false other = of.lengths
