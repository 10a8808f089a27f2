-- What an edit that fits makes of the next number of a page.
use Rattle.std.proofs.Common.{◌≡◌, ◌∙◌, ◌⊎◌, ℕ, Bool, false, Option, Some, None, inl, inr, refl, sym, ap}
use Rattle.fbc_kinds.specs.declared.edits.Edit.{Edit}
use Rattle.fbc_kinds.specs.declared.edits.Edit.TheVariants as edit
use Rattle.fbc_kinds.specs.declared.pages.Header.{Header}
use Rattle.fbc_kinds.specs.declared.pages.Page.{Page}
use Rattle.fbc_kinds.specs.declared.pages.Page.TheVariants as kind
use Rattle.fbc_kinds.specs.declared.shapes.Shape.{Shape}
use Rattle.fbc_kinds.specs.Edits.{given}
use Rattle.fbc_page_edits.specs.Allowed.{Fits}
use Rattle.fbc_page_edits.proofs.Fitted.{ChangesHeader, adds_inventory, adds_pointer, adds_tip, frees_mark, given_some, names_slot, raises_next, takes_mark, unnames_slot}
use Rattle.fbc_version_edits.proofs.Marked.{shows_state}
use Rattle.fbc_legal.proofs.HeaderRanks.{is_format}
use Rattle.fbc_numbers.proofs.NamedTips.{next_in}

-- The edit sets the next number.
pub record SetsNext (e : Edit) (content : Page) : Type 0 where
  pub next : ℕ
  pub is : e ≡ edit.SetNext next
  pub now : next_in (Some content) ≡ next

header_next : (old : Option Page) (content : Page) (before after : Header) → ChangesHeader old content before after → after.next ≡ before.next → next_in (Some content) ≡ next_in old
header_next old content before after changes same = ap (λ p. next_in (Some p)) (sym changes.made) ∙ same ∙ sym (ap next_in changes.stands)

page_next : (old : Option Page) (before after content : Page) → old ≡ Some before → after ≡ content → next_in (Some after) ≡ next_in (Some before) → next_in (Some content) ≡ next_in old
page_next old before after content stands made same = ap (λ p. next_in (Some p)) (sym made) ∙ same ∙ sym (ap next_in stands)

cell_next : (b : Bool) (after content : Page) → next_in (Some after) ≡ 0 → given b after ≡ Some content → next_in (Some content) ≡ 0
cell_next b after content none is = ap (λ p. next_in (Some p)) (sym (given_some b after content is).1) ∙ none

-- An edit but a format leaves the next number, or sets it.
pub next-after : (shape : Shape) (e : Edit) (old : Option Page) (content : Page) → Fits shape e old content → is_format e ≡ false → (next_in (Some content) ≡ next_in old) ⊎ SetsNext e content
next-after shape (edit.PutCell cell new) (Some (kind.Data d)) content fits plain = inl (cell_next _ _ content refl fits)
next-after shape (edit.PutCell cell new) None content fits plain = absurd fits
next-after shape (edit.PutCell cell new) _ content fits plain = absurd cc
next-after shape (edit.ClearCell cell) (Some (kind.Data d)) content fits plain = inl (cell_next _ _ content refl fits)
next-after shape (edit.ClearCell cell) None content fits plain = absurd fits
next-after shape (edit.ClearCell cell) _ content fits plain = absurd cc
next-after shape (edit.SetNext next) old content fits plain =
    let c = raises_next shape next old content fits in
    inr (record { next = next; is = refl; now = ap (λ p. next_in (Some p)) (sym c.changes.made) })
next-after shape (edit.AddTip page) old content fits plain = inl (header_next old content _ _ (adds_tip shape page old content fits).changes refl)
next-after shape (edit.AddPointer relation page) old content fits plain = inl (header_next old content _ _ (adds_pointer shape relation page old content fits).changes refl)
next-after shape edit.AddInventory old content fits plain = inl (header_next old content _ _ (adds_inventory shape old content fits).changes refl)
next-after shape (edit.TakePage page) old content fits plain = let m = takes_mark shape page old content fits in inl (page_next old _ _ content m.stands m.made refl)
next-after shape (edit.FreePage page) old content fits plain = let m = frees_mark shape page old content fits in inl (page_next old _ _ content m.stands m.made refl)
next-after shape (edit.Mark number state) old content fits plain = let m = shows_state shape number state old content fits in inl (page_next old _ _ content m.stands m.made refl)
next-after shape (edit.Name slot page) old content fits plain = let m = names_slot shape slot page old content fits in inl (page_next old _ _ content m.stands m.made refl)
next-after shape (edit.Unname slot) old content fits plain = let m = unnames_slot shape slot old content fits in inl (page_next old _ _ content m.stands m.made refl)
next-after shape (edit.Format page_kind page relation sequence) old content fits plain = absurd cc
