-- An edit that leaves the next number of its page leaves that of the view.
use Rattle.std.proofs.Common.{◌≡◌, ◌∙◌, ℕ, Bool, Option, Some, refl, sym, ap}
use Rattle.std.specs.Option.{option_map_or}
use Rattle.fbc_kinds.specs.declared.pages.Header.{Header}
use Rattle.fbc_kinds.specs.declared.pages.Page.{Page}
use Rattle.fbc_kinds.specs.declared.pages.Page.TheVariants as kind
use Rattle.fbc_kinds.specs.View.{View, header_in, next_of}
use Rattle.fbc_page_edits.specs.Edited.{with_page}
use Rattle.fbc_page_edits.proofs.Changed.{read_alike}
use Rattle.fbc_page_edits.proofs.Fitted.{ChangesHeader, Marks, NamesSlot}

-- The next number that a page has where it is a header.
abbrev next_in : Option Page → ℕ
next_in page = option_map_or (λ (h : Header). h.next) (header_in page) 0

module _ (view : View) (number : ℕ) (content : Page) where
  kept_where_same : (old new : Page) → view number ≡ Some old → new ≡ content → next_in (Some new) ≡ next_in (Some old) → next_of (with_page view number content) ≡ next_of view
  kept_where_same old new stands made same =
      read_alike view number content (λ _ (o : Option Page). next_in o) (ap (λ (p : Page). next_in (Some p)) (sym made) ∙ same ∙ sym (ap next_in stands)) 0

  -- A header that becomes one with the same next number.
  pub header_next_kept : (before after : Header) → ChangesHeader (view number) content before after → after.next ≡ before.next → next_of (with_page view number content) ≡ next_of view
  header_next_kept before after changes same = kept_where_same (kind.Header before) (kind.Header after) changes.stands changes.made same

  -- A page inventory.
  pub mark_next_kept : (size page : ℕ) (taken : Bool) → Marks size (view number) page taken content → next_of (with_page view number content) ≡ next_of view
  mark_next_kept size page taken made = kept_where_same (kind.Inventory made.inventory) _ made.stands made.made refl

  -- A pointer page.
  pub slot_next_kept : (slot page : ℕ) → NamesSlot (view number) slot page content → next_of (with_page view number content) ≡ next_of view
  slot_next_kept slot page made = kept_where_same (kind.Pointer made.pointer) _ made.stands made.made refl
