-- A page is taken in a view where it is taken by what is kept of the pages that the view names.
use Rattle.std.proofs.Common.{◌≡◌, ℕ, ◌/◌, ◌%◌, ◌&&◌, Bool, true, false, nat_lt, nat_eq, List, Option, Some, None, refl, sym, ap, ◌∙◌, if◌then◌else◌}
use Rattle.std.specs.Option.{option_and_then, option_map_or}
use Rattle.indexmap.specs.IndexMap.{get}
use Rattle.fbc_kinds.specs.declared.pages.Header.{Header}
use Rattle.fbc_kinds.specs.declared.pages.Page.{Page}
use Rattle.fbc_kinds.specs.declared.pages.Page.TheVariants as kind
use Rattle.fbc_kinds.specs.declared.shapes.Shape.{Shape}
use Rattle.fbc_kinds.specs.File.{IsViewOf}
use Rattle.fbc_kinds.specs.Limits.{inventory_bits}
use Rattle.fbc_kinds.specs.View.{View, header_of, size_of, inventory_page, inventory_of, mark_in, is_marked, is_taken}
use Rattle.fbc_reach.specs.Content.{content_of}
use Rattle.fbc_validator.specs.Marks.{mark_of, mark_kept, is_taken_by}
use Rattle.fbc_reach.specs.Tally.{IsTallyOf}
use Rattle.fbc_reach.specs.Walk.{naming, namings}
use Rattle.fbc_reach.specs.declared.namings.Role.TheVariants as role
use Rattle.fbc_reach.specs.declared.tally.Tally.{Tally}
use Rattle.fbc_reach.proofs.HeaderNamings.{inventory_named}
use Rattle.fbc_reach.proofs.KeptPages.{keeps_content}
use Rattle.fbc_reach.proofs.Reached.{from_inventories}

mark_shown : (o : Option Page) (place : ℕ) → mark_of (content_of o) place ≡ mark_in o place
mark_shown (Some (kind.Inventory i)) place = refl
mark_shown _ place = refl

module _ (shape : Shape) (bytes : List ℕ) (view : View) (shown : IsViewOf shape bytes view)
    (h : Header) (is : header_of view ≡ Some h) (tally : Tally) (kept : IsTallyOf shape (Some bytes) (namings view) tally) where
  counted : (s : ℕ) → inventory_of view s ≡ (if nat_lt s h.inventories then Some (inventory_page h.size s) else None)
  counted s = ap (option_and_then (λ (g : Header). if nat_lt s g.inventories then Some (inventory_page g.size s) else None)) is

  mark_counted : (s place : ℕ) → nat_lt s h.inventories ≡ true
      → mark_kept (get nat_eq tally.pages (inventory_page h.size s)) place ≡ mark_in (view (inventory_page h.size s)) place
  mark_counted s place below =
      let page : ℕ = inventory_page h.size s in
      let there : inventory_of view s ≡ Some page = counted s ∙ ap (λ b. if b then Some page else None) below in
      let i = from_inventories view (naming page (role.Inventory s)) (inventory_named view h is s page there) in
      let found = keeps_content shape bytes view shown tally.next page (naming page (role.Inventory s)) i refl (get nat_eq tally.pages page) (kept page) in
      ap (λ o. mark_kept o place) found.is ∙ ap (λ c. mark_of c place) found.content ∙ mark_shown (view page) place

  mark_named : (s place : ℕ)
      → (nat_lt s h.inventories && is_marked (mark_kept (get nat_eq tally.pages (inventory_page h.size s)) place))
      ≡ is_marked (option_and_then (λ (inventory : ℕ). mark_in (view inventory) place) (inventory_of view s))
  mark_named s place =
      go (nat_lt s h.inventories) refl ∙ sym (ap (λ o. is_marked (option_and_then (λ (inventory : ℕ). mark_in (view inventory) place) o)) (counted s))
    where
      go : (b : Bool) → nat_lt s h.inventories ≡ b
          → (b && is_marked (mark_kept (get nat_eq tally.pages (inventory_page h.size s)) place))
          ≡ is_marked (option_and_then (λ (inventory : ℕ). mark_in (view inventory) place) (if b then Some (inventory_page h.size s) else None))
      go true below = ap is_marked (mark_counted s place below)
      go false past = refl

  pub taken_same : (page : ℕ) → is_taken_by tally h page ≡ is_taken view page
  taken_same page =
      let size : h.size ≡ size_of view = sym (ap (λ o. option_map_or (λ (g : Header). g.size) o 0) is) in
      mark_named (page / inventory_bits h.size) (page % inventory_bits h.size)
      ∙ ap
      (λ k. is_marked (option_and_then (λ (inventory : ℕ). mark_in (view inventory) (page % inventory_bits k)) (inventory_of view (page / inventory_bits k))))
      size
