-- Each page that is reached has its role, where the pages that the header and the pointer pages name have theirs.
use Rattle.std.proofs.Common.{◌≡◌, ◌<◌, ◌∙◌, ℕ, Some, sym, ap, arith}
use Rattle.std.specs.Prelude.{Option, None, nat_lt, if◌then◌else◌, slice_get}
use Rattle.std.specs.Option.{option_and_then}
use Rattle.std.proofs.lemmas.Bool.Decides.{nat_tests}
use Rattle.std.proofs.lemmas.Option.{cond_some, option_and_then_some, same_Some}
use Rattle.fbc_kinds.specs.declared.pages.Header.{Header}
use Rattle.fbc_kinds.specs.declared.pages.Relation.{Relation}
use Rattle.fbc_kinds.specs.Reach.{DataRole, HeaderRole, InventoryRole, PointerRole, Reaches, Role, TipRole}
use Rattle.fbc_kinds.specs.View.{View, header_in, header_of, inventory_page, relation_of}
use Rattle.fbc_files.specs.Roles.{DataFits, HasRole, NamesFit}

module _ (view : View) (header : Header) (fits : NamesFit view header) where
  found : header_of view ≡ Some header
  found = ap header_in fits.stands

  at_header : {B : Type 0} (f : Header → Option B) (b : B) → option_and_then f (header_of view) ≡ Some b → f header ≡ Some b
  at_header f b is = sym (ap (option_and_then f) found) ∙ is

  pub HasRole-reached : DataFits view → (role : Role) (page : ℕ) → Reaches view role page → HasRole view role page
  HasRole-reached fit HeaderRole page is =
      let there : 0 ≡ page = same_Some 0 page is in
      rw (← there) fits.first
  HasRole-reached fit (InventoryRole sequence) page is =
      let counted = cond_some (nat_lt sequence header.inventories) (inventory_page header.size sequence) page (at_header (λ (h : Header). if nat_lt sequence h.inventories then Some (inventory_page h.size sequence) else None) page is) in
      let below : sequence < header.inventories = grind (arith, nat_tests, counted.0) in
      let there : inventory_page header.size sequence ≡ page = counted.1 in
      rw there at (fits.inventories sequence below)
  HasRole-reached fit (TipRole sequence) page is = fits.tips sequence page (at_header (λ (h : Header). slice_get h.tips sequence) page is)
  HasRole-reached fit (PointerRole number sequence) page is =
      option_and_then_some (λ (r : Relation). slice_get r.pointers sequence) (relation_of view number) page is
      (λ relation at named. fits.pointers number sequence page relation (at_header (λ (h : Header). slice_get h.relations number) relation at) named)
  HasRole-reached fit (DataRole number sequence) page is = fit number sequence page is
