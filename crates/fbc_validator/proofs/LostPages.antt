-- In a sound view the pages that are taken and were not named are the lost ones.
use Rattle.std.proofs.Common.{◌≡◌, ◌↔◌, ℕ, ◌*◌, ◌/◌, ◌<◌, ◌≤◌, Bool, true, false, not, nat_lt, nat_eq, List, filter, Option, Some, None, is_some, inl, inr, refl, sym, subst, ap, ◌∙◌, arith}
use Rattle.std.specs.Prelude.{Contains}
use Rattle.std.specs.List.{range_with_len}
use Rattle.std.specs.Option.{option_map_or}
use Rattle.std.proofs.lemmas.Bool.{cases_lt, ltb-true}
use Rattle.std.proofs.lemmas.Nat.{le-div}
use Rattle.indexmap.specs.IndexMap.{get}
use Rattle.fbc_kinds.specs.declared.pages.Header.{Header}
use Rattle.fbc_kinds.specs.declared.shapes.Shape.{Shape}
use Rattle.fbc_kinds.specs.File.{IsViewOf}
use Rattle.fbc_kinds.specs.Limits.{IsPageSize, inventory_bits}
use Rattle.fbc_kinds.specs.Lost.{IsLostPage}
use Rattle.fbc_kinds.specs.Reach as reach
use Rattle.fbc_kinds.specs.Sound.{IsSound}
use Rattle.fbc_kinds.specs.View.{View, header_of}
use Rattle.fbc_kinds.proofs.Heads.{both_pass}
use Rattle.fbc_kinds.proofs.Tests.{test_of_same, false_from_not}
use Rattle.fbc_validator.specs.Lost.{is_lost_by}
use Rattle.fbc_reach.specs.Roles.{reached_as}
use Rattle.fbc_reach.specs.Tally.{IsTallyOf, IsKept}
use Rattle.fbc_reach.specs.Walk.{naming, is_of_page, namings}
use Rattle.fbc_reach.specs.declared.namings.Naming.{Naming}
use Rattle.fbc_reach.specs.declared.tally.NamedPage.{NamedPage}
use Rattle.fbc_reach.specs.declared.tally.Tally.{Tally}
use Rattle.fbc_reach.proofs.Members.{filter_in, in_filter, find_in, find_some}
use Rattle.fbc_validator.proofs.Places.{contains_in, in_contains, range_in}
use Rattle.fbc_reach.proofs.Reached.{AreSingle, reached_named, naming_reached}
use Rattle.fbc_reach.proofs.SameRoles.{as_named, reached_as_named, both_true}
use Rattle.fbc_validator.proofs.SoundPages.{one}
use Rattle.fbc_validator.proofs.TakenPages.{taken_same}
use Rattle.fbc_reach.proofs.ShownPages.{all_slots, header_size}

module _ (shape : Shape) (bytes : List ℕ) (view : View) (shown : IsViewOf shape bytes view) where
  -- A page that is kept is reached, and one that is not kept is not.
  kept_reached : (next page : ℕ) (o : Option NamedPage) → IsKept shape (Some bytes) next (namings view) page o → is_some o ≡ true → reach.ReachesPage view page
  kept_reached next page None kept some = cc
  kept_reached next page (Some named) kept some =
      let n : Naming = naming page named.first in
      let member = find_in (is_of_page page) (namings view) n kept.first in
      (reached_as named.first, naming_reached view (all_slots shape bytes view shown) n member.0)

  unkept_unreached : AreSingle view → (next page : ℕ) (o : Option NamedPage) → IsKept shape (Some bytes) next (namings view) page o → is_some o ≡ false
      → ¬ reach.ReachesPage view page
  unkept_unreached single next page (Some named) kept none reached = cc
  unkept_unreached single next page None kept none reached =
      let r : reach.Role = reached.0 in
      let i = reached_named view single (as_named r) page (ap (reach.page_for view) (reached_as_named r) ∙ reached.1) in
      let found = find_some (is_of_page page) (namings view) (naming page (as_named r)) i (test_of_same page page refl) in
      let both : None ≡ Some found.0 = sym kept ∙ found.1 in
      cc

-- A page that a counted page inventory covers.
covered : (page bits count : ℕ) → 0 < bits → nat_lt (page / bits) count ≡ true → page < count * bits
covered page bits count some below =
    elim (cases_lt page (count * bits)) [
      | inl lt ↦ lt
      | inr ge ↦
          (let least : count ≤ page / bits = le-div count page bits some ge in
          let most : page / bits < count = ltb-true _ _ below in
          absurd (omega arith))
    ]

-- The pages of a file have the size that its header names.
pub file_size : (shape : Shape) (bytes : List ℕ) (view : View) → IsViewOf shape bytes view → (h : Header) → header_of view ≡ Some h → IsPageSize h.size → IsPageSize shape.size
file_size shape bytes view shown h is size =
    let same : h.size ≡ shape.size = sym (ap (λ o. option_map_or (λ (g : Header). g.size) o 0) is) ∙ header_size shape bytes view shown h is in
    subst IsPageSize same size

some_bits : (size : ℕ) → IsPageSize size → 0 < inventory_bits size
some_bits size is = grind arith

module _ (shape : Shape) (bytes : List ℕ) (view : View) (shown : IsViewOf shape bytes view) (sound : IsSound view)
    (h : Header) (is : header_of view ≡ Some h) (size : IsPageSize h.size) (tally : Tally) (kept : IsTallyOf shape (Some bytes) (namings view) tally) where
  lost_page : (page : ℕ) → is_lost_by tally h page ≡ true → IsLostPage view page
  lost_page page lost =
      let both = both_pass _ _ lost in
      record {
        taken = sym (taken_same shape bytes view shown h is tally kept page) ∙ both.0;
        unreached =
            unkept_unreached shape bytes view shown (one shape bytes view (file_size shape bytes view shown h is size) shown sound) tally.next page (get nat_eq tally.pages page) (kept page)
            (false_from_not _ both.1);
      }

  unnamed : (page : ℕ) → ¬ reach.ReachesPage view page → not (is_some (get nat_eq tally.pages page)) ≡ true
  unnamed page unreached = go (is_some (get nat_eq tally.pages page)) refl
    where
      go : (b : Bool) → is_some (get nat_eq tally.pages page) ≡ b → not b ≡ true
      go true some = absurd (unreached (kept_reached shape bytes view shown tally.next page (get nat_eq tally.pages page) (kept page) some))
      go false none = refl

  page_lost : (page : ℕ) → IsLostPage view page → is_lost_by tally h page ≡ true
  page_lost page lost = both_true _ _ (taken_same shape bytes view shown h is tally kept page ∙ lost.taken) (unnamed page lost.unreached)

  -- So they are all those in the list.
  pub pages_lost : (lost : List ℕ) → lost ≡ filter (is_lost_by tally h) (range_with_len 0 (h.inventories * inventory_bits h.size))
      → (page : ℕ) → Contains lost page ↔ IsLostPage view page
  pages_lost lost all page =
      let count : ℕ = h.inventories * inventory_bits h.size in
      let Q : List ℕ → Type 0 = λ pages. Contains pages page ↔ IsLostPage view page in
      subst Q (sym all) (
        (λ there. lost_page page (filter_in (is_lost_by tally h) (range_with_len 0 count) page (contains_in _ page there)).1),
        (λ space.
            let passes = page_lost page space in
            let below = covered page (inventory_bits h.size) h.inventories (some_bits h.size size) (both_pass _ _ (both_pass _ _ passes).0).0 in
            in_contains _ page (in_filter (is_lost_by tally h) (range_with_len 0 count) page (range_in 0 count page (omega arith) (omega arith)) passes)),
      )
