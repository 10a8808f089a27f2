-- The damages by what is kept of a file are those of the definition.
use Rattle.std.proofs.Common.{◌≡◌, ◌↔◌, ℕ, true, nat_eq, List, Option, None, Some, is_some, find, Contains, refl, sym, ◌∙◌}
use Rattle.std.specs.List.{flat_map, list_any}
use Rattle.std.specs.List.Sorted.{IsStrictlyIncreasing}
use Rattle.indexmap.specs.IndexMap.{get}
use Rattle.fbc_kinds.specs.declared.pages.Header.{Header}
use Rattle.fbc_kinds.specs.declared.rules.Rule.{Rule}
use Rattle.fbc_kinds.specs.declared.shapes.Shape.{Shape}
use Rattle.fbc_kinds.specs.File.{page_bytes, IsViewOf}
use Rattle.fbc_kinds.specs.View.{View, header_of}
use Rattle.fbc_links.specs.declared.chains.Chains.{Chains}
use Rattle.fbc_reach.specs.declared.namings.Naming.{Naming}
use Rattle.fbc_reach.specs.declared.tally.NamedPage.{NamedPage}
use Rattle.fbc_reach.specs.declared.tally.Tally.{Tally}
use Rattle.fbc_links.specs.Chains.{AreChainsOf}
use Rattle.fbc_validator.specs.Damage.{broken_page, AreDamages}
use Rattle.fbc_validator.specs.Damages.{broken_in, damage_in}
use Rattle.fbc_reach.specs.Tally.{IsKept, IsTallyOf}
use Rattle.fbc_reach.specs.Walk.{is_of_page, namings}
use Rattle.fbc_validator.proofs.DamageList.{damages_listed, damages_rise}
use Rattle.fbc_validator.proofs.KeptRules.{rule_is}
use Rattle.fbc_reach.proofs.Members.{find_in, any_here, any_some, find_some}

found_any : (done : List Naming) (page : ℕ) (n : Naming) → find (is_of_page page) done ≡ Some n → list_any (is_of_page page) done ≡ true
found_any done page n e = let found = find_in (is_of_page page) done n e in any_here (is_of_page page) done n found.0 found.1

pub any_found : (done : List Naming) (page : ℕ) → find (is_of_page page) done ≡ None → list_any (is_of_page page) done ≡ true → ⊥
any_found done page none any =
    let some = any_some (is_of_page page) done any in
    let found = find_some (is_of_page page) done some.0 some.1 some.2 in
    let both : None ≡ Some found.0 = sym none ∙ found.1 in
    let no : ⊥ = cc in
    no

module _ (shape : Shape) (bytes : List ℕ) (view : View) (shown : IsViewOf shape bytes view) (header : Header) (is : header_of view ≡ Some header)
    (tally : Tally) (next : tally.next ≡ header.next) (kept : IsTallyOf shape (Some bytes) (namings view) tally) (chains : Chains) (are : AreChainsOf view chains) where
  -- A page that is kept is named, and breaks the rule of the definition.
  to_rule : (page : ℕ) (broken : Rule) (o : Option NamedPage) → IsKept shape (Some bytes) tally.next (namings view) page o → broken_in header tally chains page o ≡ Some broken
      → (list_any (is_of_page page) (namings view) ≡ true) × (broken_page shape view page (page_bytes shape.size bytes page) ≡ Some broken)
  to_rule page broken None k e = cc
  to_rule page broken (Some named) k e = (
    found_any (namings view) page _ k.first,
    sym (rule_is shape bytes view shown header is tally next kept chains are page named k) ∙ e,
  )

  from_rule : (page : ℕ) (broken : Rule) (o : Option NamedPage) → IsKept shape (Some bytes) tally.next (namings view) page o
      → list_any (is_of_page page) (namings view) ≡ true → broken_page shape view page (page_bytes shape.size bytes page) ≡ Some broken
      → (is_some o ≡ true) × (broken_in header tally chains page o ≡ Some broken)
  from_rule page broken None k named e = absurd (any_found (namings view) page k named)
  from_rule page broken (Some named) k any e = (refl, rule_is shape bytes view shown header is tally next kept chains are page named k ∙ e)

  pub kept_damages : (pages : List ℕ) → IsStrictlyIncreasing pages → ((page : ℕ) → Contains pages page ↔ (is_some (get nat_eq tally.pages page) ≡ true))
      → AreDamages shape bytes view (flat_map (damage_in header tally chains) pages)
  kept_damages pages rise each =
      let f : ℕ → Option Rule = λ page. broken_in header tally chains page (get nat_eq tally.pages page) in
      record {
        listed = λ page broken. (
          (λ stands. to_rule page broken (get nat_eq tally.pages page) (kept page) ((damages_listed f pages page broken).0 stands).1),
          (λ rule.
              let back = from_rule page broken (get nat_eq tally.pages page) (kept page) rule.0 rule.1 in
              (damages_listed f pages page broken).1 ((each page).1 back.0, back.1)),
        );
        rise = damages_rise f pages rise;
      }
