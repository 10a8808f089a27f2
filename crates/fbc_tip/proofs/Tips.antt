-- The page that the header names for a number, and what it shows.
use Rattle.std.proofs.Common.{◌≡◌, ◌∙◌, ◌<◌, ◌≤◌, ◌/◌, ℕ, List, [], length, Option, ap, sym, subst}
use Rattle.std.specs.Option.{option_map_or}
use Rattle.fbc_kinds.specs.declared.pages.Header.{Header}
use Rattle.fbc_kinds.specs.declared.pages.Page.{Page}
use Rattle.fbc_kinds.specs.declared.rules.Rule.{Rule}
use Rattle.fbc_kinds.specs.declared.shapes.Shape.{Shape}
use Rattle.fbc_kinds.specs.Limits.{tip_numbers}
use Rattle.fbc_kinds.specs.View.{header_in}
use Rattle.fbc_cache.specs.declared.needs.Need.{Need}
use Rattle.fbc_cache.specs.declared.readers.Place.{Place}
use Rattle.fbc_cache.specs.Cache.{CacheState}
use Rattle.fbc_cache.specs.Readers.{number_at, place, tips_in}
use Rattle.fbc_desk.specs.declared.holding.Held.TheVariants as held
use Rattle.fbc_desk.specs.Desk.{DeskState}
use Rattle.fbc_desk.specs.Holds.{HoldsAs, after_looking}
use Rattle.fbc_tip.specs.declared.states.StatePart.TheVariants as part
use Rattle.fbc_tip.specs.Inventories.{reading}
use Rattle.fbc_tip.specs.States.{LooksAt, NamesNone, NamesTip, sequence_of}
use Rattle.fbc_tip.specs.Using.{OnlyUses}
use Rattle.fbc_tip.proofs.Uses.{as_here, looked-damaged, looked-here, same_copies, same_shape, uses-looking}

-- What the header names stays while pages are used.
module _ (a b : DeskState) (uses : OnlyUses a b) where
  same_named : tips_in b.cache ≡ tips_in a.cache
  same_named = ap (λ (copy : Option Page). option_map_or (λ (h : Header). h.tips) (header_in copy) []) (same_copies a b uses 0)

  same_sequence : (number : ℕ) → sequence_of b number ≡ sequence_of a number
  same_sequence number = ap (λ (s : Shape). number / tip_numbers s.size) (same_shape a b uses)

  pub named-stays : (number page : ℕ) → NamesTip a number page → NamesTip b number page
  named-stays number page names = record {
    here = as_here a b uses (reading 0) (place 1 0 0) names.here;
    some = subst (λ k. k < length (tips_in b.cache)) (sym (same_sequence number)) (subst (λ (tips : List ℕ). sequence_of a number < length tips) (sym same_named) names.some);
    is = names.is ∙ ap (λ (tips : List ℕ). number_at tips (sequence_of a number)) (sym same_named) ∙ ap (number_at (tips_in b.cache)) (sym (same_sequence number));
  }

  same_due : (number numbers : ℕ) → numbers ≡ tip_numbers a.cache.shape.size → place 3 0 (number / numbers) ≡ place 3 0 (sequence_of b number)
  same_due number numbers is = ap (λ n. place 3 0 (number / n)) is ∙ ap (place 3 0) (sym (same_sequence number))

-- Whether the header names a page, by what its readers tell.
module _ (b : DeskState) (number numbers count : ℕ) (cache : CacheState) (here : LooksAt b part.Header number held.Here)
    (numbers_is : numbers ≡ tip_numbers b.cache.shape.size) (cache_is : cache ≡ b.cache) (count_is : count ≡ length (tips_in cache)) where
  counted : count ≡ length (tips_in b.cache)
  counted = count_is ∙ ap (λ (c : CacheState). length (tips_in c)) cache_is

  pub named : (page : ℕ) (read : CacheState) → read ≡ b.cache → number / numbers < count → page ≡ number_at (tips_in read) (number / numbers) → NamesTip b number page
  named page read read_is less page_is = record {
    here = here;
    some = subst (λ n. number / n < length (tips_in b.cache)) numbers_is (subst (λ k. number / numbers < k) counted less);
    is = page_is ∙ ap (λ (c : CacheState). number_at (tips_in c) (number / numbers)) read_is ∙ ap (λ n. number_at (tips_in b.cache) (number / n)) numbers_is;
  }

  pub unnamed : count ≤ number / numbers → NamesNone b number
  unnamed past = record { here = here; none = subst (λ n. length (tips_in b.cache) ≤ number / n) numbers_is (subst (λ k. k ≤ number / numbers) counted past) }

-- The page of the number is there, or damaged, after it was looked at too.
module _ (a b : DeskState) (need : Need) (due : Place) (page number numbers : ℕ) (need_is : need ≡ reading page)
    (numbers_is : numbers ≡ tip_numbers a.cache.shape.size) (due_is : due ≡ place 3 0 (number / numbers)) where
  pub tip-here : b ≡ after_looking a need held.Here → HoldsAs a need due held.Here → LooksAt b (part.Tip page) number held.Here
  tip-here is holds =
      looked-here a b (reading page) need (place 3 0 (sequence_of b number)) due need_is
      (due_is ∙ same_due a b (subst (OnlyUses a) (sym is) (uses-looking a need held.Here)) number numbers numbers_is) is holds

  pub tip-damaged : (broken_page : ℕ) (broken : Rule) → b ≡ after_looking a need (held.Damaged broken_page broken) → HoldsAs a need due (held.Damaged broken_page broken) → LooksAt b (part.Tip page) number (held.Damaged broken_page broken)
  tip-damaged broken_page broken is holds =
      looked-damaged a b (reading page) need (place 3 0 (sequence_of b number)) due need_is
      (due_is ∙ same_due a b (subst (OnlyUses a) (sym is) (uses-looking a need (held.Damaged broken_page broken))) number numbers numbers_is) broken_page broken is holds
