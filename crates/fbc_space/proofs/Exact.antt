-- Where a search stands, it comes to one thing.
use Rattle.std.proofs.Common.{◌≡◌, ◌∙◌, ℕ, Bool, true, false, List, Some, inl, inr, refl, sym, ap, arith}
use Rattle.std.proofs.lemmas.Bool.Decides.{nat_tests}
use Rattle.fbc_kinds.specs.View.{inventory_page}
use Rattle.fbc_cache.specs.declared.needs.Need.{Need}
use Rattle.fbc_cache.specs.declared.readers.Place.{Place}
use Rattle.fbc_cache.specs.Cache.{CacheState}
use Rattle.fbc_cache.specs.Least.{IsLeast}
use Rattle.fbc_cache.specs.Readers.{place}
use Rattle.fbc_desk.specs.declared.holding.Held.{Held}
use Rattle.fbc_desk.specs.declared.holding.Held.TheVariants as holds
use Rattle.fbc_desk.specs.Desk.{DeskState}
use Rattle.fbc_desk.specs.Holds.{HoldsAs}
use Rattle.fbc_space.specs.declared.finding.Found.{Found}
use Rattle.fbc_space.specs.declared.finding.Found.TheVariants as finds
use Rattle.fbc_space.specs.declared.finding.FreeSearch.{FreeSearch}
use Rattle.fbc_space.specs.Finding.{HeaderStops, InventoryStops, IsChoice, StopsAt, StopsBy, is_header_due, is_over}
use Rattle.fbc_space.specs.Needs.{to_change, to_read}

-- A page is used, missed or damaged, and nothing else.
module _ (d : DeskState) (need : Need) (due : Place) where
  pub holds-once : (one two : Held) → HoldsAs d need due one → HoldsAs d need due two → one ≡ two
  holds-once holds.Here holds.Here a b = refl
  holds-once holds.Here (holds.Miss missed) a b = absurd (b.2 a.0.1)
  holds-once holds.Here (holds.Damaged page broken) a b = grind (arith, nat_tests, a, b)
  holds-once (holds.Miss missed) holds.Here a b = absurd (a.2 b.0.1)
  holds-once (holds.Miss missed) (holds.Miss other) a b = ap (λ n. holds.Miss n) (a.0 ∙ sym b.0)
  holds-once (holds.Miss missed) (holds.Damaged page broken) a (inl b) = absurd (omega (arith, a.1, b.0))
  holds-once (holds.Miss missed) (holds.Damaged page broken) a (inr b) = absurd (a.2 b.0.1)
  holds-once (holds.Damaged page broken) holds.Here a b = grind (arith, nat_tests, a, b)
  holds-once (holds.Damaged page broken) (holds.Miss missed) (inl a) b = absurd (omega (arith, b.1, a.0))
  holds-once (holds.Damaged page broken) (holds.Miss missed) (inr a) b = absurd (b.2 a.0.1)
  holds-once (holds.Damaged page broken) (holds.Damaged other rule) a b = grind (arith, nat_tests, a, b)

least-once : (f : ℕ → Bool) (one two : ℕ) → IsLeast f (Some one) → IsLeast f (Some two) → one ≡ two
least-once f one two a b = omega (arith, a.1 two b.0, b.1 one a.0)

choice-once : (c : CacheState) (limit : ℕ) (passed : List ℕ) (sequence one two : ℕ) → IsChoice c limit passed sequence one → IsChoice c limit passed sequence two → one ≡ two
choice-once c limit passed sequence one two (inl a) (inl b) = least-once _ one two a b
choice-once c limit passed sequence one two (inl a) (inr b) = let both : true ≡ false = sym a.0 ∙ b.0 one in absurd (cc)
choice-once c limit passed sequence one two (inr a) (inl b) = let both : true ≡ false = sym b.0 ∙ a.0 two in absurd (cc)
choice-once c limit passed sequence one two (inr a) (inr b) = least-once _ one two a.1 b.1

-- What a use comes to, as what stops the search.
abbrev as_found : Held → Found
as_found holds.Here = finds.Limit 0
as_found (holds.Miss need) = finds.Miss need
as_found (holds.Damaged page rule) = finds.Damaged page rule

header-once : (d : DeskState) (sequence : ℕ) (one two : Found) → HeaderStops d sequence one → HeaderStops d sequence two → one ≡ two
header-once d sequence (finds.Page one) two a b = absurd a
header-once d sequence (finds.Limit one) two a b = absurd a
header-once d sequence (finds.Uncounted one) (finds.Uncounted two) a b = ap (λ n. finds.Uncounted n) (a.0 ∙ sym b.0)
header-once d sequence (finds.Uncounted one) (finds.Miss two) a b = let both = holds-once d (to_read 0) (place 1 0 0) holds.Here (holds.Miss two) a.1 b in absurd (cc)
header-once d sequence (finds.Uncounted one) (finds.Damaged two two_rule) a b = let both = holds-once d (to_read 0) (place 1 0 0) holds.Here (holds.Damaged two two_rule) a.1 b in absurd (cc)
header-once d sequence (finds.Uncounted one) (finds.Page two) a b = absurd b
header-once d sequence (finds.Uncounted one) (finds.Limit two) a b = absurd b
header-once d sequence (finds.Miss one) (finds.Uncounted two) a b = let both = holds-once d (to_read 0) (place 1 0 0) (holds.Miss one) holds.Here a b.1 in absurd (cc)
header-once d sequence (finds.Miss one) (finds.Miss two) a b = ap as_found (holds-once d (to_read 0) (place 1 0 0) (holds.Miss one) (holds.Miss two) a b)
header-once d sequence (finds.Miss one) (finds.Damaged two two_rule) a b = ap as_found (holds-once d (to_read 0) (place 1 0 0) (holds.Miss one) (holds.Damaged two two_rule) a b)
header-once d sequence (finds.Miss one) (finds.Page two) a b = absurd b
header-once d sequence (finds.Miss one) (finds.Limit two) a b = absurd b
header-once d sequence (finds.Damaged one one_rule) (finds.Uncounted two) a b = let both = holds-once d (to_read 0) (place 1 0 0) (holds.Damaged one one_rule) holds.Here a b.1 in absurd (cc)
header-once d sequence (finds.Damaged one one_rule) (finds.Miss two) a b = ap as_found (holds-once d (to_read 0) (place 1 0 0) (holds.Damaged one one_rule) (holds.Miss two) a b)
header-once d sequence (finds.Damaged one one_rule) (finds.Damaged two two_rule) a b = ap as_found (holds-once d (to_read 0) (place 1 0 0) (holds.Damaged one one_rule) (holds.Damaged two two_rule) a b)
header-once d sequence (finds.Damaged one one_rule) (finds.Page two) a b = absurd b
header-once d sequence (finds.Damaged one one_rule) (finds.Limit two) a b = absurd b

inventory-once : (d : DeskState) (limit : ℕ) (passed : List ℕ) (sequence : ℕ) (one two : Found) → InventoryStops d limit passed sequence one → InventoryStops d limit passed sequence two → one ≡ two
inventory-once d limit passed sequence (finds.Limit one) two a b = absurd a
inventory-once d limit passed sequence (finds.Uncounted one) two a b = absurd a
inventory-once d limit passed sequence (finds.Page one) (finds.Page two) a b = ap (λ n. finds.Page n) (choice-once d.cache limit passed sequence one two a.1 b.1)
inventory-once d limit passed sequence (finds.Page one) (finds.Miss two) a b = let both = holds-once d (to_change (inventory_page d.cache.shape.size sequence)) (place 2 0 sequence) holds.Here (holds.Miss two) a.0 b in absurd (cc)
inventory-once d limit passed sequence (finds.Page one) (finds.Damaged two two_rule) a b = let both = holds-once d (to_change (inventory_page d.cache.shape.size sequence)) (place 2 0 sequence) holds.Here (holds.Damaged two two_rule) a.0 b in absurd (cc)
inventory-once d limit passed sequence (finds.Page one) (finds.Limit two) a b = absurd b
inventory-once d limit passed sequence (finds.Page one) (finds.Uncounted two) a b = absurd b
inventory-once d limit passed sequence (finds.Miss one) (finds.Page two) a b = let both = holds-once d (to_change (inventory_page d.cache.shape.size sequence)) (place 2 0 sequence) (holds.Miss one) holds.Here a b.0 in absurd (cc)
inventory-once d limit passed sequence (finds.Miss one) (finds.Miss two) a b = ap as_found (holds-once d (to_change (inventory_page d.cache.shape.size sequence)) (place 2 0 sequence) (holds.Miss one) (holds.Miss two) a b)
inventory-once d limit passed sequence (finds.Miss one) (finds.Damaged two two_rule) a b = ap as_found (holds-once d (to_change (inventory_page d.cache.shape.size sequence)) (place 2 0 sequence) (holds.Miss one) (holds.Damaged two two_rule) a b)
inventory-once d limit passed sequence (finds.Miss one) (finds.Limit two) a b = absurd b
inventory-once d limit passed sequence (finds.Miss one) (finds.Uncounted two) a b = absurd b
inventory-once d limit passed sequence (finds.Damaged one one_rule) (finds.Page two) a b = let both = holds-once d (to_change (inventory_page d.cache.shape.size sequence)) (place 2 0 sequence) (holds.Damaged one one_rule) holds.Here a b.0 in absurd (cc)
inventory-once d limit passed sequence (finds.Damaged one one_rule) (finds.Miss two) a b = ap as_found (holds-once d (to_change (inventory_page d.cache.shape.size sequence)) (place 2 0 sequence) (holds.Damaged one one_rule) (holds.Miss two) a b)
inventory-once d limit passed sequence (finds.Damaged one one_rule) (finds.Damaged two two_rule) a b = ap as_found (holds-once d (to_change (inventory_page d.cache.shape.size sequence)) (place 2 0 sequence) (holds.Damaged one one_rule) (holds.Damaged two two_rule) a b)
inventory-once d limit passed sequence (finds.Damaged one one_rule) (finds.Limit two) a b = absurd b
inventory-once d limit passed sequence (finds.Damaged one one_rule) (finds.Uncounted two) a b = absurd b

by-once : (due : Bool) (d : DeskState) (limit : ℕ) (passed : List ℕ) (sequence : ℕ) (one two : Found) → StopsBy due d limit passed sequence one → StopsBy due d limit passed sequence two → one ≡ two
by-once true d limit passed sequence one two a b = header-once d sequence one two a b
by-once false d limit passed sequence one two a b = inventory-once d limit passed sequence one two a b

-- The search is at its end, or it is stopped before.
pub data Stops (d : DeskState) (limit : ℕ) (passed : List ℕ) (s : FreeSearch) (found : Found) : Type 0 where
  ends : is_over d.cache.shape.size limit s.sequence ≡ true → found ≡ finds.Limit limit → Stops d limit passed s found
  stopped : is_over d.cache.shape.size limit s.sequence ≡ false → StopsBy (is_header_due s) d limit passed s.sequence found → Stops d limit passed s found

pub how : (d : DeskState) (limit : ℕ) (passed : List ℕ) (s : FreeSearch) (found : Found) → StopsAt d limit passed s found → Stops d limit passed s found
how d limit passed s (finds.Limit pages) is = ends is.1 (ap (λ n. finds.Limit n) is.0)
how d limit passed s (finds.Page page) is = stopped is.0 is.1
how d limit passed s (finds.Miss need) is = stopped is.0 is.1
how d limit passed s (finds.Uncounted sequence) is = stopped is.0 is.1
how d limit passed s (finds.Damaged page rule) is = stopped is.0 is.1

either-once : (d : DeskState) (limit : ℕ) (passed : List ℕ) (s : FreeSearch) (one two : Found) → Stops d limit passed s one → Stops d limit passed s two → one ≡ two
either-once d limit passed s one two (ends over a) (ends end b) = a ∙ sym b
either-once d limit passed s one two (ends over a) (stopped within b) = let both : true ≡ false = sym over ∙ within in absurd (cc)
either-once d limit passed s one two (stopped within a) (ends over b) = let both : true ≡ false = sym over ∙ within in absurd (cc)
either-once d limit passed s one two (stopped within a) (stopped still b) = by-once (is_header_due s) d limit passed s.sequence one two a b

pub stops-once : (d : DeskState) (limit : ℕ) (passed : List ℕ) (s : FreeSearch) (found other : Found) → StopsAt d limit passed s found → StopsAt d limit passed s other → found ≡ other
stops-once d limit passed s found other a b = either-once d limit passed s found other (how d limit passed s found a) (how d limit passed s other b)
