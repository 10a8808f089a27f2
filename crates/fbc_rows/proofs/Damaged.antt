-- Pages that are called damaged are so by the copies at hand.
use Rattle.std.proofs.Common.{◌≡◌, ◌≢◌, ◌≤◌, ◌/◌, inl, inr, ℕ, Bool, true, false, List, Some, refl, sym, ap, subst, option_and_then}
use Rattle.fbc_kinds.specs.declared.rules.Rule.{Rule}
use Rattle.fbc_kinds.specs.Limits.{inventory_bits}
use Rattle.fbc_kinds.specs.View.{inventory_page}
use Rattle.fbc_buffers.specs.declared.buffers.Buffer.{Buffer}
use Rattle.fbc_cache.specs.declared.needs.Need.{Need}
use Rattle.fbc_cache.specs.declared.readers.Place.{Place}
use Rattle.fbc_cache.specs.Readers.{place, place_in}
use Rattle.fbc_desk.specs.declared.holding.Held.{Held}
use Rattle.fbc_desk.specs.declared.holding.Held.TheVariants as held
use Rattle.fbc_cache.specs.Cache.{is_pinned_in}
use Rattle.fbc_desk.specs.Roles.{misplaced}
use Rattle.fbc_desk.specs.Desk.{DeskState}
use Rattle.fbc_desk.specs.Holds.{Holds, HoldsAs, after_hold}
use Rattle.fbc_space.specs.declared.finding.Found.{Found}
use Rattle.fbc_space.specs.declared.finding.Found.TheVariants as found
use Rattle.fbc_space.specs.declared.finding.FreeSearch.{FreeSearch}
use Rattle.fbc_space.specs.declared.free_steps.FreeStep.{FreeStep}
use Rattle.fbc_space.specs.declared.free_steps.FreeStep.TheVariants as free
use Rattle.fbc_space.specs.Finding.{IsOnlyUsed, StopsAt, StopsBy, is_header_due}
use Rattle.fbc_space.specs.FreeSteps.{FreeComesTo, HoldsFree, OverComesTo, after_free, over, stopped}
use Rattle.fbc_space.specs.Needs.{InventoryComesTo, to_change, to_format, to_read}
use Rattle.fbc_chains.specs.Pages.{LooksAt}
use Rattle.fbc_chains.specs.Showing.{Showing, shown_by}
use Rattle.fbc_chains.proofs.Showing.{held-shows}
use Rattle.fbc_rows.specs.Damages.{FoundDamages, FreeDamages, HeldDamages, IsDamaged}
use Rattle.fbc_rows.specs.Needs.{pointer_at, pointer_place}

-- What is damaged by the same copies.
moved : (s t : Showing) (relation page : ℕ) (broken : Rule) → t ≡ s → IsDamaged s relation page broken → IsDamaged t relation page broken
moved s t relation page broken same is = subst (λ (u : Showing). IsDamaged u relation page broken) (sym same) is

-- The header, a pointer page, and a data page.
pub header-damages : (before after : DeskState) (relation : ℕ) (answer : Held) → LooksAt (shown_by before.cache) 0 (place 1 0 0) answer → shown_by after.cache ≡ shown_by before.cache → HeldDamages after relation answer
header-damages before after relation held.Here looks same = tt
header-damages before after relation (held.Miss need) looks same = tt
header-damages before after relation (held.Damaged page broken) looks same = inl (moved (shown_by before.cache) (shown_by after.cache) relation page broken same (go looks)) where
  go : LooksAt (shown_by before.cache) 0 (place 1 0 0) (held.Damaged page broken) → IsDamaged (shown_by before.cache) relation page broken
  go (inl past) = IsDamaged.past (subst (λ (p : ℕ). (shown_by before.cache).shape.limit ≤ p) (sym past.is_page) past.past) past.is_rule
  go (inr elsewhere) = IsDamaged.header elsewhere.is_page elsewhere.misplaced_by

pub pointer-damages : (before after : DeskState) (relation k : ℕ) (answer : Held) → LooksAt (shown_by before.cache) (pointer_at (shown_by before.cache) relation k) (pointer_place relation k) answer
    → shown_by after.cache ≡ shown_by before.cache → HeldDamages after relation answer
pointer-damages before after relation k held.Here looks same = tt
pointer-damages before after relation k (held.Miss need) looks same = tt
pointer-damages before after relation k (held.Damaged page broken) looks same = inl (moved (shown_by before.cache) (shown_by after.cache) relation page broken same (go looks)) where
  go : LooksAt (shown_by before.cache) (pointer_at (shown_by before.cache) relation k) (pointer_place relation k) (held.Damaged page broken) → IsDamaged (shown_by before.cache) relation page broken
  go (inl past) = IsDamaged.past (subst (λ (p : ℕ). (shown_by before.cache).shape.limit ≤ p) (sym past.is_page) past.past) past.is_rule
  go (inr elsewhere) =
      IsDamaged.pointer k elsewhere.is_page
      (subst (λ (p : ℕ). misplaced (place_in ((shown_by before.cache).copies p)) (pointer_place relation k) ≡ Some broken) (sym elsewhere.is_page) elsewhere.misplaced_by)

past-damage : (d : DeskState) (relation : ℕ) (need : Need) (page : ℕ) (broken : Rule) → Holds d need (held.Damaged page broken) → IsDamaged (shown_by d.cache) relation page broken
past-damage d relation need page broken is = IsDamaged.past (subst (λ (p : ℕ). d.cache.shape.limit ≤ p) (sym is.1) is.0) is.2

pub data-damages : (before after : DeskState) (relation : ℕ) (need : Need) (answer : Held) → Holds before need answer → shown_by after.cache ≡ shown_by before.cache → HeldDamages after relation answer
data-damages before after relation need held.Here is same = tt
data-damages before after relation need (held.Miss missed) is same = tt
data-damages before after relation need (held.Damaged page broken) is same = inl (moved (shown_by before.cache) (shown_by after.cache) relation page broken same (past-damage before relation need page broken is))

-- A pointer page that is to be changed.
pub hold-damages : (before after : DeskState) (relation k : ℕ) (need : Need) (due : Place) (answer : Held) → need.page ≡ pointer_at (shown_by before.cache) relation k → due ≡ pointer_place relation k
    → HoldsAs before need due answer → after ≡ after_hold before need answer → HeldDamages after relation answer
hold-damages before after relation k need due held.Here is_page is_due is same = tt
hold-damages before after relation k need due (held.Miss missed) is_page is_due is same = tt
hold-damages before after relation k need due (held.Damaged page broken) is_page is_due is same =
    inl (moved (shown_by before.cache) (shown_by after.cache) relation page broken (held-shows before after need (held.Damaged page broken) same) (go is)) where
      go : HoldsAs before need due (held.Damaged page broken) → IsDamaged (shown_by before.cache) relation page broken
      go (inl past) = past-damage before relation need page broken past
      go (inr elsewhere) =
          IsDamaged.pointer k (subst (λ (p : ℕ). p ≡ pointer_at (shown_by before.cache) relation k) (sym elsewhere.1) is_page)
          (subst (λ (at : Place). misplaced (place_in ((shown_by before.cache).copies page)) at ≡ Some broken) is_due
          (subst (λ (p : ℕ). misplaced (place_in ((shown_by before.cache).copies p)) due ≡ Some broken) (sym elsewhere.1) elsewhere.2))

-- A page inventory.
inventory-damage : (d : DeskState) (relation k page : ℕ) (broken : Rule) → InventoryComesTo d k (held.Damaged page broken) → IsDamaged (shown_by d.cache) relation page broken
inventory-damage d relation k page broken (inl past) = past-damage d relation (to_change (inventory_page d.cache.shape.size k)) page broken past
inventory-damage d relation k page broken (inr elsewhere) =
    IsDamaged.inventory k elsewhere.1
    (subst (λ (p : ℕ). misplaced (place_in ((shown_by d.cache).copies p)) (place 2 0 k) ≡ Some broken) (sym elsewhere.1) elsewhere.2)

-- What is shown where nothing but the order in which pages were used is another.
pub used-shows : (before after : DeskState) → IsOnlyUsed before after → shown_by after.cache ≡ shown_by before.cache
used-shows before after same =
    subst (λ (d : DeskState). shown_by d.cache ≡ shown_by before.cache) (sym same.rest)
    (λ i. record { shape = before.cache.shape; pointers = before.cache.pointers; copies = λ page. ap (option_and_then (λ (b : Buffer). b.copy)) (same.buffers page) i })

find-damage : (d : DeskState) (relation limit : ℕ) (passed : List ℕ) (due : Bool) (sequence page : ℕ) (broken : Rule) → StopsBy due d limit passed sequence (found.Damaged page broken) → IsDamaged (shown_by d.cache) relation page broken
find-damage d relation limit passed true sequence page broken (inl past) = past-damage d relation (to_read 0) page broken past
find-damage d relation limit passed true sequence page broken (inr elsewhere) = IsDamaged.header elsewhere.1 elsewhere.2
find-damage d relation limit passed false sequence page broken is = inventory-damage d relation sequence page broken is

pub find-damages : (before after : DeskState) (relation limit : ℕ) (passed : List ℕ) (search-at : FreeSearch) (answer : Found) → StopsAt before limit passed search-at answer → IsOnlyUsed before after → FoundDamages after relation answer
find-damages before after relation limit passed search-at (found.Page page) is same = tt
find-damages before after relation limit passed search-at (found.Miss need) is same = tt
find-damages before after relation limit passed search-at (found.Limit pages) is same = tt
find-damages before after relation limit passed search-at (found.Uncounted sequence) is same = tt
find-damages before after relation limit passed search-at (found.Damaged page broken) is same =
    inl (moved (shown_by before.cache) (shown_by after.cache) relation page broken (used-shows before after same)
    (find-damage before relation limit passed (is_header_due search-at) search-at.sequence page broken is.1))

-- A free page, or the page inventory over it.
over-damages : (before : DeskState) (relation page : ℕ) (answer : Held) → answer ≢ held.Here → OverComesTo before page answer → FreeDamages (after_hold before (to_change (over before page)) answer) relation (stopped answer)
over-damages before relation page held.Here other is = absurd (other refl)
over-damages before relation page (held.Miss missed) other is = tt
over-damages before relation page (held.Damaged damaged broken) other is =
    inl (moved (shown_by before.cache) (shown_by (after_hold before (to_change (over before page)) (held.Damaged damaged broken)).cache) relation damaged broken
    (held-shows before (after_hold before (to_change (over before page)) (held.Damaged damaged broken)) (to_change (over before page)) (held.Damaged damaged broken) refl)
    (inventory-damage before relation (page / inventory_bits before.cache.shape.size) damaged broken is))

comes-damaged : (d : DeskState) (relation page : ℕ) (step : FreeStep) → FreeComesTo d page step → FreeDamages (after_free d page step) relation step
comes-damaged d relation page free.Here is = tt
comes-damaged d relation page (free.Miss missed) is = tt
comes-damaged d relation page free.Gone is = tt
comes-damaged d relation page (free.Damaged damaged broken) (inl used) = inr (subst (λ (p : ℕ). is_pinned_in d.cache.held p ≡ true) (sym used.2) used.1, used.3)
comes-damaged d relation page (free.Damaged damaged broken) (inr past) = inl (past-damage d relation (to_format page) damaged broken past.1)

pub free-damages : (before : DeskState) (relation page : ℕ) (step : FreeStep) (after : DeskState) → HoldsFree before page step after → FreeDamages after relation step
free-damages before relation page _ _ (HoldsFree.stops answer other is) = over-damages before relation page answer other is
free-damages before relation page step _ (HoldsFree.comes _ above is) = comes-damaged _ relation page step is
