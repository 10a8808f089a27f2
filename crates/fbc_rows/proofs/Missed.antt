-- Pages that are missed may not be used yet.
use Rattle.std.proofs.Common.{◌≡◌, ◌≢◌, ◌<◌, ℕ, Bool, true, false, List, Option, Some, refl, sym, ap, subst}
use Rattle.fbc_buffers.specs.declared.buffers.Buffer.{Buffer}
use Rattle.fbc_cache.specs.declared.needs.Need.{Need}
use Rattle.fbc_cache.specs.declared.readers.Place.{Place}
use Rattle.fbc_desk.specs.declared.holding.Held.{Held}
use Rattle.fbc_desk.specs.declared.holding.Held.TheVariants as held
use Rattle.fbc_desk.specs.Desk.{DeskState}
use Rattle.fbc_desk.specs.Holds.{Holds, HoldsAs, after_hold, after_looking}
use Rattle.fbc_space.specs.declared.finding.Found.{Found}
use Rattle.fbc_space.specs.declared.finding.Found.TheVariants as found
use Rattle.fbc_space.specs.declared.finding.FreeSearch.{FreeSearch}
use Rattle.fbc_space.specs.declared.free_steps.FreeStep.{FreeStep}
use Rattle.fbc_space.specs.declared.free_steps.FreeStep.TheVariants as free
use Rattle.fbc_space.specs.Finding.{IsOnlyUsed, StopsAt, StopsBy, is_header_due}
use Rattle.fbc_space.specs.FreeSteps.{FreeComesTo, HoldsFree, OverComesTo, after_free, over, stopped}
use Rattle.fbc_space.specs.Needs.{to_change, to_format}
use Rattle.fbc_rows.specs.Missing.{FoundMisses, FreeMisses, HeldMisses, IsMissing}

-- A page that is to be used.
missed-there : (d : DeskState) (need missed : Need) → Holds d need (held.Miss missed) → IsMissing d missed
missed-there d need missed is = subst (λ (n : Need). IsMissing d n) (sym is.0) (record { below = is.1; away = is.2 })

pub hold-misses : (before after : DeskState) (need : Need) (answer : Held) → Holds before need answer → after ≡ after_hold before need answer → HeldMisses after answer
hold-misses before after need held.Here is same = tt
hold-misses before after need (held.Miss missed) is same = subst (λ (d : DeskState). IsMissing d missed) (sym same) (missed-there before need missed is)
hold-misses before after need (held.Damaged page broken) is same = tt

pub hold-as-misses : (before after : DeskState) (need : Need) (due : Place) (answer : Held) → HoldsAs before need due answer → after ≡ after_hold before need answer → HeldMisses after answer
hold-as-misses before after need due held.Here is same = tt
hold-as-misses before after need due (held.Miss missed) is same = subst (λ (d : DeskState). IsMissing d missed) (sym same) (missed-there before need missed is)
hold-as-misses before after need due (held.Damaged page broken) is same = tt

pub look-misses : (before after : DeskState) (need : Need) (due : Place) (answer : Held) → HoldsAs before need due answer → after ≡ after_looking before need answer → HeldMisses after answer
look-misses before after need due held.Here is same = tt
look-misses before after need due (held.Miss missed) is same = subst (λ (d : DeskState). IsMissing d missed) (sym same) (missed-there before need missed is)
look-misses before after need due (held.Damaged page broken) is same = tt

-- A page that the search for a free page misses: nothing but the order in which pages were used is another.
still-missing : (before after : DeskState) (need : Need) → IsOnlyUsed before after → IsMissing before need → IsMissing after need
still-missing before after need same is = record {
  below = subst (λ (n : ℕ). need.page < n) (sym (ap (λ (d : DeskState). d.cache.shape.limit) same.rest)) is.below;
  away = λ here. is.away (record {
    buffer = here.buffer;
    found = subst (λ (b : Option Buffer). b ≡ Some here.buffer) (same.buffers need.page) here.found;
    granted = here.granted;
    level = here.level;
    valid = here.valid;
  });
}

find-missed : (d : DeskState) (limit : ℕ) (passed : List ℕ) (due : Bool) (sequence : ℕ) (need : Need) → StopsBy due d limit passed sequence (found.Miss need) → IsMissing d need
find-missed d limit passed true sequence need is = missed-there d _ need is
find-missed d limit passed false sequence need is = missed-there d _ need is

pub find-misses : (before after : DeskState) (limit : ℕ) (passed : List ℕ) (search-at : FreeSearch) (answer : Found) → StopsAt before limit passed search-at answer → IsOnlyUsed before after → FoundMisses after answer
find-misses before after limit passed search-at (found.Page page) is same = tt
find-misses before after limit passed search-at (found.Miss need) is same = still-missing before after need same (find-missed before limit passed (is_header_due search-at) search-at.sequence need is.1)
find-misses before after limit passed search-at (found.Limit pages) is same = tt
find-misses before after limit passed search-at (found.Uncounted sequence) is same = tt
find-misses before after limit passed search-at (found.Damaged page broken) is same = tt

-- A free page that is missed, or the page inventory over it.
over-misses : (before : DeskState) (page : ℕ) (answer : Held) (need : Need) → answer ≢ held.Here → OverComesTo before page answer → FreeMisses (after_hold before need answer) (stopped answer)
over-misses before page held.Here need other is = absurd (other refl)
over-misses before page (held.Miss missed) need other is = missed-there before _ missed is
over-misses before page (held.Damaged damaged broken) need other is = tt

comes-missing : (d : DeskState) (page : ℕ) (step : FreeStep) → FreeComesTo d page step → FreeMisses (after_free d page step) step
comes-missing d page free.Here is = tt
comes-missing d page (free.Miss missed) is = missed-there d (to_format page) missed is.1
comes-missing d page free.Gone is = tt
comes-missing d page (free.Damaged damaged broken) is = tt

pub free-misses : (before : DeskState) (page : ℕ) (step : FreeStep) (after : DeskState) → HoldsFree before page step after → FreeMisses after step
free-misses before page _ _ (HoldsFree.stops answer other is) = over-misses before page answer (to_change (over before page)) other is
free-misses before page step _ (HoldsFree.comes _ above is) = comes-missing _ page step is
