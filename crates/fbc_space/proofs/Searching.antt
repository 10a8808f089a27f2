-- The search for a free page goes on from step to step.
use Rattle.std.proofs.Common.{◌≡◌, ◌<◌, ◌≤◌, ◌&&◌, ℕ, Bool, true, false, not, nat_lt, List, Some, None, inl, inr, refl, sym, ap, subst, arith}
use Rattle.std.proofs.lemmas.Bool.Decides.{nat_tests}
use Rattle.fbc_kinds.specs.declared.pages.Header.{Header}
use Rattle.fbc_kinds.specs.declared.shapes.Shape.{Shape}
use Rattle.fbc_kinds.specs.View.{inventory_page}
use Rattle.fbc_cache.specs.Readers.{place}
use Rattle.fbc_desk.specs.declared.holding.Held.{Held}
use Rattle.fbc_desk.specs.declared.holding.Held.TheVariants as holds
use Rattle.fbc_desk.specs.Calls.{GoesOn, stays}
use Rattle.fbc_desk.specs.Desk.{DeskState}
use Rattle.fbc_desk.specs.Holds.{HoldsAs}
use Rattle.fbc_desk.proofs.Goes.{goes_on}
use Rattle.fbc_space.specs.declared.finding.Found.{Found}
use Rattle.fbc_space.specs.declared.finding.Found.TheVariants as finds
use Rattle.fbc_space.specs.declared.finding.FreeSearch.{FreeSearch}
use Rattle.fbc_space.specs.Finding.{GoesPast, HeaderStops, InventoryStops, IsChoice, IsCounted, IsFull, IsOnlyUsed, StopsAt, StopsBy, begins, counted, full, is_candidate, is_free, is_header_due, is_over}
use Rattle.fbc_space.specs.Needs.{InventoryComesTo, to_change, to_read}
use Rattle.fbc_space.specs.Passed.{is_passed}
use Rattle.fbc_space.specs.Steps.{Steps, StepsBy}
use Rattle.fbc_space.proofs.Choosing.{least-same}
use Rattle.fbc_space.proofs.Used.{as-same, copy-same, header-same, shape-same, used-both, used-none}

-- What stands at a desk stands at each one that was only used since.
module _ (a b : DeskState) (same : IsOnlyUsed a b) where
  size-same : b.cache.shape.size ≡ a.cache.shape.size
  size-same = ap (λ (s : Shape). s.size) (shape-same a b same)

  inventory-same : (sequence : ℕ) (found : Held) → InventoryComesTo b sequence found → InventoryComesTo a sequence found
  inventory-same sequence found is =
      as-same a b same (to_change (inventory_page a.cache.shape.size sequence)) (place 2 0 sequence) found
      (subst (λ size. HoldsAs b (to_change (inventory_page size sequence)) (place 2 0 sequence) found) size-same is)

  free-same : (limit sequence page : ℕ) → is_free b.cache limit sequence page ≡ is_free a.cache limit sequence page
  free-same limit sequence page = grind (arith, size-same, copy-same a b same (inventory_page a.cache.shape.size sequence))

  candidate-same : (limit : ℕ) (passed : List ℕ) (sequence page : ℕ) → is_candidate b.cache limit passed sequence page ≡ is_candidate a.cache limit passed sequence page
  candidate-same limit passed sequence page = ap (λ free. free && not (is_passed passed page)) (free-same limit sequence page)

  choice-same : (limit : ℕ) (passed : List ℕ) (sequence page : ℕ) → IsChoice b.cache limit passed sequence page → IsChoice a.cache limit passed sequence page
  choice-same limit passed sequence page (inl is) = inl (least-same (is_candidate b.cache limit passed sequence) (is_candidate a.cache limit passed sequence) (candidate-same limit passed sequence) (Some page) is)
  choice-same limit passed sequence page (inr is) =
      inr (
        least-same (is_candidate b.cache limit passed sequence) (is_candidate a.cache limit passed sequence) (candidate-same limit passed sequence) None is.0,
        least-same (is_free b.cache limit sequence) (is_free a.cache limit sequence) (free-same limit sequence) (Some page) is.1,
      )

  counted-same : (sequence : ℕ) → IsCounted b sequence → IsCounted a sequence
  counted-same sequence is = record {
    here = as-same a b same (to_read 0) (place 1 0 0) holds.Here is.here;
    counts = subst (λ count. sequence < count) (header-same a b same (λ (h : Header). h.inventories)) is.counts;
  }

  full-same : (limit sequence : ℕ) → IsFull b limit sequence → IsFull a limit sequence
  full-same limit sequence is = record {
    here = inventory-same sequence holds.Here is.here;
    full = least-same (is_free b.cache limit sequence) (is_free a.cache limit sequence) (free-same limit sequence) None is.full;
  }

  header-stops-same : (sequence : ℕ) (found : Found) → HeaderStops b sequence found → HeaderStops a sequence found
  header-stops-same sequence (finds.Miss need) is = as-same a b same (to_read 0) (place 1 0 0) (holds.Miss need) is
  header-stops-same sequence (finds.Damaged page rule) is = as-same a b same (to_read 0) (place 1 0 0) (holds.Damaged page rule) is
  header-stops-same sequence (finds.Page page) is = is
  header-stops-same sequence (finds.Limit pages) is = is
  header-stops-same sequence (finds.Uncounted uncounted) is =
      (is.0, as-same a b same (to_read 0) (place 1 0 0) holds.Here is.1, subst (λ count. count ≤ sequence) (header-same a b same (λ (h : Header). h.inventories)) is.2)

  inventory-stops-same : (limit : ℕ) (passed : List ℕ) (sequence : ℕ) (found : Found) → InventoryStops b limit passed sequence found → InventoryStops a limit passed sequence found
  inventory-stops-same limit passed sequence (finds.Miss need) is = inventory-same sequence (holds.Miss need) is
  inventory-stops-same limit passed sequence (finds.Damaged page rule) is = inventory-same sequence (holds.Damaged page rule) is
  inventory-stops-same limit passed sequence (finds.Limit pages) is = is
  inventory-stops-same limit passed sequence (finds.Uncounted uncounted) is = is
  inventory-stops-same limit passed sequence (finds.Page page) is = (inventory-same sequence holds.Here is.0, choice-same limit passed sequence page is.1)

  stops-by-same : (due : Bool) (limit : ℕ) (passed : List ℕ) (sequence : ℕ) (found : Found) → StopsBy due b limit passed sequence found → StopsBy due a limit passed sequence found
  stops-by-same true limit passed sequence found is = header-stops-same sequence found is
  stops-by-same false limit passed sequence found is = inventory-stops-same limit passed sequence found is

-- How far the search has come since the desk was as it was first.
pub record HasCome (first now : DeskState) (limit : ℕ) (from to : FreeSearch) : Type 0 where
  pub past : GoesPast first limit from to
  pub same : IsOnlyUsed first now
  pub goes : GoesOn first now

pub comes-first : (d : DeskState) (limit : ℕ) (s : FreeSearch) → HasCome d d limit s s
comes-first d limit s = record { past = begins; same = used-none d; goes = stays d }

-- Where the search stops before its end.
no-limit : (due : Bool) (d : DeskState) (limit : ℕ) (passed : List ℕ) (sequence pages : ℕ) → StopsBy due d limit passed sequence (finds.Limit pages) → ⊥
no-limit true d limit passed sequence pages is = is
no-limit false d limit passed sequence pages is = is

stops-at : (d : DeskState) (limit : ℕ) (passed : List ℕ) (s : FreeSearch) (found : Found) → is_over d.cache.shape.size limit s.sequence ≡ false
    → StopsBy (is_header_due s) d limit passed s.sequence found → StopsAt d limit passed s found
stops-at d limit passed s (finds.Page page) over is = (over, is)
stops-at d limit passed s (finds.Miss need) over is = (over, is)
stops-at d limit passed s (finds.Limit pages) over is = absurd (no-limit (is_header_due s) d limit passed s.sequence pages is)
stops-at d limit passed s (finds.Uncounted sequence) over is = (over, is)
stops-at d limit passed s (finds.Damaged page rule) over is = (over, is)

steps-stop : (d : DeskState) (limit : ℕ) (passed : List ℕ) (due : Bool) (from to : FreeSearch) (found : Found) → StepsBy due d limit passed from to (Some found) → (to ≡ from) × StopsBy due d limit passed from.sequence found
steps-stop d limit passed true from to found is = is
steps-stop d limit passed false from to found is = is

module _ (first now later : DeskState) (limit : ℕ) (passed : List ℕ) (from at to : FreeSearch) (come : HasCome first now limit from at)
    (within : is_over now.cache.shape.size limit at.sequence ≡ false) (used : IsOnlyUsed now later) (on : GoesOn now later) where
  within-first : is_over first.cache.shape.size limit at.sequence ≡ false
  within-first = subst (λ size. is_over size limit at.sequence ≡ false) (size-same first now come.same) within

  past-by : (due : Bool) → is_header_due at ≡ due → StepsBy due now limit passed at to None → GoesPast first limit from to
  past-by true due is = subst (λ s. GoesPast first limit from s) (sym is.0) (counted at come.past within-first due (counted-same first now come.same at.sequence is.1))
  past-by false due is = subst (λ s. GoesPast first limit from s) (sym is.0) (full at come.past within-first due (full-same first now come.same limit at.sequence is.1))

  -- One step further.
  pub comes-further : Steps now limit passed at to None → HasCome first later limit from to
  comes-further is = record { past = past-by (is_header_due at) refl is; same = used-both first now later come.same used; goes = goes_on first now later come.goes on }

  -- It is stopped.
  pub stops-there : (found : Found) → Steps now limit passed at to (Some found) → StopsAt first limit passed to found
  stops-there found is =
      let both = steps-stop now limit passed (is_header_due at) at to found is in
      subst (λ s. StopsAt first limit passed s found) (sym both.0) (stops-at first limit passed at found within-first (stops-by-same first now come.same (is_header_due at) limit passed at.sequence found both.1))

  pub past-there : (found : Found) → Steps now limit passed at to (Some found) → GoesPast first limit from to
  past-there found is = subst (λ s. GoesPast first limit from s) (sym (steps-stop now limit passed (is_header_due at) at to found is).0) come.past

  pub goes-there : GoesOn first later
  goes-there = goes_on first now later come.goes on

-- Each page inventory that the search went past is full.
pub past-full : (d : DeskState) (limit : ℕ) (from to : FreeSearch) → GoesPast d limit from to → (sequence : ℕ) → from.sequence ≤ sequence → sequence < to.sequence → IsFull d limit sequence
past-full d limit from _ begins sequence low high = absurd (omega (arith, low, high))
past-full d limit from _ (counted s past over due is) sequence low high = past-full d limit from s past sequence low high
past-full d limit from _ (full s past over due is) sequence low high = go (nat_lt sequence s.sequence) refl (past-full d limit from s past sequence low) where
  go : (t : Bool) → nat_lt sequence s.sequence ≡ t → (sequence < s.sequence → IsFull d limit sequence) → IsFull d limit sequence
  go true before earlier = earlier (grind (arith, nat_tests, before))
  go false here earlier =
      let same : s.sequence ≡ sequence = grind (arith, nat_tests, here, high) in
      subst (λ n. IsFull d limit n) same is
