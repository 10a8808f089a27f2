-- There is one way on for a search, and none from where it stops.
use Rattle.std.proofs.Common.{◌≡◌, ◌∙◌, ◌+◌, ℕ, true, false, List, inl, inr, refl, sym, subst, arith}
use Rattle.std.proofs.lemmas.Bool.Decides.{nat_tests}
use Rattle.fbc_kinds.specs.View.{inventory_page}
use Rattle.fbc_cache.specs.Readers.{place}
use Rattle.fbc_desk.specs.declared.holding.Held.TheVariants as holds
use Rattle.fbc_desk.specs.Desk.{DeskState}
use Rattle.fbc_space.specs.declared.finding.Found.{Found}
use Rattle.fbc_space.specs.declared.finding.Found.TheVariants as finds
use Rattle.fbc_space.specs.declared.finding.FreeSearch.{FreeSearch}
use Rattle.fbc_space.specs.Finding.{GoesPast, HeaderStops, InventoryStops, IsChoice, IsCounted, IsFull, StopsAt, StopsBy, begins, counted, full, is_free, is_header_due, is_over}
use Rattle.fbc_space.specs.Needs.{to_change, to_read}
use Rattle.fbc_space.proofs.Exact.{Stops, ends, holds-once, how, stopped}

module _ (d : DeskState) (limit : ℕ) where
  -- One move of the search.
  data Move (s : FreeSearch) : FreeSearch → Type 0 where
    past_header : is_over d.cache.shape.size limit s.sequence ≡ false → is_header_due s ≡ true → IsCounted d s.sequence → Move s (record { sequence = s.sequence; is_counted = true })
    past_full : is_over d.cache.shape.size limit s.sequence ≡ false → is_header_due s ≡ false → IsFull d limit s.sequence → Move s (record { sequence = s.sequence + 1; is_counted = false })

  one-move : (s t u : FreeSearch) → Move s t → Move s u → t ≡ u
  one-move s _ _ (past_header over due is) (past_header end again also) = refl
  one-move s _ _ (past_header over due is) (past_full end not also) = let both : true ≡ false = sym due ∙ not in absurd (cc)
  one-move s _ _ (past_full over not is) (past_header end due also) = let both : true ≡ false = sym due ∙ not in absurd (cc)
  one-move s _ _ (past_full over not is) (past_full end again also) = refl

  -- None where it stops.
  no-header : (sequence : ℕ) (found : Found) → IsCounted d sequence → HeaderStops d sequence found → ⊥
  no-header sequence (finds.Page page) is stop = stop
  no-header sequence (finds.Limit pages) is stop = stop
  no-header sequence (finds.Uncounted uncounted) is stop = omega (arith, is.counts, stop.2)
  no-header sequence (finds.Miss need) is stop = let both = holds-once d (to_read 0) (place 1 0 0) holds.Here (holds.Miss need) is.here stop in absurd (cc)
  no-header sequence (finds.Damaged page rule) is stop = let both = holds-once d (to_read 0) (place 1 0 0) holds.Here (holds.Damaged page rule) is.here stop in absurd (cc)

  free-choice : (passed : List ℕ) (sequence page : ℕ) → IsChoice d.cache limit passed sequence page → is_free d.cache limit sequence page ≡ true
  free-choice passed sequence page (inl is) = grind (arith, nat_tests, is.0)
  free-choice passed sequence page (inr is) = is.1.0

  no-full : (passed : List ℕ) (sequence : ℕ) (found : Found) → IsFull d limit sequence → InventoryStops d limit passed sequence found → ⊥
  no-full passed sequence (finds.Limit pages) is stop = stop
  no-full passed sequence (finds.Uncounted uncounted) is stop = stop
  no-full passed sequence (finds.Page page) is stop = let both : true ≡ false = sym (free-choice passed sequence page stop.1) ∙ is.full page in absurd (cc)
  no-full passed sequence (finds.Miss need) is stop =
      let both = holds-once d (to_change (inventory_page d.cache.shape.size sequence)) (place 2 0 sequence) holds.Here (holds.Miss need) is.here stop in absurd (cc)
  no-full passed sequence (finds.Damaged page rule) is stop =
      let both = holds-once d (to_change (inventory_page d.cache.shape.size sequence)) (place 2 0 sequence) holds.Here (holds.Damaged page rule) is.here stop in absurd (cc)

  no-move : (passed : List ℕ) (s t : FreeSearch) (found : Found) → Stops d limit passed s found → Move s t → ⊥
  no-move passed s _ found (ends over is) (past_header within due counts) = let both : true ≡ false = sym over ∙ within in absurd (cc)
  no-move passed s _ found (ends over is) (past_full within not shows) = let both : true ≡ false = sym over ∙ within in absurd (cc)
  no-move passed s _ found (stopped over is) (past_header within due counts) = no-header s.sequence found counts (subst (λ t. StopsBy t d limit passed s.sequence found) due is)
  no-move passed s _ found (stopped over is) (past_full within not shows) = no-full passed s.sequence found shows (subst (λ t. StopsBy t d limit passed s.sequence found) not is)

  -- The moves from one place to another, the first move first.
  data Way : FreeSearch → FreeSearch → Type 0 where
    here : (s : FreeSearch) → Way s s
    on : (s t to : FreeSearch) → Move s t → Way t to → Way s to

  way-from : (from s to : FreeSearch) → GoesPast d limit from s → Way s to → Way from to
  way-from from _ to begins way = way
  way-from from _ to (counted s past over due is) way = way-from from s to past (on s (record { sequence = s.sequence; is_counted = true }) to (past_header over due is) way)
  way-from from _ to (full s past over due is) way = way-from from s to past (on s (record { sequence = s.sequence + 1; is_counted = false }) to (past_full over due is) way)

  module _ (passed : List ℕ) (to : FreeSearch) (found : Found) (stop : Stops d limit passed to found) where
    move-on : (s t : FreeSearch) → Move s t → Way s to → (shown : Found) → Stops d limit passed to shown → Way t to
    move-on s t move (here _) shown stops = absurd (no-move passed s t shown stops move)
    move-on s t move (on _ u _ other way) shown stops = subst (λ v. Way v to) (one-move s u t other move) way

    follow : (from s : FreeSearch) → Way from to → GoesPast d limit from s → Way s to
    follow from _ way begins = way
    follow from _ way (counted s past over due is) = move-on s (record { sequence = s.sequence; is_counted = true }) (past_header over due is) (follow from s way past) found stop
    follow from _ way (full s past over due is) = move-on s (record { sequence = s.sequence + 1; is_counted = false }) (past_full over due is) (follow from s way past) found stop

  at-end : (passed : List ℕ) (s to : FreeSearch) (found : Found) → Stops d limit passed s found → Way s to → to ≡ s
  at-end passed s _ found stop (here _) = refl
  at-end passed s to found stop (on _ t _ move way) = absurd (no-move passed s t found stop move)

-- So it comes to one place.
pub ends-once : (d : DeskState) (limit : ℕ) (passed : List ℕ) (from one two : FreeSearch) (found other : Found)
    → GoesPast d limit from one → StopsAt d limit passed one found → GoesPast d limit from two → StopsAt d limit passed two other → one ≡ two
ends-once d limit passed from one two found other past stop also stops =
    at-end d limit passed two one other (how d limit passed two other stops)
    (follow d limit passed one found (how d limit passed one found stop) from two (way-from d limit from one one past (here one)) also)
