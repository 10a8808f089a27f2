-- How many pairs there can be of so many pages.
use Rattle.std.proofs.Common.{◌≡◌, ◌≢◌, ◌≤◌, ℕ, ◌+◌, ◌*◌, Bool, true, false, not, ◌||◌, ◌&&◌, ◌==◌, cond, List, [], ◌∷◌, ◌++◌, map, length, ◌∙◌, sym, ap, subst, refl, arith}
use Rattle.std.specs.List.{AllByRecursion, filter, list_any}
use Rattle.std.proofs.lemmas.Bool.Decides.{nat_tests}
use Rattle.std.proofs.lemmas.List.{length-append, length-map}
use Rattle.std.proofs.lemmas.List.Folds.{list_any-append}
use Rattle.fbc_kinds.specs.declared.edges.Edge.{Edge}
use Rattle.fbc_precedence.specs.Pages.{has}
use Rattle.fbc_precedence.specs.Precedence.{pair_of, is_pair}
use Rattle.fbc_precedence.specs.Room.{is_linked, AreOnce}
use Rattle.fbc_precedence.proofs.Counting.{left, left-most, left-less, any-weaker, any-filtered}
use Rattle.fbc_precedence.proofs.Pairs.{same-pair, is-itself}
use Rattle.fbc_precedence.proofs.Standing.{IsAmong}

-- The pairs of two places of the list, each one way round.
abbrev pub links : List ℕ → List Edge
links [] = []
links (page ∷ pages) = map (pair_of page) pages ++ links pages

pub links-few : (pages : List ℕ) → 2 * length (links pages) ≤ length pages * length pages
links-few [] = omega arith
links-few (page ∷ pages) =
    let here : length (links (page ∷ pages)) ≡ length pages + length (links pages) = length-append (map (pair_of page) pages) (links pages) ∙ ap (λ n. n + length (links pages)) (length-map pages (pair_of page)) in
    grind (arith, here, links-few pages)

-- A page and another of the list are linked.
to-others : (page other : ℕ) (pages : List ℕ) → has pages other ≡ true → list_any (is_pair page other) (map (pair_of page) pages) ≡ true
to-others page other [] there = absurd (cc)
to-others page other (p ∷ pages) there = step (p == other) there (to-others page other pages) where
  step : (b : Bool) → (b || has pages other) ≡ true → (has pages other ≡ true → list_any (is_pair page other) (map (pair_of page) pages) ≡ true) → (((page == page) && b) || list_any (is_pair page other) (map (pair_of page) pages)) ≡ true
  step true there' rest = grind (arith, nat_tests)
  step false there' rest = grind (arith, nat_tests, rest there')

linked-here : (first second : List Edge) (high low : ℕ) → is_linked (first ++ second) high low ≡ (is_linked first high low || is_linked second high low)
linked-here first second high low =
    let above = list_any-append (is_pair high low) first second in
    let below = list_any-append (is_pair low high) first second in
    rw (above, below) (swap (list_any (is_pair high low) first) (list_any (is_pair high low) second) (list_any (is_pair low high) first) (list_any (is_pair low high) second)) where
      swap : (a b c d : Bool) → ((a || b) || (c || d)) ≡ ((a || c) || (b || d))
      swap a b c d = grind (arith)

pub links-all : (pages : List ℕ) (high low : ℕ) → high ≢ low → has pages high ≡ true → has pages low ≡ true → is_linked (links pages) high low ≡ true
links-all [] high low differ h l = absurd (cc)
links-all (page ∷ pages) high low differ h l = linked-here (map (pair_of page) pages) (links pages) high low ∙ step (page == high) refl (page == low) refl h l (links-all pages high low differ) where
  step : (a : Bool) → (page == high) ≡ a → (b : Bool) → (page == low) ≡ b → (a || has pages high) ≡ true → (b || has pages low) ≡ true → (has pages high ≡ true → has pages low ≡ true → is_linked (links pages) high low ≡ true) → (is_linked (map (pair_of page) pages) high low || is_linked (links pages) high low) ≡ true
  step true is true also h' l' rest = absurd (differ (grind (arith, nat_tests, is, also)))
  step true is false also h' l' rest =
      let same : page ≡ high = grind (arith, nat_tests, is) in
      let found : list_any (is_pair high low) (map (pair_of page) pages) ≡ true = rw same (to-others high low pages l') in
      rw found refl
  step false is true also h' l' rest =
      let same : page ≡ low = grind (arith, nat_tests, also) in
      let found : list_any (is_pair low high) (map (pair_of page) pages) ≡ true = rw same (to-others low high pages h') in
      grind (arith, found)
  step false is false also h' l' rest = grind (arith, rest h' l')

-- Pairs that stand once link so many places of the list.
fits : (pages : List ℕ) (pairs : List Edge) → AreOnce pairs → AllByRecursion (IsAmong pages) pairs → length pairs + left (λ e. is_linked pairs e.high e.low) (links pages) ≤ length (links pages)
fits pages [] once among = omega (arith, left-most (λ (e : Edge). is_linked [] e.high e.low) (links pages))
fits pages (pair ∷ pairs) once among =
    omega (arith, fits pages pairs once.2 among.1, left-less (λ e. is_linked pairs e.high e.low) (λ e. is_linked (pair ∷ pairs) e.high e.low) keeps (links pages) (some (list_any (is_pair pair.high pair.low) (links pages)) refl (links-all pages pair.high pair.low once.0 among.0.0 among.0.1))) where
      keeps : (e : Edge) → is_linked pairs e.high e.low ≡ true → is_linked (pair ∷ pairs) e.high e.low ≡ true
      keeps e is = more (is_pair e.high e.low pair) (is_pair e.low e.high pair) (list_any (is_pair e.high e.low) pairs) (list_any (is_pair e.low e.high) pairs) is where
        more : (a b c d : Bool) → (c || d) ≡ true → ((a || c) || (b || d)) ≡ true
        more a b c d is' = grind (arith)

      some : (b : Bool) → list_any (is_pair pair.high pair.low) (links pages) ≡ b → (b || list_any (is_pair pair.low pair.high) (links pages)) ≡ true → list_any (λ e. not (is_linked pairs e.high e.low) && is_linked (pair ∷ pairs) e.high e.low) (links pages) ≡ true
      some true is any = any-weaker (is_pair pair.high pair.low) (λ e. not (is_linked pairs e.high e.low) && is_linked (pair ∷ pairs) e.high e.low) straight (links pages) is where
        straight : (e : Edge) → is_pair pair.high pair.low e ≡ true → (not (is_linked pairs e.high e.low) && is_linked (pair ∷ pairs) e.high e.low) ≡ true
        straight e same = rw (same-pair e pair.high pair.low same, once.1, is-itself pair.high pair.low) refl
      some false is any = any-weaker (is_pair pair.low pair.high) (λ e. not (is_linked pairs e.high e.low) && is_linked (pair ∷ pairs) e.high e.low) turned (links pages) any where
        turned : (e : Edge) → is_pair pair.low pair.high e ≡ true → (not (is_linked pairs e.high e.low) && is_linked (pair ∷ pairs) e.high e.low) ≡ true
        turned e same = subst (λ (p : Edge). (not (is_linked pairs p.high p.low) && is_linked (pair ∷ pairs) p.high p.low) ≡ true) (sym (same-pair e pair.low pair.high same)) (turn (is_pair pair.low pair.high pair) (is_pair pair.high pair.low pair) (list_any (is_pair pair.low pair.high) pairs) (list_any (is_pair pair.high pair.low) pairs) once.1 (is-itself pair.high pair.low)) where
          turn : (a b x y : Bool) → (y || x) ≡ false → b ≡ true → (not (x || y) && ((a || x) || (b || y))) ≡ true
          turn a b x y none is' = grind (arith)

pub pairs-few : (pages : List ℕ) (pairs : List Edge) → AreOnce pairs → AllByRecursion (IsAmong pages) pairs → length pairs ≤ length (links pages)
pairs-few pages pairs once among = omega (arith, fits pages pairs once among)

-- One more pair that is not linked stands once.
pub once-more : (pairs : List Edge) (high low : ℕ) → AreOnce pairs → high ≢ low → is_linked pairs high low ≡ false → AreOnce (pairs ++ pair_of high low ∷ [])
once-more [] high low once differ new = (differ, refl, tt)
once-more (pair ∷ pairs) high low once differ new =
    (once.0, linked-here pairs (pair_of high low ∷ []) pair.high pair.low ∙ rw once.1 (apart (list_any (is_pair high low) pairs) (list_any (is_pair low high) pairs) new), once-more pairs high low once.2 differ (rest (is_pair high low pair) (is_pair low high pair) (list_any (is_pair high low) pairs) (list_any (is_pair low high) pairs) new)) where
      rest : (a b c d : Bool) → ((a || c) || (b || d)) ≡ false → (c || d) ≡ false
      rest a b c d none = grind (arith)

      apart : (x y : Bool) → ((is_pair high low pair || x) || (is_pair low high pair || y)) ≡ false → is_linked (pair_of high low ∷ []) pair.high pair.low ≡ false
      apart x y none = grind (arith, nat_tests, none)

pub once-filtered : (p : Edge → Bool) (pairs : List Edge) → AreOnce pairs → AreOnce (filter p pairs)
once-filtered p [] once = tt
once-filtered p (pair ∷ pairs) once = step (p pair) (once-filtered p pairs once.2) where
  fewer : (high low : ℕ) → is_linked pairs high low ≡ false → is_linked (filter p pairs) high low ≡ false
  fewer high low none = both (list_any (is_pair high low) (filter p pairs)) (list_any (is_pair low high) (filter p pairs)) (list_any (is_pair high low) pairs) (list_any (is_pair low high) pairs) (any-filtered p (is_pair high low) pairs) (any-filtered p (is_pair low high) pairs) none where
    both : (a b c d : Bool) → (a ≡ true → c ≡ true) → (b ≡ true → d ≡ true) → (c || d) ≡ false → (a || b) ≡ false
    both a b c d first second none' = grind (arith)

  step : (b : Bool) → AreOnce (filter p pairs) → AreOnce (cond b (pair ∷ filter p pairs) (filter p pairs))
  step true rest = (once.0, fewer pair.high pair.low once.1, rest)
  step false rest = rest
