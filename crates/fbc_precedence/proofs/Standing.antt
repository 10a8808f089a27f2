-- The pages that stand in pairs.
use Rattle.std.proofs.Common.{◌≡◌, ◌≤◌, ℕ, ◌+◌, Bool, true, false, not, ◌||◌, ◌&&◌, ◌==◌, cond, if◌then◌else◌, List, [], ◌∷◌, ◌++◌, take, drop, length, ◌∙◌, sym, ap, subst, refl, arith}
use Rattle.std.specs.List.{AllByRecursion, filter, fold, list_any}
use Rattle.std.proofs.lemmas.Bool.Decides.{nat_tests}
use Rattle.std.proofs.lemmas.Grind.{fold-append}
use Rattle.std.proofs.lemmas.List.{length_push, take-append-drop}
use Rattle.std.proofs.lemmas.List.Folds.{list_any-append}
use Rattle.fbc_kinds.specs.declared.edges.Edge.{Edge}
use Rattle.fbc_precedence.specs.Pages.{has, with_page, with_pages, pages_of}
use Rattle.fbc_precedence.specs.Precedence.{pair_of, is_pair, IsPair}
use Rattle.fbc_precedence.proofs.Counting.{left, left-most, left-less, any-weaker}
use Rattle.fbc_precedence.proofs.Pairs.{same-pair}

-- Both pages are among these.
abbrev pub IsAmong : List ℕ → Edge → Type 0
IsAmong pages pair = (has pages pair.high ≡ true) × (has pages pair.low ≡ true)

-- Who stands in the list, with one more at its end.
pub has-push : (pages : List ℕ) (page other : ℕ) → has (pages ++ page ∷ []) other ≡ (has pages other || ((page == other) || false))
has-push pages page other = list_any-append (λ p. p == other) pages (page ∷ [])

pub kept-by-push : (pages : List ℕ) (page other : ℕ) → has pages other ≡ true → has (pages ++ page ∷ []) other ≡ true
kept-by-push pages page other there = has-push pages page other ∙ grind (arith, there)

pub there-by-push : (pages : List ℕ) (page : ℕ) → has (pages ++ page ∷ []) page ≡ true
there-by-push pages page = has-push pages page page ∙ grind (arith, nat_tests)

-- One more of the census is one less that is left.
pub left-by-push : (census pages : List ℕ) (page : ℕ) → has census page ≡ true → has pages page ≡ false → left (has (pages ++ page ∷ [])) census + 1 ≤ left (has pages) census
left-by-push census pages page of out = left-less (has pages) (has (pages ++ page ∷ [])) (kept-by-push pages page) census (any-weaker (λ p. p == page) (λ p. not (has pages p) && has (pages ++ page ∷ []) p) new census of) where
  new : (p : ℕ) → (p == page) ≡ true → (not (has pages p) && has (pages ++ page ∷ []) p) ≡ true
  new p is =
      let same : p ≡ page = grind (arith, nat_tests, is) in
      rw (same, out, there-by-push pages page) refl

kept-by-page : (pages : List ℕ) (page other : ℕ) → has pages other ≡ true → has (with_page pages page) other ≡ true
kept-by-page pages page other there = step (has pages page) where
  step : (b : Bool) → has (if b then pages else pages ++ page ∷ []) other ≡ true
  step true = there
  step false = kept-by-push pages page other there

there-by-page : (pages : List ℕ) (page : ℕ) → has (with_page pages page) page ≡ true
there-by-page pages page = step (has pages page) refl where
  step : (b : Bool) → has pages page ≡ b → has (if b then pages else pages ++ page ∷ []) page ≡ true
  step true is = is
  step false is = there-by-push pages page

kept-by-fold : (pairs : List Edge) (pages : List ℕ) (other : ℕ) → has pages other ≡ true → has (fold with_pages pages pairs) other ≡ true
kept-by-fold [] pages other there = there
kept-by-fold (pair ∷ pairs) pages other there =
    kept-by-fold pairs (with_pages pages pair) other (kept-by-page (with_page pages pair.high) pair.low other (kept-by-page pages pair.high other there))

among-fold : (pairs : List Edge) (pages : List ℕ) → AllByRecursion (IsAmong (fold with_pages pages pairs)) pairs
among-fold [] pages = tt
among-fold (pair ∷ pairs) pages =
    let high = kept-by-fold pairs (with_pages pages pair) pair.high (kept-by-page (with_page pages pair.high) pair.low pair.high (there-by-page pages pair.high)) in
    let low = kept-by-fold pairs (with_pages pages pair) pair.low (there-by-page (with_page pages pair.high) pair.low) in
    ((high, low), among-fold pairs (with_pages pages pair))

-- The pages of all pairs are among the pages of the pairs.
pub among-pages : (pairs : List Edge) → AllByRecursion (IsAmong (pages_of pairs)) pairs
among-pages pairs = among-fold pairs []

pub among-filtered : (census : List ℕ) (p : Edge → Bool) (pairs : List Edge) → AllByRecursion (IsAmong census) pairs → AllByRecursion (IsAmong census) (filter p pairs)
among-filtered census p [] all = tt
among-filtered census p (pair ∷ pairs) all = step (p pair) (among-filtered census p pairs all.1) where
  step : (b : Bool) → AllByRecursion (IsAmong census) (filter p pairs) → AllByRecursion (IsAmong census) (cond b (pair ∷ filter p pairs) (filter p pairs))
  step true rest = (all.0, rest)
  step false rest = rest

pub among-pair : (census : List ℕ) (pairs : List Edge) (high low : ℕ) → AllByRecursion (IsAmong census) pairs → IsPair pairs high low → IsAmong census (pair_of high low)
among-pair census [] high low all is = absurd (cc)
among-pair census (pair ∷ pairs) high low all is = step (is_pair high low pair) refl is (among-pair census pairs high low all.1) where
  step : (b : Bool) → is_pair high low pair ≡ b → (b || list_any (is_pair high low) pairs) ≡ true → (IsPair pairs high low → IsAmong census (pair_of high low)) → IsAmong census (pair_of high low)
  step true same is' rest = subst (IsAmong census) (same-pair pair high low same) all.0
  step false other is' rest = rest is'

-- The pages of pairs are no more than a census of them.
page-fits : (census pages : List ℕ) (page : ℕ) → has census page ≡ true → length (with_page pages page) + left (has (with_page pages page)) census ≤ length pages + left (has pages) census
page-fits census pages page of = step (has pages page) refl where
  step : (b : Bool) → has pages page ≡ b → length (if b then pages else pages ++ page ∷ []) + left (has (if b then pages else pages ++ page ∷ [])) census ≤ length pages + left (has pages) census
  step true is = omega arith
  step false is = omega (arith, length_push pages page, left-by-push census pages page of is)

all-fit : (census : List ℕ) (pairs : List Edge) (pages : List ℕ) → AllByRecursion (IsAmong census) pairs → length (fold with_pages pages pairs) + left (has (fold with_pages pages pairs)) census ≤ length pages + left (has pages) census
all-fit census [] pages all = omega arith
all-fit census (pair ∷ pairs) pages all =
    omega (arith, all-fit census pairs (with_pages pages pair) all.1, page-fits census (with_page pages pair.high) pair.low all.0.1, page-fits census pages pair.high all.0.0)

pub pages-few : (census : List ℕ) (pairs : List Edge) → AllByRecursion (IsAmong census) pairs → length (pages_of pairs) ≤ length census
pages-few census pairs all = omega (arith, all-fit census pairs [] all, left-most (has []) census)

-- The pages of more pairs are no fewer.
length-with-page : (pages : List ℕ) (page : ℕ) → length pages ≤ length (with_page pages page)
length-with-page pages page = step (has pages page) where
  step : (b : Bool) → length pages ≤ length (if b then pages else pages ++ page ∷ [])
  step true = omega arith
  step false = omega (arith, length_push pages page)

pub length-fold : (pairs : List Edge) (pages : List ℕ) → length pages ≤ length (fold with_pages pages pairs)
length-fold [] pages = omega arith
length-fold (pair ∷ pairs) pages =
    omega (arith, length-fold pairs (with_pages pages pair), length-with-page pages pair.high, length-with-page (with_page pages pair.high) pair.low)

-- The pages of the first pairs are no more than those of all.
pub pages-of-first : (n : ℕ) (pairs : List Edge) → length (pages_of (take n pairs)) ≤ length (pages_of pairs)
pages-of-first n pairs =
    let whole : pages_of pairs ≡ fold with_pages (pages_of (take n pairs)) (drop n pairs) = ap pages_of (sym (take-append-drop n pairs)) ∙ fold-append with_pages [] (take n pairs) (drop n pairs) in
    rw whole (length-fold (drop n pairs) (pages_of (take n pairs)))
