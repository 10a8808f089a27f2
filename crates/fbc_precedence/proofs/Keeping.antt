-- What holds of a graph is kept.
use Rattle.std.proofs.Common.{◌≡◌, ◌≢◌, ◌≤◌, ◌↔◌, IsTrue, ℕ, ◌+◌, ◌*◌, ◌/◌, Bool, true, false, ◌||◌, List, [], ◌∷◌, ◌++◌, length, ◌∙◌, sym, subst, refl, arith}
use Rattle.std.specs.List.{filter, list_any}
use Rattle.std.proofs.lemmas.List.{length_push}
use Rattle.fbc_kinds.specs.declared.edges.Edge.{Edge}
use Rattle.fbc_precedence.specs.Pages.{pages_of}
use Rattle.fbc_kinds.specs.Order.{straight}
use Rattle.fbc_precedence.specs.Precedence.{pair_of, is_pair, ComesBefore, is_without, HasRoom, IsBlocked}
use Rattle.fbc_precedence.specs.Room.{is_linked, AreOnce, IsGraph}
use Rattle.fbc_precedence.specs.Search.{is_blocked}
use Rattle.fbc_precedence.proofs.Counting.{any-filtered}
use Rattle.fbc_precedence.proofs.Paths.{leads-on, joined, path-blocks, blocked-by, stays-acyclic}
use Rattle.fbc_precedence.proofs.Standing.{among-pages, among-filtered, pages-few}
use Rattle.fbc_precedence.proofs.Linked.{links, links-few, pairs-few, once-more, once-filtered}

-- Of two pages one at most stands before the other.
pub one-way : (pairs : List Edge) → ((page : ℕ) → ComesBefore pairs page page → ⊥) → (high low : ℕ) → ComesBefore pairs high low → ComesBefore pairs low high → ⊥
one-way pairs acyclic high low down up = acyclic high (joined pairs high low high down up)

pub blocked-tells : (pairs : List Edge) (page : ℕ) (b : Bool) → b ≡ is_blocked pairs page → IsTrue b ↔ IsBlocked pairs page
blocked-tells pairs page b is = (λ yes. blocked-by pairs page (sym is ∙ yes), λ some. is ∙ path-blocks pairs some.0 page some.1)

-- The pairs of pages that do not stand before each other are not there.
not-linked : (pairs : List Edge) (high low : ℕ) → (ComesBefore pairs high low → ⊥) → (ComesBefore pairs low high → ⊥) → is_linked pairs high low ≡ false
not-linked pairs high low not_down not_up = step (list_any (is_pair high low) pairs) (list_any (is_pair low high) pairs) (λ is. not_down (straight high low is)) (λ is. not_up (straight low high is)) where
  step : (a b : Bool) → (a ≡ true → ⊥) → (b ≡ true → ⊥) → (a || b) ≡ false
  step true b down up = absurd (down refl)
  step false true down up = absurd (up refl)
  step false false down up = refl

-- Where the test says no, there is no path.
pub told-not : (shown pairs : List Edge) → shown ≡ pairs → (high low : ℕ) (b : Bool) → (IsTrue b ↔ ComesBefore shown high low) → b ≡ false → ComesBefore pairs high low → ⊥
told-not shown pairs same high low b tells says path = absurd (let yes : b ≡ true = tells.1 (subst (λ es. ComesBefore es high low) (sym same) path) in cc)

squares : (n m : ℕ) → n ≤ m → n * n ≤ m * m
squares n m less = grind (arith, less)

halves : (n m : ℕ) → 2 * n ≤ m → n ≤ m / 2
halves n m less = omega (arith, less)

module _ (buffers : ℕ) (pairs : List Edge) (capacity : ℕ) (g : IsGraph buffers pairs capacity) where
  -- Without the pairs of a page.
  graph-cleared : (page : ℕ) → IsGraph buffers (filter (is_without page) pairs) capacity
  graph-cleared page = record {
    order = record {
      acyclic = λ p path. g.order.acyclic p (leads-on (filter (is_without page) pairs) pairs (λ above below is. any-filtered (is_without page) (is_pair above below) pairs is) p p path);
      few = omega (arith, g.order.few, pages-few (pages_of pairs) (filter (is_without page) pairs) (among-filtered (pages_of pairs) (is_without page) pairs (among-pages pairs)));
    };
    once = once-filtered (is_without page) pairs g.once;
    small = g.small;
    room = g.room;
  }

  pub graph-without : (page : ℕ) (rest : List Edge) (room : ℕ) → rest ≡ filter (is_without page) pairs → room ≡ capacity → IsGraph buffers rest room
  graph-without page rest room are same = rw (are, same) (graph-cleared page)

  -- With one more pair.
  module _ (high low : ℕ) (differ : high ≢ low) (room : HasRoom (record { buffers = buffers; pairs = pairs }) high low) (not_down : ComesBefore pairs high low → ⊥) (not_up : ComesBefore pairs low high → ⊥) where
    once : AreOnce (pairs ++ pair_of high low ∷ [])
    once = once-more pairs high low g.once differ (not-linked pairs high low not_down not_up)

    pub room-for-one : length pairs + 1 ≤ capacity
    room-for-one =
        let pages = pages_of (pairs ++ pair_of high low ∷ []) in
        let few = pairs-few pages (pairs ++ pair_of high low ∷ []) once (among-pages (pairs ++ pair_of high low ∷ [])) in
        let half = halves (length (links pages)) (buffers * buffers) (omega (arith, links-few pages, squares (length pages) buffers room)) in
        omega (arith, few, half, g.room, length_push pairs (pair_of high low))

    graph-related : (more : ℕ) → capacity ≤ more → IsGraph buffers (pairs ++ pair_of high low ∷ []) more
    graph-related more at_least = record {
      order = record { acyclic = stays-acyclic pairs high low g.order.acyclic differ not_up; few = room };
      once = once;
      small = g.small;
      room = omega (arith, g.room, at_least);
    }

    pub graph-with : (all : List Edge) (more : ℕ) → all ≡ pairs ++ pair_of high low ∷ [] → capacity ≤ more → IsGraph buffers all more
    graph-with all more are at_least = rw are (graph-related more at_least)
