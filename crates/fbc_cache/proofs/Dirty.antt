-- The least dirty page before which no dirty page is to be written.
use Rattle.std.proofs.Common.{◌≡◌, ◌≤◌, ◌⊎◌, inl, inr, ℕ, zero, suc, ◌+◌, ◌<◌, min, nat_lt, Bool, true, false, ◌||◌, cond, List, [], ◌∷◌, ◌++◌, take, length, get_or, Some, None, ◌∙◌, sym, ap, subst, refl, arith}
use Rattle.std.proofs.lemmas.Bool.Decides.{nat_tests}
use Rattle.std.proofs.Math.Seq.{take-length, take-suc}
use Rattle.std.specs.List.{AllByRecursion, find, list_any}
use Rattle.fbc_kinds.specs.declared.edges.Edge.{Edge}
use Rattle.fbc_kinds.specs.Order.{straight, through}
use Rattle.fbc_precedence.specs.Precedence.{IsBlocked, IsNextToWrite, IsPair, ComesBefore, is_pair}
use Rattle.fbc_buffers.specs.declared.buffers.Buffer.{Buffer}
use Rattle.fbc_buffers.specs.Holding.{AreApart, buffer_of, is_of}
use Rattle.fbc_buffers.proofs.Victim.{buffer_of-found}
use Rattle.fbc_cache.specs.Cache.{CacheState, is_dirty_in}
use Rattle.fbc_cache.specs.Edits.{IsFree, IsLeastDirty, IsNextDirty}
use Rattle.fbc_cache.proofs.HeldPairs.{ArePairs}
use Rattle.fbc_cache.proofs.Lists.{all-append, all-implied}

-- The high page of a recorded pair is dirty.
pair-dirty : (held : List Buffer) (pairs : List Edge) → ArePairs held pairs → (high low : ℕ) → IsPair pairs high low → is_dirty_in held high ≡ true
pair-dirty held [] all high low is = absurd (cc)
pair-dirty held (pair ∷ pairs) all high low is = step (is_pair high low pair) refl is (pair-dirty held pairs all.1 high low) where
  step : (b : Bool) → is_pair high low pair ≡ b → (b || list_any (is_pair high low) pairs) ≡ true → (IsPair pairs high low → is_dirty_in held high ≡ true) → is_dirty_in held high ≡ true
  step true same is' rest =
      let high-is : pair.high ≡ high = grind (arith, nat_tests, same) in
      subst (λ page. is_dirty_in held page ≡ true) high-is all.0.high
  step false other is' rest = rest is'

-- A page that stands before another is dirty.
pub before-dirty : (held : List Buffer) (pairs : List Edge) → ArePairs held pairs → (high low : ℕ) → ComesBefore pairs high low → is_dirty_in held high ≡ true
before-dirty held pairs all _ _ (straight high low is) = pair-dirty held pairs all high low is
before-dirty held pairs all _ _ (through high between low is rest) = pair-dirty held pairs all high between is

module _ (c : CacheState) (all : ArePairs c.held c.pairs) where
  -- A dirty page that no page stands before is next, and only such a page is.
  pub next-dirty : (page : ℕ) → is_dirty_in c.held page ≡ true → (IsBlocked c.pairs page → ⊥) → IsNextDirty c page
  next-dirty page dirty free = record { dirty = dirty; next = λ other is path. free (other, path) }

  pub next-free : (page : ℕ) → IsNextDirty c page → IsBlocked c.pairs page → ⊥
  next-free page is some = is.next some.0 (before-dirty c.held c.pairs all some.0 page some.1) some.1

  -- The page that is written next for a dirty one.
  pub next-of : (page next : ℕ) → is_dirty_in c.held page ≡ true → IsNextToWrite c.pairs page next → IsNextDirty c next
  next-of page next dirty is = next-dirty next (step is.among) is.free where
    step : (next ≡ page) ⊎ ComesBefore c.pairs next page → is_dirty_in c.held next ≡ true
    step (inl same) = subst (λ p. is_dirty_in c.held p ≡ true) (sym same) dirty
    step (inr path) = before-dirty c.held c.pairs all next page path

-- A page is dirty where the first dirty buffer is its own.
pub found-dirty : (held : List Buffer) (b : Buffer) → AreApart held → find (λ (a : Buffer). a.is_dirty) held ≡ Some b → is_dirty_in held b.page ≡ true
found-dirty held b apart is =
    let both = buffer_of-found (λ (a : Buffer). a.is_dirty) held b apart is in
    rw both.0 both.1

-- Where none is found no page is dirty.
pub none-dirty : (held : List Buffer) → find (λ (a : Buffer). a.is_dirty) held ≡ None → (page : ℕ) → is_dirty_in held page ≡ false
none-dirty [] none page = refl
none-dirty (b ∷ bs) none page = grind (arith, nat_tests, none, none-dirty bs)

-- The page is no more than this one's, if this one may be written next.
abbrev pub Bounds : List Edge → ℕ → Buffer → Type 0
Bounds pairs least b = IsFree pairs b → least ≤ b.page

-- What is known of the buffers so far.
pub record IsLeastOf (c : CacheState) (seen : List Buffer) (least : ℕ) : Type 0 where
  pub next : IsNextDirty c least
  pub bounds : AllByRecursion (Bounds c.pairs least) seen

pub least-of-none : (c : CacheState) (least : ℕ) → IsNextDirty c least → IsLeastOf c [] least
least-of-none c least is = record { next = is; bounds = tt }

pub least-of-past : (c : CacheState) (seen : List Buffer) (b : Buffer) (least : ℕ) → (IsFree c.pairs b → ⊥) → IsLeastOf c seen least → IsLeastOf c (seen ++ b ∷ []) least
least-of-past c seen b least not_free is = record {
  next = is.next;
  bounds = all-append (Bounds c.pairs least) seen (b ∷ []) is.bounds ((λ free. absurd (not_free free)), tt);
}

pub least-of-one : (c : CacheState) (seen : List Buffer) (b : Buffer) (least : ℕ) → is_dirty_in c.held b.page ≡ true → (IsBlocked c.pairs b.page → ⊥) → IsLeastOf c seen least → IsLeastOf c (seen ++ b ∷ []) (min least b.page)
least-of-one c seen b least dirty free is = record {
  next = step (nat_lt least b.page) refl;
  bounds = all-append (Bounds c.pairs (min least b.page)) seen (b ∷ []) (all-implied (Bounds c.pairs least) (Bounds c.pairs (min least b.page)) (λ a bound free'. grind (arith, nat_tests, bound free')) seen is.bounds) ((λ free'. grind (arith, nat_tests)), tt);
} where
  step : (t : Bool) → nat_lt least b.page ≡ t → IsNextDirty c (min least b.page)
  step true less =
      let same : min least b.page ≡ least = grind (arith, nat_tests, less) in
      rw same is.next
  step false more =
      let same : min least b.page ≡ b.page = grind (arith, nat_tests, more) in
      rw same (record { dirty = dirty; next = λ other is' path. free (other, path) })

-- A page that is dirty has a dirty buffer.
bounded : (held : List Buffer) (pairs : List Edge) (least page : ℕ) → AllByRecursion (Bounds pairs least) held → is_dirty_in held page ≡ true → (IsBlocked pairs page → ⊥) → least ≤ page
bounded [] pairs least page all dirty free = absurd (cc)
bounded (b ∷ bs) pairs least page all dirty free = step (is_of page b) refl dirty (λ later. bounded bs pairs least page all.1 later free) where
  step : (t : Bool) → is_of page b ≡ t → is_dirty_in (b ∷ bs) page ≡ true → (is_dirty_in bs page ≡ true → least ≤ page) → least ≤ page
  step true same dirty' rest =
      let page-is : b.page ≡ page = grind (arith, nat_tests, same) in
      let own : b.is_dirty ≡ true = grind (arith, nat_tests, same, dirty') in
      subst (λ p. least ≤ p) page-is (all.0 (record { dirty = own; free = λ some. free (subst (IsBlocked pairs) page-is some) }))
  step false other dirty' rest = rest (grind (arith, nat_tests, other, dirty'))

pub least-of-all : (c : CacheState) (least : ℕ) → ArePairs c.held c.pairs → IsLeastOf c c.held least → IsLeastDirty c (Some least)
least-of-all c least all is = (is.next, λ other other-is. bounded c.held c.pairs least other is.bounds other-is.dirty (next-free c all other other-is))

-- A buffer is the one of its page.
pub apart-at : (seen : List Buffer) (b : Buffer) (rest : List Buffer) → AreApart (seen ++ b ∷ rest) → buffer_of (seen ++ b ∷ rest) b.page ≡ Some b
apart-at [] b rest apart = grind (arith, nat_tests)
apart-at (a ∷ seen) b rest apart = step (is_of b.page a) refl (apart-at seen b rest apart.1) where
  step : (t : Bool) → is_of b.page a ≡ t → buffer_of (seen ++ b ∷ rest) b.page ≡ Some b → cond t (Some a) (buffer_of (seen ++ b ∷ rest) b.page) ≡ Some b
  step true same found =
      let page-is : a.page ≡ b.page = grind (arith, nat_tests, same) in
      let none : buffer_of (seen ++ b ∷ rest) b.page ≡ None = subst (λ p. buffer_of (seen ++ b ∷ rest) p ≡ None) page-is apart.0 in
      absurd (cc)
  step false other found = found

-- The buffer at a place is that of its page.
at_place : (held : List Buffer) (i : ℕ) (d : Buffer) → AreApart held → i < length held → buffer_of held (get_or held i d).page ≡ Some (get_or held i d)
at_place [] i d apart fits = absurd (omega (arith, fits))
at_place (b ∷ bs) zero d apart fits = grind (arith, nat_tests)
at_place (b ∷ bs) (suc i) d apart fits = step (is_of (get_or bs i d).page b) refl (at_place bs i d apart.1 (omega (arith, fits))) where
  step : (t : Bool) → is_of (get_or bs i d).page b ≡ t → buffer_of bs (get_or bs i d).page ≡ Some (get_or bs i d) → cond t (Some b) (buffer_of bs (get_or bs i d).page) ≡ Some (get_or bs i d)
  step true same found =
      let page-is : b.page ≡ (get_or bs i d).page = grind (arith, nat_tests, same) in
      let none : buffer_of bs (get_or bs i d).page ≡ None = subst (λ p. buffer_of bs p ≡ None) page-is apart.0 in
      absurd (cc)
  step false other found = found

-- A turn sees the buffer at a place.
module _ (c : CacheState) (i : ℕ) (b : Buffer) (least : ℕ) (fits : i < length c.held) (is : b ≡ get_or c.held i b) (so_far : IsLeastOf c (take i c.held) least) where
  seen : (take i c.held ++ b ∷ []) ≡ take (i + 1) c.held
  seen =
      let next : suc i ≡ i + 1 = omega arith in
      sym (ap (λ n. take n c.held) (sym next) ∙ take-suc c.held i b fits ∙ ap (λ x. take i c.held ++ x ∷ []) (sym is))

  pub turn-past : (IsFree c.pairs b → ⊥) → IsLeastOf c (take (i + 1) c.held) least
  turn-past not_free = subst (λ bs. IsLeastOf c bs least) seen (least-of-past c (take i c.held) b least not_free so_far)

  pub turn-free : AreApart c.held → IsFree c.pairs b → IsLeastOf c (take (i + 1) c.held) (min least b.page)
  turn-free apart free =
      let found : buffer_of c.held b.page ≡ Some b = subst (λ x. buffer_of c.held x.page ≡ Some x) (sym is) (at_place c.held i b apart fits) in
      let dirty : is_dirty_in c.held b.page ≡ true = rw found free.dirty in
      subst (λ bs. IsLeastOf c bs (min least b.page)) seen (least-of-one c (take i c.held) b least dirty free.free so_far)

-- After the last turn all are seen.
pub seen-all : (c : CacheState) (items : List Buffer) (i least : ℕ) → c.held ≡ items → length items ≤ i → i ≤ length items → IsLeastOf c (take i c.held) least → IsLeastOf c c.held least
seen-all c items i least same end within so_far =
    let at : i ≡ length items = omega (arith, end, within) in
    subst (λ bs. IsLeastOf c bs least) (ap (λ n. take n c.held) (at ∙ ap length (sym same)) ∙ take-length c.held) so_far
