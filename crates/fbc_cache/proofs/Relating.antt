-- The high pages are related to an edited one, one after the other.
use Rattle.std.proofs.Common.{◌≡◌, ◌↔◌, ◌≤◌, inl, inr, ℕ, suc, Bool, true, false, ◌==◌, List, [], ◌∷◌, ◌++◌, map, length, Option, Some, None, ◌∙◌, ap, subst, refl, arith}
use Rattle.std.proofs.lemmas.Bool.Decides.{nat_tests}
use Rattle.std.proofs.lemmas.List.Elements.{All-from_recursion}
use Rattle.std.specs.List.{All}
use Rattle.fbc_kinds.specs.declared.edges.Edge.{Edge}
use Rattle.fbc_levels.specs.declared.levels.Level.TheVariants.{Ex}
use Rattle.fbc_precedence.specs.Pages.{has, pages_of}
use Rattle.fbc_precedence.specs.declared.related.Related.{Related}
use Rattle.fbc_precedence.specs.declared.related.Related.TheVariants as related
use Rattle.fbc_precedence.specs.Precedence.{AreUnrelated, Precedence, ComesBefore, after_relate, pair_of}
use Rattle.fbc_buffers.specs.declared.buffers.Buffer.{Buffer}
use Rattle.fbc_cache.specs.Cache.{CacheState, IsHeldPair, is_dirty_in, level_in}
use Rattle.fbc_cache.specs.Edits.{Relates, RelatesTo, is_write_first, needs_pair}
use Rattle.fbc_cache.proofs.HeldPairs.{ArePairs}
use Rattle.fbc_cache.proofs.Lists.{all-append, all-implied}

-- The pages that have buffers.
abbrev pub pages_held : List Buffer → List ℕ
pages_held held = map (λ (b : Buffer). b.page) held

pub dirty-has : (held : List Buffer) (page : ℕ) → is_dirty_in held page ≡ true → has (pages_held held) page ≡ true
dirty-has [] page dirty = absurd (cc)
dirty-has (b ∷ bs) page dirty = grind (arith, nat_tests, dirty, dirty-has bs page)

pub level-has : (held : List Buffer) (page : ℕ) → level_in held page ≡ Ex → has (pages_held held) page ≡ true
level-has [] page exclusive = absurd (cc)
level-has (b ∷ bs) page exclusive = grind (arith, nat_tests, exclusive, level-has bs page)

pub length-pages : (held : List Buffer) → length (pages_held held) ≡ length held
length-pages [] = refl
length-pages (b ∷ bs) = ap (λ n. suc n) (length-pages bs)

-- The page is held in EX and the high one is dirty, and is another.
pub new-pair : (held : List Buffer) (page high : ℕ) → level_in held page ≡ Ex → needs_pair held page high ≡ true → IsHeldPair held (pair_of high page)
new-pair held page high exclusive needed = record { high = grind (arith, needed); low = exclusive }

pub pairs-push : (held : List Buffer) (pairs : List Edge) (pair : Edge) → ArePairs held pairs → IsHeldPair held pair → ArePairs held (pairs ++ pair ∷ [])
pairs-push held pairs pair all is = all-append (IsHeldPair held) pairs (pair ∷ []) all (is, tt)

-- Both pages of each pair have buffers.
pub pairs-has : (held : List Buffer) (pairs : List Edge) → ArePairs held pairs → All (λ pair. (has (pages_held held) pair.high ≡ true) × (has (pages_held held) pair.low ≡ true)) pairs
pairs-has held pairs all =
    All-from_recursion (λ (pair : Edge). (has (pages_held held) pair.high ≡ true) × (has (pages_held held) pair.low ≡ true)) pairs
    (all-implied (IsHeldPair held) (λ pair. (has (pages_held held) pair.high ≡ true) × (has (pages_held held) pair.low ≡ true)) (λ pair is. (dirty-has held pair.high is.high, level-has held pair.low is.low)) pairs all)

module _ (held : List Buffer) (page : ℕ) (start : List Edge) (highs : List ℕ) where
  -- What the pages from this place on come to, all come to.
  abbrev pub Rest : List Edge → List ℕ → Type 0
  Rest pairs rest = (after : List Edge) (first : Option ℕ) → Relates held page pairs rest after first → Relates held page start highs after first

  module _ (pairs : List Edge) (high : ℕ) (rest : List ℕ) (before : Rest pairs (high ∷ rest)) where
    pub rest-past : needs_pair held page high ≡ false → Rest pairs rest
    rest-past clean after first later = before after first (inl (clean, later))

    pub rest-related : needs_pair held page high ≡ true → (after : List Edge) → RelatesTo pairs high page after false → Rest after rest
    rest-related needed more (inl new) after first later = before after first (inr (needed, inl (new.0, subst (λ now. Relates held page now rest after first) new.1 later)))
    rest-related needed more (inr old) after first later = before after first (inr (needed, inr (inl (old.0, subst (λ now. Relates held page now rest after first) old.1 later))))

    pub rest-first : needs_pair held page high ≡ true → (after : List Edge) → RelatesTo pairs high page after true → Relates held page start highs after (Some high)
    rest-first needed after is = before after (Some high) (inr (needed, inr (inr (is.0, is.1, refl))))

-- What stands after an answer.
module _ (held : List Buffer) (order : Precedence) (high low : ℕ) (answer : Related) where
  abbrev told : Precedence
  told = after_relate order high low answer

  pub told-buffers : told.buffers ≡ order.buffers
  told-buffers = step answer where
    step : (r : Related) → (after_relate order high low r).buffers ≡ order.buffers
    step related.Recorded = refl
    step related.Already = refl
    step (related.WriteFirst page) = refl

  pub told-pairs : ArePairs held order.pairs → IsHeldPair held (pair_of high low) → ArePairs held told.pairs
  told-pairs all new = step answer where
    step : (r : Related) → ArePairs held (after_relate order high low r).pairs
    step related.Recorded = pairs-push held order.pairs (pair_of high low) all new
    step related.Already = all
    step (related.WriteFirst page) = all

-- What an answer says of the two pages.
pub answer-relates : (order : Precedence) (high low : ℕ) (answer : Related) → ((answer ≡ related.Already) ↔ ComesBefore order.pairs high low) → ((answer ≡ related.WriteFirst low) ↔ ComesBefore order.pairs low high) → ((answer ≡ related.Recorded) ↔ AreUnrelated order.pairs high low) → RelatesTo order.pairs high low (after_relate order high low answer).pairs (is_write_first answer)
answer-relates order high low related.Recorded already write_first recorded = inl (recorded.0 refl, refl)
answer-relates order high low related.Already already write_first recorded = inr (already.0 refl, refl)
answer-relates order high low (related.WriteFirst page) already write_first recorded = (step (page == low) refl, refl) where
  step : (t : Bool) → (page == low) ≡ t → ComesBefore order.pairs low high
  step true same =
      let page-is : page ≡ low = grind (arith, nat_tests, same) in
      write_first.0 (ap (λ p. related.WriteFirst p) page-is)
  step false other = absurd (let wrong : related.WriteFirst page ≡ related.Recorded = recorded.1 ((λ path. not_already (already.1 path)), (λ path. not_first (write_first.1 path))) in cc) where
    not_already : related.WriteFirst page ≡ related.Already → ⊥
    not_already is = absurd (cc)

    not_first : related.WriteFirst page ≡ related.WriteFirst low → ⊥
    not_first is = grind (arith, nat_tests, other, is)

-- No more pages stand in such pairs than have buffers.
pub few-pages : (held : List Buffer) (pairs : List Edge) → ((pairs : List Edge) (pages : List ℕ) → All (λ pair. (has pages pair.high ≡ true) × (has pages pair.low ≡ true)) pairs → length (pages_of pairs) ≤ length pages) → ArePairs held pairs → length (pages_of pairs) ≤ length held
few-pages held pairs law all = omega (arith, law pairs (pages_held held) (pairs-has held pairs all), length-pages held)

-- What is known in a turn: the cache but for its pairs, and what the pages that are left come to.
pub record IsRelating (start now : CacheState) (page : ℕ) (highs rest : List ℕ) : Type 0 where
  pub same : now ≡ record start { pairs = now.pairs }
  pub comes_to : Rest start.held page start.pairs highs now.pairs rest

pub relating-first : (start : CacheState) (page : ℕ) (highs : List ℕ) → IsRelating start start page highs highs
relating-first start page highs = record { same = refl; comes_to = λ after first is. is }

pub relating-past : (start now : CacheState) (page : ℕ) (highs : List ℕ) (high : ℕ) (rest : List ℕ) → needs_pair now.held page high ≡ false → IsRelating start now page highs (high ∷ rest) → IsRelating start now page highs rest
relating-past start now page highs high rest clean is = record {
  same = is.same;
  comes_to = rest-past start.held page start.pairs highs now.pairs high rest is.comes_to (subst (λ held. needs_pair held page high ≡ false) (ap (λ (s : CacheState). s.held) is.same) clean);
}

module _ (start now next : CacheState) (page : ℕ) (highs : List ℕ) (high : ℕ) (rest : List ℕ) (needed : needs_pair now.held page high ≡ true) (kept : next ≡ record now { pairs = next.pairs }) (is : IsRelating start now page highs (high ∷ rest)) where
  needed' : needs_pair start.held page high ≡ true
  needed' = subst (λ held. needs_pair held page high ≡ true) (ap (λ (s : CacheState). s.held) is.same) needed

  same' : next ≡ record start { pairs = next.pairs }
  same' = kept ∙ ap (λ (s : CacheState). record s { pairs = next.pairs }) is.same

  pub relating-next : RelatesTo now.pairs high page next.pairs false → IsRelating start next page highs rest
  relating-next to = record { same = same'; comes_to = rest-related start.held page start.pairs highs now.pairs high rest is.comes_to needed' next.pairs to }

  pub relating-ends : RelatesTo now.pairs high page next.pairs true → (pairs : List Edge) × Relates start.held page start.pairs highs pairs (Some high) × (next ≡ record start { pairs = pairs })
  relating-ends to = (next.pairs, rest-first start.held page start.pairs highs now.pairs high rest is.comes_to needed' next.pairs to, same')

pub relating-all : (start now : CacheState) (page : ℕ) (highs : List ℕ) → IsRelating start now page highs [] → (pairs : List Edge) × Relates start.held page start.pairs highs pairs None × (now ≡ record start { pairs = pairs })
relating-all start now page highs is = (now.pairs, is.comes_to now.pairs None (refl, refl), is.same)
