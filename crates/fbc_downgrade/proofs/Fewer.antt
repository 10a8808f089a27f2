-- A callback takes few writes.
use Rattle.std.proofs.Common.{◌≡◌, inl, inr, ℕ, ◌≤◌, ◌<◌, ◌==◌, Bool, true, false, not, List, [], ◌∷◌, length, sym, subst, arith}
use Rattle.std.proofs.lemmas.Bool.Decides.{nat_tests}
use Rattle.std.proofs.lemmas.Grind.{common_steps}
use Rattle.std.specs.List.{filter, list_any}
use Rattle.fbc_kinds.specs.declared.edges.Edge.{Edge}
use Rattle.fbc_levels.specs.declared.resources.Callback.{Callback}
use Rattle.fbc_precedence.specs.Pages.{has}
use Rattle.fbc_kinds.specs.Order.{straight, through}
use Rattle.fbc_precedence.specs.Precedence.{IsAtOrBefore, ComesBefore, is_pair, is_without}
use Rattle.fbc_world.specs.declared.answers.Answer.TheVariants.{Written}
use Rattle.fbc_cache.specs.Cache.{CacheState, IsCache, is_dirty_in}
use Rattle.fbc_cache.specs.Takes.{after_write}
use Rattle.fbc_downgrade.specs.Ending.{HasDirtyBefore, Writes, after_writing, more, none}
use Rattle.fbc_downgrade.proofs.Written.{IsDueWrite, cache-after, due-write, still-dirty, write-dirty, write-done}

-- The pages of a list but this one.
abbrev others : ℕ → List ℕ → List ℕ
others page pages = filter (λ p. not (p == page)) pages

no-more : (page : ℕ) (pages : List ℕ) → length (others page pages) ≤ length pages
no-more page [] = omega (arith)
no-more page (p ∷ ps) = grind (arith, nat_tests, common_steps, no-more page ps)

fewer : (page : ℕ) (pages : List ℕ) → has pages page ≡ true → length (others page pages) < length pages
fewer page [] there = absurd (cc)
fewer page (p ∷ ps) there = grind (arith, nat_tests, common_steps, there, fewer page ps, no-more page ps)

still-there : (page other : ℕ) (pages : List ℕ) → other == page ≡ false → has pages other ≡ true → has (others page pages) other ≡ true
still-there page other [] differs there = there
still-there page other (p ∷ ps) differs there = grind (arith, nat_tests, differs, there, still-there page other ps differs)

-- With fewer pairs no more stand before a page.
any-before : (q : Edge → Bool) (p : Edge → Bool) (pairs : List Edge) → list_any q (filter p pairs) ≡ true → list_any q pairs ≡ true
any-before q p [] is = is
any-before q p (e ∷ es) is = grind (arith, is, any-before q p es)

path-before : (p : Edge → Bool) (pairs : List Edge) (high low : ℕ) → ComesBefore (filter p pairs) high low → ComesBefore pairs high low
path-before p pairs _ _ (straight high low is) = straight high low (any-before (is_pair high low) p pairs is)
path-before p pairs _ _ (through high between low is rest) =
    through high between low (any-before (is_pair high between) p pairs is) (path-before p pairs between low rest)

among-before : (p : Edge → Bool) (pairs : List Edge) (other page : ℕ) → IsAtOrBefore (filter p pairs) other page → IsAtOrBefore pairs other page
among-before p pairs other page (inl same) = inl same
among-before p pairs other page (inr before) = inr (path-before p pairs other page before)

-- After a write the other dirty pages are left.
dirty-after : (c : CacheState) (page written : ℕ) (pages : List ℕ) → HasDirtyBefore c page pages → HasDirtyBefore (after_write c written Written) page (others written pages)
dirty-after c page written pages all other before dirty =
    let both : (is_dirty_in c.held other ≡ true) × (other == written ≡ false) = still-dirty c.held written other dirty in
    still-there written other pages both.1 (all other (among-before (is_without written) c.pairs other page before) both.0)

pub few-writes : (callback : Callback) (c after : CacheState) (pages : List ℕ) (count : ℕ) → IsCache c → HasDirtyBefore c callback.page pages → Writes callback c count after → count ≤ length pages
few-writes callback _ _ pages _ is all (none c) = omega (arith)
few-writes callback _ _ pages _ is all (more c page count after serves rest) =
    let write : IsDueWrite c callback.page page = due-write c callback page serves.1 in
    let there : has pages page ≡ true = all page write.next.among (write-dirty c callback page is write) in
    let left : HasDirtyBefore (after_writing c callback page) callback.page (others page pages) =
    subst (λ s. HasDirtyBefore s callback.page (others page pages)) (sym (write-done c callback page is write)) (dirty-after c callback.page page pages all) in
    omega (arith, fewer page pages there, few-writes callback (after_writing c callback page) after (others page pages) count (cache-after c callback page is write) left rest)
