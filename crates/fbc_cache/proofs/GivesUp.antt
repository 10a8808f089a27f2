-- The step by which a page is given up is due.
use Rattle.std.proofs.Common.{◌≡◌, inl, inr, ℕ, Bool, true, false, not, ◌&&◌, ◌||◌, Option, Some, None, is_none, sym, subst, refl, arith}
use Rattle.std.specs.Option.{option_map_or}
use Rattle.fbc_levels.specs.declared.levels.Level.{Level}
use Rattle.fbc_levels.specs.Levels.{is_free, is_page_level}
use Rattle.fbc_precedence.specs.Precedence.{IsAtOrBefore, IsBlocked, IsNextToWrite}
use Rattle.fbc_world.specs.declared.asks.Ask.{Ask}
use Rattle.fbc_world.specs.declared.asks.Cause.{Cause}
use Rattle.fbc_buffers.specs.declared.buffers.Buffer.{Buffer}
use Rattle.fbc_buffers.specs.Holding.{buffer_of}
use Rattle.fbc_cache.specs.Cache.{CacheState, IsCache, is_dirty_in, level_in}
use Rattle.fbc_cache.specs.Giving.{GivesUp, IsUnsettled}
use Rattle.fbc_cache.specs.Wants.{MayGiveUp, is_due, is_idle, is_lowering_due, is_part}
use Rattle.fbc_precedence.specs.Search.{is_blocked}
use Rattle.fbc_cache.proofs.Low.{low-blocked, path-dirty}

-- A page that is held, clean and not in use is idle.
idle : (found : Option Buffer) → option_map_or (λ (b : Buffer). is_none b.wanted) found false ≡ true → option_map_or (λ (b : Buffer). b.is_dirty) found false ≡ false → option_map_or (λ (b : Buffer). b.is_pinned) found false ≡ false → option_map_or is_idle found false ≡ true
idle None granted clean loose = absurd (cc)
idle (Some b) granted clean loose = grind (arith, granted, clean, loose)

both : (s t u v : Bool) → s ≡ true → t ≡ false → u ≡ true → v ≡ true → (s && not t && u && v) ≡ true
both s t u v a b c d = rw (a, b, c, d) refl

module _ (c : CacheState) (is : IsCache c) where
  -- The next write for a page that is to be written: it is dirty, and no page stands before it.
  pub next-dirty : (page next : ℕ) → IsUnsettled c page → IsNextToWrite c.pairs page next → is_dirty_in c.held next ≡ true
  next-dirty page next unsettled first = go first.among unsettled where
    go : IsAtOrBefore c.pairs next page → IsUnsettled c page → is_dirty_in c.held next ≡ true
    go (inr before) _ = path-dirty c.held c.pairs next page is.pairs before
    go (inl same) (inl dirty) = subst (λ page. is_dirty_in c.held page ≡ true) (sym same) dirty
    go (inl same) (inr blocked) = absurd (first.free (subst (IsBlocked c.pairs) (sym same) blocked))

  pub next-free : (page next : ℕ) → IsNextToWrite c.pairs page next → is_blocked c.pairs next ≡ false
  next-free page next first = go (is_blocked c.pairs next) refl where
    go : (t : Bool) → is_blocked c.pairs next ≡ t → t ≡ false
    go true low = absurd (first.free (low-blocked c.pairs next low))
    go false low = refl

  pub settled-free : (page : ℕ) → (IsUnsettled c page → ⊥) → is_blocked c.pairs page ≡ false
  settled-free page settled = go (is_blocked c.pairs page) refl where
    go : (t : Bool) → is_blocked c.pairs page ≡ t → t ≡ false
    go true low = absurd (settled (inr (low-blocked c.pairs page low)))
    go false low = refl

  pub settled-clean : (page : ℕ) → (IsUnsettled c page → ⊥) → is_dirty_in c.held page ≡ false
  settled-clean page settled = go (is_dirty_in c.held page) refl where
    go : (t : Bool) → is_dirty_in c.held page ≡ t → t ≡ false
    go true dirty = absurd (settled (inl dirty))
    go false dirty = refl

  lowering-due : (page : ℕ) (level : Level) → MayGiveUp c page level → (IsUnsettled c page → ⊥) → is_lowering_due c page level ≡ true
  lowering-due page level may settled =
      both (option_map_or is_idle (buffer_of c.held page) false) (is_blocked c.pairs page) (is_free level || is_page_level level) (is_part level (level_in c.held page))
      (idle (buffer_of c.held page) may.granted (settled-clean page settled) may.loose) (settled-free page settled) may.usable may.part

  -- Of a page that may be given up.
  pub due-giving : (page : ℕ) (cause : Cause) (level : Level) (asked : Ask) → MayGiveUp c page level → GivesUp c page cause level asked → is_due c asked ≡ true
  due-giving page cause level asked may (inl unsettled) =
      rw (unsettled.1.is_write, next-dirty page unsettled.1.next unsettled.0 unsettled.1.is_next, next-free page unsettled.1.next unsettled.1.is_next) refl
  due-giving page cause level asked may (inr settled) = rw (settled.1) (lowering-due page level may settled.0)
