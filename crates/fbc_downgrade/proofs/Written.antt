-- The cache after a write that serves a callback.
use Rattle.std.proofs.Common.{◌≡◌, inl, inr, ℕ, ◌==◌, Bool, true, false, cond, List, map, Option, Some, None, IfSome, ◌∙◌, sym, ap, subst, refl}
use Rattle.std.specs.Option.{option_map, option_map_or}
use Rattle.fbc_levels.specs.declared.levels.Level.TheVariants.{Free}
use Rattle.fbc_levels.specs.declared.resources.Callback.{Callback}
use Rattle.fbc_precedence.specs.Precedence.{IsNextToWrite}
use Rattle.fbc_world.specs.declared.answers.Answer.TheVariants.{Written}
use Rattle.fbc_world.specs.declared.asks.Ask.TheVariants as ask
use Rattle.fbc_world.specs.declared.asks.Cause.{Cause}
use Rattle.fbc_buffers.specs.declared.buffers.Buffer.{Buffer}
use Rattle.fbc_buffers.specs.Holding.{KeepsPage, buffer_of, with_dirt}
use Rattle.fbc_buffers.proofs.Found.{buffer_of-map, buffer_of-page}
use Rattle.fbc_cache.specs.Cache.{CacheState, IsCache, is_dirty_in, is_pinned_in, level_in}
use Rattle.fbc_cache.specs.Giving.{IsUnsettled}
use Rattle.fbc_cache.specs.Takes.{after_write}
use Rattle.fbc_cache.specs.Wants.{is_due}
use Rattle.fbc_cache.proofs.GivesUp.{next-dirty, next-free}
use Rattle.fbc_cache.proofs.Steps.{cache-written}
use Rattle.fbc_downgrade.specs.Ending.{after_writing, write_for}
use Rattle.fbc_downgrade.specs.Serving.{Downgrades}

-- A write that gives the page up is of the next page in order.
pub record IsDueWrite (c : CacheState) (page written : ℕ) : Type 0 where
  pub unsettled : IsUnsettled c page
  pub next : IsNextToWrite c.pairs page written

same-page : (page next : ℕ) (cause : Cause) → ask.Write page cause ≡ ask.Write next cause → page ≡ next
same-page page next cause is = cc

pub due-write : (c : CacheState) (callback : Callback) (page : ℕ) → Downgrades c callback (write_for callback page) → IsDueWrite c callback.page page
due-write c callback page (inl write) =
    let same : page ≡ write.1.next = same-page page write.1.next _ write.1.is_write in
    record { unsettled = write.0; next = subst (IsNextToWrite c.pairs callback.page) (sym same) write.1.is_next }
due-write c callback page (inr lowering) = let wrong = lowering.1 in absurd (cc)

-- What a write leaves of a page.
keeps-page : (page : ℕ) → KeepsPage (with_dirt page false)
keeps-page page b = go (b.page == page) where
  go : (t : Bool) → (cond t (record b { is_dirty = false }) b).page ≡ b.page
  go true = refl
  go false = refl

read-after : {X : Type 0} (get : Buffer → X) (page : ℕ) → ((b : Buffer) → get (with_dirt page false b) ≡ get b) → (found : Option Buffer) (d : X) → option_map_or get (option_map (with_dirt page false) found) d ≡ option_map_or get found d
read-after get page keeps None d = refl
read-after get page keeps (Some b) d = keeps b

dirty-before : (page other : ℕ) (found : Option Buffer) → IfSome found (λ b. b.page ≡ other) → option_map_or (λ (b : Buffer). b.is_dirty) (option_map (with_dirt page false) found) false ≡ true → (option_map_or (λ (b : Buffer). b.is_dirty) found false ≡ true) × (other == page ≡ false)
dirty-before page other None of dirty = absurd (cc)
dirty-before page other (Some b) of dirty = go (b.page == page) refl dirty where
  go : (t : Bool) → (b.page == page) ≡ t → (cond t (record b { is_dirty = false }) b).is_dirty ≡ true → (b.is_dirty ≡ true) × (other == page ≡ false)
  go true same dirty = absurd (cc)
  go false differs dirty = (dirty, subst (λ p. (p == page) ≡ false) of differs)

module _ (held : List Buffer) (page other : ℕ) where
  -- A page that is dirty after it was dirty before, and is another.
  pub still-dirty : is_dirty_in (map (with_dirt page false) held) other ≡ true → (is_dirty_in held other ≡ true) × (other == page ≡ false)
  still-dirty dirty =
      dirty-before page other (buffer_of held other) (buffer_of-page held other)
      (ap (λ found. option_map_or (λ (b : Buffer). b.is_dirty) found false) (sym (buffer_of-map (with_dirt page false) (keeps-page page) held other)) ∙ dirty)

  pub pin-stays : is_pinned_in (map (with_dirt page false) held) other ≡ is_pinned_in held other
  pin-stays =
      ap (λ found. option_map_or (λ (b : Buffer). b.is_pinned) found false) (buffer_of-map (with_dirt page false) (keeps-page page) held other)
      ∙ read-after (λ (b : Buffer). b.is_pinned) page keeps (buffer_of held other) false where
        keeps : (b : Buffer) → (with_dirt page false b).is_pinned ≡ b.is_pinned
        keeps b = go (b.page == page) where
          go : (t : Bool) → (cond t (record b { is_dirty = false }) b).is_pinned ≡ b.is_pinned
          go true = refl
          go false = refl

  pub level-stays : level_in (map (with_dirt page false) held) other ≡ level_in held other
  level-stays =
      ap (λ found. option_map_or (λ (b : Buffer). b.level) found Free) (buffer_of-map (with_dirt page false) (keeps-page page) held other)
      ∙ read-after (λ (b : Buffer). b.level) page keeps (buffer_of held other) Free where
        keeps : (b : Buffer) → (with_dirt page false b).level ≡ b.level
        keeps b = go (b.page == page) where
          go : (t : Bool) → (cond t (record b { is_dirty = false }) b).level ≡ b.level
          go true = refl
          go false = refl

-- The write is due: the page is clean after it, and its pairs end.
module _ (c : CacheState) (callback : Callback) (page : ℕ) (is : IsCache c) (write : IsDueWrite c callback.page page) where
  pub write-dirty : is_dirty_in c.held page ≡ true
  write-dirty = next-dirty c is callback.page page write.unsettled write.next

  pub write-due : is_due c (write_for callback page) ≡ true
  write-due = rw (write-dirty, next-free c is callback.page page write.next) refl

  pub write-done : after_writing c callback page ≡ after_write c page Written
  write-done = rw (write-dirty, next-free c is callback.page page write.next) refl

  pub cache-after : IsCache (after_writing c callback page)
  cache-after = subst IsCache (sym write-done) (cache-written c page is)
