-- The step that a want gives is due.
use Rattle.std.proofs.Common.{◌≡◌, ◌↔◌, ℕ, Bool, true, false, not, ◌==◌, ◌||◌, if◌then◌else◌, length, Option, Some, None, is_some, subst, refl, arith}
use Rattle.std.specs.Option.{option_map_or}
use Rattle.fbc_levels.specs.declared.levels.Level.TheVariants.{Ex, Free}
use Rattle.fbc_world.specs.declared.asks.Ask.{Ask}
use Rattle.fbc_world.specs.declared.asks.Ask.TheVariants as ask
use Rattle.fbc_world.specs.declared.asks.Cause.TheVariants.{Evict}
use Rattle.fbc_levels.specs.Resources.{page_resource}
use Rattle.fbc_buffers.specs.declared.buffers.Buffer.{Buffer}
use Rattle.fbc_buffers.specs.Holding.{AreApart, buffer_of, is_waiting, victim_of}
use Rattle.fbc_cache.specs.declared.needs.Need.{Need}
use Rattle.fbc_cache.specs.declared.needs.Want.{Want}
use Rattle.fbc_cache.specs.declared.needs.Want.TheVariants.{Here, Must}
use Rattle.fbc_cache.specs.Cache.{CacheState, IsBuffer, IsCache}
use Rattle.fbc_cache.specs.Wants.{IsDueWant, IsHere, MayGiveUp, MayWant, Wants, WantsBuffer, WantsBy, is_due, is_idle, is_lowering_due, is_pinned_below, is_unread, lock_for, suffices, want_held}
use Rattle.fbc_precedence.specs.Search.{is_blocked}
use Rattle.fbc_cache.proofs.GivesUp.{due-giving}
use Rattle.fbc_cache.proofs.Headers.{is_buffer-found}
use Rattle.fbc_cache.proofs.Low.{low-held}
use Rattle.fbc_cache.proofs.Victims.{any-none, is_victim, none-waits}

-- A page that is held, clean and not in use is given up.
idle-lowers : (c : CacheState) (page : ℕ) (b : Buffer) → buffer_of c.held page ≡ Some b → is_idle b ≡ true → is_blocked c.pairs page ≡ false → is_lowering_due c page Free ≡ true
idle-lowers c page b found idle free = rw (found, idle, free) refl

-- The four things that a page with a buffer comes to.
chosen : (c : CacheState) (need : Need) (waits does valid : Bool) → (waits ≡ false → does ≡ false → is_lowering_due c need.page Free ≡ true) → (waits ≡ false → does ≡ true → valid ≡ false → option_map_or is_unread (buffer_of c.held need.page) false ≡ true) → IsDueWant c (if waits then Must ask.Look else if not does then Must (ask.Lower (page_resource need.page) Free) else if valid then Here else Must (ask.Read need.page))
chosen c need true does valid lowers reads = refl
chosen c need false false valid lowers reads = lowers refl refl
chosen c need false true true lowers reads = tt
chosen c need false true false lowers reads = reads refl refl refl

module _ (c : CacheState) (need : Need) (is : IsCache c) (may : MayWant c need) where
  module _ (b : Buffer) (found : buffer_of c.held need.page ≡ Some b) where
    known : IsBuffer c.shape b
    known = rw found at (is_buffer-found c.shape c.held need.page is.buffers)

    -- A level that does not do is not EX, so the page is clean.
    not-low : suffices b.level need.level ≡ false → is_blocked c.pairs need.page ≡ false
    not-low less = go (is_blocked c.pairs need.page) refl where
      go : (t : Bool) → is_blocked c.pairs need.page ≡ t → t ≡ false
      go true low = let held : b.level ≡ Ex = rw found at (low-held c.held c.pairs need.page is.pairs low) in absurd (grind (arith, held, less))
      go false low = refl

    unpinned : is_pinned_below need.level b ≡ false
    unpinned = rw found at may.unpinned

    idle : is_waiting b ≡ false → suffices b.level need.level ≡ false → is_idle b ≡ true
    idle granted less = grind (arith, granted, less, known.dirty, unpinned)

    unread : is_waiting b ≡ false → (is_some b.copy || need.fresh) ≡ false → option_map_or is_unread (buffer_of c.held need.page) false ≡ true
    unread granted invalid = rw found (grind (arith, granted, invalid))

    due-held : IsDueWant c (want_held need b)
    due-held =
        chosen c need (is_waiting b) (suffices b.level need.level) (is_some b.copy || need.fresh)
        (λ granted less. idle-lowers c need.page b found (idle granted less) (not-low less))
        (λ granted does invalid. unread granted invalid)

  module _ (apart : AreApart c.held) (absent : buffer_of c.held need.page ≡ None) where
    -- A page that gives its buffer up is held and not in use.
    may-give_up : (victim : ℕ) → victim_of c.held ≡ Some victim → MayGiveUp c victim Free
    may-give_up victim chosen' =
        let v = is_victim c.held victim apart (none-waits c need apart may absent) chosen' in
        record { granted = rw v.found (grind (arith, v.granted)); loose = rw v.found v.loose; usable = refl; part = refl }

    due-lock : (length c.held == c.room) ≡ false → is_due c (lock_for need) ≡ true
    due-lock space = rw (absent, space, may.level, any-none is_waiting c.held (none-waits c need apart may absent)) refl

    due-buffer : (full : Bool) (want : Want) → (length c.held == c.room) ≡ full → WantsBuffer c need full want → IsDueWant c want
    due-buffer true want full evicts = rw evicts.is_asked (due-giving c is evicts.victim (Evict need.page) Free evicts.asked (may-give_up evicts.victim evicts.is_victim) evicts.is_due)
    due-buffer false want space is_lock = rw is_lock (due-lock space)

  -- What a need comes to is due.
  pub due-wants : AreApart c.held → (want : Want) → Wants c need want → IsDueWant c want
  due-wants apart want wants = go (buffer_of c.held need.page) refl wants where
    go : (found : Option Buffer) → buffer_of c.held need.page ≡ found → WantsBy c need found want → IsDueWant c want
    go (Some b) found is_held = rw is_held (due-held b found)
    go None absent wants' = due-buffer apart absent (length c.held == c.room) want refl wants'

-- A page may be used exactly where it is held in a level that does, and is valid.
here-chosen : (page : ℕ) (waits does valid : Bool) → (if waits then Must ask.Look else if not does then Must (ask.Lower (page_resource page) Free) else if valid then Here else Must (ask.Read page)) ≡ Here → (waits ≡ false) × (does ≡ true) × (valid ≡ true)
here-chosen page true does valid is = absurd (cc)
here-chosen page false false valid is = absurd (cc)
here-chosen page false true true is = (refl, refl, refl)
here-chosen page false true false is = absurd (cc)

module _ (c : CacheState) (need : Need) where
  here-held : (b : Buffer) → buffer_of c.held need.page ≡ Some b → (want_held need b ≡ Here) ↔ IsHere c need
  here-held b found = (used, usable) where
    used : want_held need b ≡ Here → IsHere c need
    used is =
        let may = here-chosen need.page (is_waiting b) (suffices b.level need.level) (is_some b.copy || need.fresh) is in
        record { buffer = b; found = found; granted = grind (arith, may.0); level = may.1; valid = may.2 }

    usable : IsHere c need → want_held need b ≡ Here
    usable h =
        let same : h.buffer ≡ b = grind (arith, found, h.found) in
        subst (λ x. want_held need x ≡ Here) same (rw (h.granted, h.level, h.valid) refl)

  here-absent : buffer_of c.held need.page ≡ None → (want : Want) (asked : Ask) → want ≡ Must asked → (want ≡ Here) ↔ IsHere c need
  here-absent absent want asked is = (λ here. absurd (cc), λ h. absurd (let found : buffer_of c.held need.page ≡ Some h.buffer = h.found in cc))

  here-buffer : buffer_of c.held need.page ≡ None → (full : Bool) (want : Want) → WantsBuffer c need full want → (want ≡ Here) ↔ IsHere c need
  here-buffer absent true want evicts = here-absent absent want evicts.asked evicts.is_asked
  here-buffer absent false want is = here-absent absent want (lock_for need) is

  pub here-wants : (want : Want) → Wants c need want → (want ≡ Here) ↔ IsHere c need
  here-wants want wants = go (buffer_of c.held need.page) refl wants where
    go : (found : Option Buffer) → buffer_of c.held need.page ≡ found → WantsBy c need found want → (want ≡ Here) ↔ IsHere c need
    go (Some b) found is = rw is (here-held b found)
    go None absent wants' = here-buffer absent (length c.held == c.room) want wants'
