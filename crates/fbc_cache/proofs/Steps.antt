-- What a cache is after each step that is due.
use Rattle.std.proofs.Common.{◌≡◌, ℕ, ◌<◌, ◌==◌, Bool, true, false, not, ◌&&◌, ◌||◌, List, [], ◌∷◌, ◌++◌, map, length, Option, Some, None, IfSome, is_none, refl, ap, arith}
use Rattle.std.proofs.lemmas.Bool.Decides.{nat_tests}
use Rattle.std.specs.List.{filter, list_any}
use Rattle.std.specs.Option.{option_map_or}
use Rattle.fbc_kinds.specs.declared.pages.Page.{Page}
use Rattle.fbc_kinds.specs.Edits.{IsWithinLimits}
use Rattle.fbc_levels.specs.declared.levels.Level.{Level}
use Rattle.fbc_levels.specs.Levels.{is_free, is_page_level}
use Rattle.fbc_precedence.specs.Precedence.{is_without}
use Rattle.fbc_buffers.specs.declared.buffers.Buffer.{Buffer}
use Rattle.fbc_buffers.specs.Holding.{AreApart, IsHolding, buffer_of, granted_buffer, granted_wait, is_waiting, touched, waiting_buffer, with_blocking, with_copy, with_dirt, with_level, with_pin, without}
use Rattle.fbc_cache.specs.Cache.{CacheState, IsCache, is_granted_in, level_in}
use Rattle.fbc_cache.specs.Wants.{is_idle, is_lock_due, is_lowering_due, is_part, is_unread}
use Rattle.fbc_precedence.specs.Search.{is_blocked}
use Rattle.fbc_cache.proofs.Buffers.{granted-is, waiting-is}
use Rattle.fbc_cache.proofs.Changes.{Holds, cache-holds, holds-cache, holds-granted, holds-level, holds-mark, holds-pin, holds-push, holds-read, holds-touched, holds-withdrawn, holds-without, holds-written, idle-clean}

-- What is true where a lock is due.
record LockIsDue (c : CacheState) (page : ℕ) (level : Level) : Type 0 where
  absent : buffer_of c.held page ≡ None
  room : length c.held == c.room ≡ false
  fits : is_page_level level ≡ true
  alone : list_any is_waiting c.held ≡ false

lock-due : (c : CacheState) (page : ℕ) (level : Level) → is_lock_due c page level ≡ true → LockIsDue c page level
lock-due c page level due =
    let four : (is_none (buffer_of c.held page) ≡ true) × (length c.held == c.room ≡ false) × (is_page_level level ≡ true) × (list_any is_waiting c.held ≡ false) =
    parts (is_none (buffer_of c.held page)) (length c.held == c.room) (is_page_level level) (list_any is_waiting c.held) due in
    record { absent = none (buffer_of c.held page) four.0; room = four.1; fits = four.2; alone = four.3 } where
      parts : (s t u v : Bool) → (s && not t && u && not v) ≡ true → (s ≡ true) × (t ≡ false) × (u ≡ true) × (v ≡ false)
      parts s t u v all = grind (arith, all)

      none : (found : Option Buffer) → is_none found ≡ true → found ≡ None
      none None is = refl
      none (Some b) is = absurd (cc)

pub lock-room : (c : CacheState) (page : ℕ) (level : Level) → is_lock_due c page level ≡ true → IsHolding (record { room = c.room; held = c.held }) → length c.held < c.room
lock-room c page level due holding = grind (arith, nat_tests, holding.few, (lock-due c page level due).room)

pub cache-locked : (c : CacheState) (page : ℕ) (level : Level) → is_lock_due c page level ≡ true → IsCache c → IsCache (record c { held = c.held ++ granted_buffer page level ∷ [] })
cache-locked c page level due is =
    let d : LockIsDue c page level = lock-due c page level due in
    cache-holds _ (holds-push c.shape c.held c.pairs (holds-cache c is) (granted_buffer page level) d.absent d.alone (granted-is c.shape page level d.fits))

pub cache-queued : (c : CacheState) (page : ℕ) (level : Level) → is_lock_due c page level ≡ true → IsCache c → IsCache (record c { held = c.held ++ waiting_buffer page level ∷ [] })
cache-queued c page level due is =
    let d : LockIsDue c page level = lock-due c page level due in
    cache-holds _ (holds-push c.shape c.held c.pairs (holds-cache c is) (waiting_buffer page level) d.absent d.alone (waiting-is c.shape page level d.fits))

-- What is true where a lowering is due.
record LoweringIsDue (c : CacheState) (page : ℕ) (level : Level) : Type 0 where
  idle : option_map_or is_idle (buffer_of c.held page) false ≡ true
  low : is_blocked c.pairs page ≡ false
  fits : (is_free level || is_page_level level) ≡ true

lowering-due : (c : CacheState) (page : ℕ) (level : Level) → is_lowering_due c page level ≡ true → LoweringIsDue c page level
lowering-due c page level due =
    let three : (option_map_or is_idle (buffer_of c.held page) false ≡ true) × (is_blocked c.pairs page ≡ false) × ((is_free level || is_page_level level) ≡ true) =
    parts (option_map_or is_idle (buffer_of c.held page) false) (is_blocked c.pairs page) (is_free level || is_page_level level) (is_part level (level_in c.held page)) due in
    record { idle = three.0; low = three.1; fits = three.2 } where
      parts : (s t u v : Bool) → (s && not t && u && v) ≡ true → (s ≡ true) × (t ≡ false) × (u ≡ true)
      parts s t u v all = grind (arith, all)

pub cache-given_up : (c : CacheState) (page : ℕ) (level : Level) → is_lowering_due c page level ≡ true → IsCache c → IsCache (record c { held = without page c.held })
cache-given_up c page level due is =
    let d : LoweringIsDue c page level = lowering-due c page level due in
    cache-holds _ (holds-without c.shape c.held c.pairs (holds-cache c is) page (idle-clean c.held page d.idle) d.low)

pub cache-lowered : (c : CacheState) (page : ℕ) (level : Level) → is_free level ≡ false → is_lowering_due c page level ≡ true → AreApart c.held → IsCache c → IsCache (record c { held = map (with_blocking page false) (map (with_level page level) c.held) })
cache-lowered c page level held due apart is =
    let d : LoweringIsDue c page level = lowering-due c page level due in
    let fits : is_page_level level ≡ true = grind (arith, held, d.fits) in
    let lower : Holds c.shape (map (with_level page level) c.held) c.pairs = holds-level c.shape c.held c.pairs (holds-cache c is) page level apart d.idle d.low fits in
    cache-holds _ (holds-mark c.shape (map (with_level page level) c.held) c.pairs lower page false)

-- Other pointer pages are remembered before.
pub cache-read : (before c : CacheState) (pointers : List (List ℕ)) → c ≡ record before { pointers = pointers } → (page : ℕ) (shown : Option Page) → option_map_or is_unread (buffer_of before.held page) false ≡ true → IfSome shown (IsWithinLimits before.shape) → AreApart before.held → IsCache c → IsCache (record c { held = map (with_copy page shown) c.held })
cache-read before c pointers same page shown unread limits apart is =
    let held : c.held ≡ before.held = ap (λ (s : CacheState). s.held) same in
    let shape : c.shape ≡ before.shape = ap (λ (s : CacheState). s.shape) same in
    cache-holds _ (holds-read c.shape c.held c.pairs (holds-cache c is) page shown (rw held apart) (rw held unread) (rw shape limits))

pub cache-written : (c : CacheState) (page : ℕ) → IsCache c → IsCache (record c { held = map (with_dirt page false) c.held; pairs = filter (is_without page) c.pairs })
cache-written c page is = cache-holds _ (holds-written c.shape c.held c.pairs (holds-cache c is) page)

pub cache-granted : (c : CacheState) → IsCache c → IsCache (record c { held = map granted_wait c.held })
cache-granted c is = cache-holds _ (holds-granted c.shape c.held c.pairs (holds-cache c is))

pub cache-withdrawn : (c : CacheState) → IsCache c → IsCache (record c { held = filter (λ b. not (is_waiting b)) c.held })
cache-withdrawn c is = cache-holds _ (holds-withdrawn c.shape c.held c.pairs (holds-cache c is))

pub cache-pinned : (c : CacheState) (page : ℕ) → is_granted_in c.held page ≡ true → AreApart c.held → IsCache c → IsCache (record c { held = touched page (map (with_pin page true) c.held) })
cache-pinned c page granted apart is =
    cache-holds _ (holds-touched c.shape (map (with_pin page true) c.held) c.pairs (holds-pin c.shape c.held c.pairs (holds-cache c is) page apart granted) page)
