-- What a cache is stays so through the changes of its buffers.
use Rattle.std.proofs.Common.{◌≡◌, ℕ, ◌≤◌, Bool, true, false, not, ◌&&◌, List, [], ◌∷◌, ◌++◌, map, Option, Some, None, IfSome, is_none, refl, arith}
use Rattle.std.proofs.lemmas.Grind.{common_steps}
use Rattle.std.specs.List.{filter, list_any}
use Rattle.std.specs.Option.{option_map_or}
use Rattle.fbc_kinds.specs.declared.edges.Edge.{Edge}
use Rattle.fbc_kinds.specs.declared.pages.Page.{Page}
use Rattle.fbc_kinds.specs.declared.shapes.Shape.{Shape}
use Rattle.fbc_kinds.specs.Edits.{IsWithinLimits}
use Rattle.fbc_levels.specs.declared.levels.Level.{Level}
use Rattle.fbc_precedence.specs.Precedence.{is_without}
use Rattle.fbc_buffers.specs.declared.buffers.Buffer.{Buffer}
use Rattle.fbc_buffers.specs.Holding.{AreApart, buffer_of, granted_wait, is_of, is_waiting, touched, with_blocking, with_copy, with_dirt, with_level, with_pin, without}
use Rattle.fbc_cache.specs.Cache.{CacheState, IsBuffer, IsCache, is_dirty_in, is_granted_in}
use Rattle.fbc_levels.specs.Levels.{is_page_level}
use Rattle.fbc_cache.specs.Wants.{is_idle, is_unread}
use Rattle.fbc_precedence.specs.Search.{is_blocked}
use Rattle.fbc_cache.proofs.Buffers.{AreBuffers, buffers-at, buffers-filter, buffers-map, buffers-push, buffers-touched, clean-keeps, grant-keeps, level-keeps, mark-keeps, pin-keeps, read-keeps, unpin-keeps}
use Rattle.fbc_cache.proofs.Waiting.{KeepsWait, waits, waits-append, waits-filter, waits-granted, waits-map, waits-none, waits-touched}
use Rattle.fbc_cache.proofs.HeldPairs.{ArePairs, KeepOthers, KeepsHeld, keep-granted, keep-map, keep-push, keep-touched, keep-withdrawn, others-map, others-without, pairs-cleared, pairs-keep, pairs-others}

-- What an invariant says of the buffers and the pairs.
pub record Holds (shape : Shape) (held : List Buffer) (order : List Edge) : Type 0 where
  pub buffers : AreBuffers shape held
  pub one_wait : waits held ≤ 1
  pub pairs : ArePairs held order

pub holds-cache : (c : CacheState) → IsCache c → Holds c.shape c.held c.pairs
holds-cache c is = record { buffers = is.buffers; one_wait = is.one_wait; pairs = is.pairs }

pub cache-holds : (c : CacheState) → Holds c.shape c.held c.pairs → IsCache c
cache-holds c holds = record { buffers = holds.buffers; one_wait = holds.one_wait; pairs = holds.pairs }

-- An idle page is clean.
pub idle-clean : (held : List Buffer) (page : ℕ) → option_map_or is_idle (buffer_of held page) false ≡ true → is_dirty_in held page ≡ false
idle-clean held page idle = go (buffer_of held page) idle where
  parts : (s t u : Bool) → (s && not t && not u) ≡ true → t ≡ false
  parts s t u all = grind (arith, all)

  go : (found : Option Buffer) → option_map_or is_idle found false ≡ true → option_map_or (λ (b : Buffer). b.is_dirty) found false ≡ false
  go None idle = refl
  go (Some b) idle = parts (is_none b.wanted) b.is_dirty b.is_pinned idle

module _ (shape : Shape) (held : List Buffer) (pairs : List Edge) (is : Holds shape held pairs) where
  -- A change that keeps level, wait and dirt, where each buffer stays one.
  changed : (f : Buffer → Buffer) → KeepsHeld f → KeepsWait f → AreBuffers shape (map f held) → Holds shape (map f held) pairs
  changed f keeps wait buffers = record {
    buffers = buffers;
    one_wait = omega (arith, waits-map f wait held, is.one_wait);
    pairs = pairs-keep held (map f held) (keep-map f keeps held) pairs is.pairs;
  }

  pin-held : (page : ℕ) (pinned : Bool) → KeepsHeld (with_pin page pinned)
  pin-held page pinned = record { page = λ b. grind (arith); level = λ b. grind (arith); dirty = λ b. grind (arith) }

  mark-held : (page : ℕ) (blocking : Bool) → KeepsHeld (with_blocking page blocking)
  mark-held page blocking = record { page = λ b. grind (arith); level = λ b. grind (arith); dirty = λ b. grind (arith) }

  pub holds-unpin : (page : ℕ) → Holds shape (map (with_pin page false) held) pairs
  holds-unpin page = changed (with_pin page false) (pin-held page false) (λ b. grind (arith)) (buffers-map shape (with_pin page false) (unpin-keeps shape page) held is.buffers)

  pub holds-mark : (page : ℕ) (blocking : Bool) → Holds shape (map (with_blocking page blocking) held) pairs
  holds-mark page blocking =
      changed (with_blocking page blocking) (mark-held page blocking) (λ b. grind (arith)) (buffers-map shape (with_blocking page blocking) (mark-keeps shape page blocking) held is.buffers)

  pub holds-pin : (page : ℕ) → AreApart held → is_granted_in held page ≡ true → Holds shape (map (with_pin page true) held) pairs
  holds-pin page apart granted =
      changed (with_pin page true) (pin-held page true) (λ b. grind (arith))
      (buffers-at shape (λ b. is_none b.wanted) page (with_pin page true) (pin-keeps shape page) held apart granted is.buffers)

  pub holds-touched : (page : ℕ) → Holds shape (touched page held) pairs
  holds-touched page = record {
    buffers = buffers-touched shape page held is.buffers;
    one_wait = omega (arith, waits-touched page held, is.one_wait);
    pairs = pairs-keep held (touched page held) (keep-touched page held) pairs is.pairs;
  }

  -- A change of one page's buffers, which is the second of no pair and not dirty.
  changed-idle : (page : ℕ) (after : List Buffer) → KeepOthers page held after → is_dirty_in held page ≡ false → is_blocked pairs page ≡ false → waits after ≤ waits held → AreBuffers shape after → Holds shape after pairs
  changed-idle page after keep clean low wait buffers = record {
    buffers = buffers;
    one_wait = omega (arith, wait, is.one_wait);
    pairs = pairs-others page held after keep pairs clean low is.pairs;
  }

  pub holds-without : (page : ℕ) → is_dirty_in held page ≡ false → is_blocked pairs page ≡ false → Holds shape (without page held) pairs
  holds-without page clean low =
      changed-idle page (without page held) (others-without page held) clean low (waits-filter (λ b. not (is_of page b)) held) (buffers-filter shape (λ b. not (is_of page b)) held is.buffers)

  pub holds-level : (page : ℕ) (level : Level) → AreApart held → option_map_or is_idle (buffer_of held page) false ≡ true → is_blocked pairs page ≡ false → is_page_level level ≡ true → Holds shape (map (with_level page level) held) pairs
  holds-level page level apart idle low fits =
      changed-idle page (map (with_level page level) held) (others-map page (with_level page level) (λ b. grind (arith)) (λ b differs. grind (arith, differs)) held) (idle-clean held page idle) low
      (omega (arith, waits-map (with_level page level) (λ b. grind (arith)) held))
      (buffers-at shape is_idle page (with_level page level) (level-keeps shape page level fits) held apart idle is.buffers)

  -- A page is read.
  copy-held : (page : ℕ) (shown : Option Page) → KeepsHeld (with_copy page shown)
  copy-held page shown = record { page = λ b. grind (arith); level = λ b. grind (arith); dirty = λ b. grind (arith) }

  pub holds-read : (page : ℕ) (shown : Option Page) → AreApart held → option_map_or is_unread (buffer_of held page) false ≡ true → IfSome shown (IsWithinLimits shape) → Holds shape (map (with_copy page shown) held) pairs
  holds-read page shown apart unread limits =
      changed (with_copy page shown) (copy-held page shown) (λ b. grind (arith))
      (buffers-at shape is_unread page (with_copy page shown) (read-keeps shape page shown limits) held apart unread is.buffers)

  -- A page is written.
  pub holds-written : (page : ℕ) → Holds shape (map (with_dirt page false) held) (filter (is_without page) pairs)
  holds-written page = record {
    buffers = buffers-map shape (with_dirt page false) (clean-keeps shape page) held is.buffers;
    one_wait = omega (arith, waits-map (with_dirt page false) (λ b. grind (arith)) held, is.one_wait);
    pairs = pairs-cleared page held (map (with_dirt page false) held) (others-map page (with_dirt page false) (λ b. grind (arith)) (λ b differs. grind (arith, differs)) held) pairs is.pairs;
  }

  -- What is waited for is granted, or is waited for no more.
  pub holds-granted : Holds shape (map granted_wait held) pairs
  holds-granted = record {
    buffers = buffers-map shape granted_wait (grant-keeps shape) held is.buffers;
    one_wait = omega (arith, waits-granted held);
    pairs = pairs-keep held (map granted_wait held) (keep-granted shape held is.buffers) pairs is.pairs;
  }

  pub holds-withdrawn : Holds shape (filter (λ b. not (is_waiting b)) held) pairs
  holds-withdrawn = record {
    buffers = buffers-filter shape (λ b. not (is_waiting b)) held is.buffers;
    one_wait = omega (arith, waits-filter (λ b. not (is_waiting b)) held, is.one_wait);
    pairs = pairs-keep held (filter (λ b. not (is_waiting b)) held) (keep-withdrawn shape held is.buffers) pairs is.pairs;
  }

  -- One more buffer.
  pub holds-push : (b : Buffer) → buffer_of held b.page ≡ None → list_any is_waiting held ≡ false → IsBuffer shape b → Holds shape (held ++ b ∷ []) pairs
  holds-push b none alone buffer = record {
    buffers = buffers-push shape held b is.buffers buffer;
    one_wait = grind (arith, common_steps, waits-append held (b ∷ []), waits-none held alone);
    pairs = pairs-keep held (held ++ b ∷ []) (keep-push held b none) pairs is.pairs;
  }
