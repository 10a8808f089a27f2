-- Every buffer stays one through each change.
use Rattle.std.proofs.Common.{◌≡◌, ℕ, Bool, true, false, not, ◌&&◌, cond, List, [], ◌∷◌, ◌++◌, map, Option, Some, None, IfSome, is_none, is_some, unwrap_or, refl, arith}
use Rattle.std.proofs.lemmas.Bool.Decides.{nat_tests}
use Rattle.std.specs.List.{AllByRecursion, filter}
use Rattle.std.specs.Option.{option_map_or}
use Rattle.fbc_kinds.specs.declared.pages.Page.{Page}
use Rattle.fbc_kinds.specs.declared.shapes.Shape.{Shape}
use Rattle.fbc_kinds.specs.Edits.{IsWithinLimits}
use Rattle.fbc_levels.specs.declared.levels.Level.{Level}
use Rattle.fbc_levels.specs.declared.levels.Level.TheVariants.{Ex, Free}
use Rattle.fbc_buffers.specs.declared.buffers.Buffer.{Buffer}
use Rattle.fbc_buffers.specs.Holding.{AreApart, buffer_of, granted_buffer, granted_wait, is_of, touched, waiting_buffer, with_blocking, with_copy, with_dirt, with_level, with_pin, without}
use Rattle.fbc_cache.specs.Cache.{HasCopy, HasLevel, IsBuffer}
use Rattle.fbc_levels.specs.Levels.{is_page_level}
use Rattle.fbc_cache.specs.Wants.{is_idle, is_unread}
use Rattle.fbc_cache.proofs.Lists.{all-append, all-both, all-filter, all-map}

-- A page that is not found has no buffer.
none_at : (q : Buffer → Bool) (page : ℕ) (held : List Buffer) → buffer_of held page ≡ None → AllByRecursion (λ b. is_of page b ≡ true → q b ≡ true) held
none_at q page [] none = tt
none_at q page (b ∷ bs) none = grind (arith, nat_tests, none, none_at q page bs)

-- What is true of the buffer that is found of a page is true of each that is of this page.
pub at_page : (q : Buffer → Bool) (page : ℕ) (held : List Buffer) → AreApart held → option_map_or q (buffer_of held page) false ≡ true → AllByRecursion (λ b. is_of page b ≡ true → q b ≡ true) held
at_page q page [] apart is = tt
at_page q page (b ∷ bs) apart is = grind (arith, nat_tests, apart.0, is, none_at q page bs, at_page q page bs apart.1)

module _ (shape : Shape) where
  -- All that a cache says of its buffers.
  abbrev pub AreBuffers : List Buffer → Type 0
  AreBuffers held = AllByRecursion (IsBuffer shape) held

  -- A change that keeps each buffer one.
  abbrev pub Keeps : (Buffer → Buffer) → Type 0
  Keeps f = (b : Buffer) → IsBuffer shape b → IsBuffer shape (f b)

  pub buffers-map : (f : Buffer → Buffer) → Keeps f → (held : List Buffer) → AreBuffers held → AreBuffers (map f held)
  buffers-map f keeps held all = all-map (IsBuffer shape) (IsBuffer shape) f keeps held all

  pub buffers-filter : (p : Buffer → Bool) (held : List Buffer) → AreBuffers held → AreBuffers (filter p held)
  buffers-filter p held all = all-filter (IsBuffer shape) (IsBuffer shape) p (λ b passes is. is) held all

  pub buffers-push : (held : List Buffer) (b : Buffer) → AreBuffers held → IsBuffer shape b → AreBuffers (held ++ b ∷ [])
  buffers-push held b all is = all-append (IsBuffer shape) held (b ∷ []) all (is, tt)

  pub buffers-touched : (page : ℕ) (held : List Buffer) → AreBuffers held → AreBuffers (touched page held)
  buffers-touched page held all =
      all-append (IsBuffer shape) (without page held) (filter (is_of page) held) (buffers-filter (λ b. not (is_of page b)) held all) (buffers-filter (is_of page) held all)

  -- A change of the buffers of a page, where what is found of it passes a test.
  pub buffers-at : (q : Buffer → Bool) (page : ℕ) (f : Buffer → Buffer) → ((b : Buffer) → (is_of page b ≡ true → q b ≡ true) → IsBuffer shape b → IsBuffer shape (f b)) → (held : List Buffer) → AreApart held → option_map_or q (buffer_of held page) false ≡ true → AreBuffers held → AreBuffers (map f held)
  buffers-at q page f keeps held apart is all =
      all-map (λ b. IsBuffer shape b × (is_of page b ≡ true → q b ≡ true)) (IsBuffer shape) f (λ b both. keeps b both.1 both.0) held
      (all-both (IsBuffer shape) (λ b. is_of page b ≡ true → q b ≡ true) held all (at_page q page held apart is))

  -- No more in use, and the mark.
  pub unpin-keeps : (page : ℕ) → Keeps (with_pin page false)
  unpin-keeps page b is = go (is_of page b) where
    go : (t : Bool) → IsBuffer shape (cond t (record b { is_pinned = false }) b)
    go true = record { level = is.level; copy = is.copy; dirty = is.dirty; pinned = λ passes. absurd (cc) }
    go false = is

  pub mark-keeps : (page : ℕ) (blocking : Bool) → Keeps (with_blocking page blocking)
  mark-keeps page blocking b is = go (is_of page b) where
    go : (t : Bool) → IsBuffer shape (cond t (record b { is_blocking = blocking }) b)
    go true = record { level = is.level; copy = is.copy; dirty = is.dirty; pinned = is.pinned }
    go false = is

  -- Written.
  pub clean-keeps : (page : ℕ) → Keeps (with_dirt page false)
  clean-keeps page b is = go (is_of page b) where
    go : (t : Bool) → IsBuffer shape (cond t (record b { is_dirty = false }) b)
    go true = record { level = is.level; copy = is.copy; dirty = λ passes. absurd (cc); pinned = is.pinned }
    go false = is

  -- In use, where it is held.
  pub pin-keeps : (page : ℕ) (b : Buffer) → (is_of page b ≡ true → is_none b.wanted ≡ true) → IsBuffer shape b → IsBuffer shape (with_pin page true b)
  pin-keeps page b granted is = go (is_of page b) granted where
    wanted-none : (wanted : Option Level) → is_none wanted ≡ true → wanted ≡ None
    wanted-none None none = refl
    wanted-none (Some level) none = absurd (cc)

    go : (t : Bool) → (t ≡ true → is_none b.wanted ≡ true) → IsBuffer shape (cond t (record b { is_pinned = true }) b)
    go true granted = record { level = is.level; copy = is.copy; dirty = is.dirty; pinned = λ passes. wanted-none b.wanted (granted refl) }
    go false granted = is

  -- Granted after a wait.
  pub grant-keeps : Keeps granted_wait
  grant-keeps b is = record {
    level = has_level b.level b.wanted is.level;
    copy = has_copy b.wanted b.copy is.copy;
    dirty = λ dirt. (in_ex b.level b.wanted is.level (is.dirty dirt).0, (is.dirty dirt).1);
    pinned = λ pin. refl;
  } where
    has_level : (level : Level) (wanted : Option Level) → HasLevel level wanted → is_page_level (unwrap_or wanted level) ≡ true
    has_level level None fits = fits
    has_level level (Some wanted) fits = fits.1

    has_copy : (wanted : Option Level) (copy : Option Page) → HasCopy shape wanted copy → HasCopy shape None copy
    has_copy wanted None fits = tt
    has_copy wanted (Some content) fits = (refl, fits.1)

    in_ex : (level : Level) (wanted : Option Level) → HasLevel level wanted → level ≡ Ex → unwrap_or wanted level ≡ Ex
    in_ex level None fits ex = ex
    in_ex level (Some wanted) fits ex =
        let free : level ≡ Free = fits.0 in
        absurd (cc)

  -- In a lower level, where it is not in use.
  pub level-keeps : (page : ℕ) (level : Level) → is_page_level level ≡ true → (b : Buffer) → (is_of page b ≡ true → is_idle b ≡ true) → IsBuffer shape b → IsBuffer shape (with_level page level b)
  level-keeps page level fits b idle is = go (is_of page b) idle where
    has_level : (wanted : Option Level) (dirty pinned : Bool) → (is_none wanted && not dirty && not pinned) ≡ true → HasLevel level wanted
    has_level None dirty pinned idle = fits
    has_level (Some wanted) dirty pinned idle = absurd (cc)

    not_dirty : (none dirty pinned : Bool) → (none && not dirty && not pinned) ≡ true → dirty ≡ true → ⊥
    not_dirty none dirty pinned idle dirt = grind (arith, idle, dirt)

    go : (t : Bool) → (t ≡ true → is_idle b ≡ true) → IsBuffer shape (cond t (record b { level = level }) b)
    go true idle = record {
      level = has_level b.wanted b.is_dirty b.is_pinned (idle refl);
      copy = is.copy;
      dirty = λ passes. absurd (not_dirty (is_none b.wanted) b.is_dirty b.is_pinned (idle refl) passes);
      pinned = is.pinned;
    }
    go false idle = is

  -- Read, where it was not.
  pub read-keeps : (page : ℕ) (shown : Option Page) → IfSome shown (IsWithinLimits shape) → (b : Buffer) → (is_of page b ≡ true → is_unread b ≡ true) → IsBuffer shape b → IsBuffer shape (with_copy page shown b)
  read-keeps page shown limits b unread is = go (is_of page b) unread where
    has_copy : (wanted : Option Level) (copy shown : Option Page) → (is_none wanted && is_none copy) ≡ true → IfSome shown (IsWithinLimits shape) → HasCopy shape wanted shown
    has_copy wanted copy None unread limits = tt
    has_copy None copy (Some content) unread limits = (refl, limits)
    has_copy (Some wanted) copy (Some content) unread limits = absurd (cc)

    no_copy : (wanted : Option Level) (copy : Option Page) → (is_none wanted && is_none copy) ≡ true → is_some copy ≡ true → ⊥
    no_copy wanted copy unread valid = grind (arith, unread, valid)

    go : (t : Bool) → (t ≡ true → is_unread b ≡ true) → IsBuffer shape (cond t (record b { copy = shown }) b)
    go true unread = record {
      level = is.level;
      copy = has_copy b.wanted b.copy shown (unread refl) limits;
      dirty = λ passes. absurd (no_copy b.wanted b.copy (unread refl) (is.dirty passes).1);
      pinned = is.pinned;
    }
    go false unread = is

  -- New, held or waited for.
  pub granted-is : (page : ℕ) (level : Level) → is_page_level level ≡ true → IsBuffer shape (granted_buffer page level)
  granted-is page level fits = record { level = fits; copy = tt; dirty = λ passes. absurd (cc); pinned = λ passes. refl }

  pub waiting-is : (page : ℕ) (level : Level) → is_page_level level ≡ true → IsBuffer shape (waiting_buffer page level)
  waiting-is page level fits = record { level = (refl, fits); copy = tt; dirty = λ passes. absurd (cc); pinned = λ passes. absurd (cc) }
