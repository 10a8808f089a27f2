-- Where the lock of a page is due, its owner may ask for it.
use Rattle.std.proofs.Common.{◌≡◌, ℕ, ◌<◌, ◌≤◌, Bool, true, false, not, ◌&&◌, ◌==◌, length, Option, None, Some, is_none, is_some, refl, arith}
use Rattle.std.proofs.lemmas.Bool.Decides.{nat_tests}
use Rattle.std.specs.List.{list_any}
use Rattle.fbc_kinds.specs.declared.shapes.Shape.{Shape}
use Rattle.fbc_levels.specs.declared.levels.Level.{Level}
use Rattle.fbc_levels.specs.declared.resources.Request.{Request}
use Rattle.fbc_levels.specs.LockState.{request_of}
use Rattle.fbc_world.specs.Holdings.{holdings_of}
use Rattle.fbc_levels.specs.Resources.{page_resource}
use Rattle.fbc_world.specs.World.{World}
use Rattle.fbc_buffers.specs.declared.buffers.Buffer.{Buffer}
use Rattle.fbc_buffers.specs.Holding.{buffer_of, is_waiting}
use Rattle.fbc_cache.specs.Cache.{CacheState}
use Rattle.fbc_levels.specs.Levels.{is_page_level}
use Rattle.fbc_cache.specs.Wants.{is_lock_due}
use Rattle.fbc_fit.specs.Fit.{Fits}
use Rattle.fbc_fit.proofs.Shown.{buffer-asked}

-- What a lock that is due tells.
pub record IsDue (c : CacheState) (page : ℕ) : Type 0 where
  pub absent : is_none (buffer_of c.held page) ≡ true
  pub room : (length c.held == c.room) ≡ false
  pub alone : list_any is_waiting c.held ≡ false

parts : (s t u v : Bool) → (s && not t && u && not v) ≡ true → (s ≡ true) × (t ≡ false) × (v ≡ false)
parts true false true false all = (refl, refl, refl)
parts true false true true all = absurd (cc)
parts true false false v all = absurd (cc)
parts true true u v all = absurd (cc)
parts false t u v all = absurd (cc)

pub due-is : (c : CacheState) (page : ℕ) (level : Level) → is_lock_due c page level ≡ true → IsDue c page
due-is c page level due =
    let all = parts (is_none (buffer_of c.held page)) (length c.held == c.room) (is_page_level level) (list_any is_waiting c.held) due in
    record { absent = all.0; room = all.1; alone = all.2 }

-- The page has no buffer, and no page is waited for.
pub due-new : (c : CacheState) (page : ℕ) (level : Level) → is_lock_due c page level ≡ true → buffer_of c.held page ≡ None
due-new c page level due = go (buffer_of c.held page) (due-is c page level due).absent where
  go : (found : Option Buffer) → is_none found ≡ true → found ≡ None
  go None none = refl
  go (Some b) none = absurd (cc)

pub due-alone : (c : CacheState) (page : ℕ) (level : Level) → is_lock_due c page level ≡ true → list_any is_waiting c.held ≡ false
due-alone c page level due = (due-is c page level due).alone

pub none_asked : (found : Option Buffer) (asked : Option Request) → is_none found ≡ true → is_some found ≡ is_some asked → asked ≡ None
none_asked None None absent same = refl
none_asked None (Some r) absent same = absurd (cc)
none_asked (Some b) asked absent same = absurd (cc)

module _ (shape : Shape) (w : World) (owner : ℕ) (c : CacheState) (fits : Fits shape w owner c) (page : ℕ) (due : IsDue c page) where
  pub not_asked : request_of w.locks owner (page_resource page) ≡ None
  not_asked = none_asked (buffer_of c.held page) (request_of w.locks owner (page_resource page)) due.absent (buffer-asked _ _ (buffer_of c.held page) (fits.pages page).lock)

  pub has_room : (holdings_of w owner).count ≤ (holdings_of w owner).buffers → (holdings_of w owner).count < (holdings_of w owner).buffers
  has_room few = grind (arith, nat_tests, few, due.room, fits.count, fits.room)
