-- The write that a want gives is legal: the cache is full.
use Rattle.std.proofs.Common.{◌≡◌, inl, inr, ℕ, Bool, true, false, not, ◌==◌, if◌then◌else◌, length, Option, Some, None, refl, sym, subst, arith}
use Rattle.std.proofs.lemmas.Bool.Decides.{nat_tests}
use Rattle.fbc_kinds.specs.declared.shapes.Shape.{Shape}
use Rattle.fbc_kinds.specs.View.{View}
use Rattle.fbc_levels.specs.declared.levels.Level.TheVariants.{Free}
use Rattle.fbc_levels.specs.LockState.{request_of}
use Rattle.fbc_precedence.specs.Precedence.{IsNextToWrite}
use Rattle.fbc_world.specs.declared.asks.Ask.TheVariants as ask
use Rattle.fbc_world.specs.declared.asks.Cause.{Cause}
use Rattle.fbc_world.specs.declared.asks.Cause.TheVariants.{Evict}
use Rattle.fbc_world.specs.History.{History}
use Rattle.fbc_levels.specs.Resources.{page_resource}
use Rattle.fbc_world.specs.World.{world_of}
use Rattle.fbc_legal.specs.Causes.{IsFullFor}
use Rattle.fbc_legal.specs.Guards.{GuardOfWrite}
use Rattle.fbc_legal.specs.Legal.{IsLegal}
use Rattle.fbc_legal.specs.Scene.{scene_of}
use Rattle.fbc_buffers.specs.declared.buffers.Buffer.{Buffer}
use Rattle.fbc_buffers.specs.Holding.{buffer_of}
use Rattle.fbc_cache.specs.declared.needs.Need.{Need}
use Rattle.fbc_cache.specs.declared.needs.Want.TheVariants.{Here, Must}
use Rattle.fbc_cache.specs.Cache.{CacheState, IsCache}
use Rattle.fbc_cache.specs.Giving.{GivesUp}
use Rattle.fbc_cache.specs.Wants.{Evicts, Wants, WantsBuffer, WantsBy}
use Rattle.fbc_fit.specs.Fit.{Fits}
use Rattle.fbc_fit.proofs.DueLocks.{none_asked}
use Rattle.fbc_fit.proofs.GivingUp.{next_guard}
use Rattle.fbc_fit.proofs.Shown.{buffer-asked}

-- A page that has a buffer comes to no write.
held-writes_not : (page next : ℕ) (cause : Cause) (waits does valid : Bool) → (if waits then Must ask.Look else if not does then Must (ask.Lower (page_resource page) Free) else if valid then Here else Must (ask.Read page)) ≡ Must (ask.Write next cause) → ⊥
held-writes_not page next cause true does valid is = absurd (cc)
held-writes_not page next cause false false valid is = absurd (cc)
held-writes_not page next cause false true true is = absurd (cc)
held-writes_not page next cause false true false is = absurd (cc)

module _ (shape : Shape) (file : View) (history : History) (owner : ℕ) (c : CacheState) (legal : IsLegal shape file history) (is : IsCache c) (fits : Fits shape (world_of shape file history) owner c) (need : Need) where
  full_for : buffer_of c.held need.page ≡ None → (length c.held == c.room) ≡ true → IsFullFor (scene_of shape file history) owner need.page
  full_for absent full = record {
    full = grind (arith, nat_tests, full, fits.count, fits.room);
    absent = none_asked (buffer_of c.held need.page) (request_of (world_of shape file history).locks owner (page_resource need.page)) (rw absent refl) (buffer-asked _ _ (buffer_of c.held need.page) (fits.pages need.page).lock);
  }

  module _ (next : ℕ) (cause : Cause) where
    evicting : IsFullFor (scene_of shape file history) owner need.page → Evicts c need (Must (ask.Write next cause)) → GuardOfWrite (scene_of shape file history) owner next cause
    evicting full evicts = given evicts.is_due where
      asked : evicts.asked ≡ ask.Write next cause
      asked = let is_asked = evicts.is_asked in cc

      given : GivesUp c evicts.victim (Evict need.page) Free evicts.asked → GuardOfWrite (scene_of shape file history) owner next cause
      given (inl unsettled) =
          let write = unsettled.1.is_write in
          let reason : Evict need.page ≡ cause = cc in
          let same : unsettled.1.next ≡ next = cc in
          subst (λ why. GuardOfWrite (scene_of shape file history) owner next why) reason
          (next_guard shape file history owner c legal is fits evicts.victim next (Evict need.page) unsettled.0 (subst (IsNextToWrite c.pairs evicts.victim) same unsettled.1.is_next) full)
      given (inr settled) = absurd (let lower = settled.1 in cc)

    by_buffer : (found : Option Buffer) → buffer_of c.held need.page ≡ found → WantsBy c need found (Must (ask.Write next cause)) → GuardOfWrite (scene_of shape file history) owner next cause
    by_buffer (Some b) found wants = absurd (held-writes_not need.page next cause _ _ _ (sym wants))
    by_buffer None absent wants = by_room (length c.held == c.room) refl wants where
      by_room : (full : Bool) → (length c.held == c.room) ≡ full → WantsBuffer c need full (Must (ask.Write next cause)) → GuardOfWrite (scene_of shape file history) owner next cause
      by_room true full evicts = evicting (full_for absent full) evicts
      by_room false space locks = absurd (cc)

    pub wanted_write : Wants c need (Must (ask.Write next cause)) → GuardOfWrite (scene_of shape file history) owner next cause
    wanted_write wants = by_buffer (buffer_of c.held need.page) refl wants
