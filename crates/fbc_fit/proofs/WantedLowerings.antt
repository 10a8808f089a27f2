-- The lowering that a want gives is legal.
use Rattle.std.proofs.Common.{◌≡◌, inl, inr, ℕ, Bool, true, false, not, ◌==◌, if◌then◌else◌, length, Option, Some, None, refl, sym, subst}
use Rattle.fbc_kinds.specs.declared.shapes.Shape.{Shape}
use Rattle.fbc_kinds.specs.View.{View}
use Rattle.fbc_levels.specs.declared.levels.Level.{Level}
use Rattle.fbc_levels.specs.declared.levels.Level.TheVariants.{Free}
use Rattle.fbc_levels.specs.declared.resources.Resource.{Resource}
use Rattle.fbc_world.specs.declared.asks.Ask.TheVariants as ask
use Rattle.fbc_world.specs.declared.asks.Cause.TheVariants.{Evict}
use Rattle.fbc_world.specs.History.{History}
use Rattle.fbc_levels.specs.Resources.{page_resource}
use Rattle.fbc_world.specs.World.{world_of}
use Rattle.fbc_legal.specs.Guards.{GuardOfLower}
use Rattle.fbc_legal.specs.Legal.{IsLegal}
use Rattle.fbc_legal.specs.Scene.{scene_of}
use Rattle.fbc_buffers.specs.declared.buffers.Buffer.{Buffer}
use Rattle.fbc_buffers.specs.Holding.{AreApart, buffer_of}
use Rattle.fbc_cache.specs.declared.needs.Need.{Need}
use Rattle.fbc_cache.specs.declared.needs.Want.TheVariants.{Here, Must}
use Rattle.fbc_cache.specs.Cache.{CacheState, IsCache}
use Rattle.fbc_cache.specs.Giving.{GivesUp}
use Rattle.fbc_cache.specs.Wants.{Evicts, MayWant, Wants, WantsBuffer, WantsBy, is_due}
use Rattle.fbc_cache.proofs.DueWants.{due-wants}
use Rattle.fbc_fit.specs.Fit.{Fits}
use Rattle.fbc_fit.proofs.DueLowerings.{due_guard}

-- A page is given up.
record IsGivingUp (resource : Resource) (level : Level) : Type 0 where
  page : ℕ
  of : resource ≡ page_resource page
  to : level ≡ Free

-- A page that has a buffer is itself given up.
own-lowering : (page : ℕ) (resource : Resource) (level : Level) (waits does valid : Bool) → (if waits then Must ask.Look else if not does then Must (ask.Lower (page_resource page) Free) else if valid then Here else Must (ask.Read page)) ≡ Must (ask.Lower resource level)
    → IsGivingUp resource level
own-lowering page resource level true does valid is = absurd (cc)
own-lowering page resource level false false valid is = record { page = page; of = cc; to = cc }
own-lowering page resource level false true true is = absurd (cc)
own-lowering page resource level false true false is = absurd (cc)

module _ (c : CacheState) (need : Need) (resource : Resource) (level : Level) where
  -- Else the victim is.
  evicting : Evicts c need (Must (ask.Lower resource level)) → IsGivingUp resource level
  evicting evicts = given evicts.is_due where
    asked : evicts.asked ≡ ask.Lower resource level
    asked = let is_asked = evicts.is_asked in cc

    given : GivesUp c evicts.victim (Evict need.page) Free evicts.asked → IsGivingUp resource level
    given (inl unsettled) = absurd (let write = unsettled.1.is_write in cc)
    given (inr settled) =
        let lower = settled.1 in
        record { page = evicts.victim; of = cc; to = cc }

  by_room : (full : Bool) → WantsBuffer c need full (Must (ask.Lower resource level)) → IsGivingUp resource level
  by_room true evicts = evicting evicts
  by_room false locks = absurd (cc)

  by_buffer : (found : Option Buffer) → WantsBy c need found (Must (ask.Lower resource level)) → IsGivingUp resource level
  by_buffer (Some b) wants = own-lowering need.page resource level _ _ _ (sym wants)
  by_buffer None wants = by_room (length c.held == c.room) wants

pub wanted_lowering : (shape : Shape) (file : View) (history : History) (owner : ℕ) (c : CacheState) → IsLegal shape file history → IsCache c → Fits shape (world_of shape file history) owner c
    → (need : Need) → AreApart c.held → MayWant c need → (resource : Resource) (level : Level) → Wants c need (Must (ask.Lower resource level)) → GuardOfLower (scene_of shape file history) owner resource level
wanted_lowering shape file history owner c legal is fits need apart may resource level wants =
    lowered (by_buffer c need resource level (buffer_of c.held need.page) wants) where
      due : is_due c (ask.Lower resource level) ≡ true
      due = due-wants c need is may apart (Must (ask.Lower resource level)) wants

      lowered : IsGivingUp resource level → GuardOfLower (scene_of shape file history) owner resource level
      lowered gives =
          let due' = subst (λ (r : Resource). is_due c (ask.Lower r Free) ≡ true) gives.of (subst (λ (l : Level). is_due c (ask.Lower resource l) ≡ true) gives.to due) in
          rw (gives.of, gives.to) (due_guard shape file history owner c legal is fits gives.page Free due' (inl refl))
