-- The lowering of a page that is due is legal.
use Rattle.std.proofs.Common.{◌≡◌, inl, inr, ℕ, Bool, true, false, not, ◌&&◌, ◌||◌, refl}
use Rattle.std.specs.Option.{option_map_or}
use Rattle.fbc_kinds.specs.declared.shapes.Shape.{Shape}
use Rattle.fbc_kinds.specs.View.{View}
use Rattle.fbc_levels.specs.declared.levels.Level.{Level}
use Rattle.fbc_levels.specs.Levels.{is_free, is_page_level}
use Rattle.fbc_world.specs.History.{History}
use Rattle.fbc_levels.specs.Resources.{page_resource}
use Rattle.fbc_world.specs.World.{world_of}
use Rattle.fbc_legal.specs.Causes.{MeetsLowering}
use Rattle.fbc_legal.specs.Guards.{GuardOfLower}
use Rattle.fbc_legal.specs.Legal.{IsLegal}
use Rattle.fbc_legal.specs.Scene.{scene_of}
use Rattle.fbc_buffers.specs.Holding.{buffer_of}
use Rattle.fbc_cache.specs.Cache.{CacheState, IsCache, level_in}
use Rattle.fbc_cache.specs.Giving.{IsUnsettled}
use Rattle.fbc_cache.specs.Wants.{MayGiveUp, is_idle, is_lowering_due, is_part}
use Rattle.fbc_precedence.specs.Search.{is_blocked}
use Rattle.fbc_cache.proofs.Low.{path-low}
use Rattle.fbc_fit.specs.Fit.{Fits}
use Rattle.fbc_fit.proofs.GivingUp.{settled_guard}
use Rattle.fbc_fit.proofs.Idle.{IsIdle, idle-clean, idle-granted, idle-loose}

-- What a lowering that is due tells.
record IsDue (c : CacheState) (page : ℕ) (level : Level) : Type 0 where
  idle : IsIdle (buffer_of c.held page)
  free : is_blocked c.pairs page ≡ false
  usable : (is_free level || is_page_level level) ≡ true
  part : is_part level (level_in c.held page) ≡ true

parts : (s t u v : Bool) → (s && not t && u && v) ≡ true → (s ≡ true) × (t ≡ false) × (u ≡ true) × (v ≡ true)
parts true false true true all = (refl, refl, refl, refl)
parts true false true false all = absurd (cc)
parts true false false v all = absurd (cc)
parts true true u v all = absurd (cc)
parts false t u v all = absurd (cc)

due-is : (c : CacheState) (page : ℕ) (level : Level) → is_lowering_due c page level ≡ true → IsDue c page level
due-is c page level due =
    let all = parts (option_map_or is_idle (buffer_of c.held page) false) (is_blocked c.pairs page) (is_free level || is_page_level level) (is_part level (level_in c.held page)) due in
    record { idle = all.0; free = all.1; usable = all.2; part = all.3 }

module _ (c : CacheState) (page : ℕ) (level : Level) (due : IsDue c page level) where
  may-give_up : MayGiveUp c page level
  may-give_up = record {
    granted = idle-granted (buffer_of c.held page) due.idle;
    loose = idle-loose (buffer_of c.held page) due.idle;
    usable = due.usable;
    part = due.part;
  }

  settled : IsUnsettled c page → ⊥
  settled (inl dirty) = absurd (let clean = idle-clean (buffer_of c.held page) due.idle in cc)
  settled (inr blocked) = absurd (let low = path-low c.pairs blocked.0 page blocked.1 in let free = due.free in cc)

pub due_guard : (shape : Shape) (file : View) (history : History) (owner : ℕ) (c : CacheState) → IsLegal shape file history → IsCache c → Fits shape (world_of shape file history) owner c
    → (page : ℕ) (level : Level) → is_lowering_due c page level ≡ true → MeetsLowering (scene_of shape file history) owner page level → GuardOfLower (scene_of shape file history) owner (page_resource page) level
due_guard shape file history owner c legal is fits page level due reason =
    let known = due-is c page level due in
    settled_guard shape file history owner c legal is fits page level (may-give_up c page level known) (settled c page level known) reason
