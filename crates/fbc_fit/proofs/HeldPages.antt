-- What stands of a page of which the grant was learnt.
use Rattle.std.proofs.Common.{◌≡◌, ◌∙◌, ◌⊎◌, inl, inr, ap, ℕ, Bool, true, false, ◌&&◌, Option, Some, None, IfSome, is_none, refl, sym, arith}
use Rattle.std.specs.Option.{option_and_then, option_map_or}
use Rattle.fbc_kinds.specs.declared.pages.Page.{Page}
use Rattle.fbc_kinds.specs.declared.shapes.Shape.{Shape}
use Rattle.fbc_levels.specs.declared.levels.Level.{Level}
use Rattle.fbc_levels.specs.declared.levels.Level.TheVariants.{Ex, Free, Pr}
use Rattle.fbc_levels.specs.Resources.{page_resource}
use Rattle.fbc_world.specs.World.{World}
use Rattle.fbc_levels.specs.Levels.{is_page_level}
use Rattle.fbc_buffers.specs.declared.buffers.Buffer.{Buffer}
use Rattle.fbc_buffers.specs.Holding.{buffer_of}
use Rattle.fbc_cache.specs.Cache.{CacheState, HasLevel, IsBuffer, IsCache, is_granted_in, level_in}
use Rattle.fbc_cache.specs.Wants.{is_unread}
use Rattle.fbc_cache.proofs.HeldPairs.{found-is}
use Rattle.fbc_fit.specs.Fit.{Fits}
use Rattle.fbc_fit.proofs.HeldLevels.{held_usable}
use Rattle.fbc_fit.proofs.Shown.{granted-is}

-- A page that is held in EX waits for nothing.
not_wanted : (level : Level) (wanted : Option Level) → HasLevel level wanted → level ≡ Ex → is_none wanted ≡ true
not_wanted level None has exclusive = refl
not_wanted level (Some wanted) has exclusive = absurd (let no : Free ≡ Ex = sym has.0 ∙ exclusive in cc)

exclusive-granted : (shape : Shape) (found : Option Buffer) → IfSome found (IsBuffer shape) → option_map_or (λ (b : Buffer). b.level) found Free ≡ Ex → option_map_or (λ (b : Buffer). is_none b.wanted) found false ≡ true
exclusive-granted shape None is exclusive = absurd (cc)
exclusive-granted shape (Some b) is exclusive = not_wanted b.level b.wanted is.level exclusive

-- A page that is read when that is due.
unread-granted : (found : Option Buffer) → option_map_or is_unread found false ≡ true → option_map_or (λ (b : Buffer). is_none b.wanted) found false ≡ true
unread-granted None due = absurd (cc)
unread-granted (Some b) due = grind (arith, due)

none_is : (copy : Option Page) → is_none copy ≡ true → copy ≡ None
none_is None is = refl
none_is (Some content) is = absurd (cc)

second : (s t : Bool) → (s && t) ≡ true → t ≡ true
second s t both = grind (arith, both)

pub unread-none : (found : Option Buffer) → option_map_or is_unread found false ≡ true → option_and_then (λ (b : Buffer). b.copy) found ≡ None
unread-none None due = refl
unread-none (Some b) due = none_is b.copy (second (is_none b.wanted) (is_none b.copy) due)

-- The levels in which a page may be used.
pub usable-is : (level : Level) → is_page_level level ≡ true → (level ≡ Pr) ⊎ (level ≡ Ex)
usable-is Pr is = inl refl
usable-is Ex is = inr refl
usable-is _ is = absurd (cc)

module _ (shape : Shape) (w : World) (owner : ℕ) (c : CacheState) (is : IsCache c) (fits : Fits shape w owner c) (page : ℕ) where
  found_buffer : IfSome (buffer_of c.held page) (IsBuffer c.shape)
  found_buffer = found-is (IsBuffer c.shape) c.held page is.buffers

  pub level-is : is_granted_in c.held page ≡ true → w.granted owner (page_resource page) ≡ level_in c.held page
  level-is granted = granted-is (w.granted owner (page_resource page)) _ (buffer_of c.held page) (fits.pages page).lock granted

  pub granted-usable : is_granted_in c.held page ≡ true → is_page_level (w.granted owner (page_resource page)) ≡ true
  granted-usable granted = ap is_page_level (level-is granted) ∙ held_usable c.shape (buffer_of c.held page) found_buffer granted

  pub may-use : is_granted_in c.held page ≡ true → (w.granted owner (page_resource page) ≡ Pr) ⊎ (w.granted owner (page_resource page) ≡ Ex)
  may-use granted = usable-is (w.granted owner (page_resource page)) (granted-usable granted)

  pub exclusive-is : level_in c.held page ≡ Ex → w.granted owner (page_resource page) ≡ Ex
  exclusive-is exclusive = level-is (exclusive-granted c.shape (buffer_of c.held page) found_buffer exclusive) ∙ exclusive

  pub unread-usable : option_map_or is_unread (buffer_of c.held page) false ≡ true → is_granted_in c.held page ≡ true
  unread-usable due = unread-granted (buffer_of c.held page) due
