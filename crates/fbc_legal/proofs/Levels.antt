-- Levels go beside each other after each event.
use Rattle.std.proofs.Common.{◌≡◌, ◌≢◌, ℕ, Bool, true, false, ◌==◌, ◌&&◌, if◌then◌else◌, refl, sym, ◌∙◌, subst, arith}
use Rattle.std.proofs.lemmas.Bool.Decides.{nat_tests}
use Rattle.fbc_levels.specs.declared.levels.Level.{Level}
use Rattle.fbc_levels.specs.declared.resources.Resource.{Resource}
use Rattle.fbc_levels.specs.Levels.{is_compatible}
use Rattle.fbc_levels.specs.Resources.{is_same_resource}
use Rattle.fbc_lock_table.proofs.Ways.{compatible-sym, either, lower_beside, same_resource}
use Rattle.fbc_world.specs.declared.events.Act.{Act}
use Rattle.fbc_world.specs.declared.events.Act.TheVariants.{Grant, Lower, Opened, Reap, Write, Local}
use Rattle.fbc_world.specs.declared.events.LocalEvent.TheVariants as local
use Rattle.fbc_world.specs.World.{acted}
use Rattle.fbc_legal.specs.Coherent.{IsCoherent, LevelsGoBeside}
use Rattle.fbc_legal.specs.Guards.{Guard}
use Rattle.fbc_legal.specs.Scene.{Scene}
use Rattle.fbc_legal.proofs.Exclusion.{both_of, is_plain, same_number}

-- One owner's level on one resource is another, that goes beside those of others there.
module _ (granted : ℕ → Resource → Level) (beside : (owner other : ℕ) (resource : Resource) → owner ≢ other → is_compatible (granted owner resource) (granted other resource) ≡ true)
    (o : ℕ) (r : Resource) (new : Level) (goes : (other : ℕ) → other ≢ o → is_compatible new (granted other r) ≡ true) where
  key : ℕ → Resource → Bool
  key owner resource = (owner == o) && is_same_resource r resource

  changed : ℕ → Resource → Level
  changed owner resource = if (owner == o) && is_same_resource r resource then new else granted owner resource

  new_beside : (owner other : ℕ) (resource : Resource) → owner ≢ other → (owner == o) && is_same_resource r resource ≡ true → is_compatible new (granted other resource) ≡ true
  new_beside owner other resource apart is =
      let parts = both_of (owner == o) (is_same_resource r resource) is in
      subst (λ (x : Resource). is_compatible new (granted other x) ≡ true) (same_resource r resource parts.1) (goes other (λ e. apart (same_number owner o parts.0 ∙ sym e)))

  pub beside-changed : (owner other : ℕ) (resource : Resource) → owner ≢ other
      → is_compatible (if (owner == o) && is_same_resource r resource then new else granted owner resource) (if (other == o) && is_same_resource r resource then new else granted other resource) ≡ true
  beside-changed owner other resource apart =
      either (λ x y. is_compatible x y ≡ true) new new (granted owner resource) (granted other resource) ((owner == o) && is_same_resource r resource) ((other == o) && is_same_resource r resource)
      (λ a b. apart (same_number owner o (both_of (owner == o) (is_same_resource r resource) a).0 ∙ sym (same_number other o (both_of (other == o) (is_same_resource r resource) b).0)))
      (new_beside owner other resource apart)
      (λ b. compatible-sym (granted owner resource) new ∙ new_beside other owner resource (λ e. apart (sym e)) b)
      (beside owner other resource apart)

module _ (at : Scene) (h : IsCoherent at.world) (owner : ℕ) (landed : Bool) where
  pub beside-acted : (act : Act) → Guard at owner act → is_plain act ≡ true → LevelsGoBeside (acted at.shape at.world owner act landed)
  beside-acted (Opened locks) g plain = λ a b r apart. refl
  beside-acted (Grant resource level) g plain = beside-changed at.world.granted h.beside owner resource level g.beside
  beside-acted (Lower resource level) g plain =
      beside-changed at.world.granted h.beside owner resource level
      (λ other apart. lower_beside (at.world.granted owner resource) level (at.world.granted other resource) g.part (h.beside owner other resource (λ e. apart (sym e))))
  beside-acted (Reap dead by) g plain = λ a b r apart. grind (arith, nat_tests, h.beside a b r apart)
  beside-acted (Write page reason true) g plain = absurd cc
  beside-acted (Write page reason false) g plain = h.beside
  beside-acted (Local (local.Edit page edit)) g plain = h.beside
  beside-acted (Local (local.Before high low)) g plain = h.beside
  beside-acted (Local (local.Pin page)) g plain = h.beside
  beside-acted (Local (local.Unpin page)) g plain = h.beside
  beside-acted _ g plain = h.beside
