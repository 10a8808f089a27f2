-- After a legal history nobody waits to begin a transaction but who has just asked for its number.
use Rattle.std.proofs.Common.{◌≡◌, ◌∙◌, ◌⊎◌, inl, inr, ℕ, Bool, true, false, ◌&&◌, [], ◌∷◌, None, sym, refl}
use Rattle.fbc_kinds.specs.declared.shapes.Shape.{Shape}
use Rattle.fbc_kinds.specs.View.{View}
use Rattle.fbc_levels.specs.declared.levels.Level.{Level}
use Rattle.fbc_levels.specs.declared.levels.Level.TheVariants.{Ex}
use Rattle.fbc_levels.specs.declared.resources.Resource.{Resource}
use Rattle.fbc_levels.specs.declared.resources.Series.{Series}
use Rattle.fbc_levels.specs.declared.resources.Series.TheVariants as series
use Rattle.fbc_levels.specs.Levels.{is_exclusive}
use Rattle.fbc_levels.specs.LockState.{wait_of}
use Rattle.fbc_levels.specs.Resources.{is_same_series}
use Rattle.fbc_lock_table.specs.Effects.{entered}
use Rattle.fbc_legal.specs.Circles.{HasJustAsked}
use Rattle.fbc_legal.specs.Guards.{Guard, GuardOfAsk, GuardOfSeries}
use Rattle.fbc_legal.specs.Legal.{ComesNext, IsGrantOf, IsLegal}
use Rattle.fbc_legal.specs.Ranks.{MayWaitFor}
use Rattle.fbc_legal.specs.Scene.{Scene, scene_of}
use Rattle.fbc_legal.proofs.Asking.{ComesTo, ask-comes}
use Rattle.fbc_legal.proofs.Ranked.{granted_next}
use Rattle.fbc_legal.proofs.Waiters.{granted_waits_not, waits_free, waits_in}
use Rattle.fbc_world.specs.declared.events.Act.{Act}
use Rattle.fbc_world.specs.declared.events.Act.TheVariants.{Ask}
use Rattle.fbc_world.specs.History.{History, Moment, happens}
use Rattle.fbc_world.specs.Locks.{locks_of, locks_step}
use Rattle.fbc_world.proofs.WorldLaws.{IsReplayed-world}
use Rattle.fbc_region.proofs.Begins.{IsBeginAct, IsBeginOf, begins_in, begins_step, begins_wait}

-- Who has the header pinned does not wait for a number.
pub no_wait : (at : Scene) (owner : ℕ) (kind : Series) (key : ℕ) (level : Level) (word : ℕ) → is_same_series kind series.Transaction && is_exclusive level ≡ true → GuardOfSeries at owner kind key level word
    → MayWaitFor at owner kind key → ⊥
no_wait at owner series.Transaction key Ex word high g up = let no : false ≡ true = sym (up 0) ∙ g.header in cc
no_wait at owner series.Transaction key _ word high g up = cc
no_wait at owner _ key level word high g up = cc

module _ (owner : ℕ) (resource : Resource) where
  -- What was asked with nobody in the way is waited for no more after the next moment.
  no_more : (before : History) (moment : Moment) → ComesNext before moment → HasJustAsked before owner resource → waits_in (locks_of (moment ∷ before)) owner resource ≡ true → ⊥
  no_more [] moment follows just waits = just
  no_more (last ∷ rest) moment follows just waits =
      let grant : IsGrantOf owner resource just.level moment =
      granted_next rest owner resource just.level last.event.actor last.event.act just.wait just.word moment just.actor just.act just.free follows in
      granted_waits_not owner resource (entered (locks_of (last ∷ rest)).requests owner resource 0) just.level (rw (grant.actor, grant.act) at waits)

  module _ (shape : Shape) (file : View) (before : History) (actor : ℕ) (landed : Bool) where
    abbrev at : Scene
    at = scene_of shape file before

    by_ask : (r : Resource) (level : Level) (wait : Bool) (word : ℕ) → GuardOfAsk at actor r level wait word → IsBeginOf owner resource actor r level
        → waits_in (locks_step (locks_of before) actor (Ask r level wait word)) owner resource ≡ true → HasJustAsked (happens actor (Ask r level wait word) landed ∷ before) owner resource
    by_ask r level wait word g (its, same, high) waits = go (ask-comes actor resource (locks_of before) r level wait word (waits_free actor resource (locks_of before) free) (rw (sym its) at waits)) where
      locks_is : at.world.locks ≡ locks_of before
      locks_is = (IsReplayed-world shape file before).locks_is

      free : wait_of (locks_of before) actor ≡ None
      free = rw locks_is at g.free

      go : ComesTo actor resource (locks_of before) r level wait word → HasJustAsked (happens actor (Ask r level wait word) landed ∷ before) owner resource
      go (ComesTo.at_once answer) = record { level = level; wait = wait; word = word; actor = its; act = rw same refl; free = rw (← its, ← same) answer }
      go (ComesTo.in_queue answer closes) =
          absurd (no_wait at actor r.series r.key level word (rw (← same) at high) g.asked (g.upward (rw (← locks_is) at answer) (rw (← locks_is) at closes)))

    by_act : (act : Act) → Guard at actor act → IsBeginAct owner resource (locks_of before) actor act → waits_in (locks_step (locks_of before) actor act) owner resource ≡ true
        → HasJustAsked (happens actor act landed ∷ before) owner resource
    by_act (Ask r level wait word) g asks waits = by_ask r level wait word g asks waits
    by_act _ g asks waits = absurd asks

  pub begins_told : (shape : Shape) (file : View) (history : History) → IsLegal shape file history → begins_in (locks_of history) owner resource ≡ true → HasJustAsked history owner resource
  begins_told shape file [] legal is = absurd cc
  begins_told shape file (moment ∷ before) legal is =
      go (begins_step owner resource (locks_of before) moment.event.actor moment.event.act is) (begins_told shape file before legal.0) where
        waits : waits_in (locks_of (moment ∷ before)) owner resource ≡ true
        waits = begins_wait owner resource (locks_of (moment ∷ before)) is

        go : (begins_in (locks_of before) owner resource ≡ true) ⊎ IsBeginAct owner resource (locks_of before) moment.event.actor moment.event.act
            → (begins_in (locks_of before) owner resource ≡ true → HasJustAsked before owner resource) → HasJustAsked (moment ∷ before) owner resource
        go (inl was) told = absurd (no_more before moment legal.1.follows (told was) waits)
        go (inr asks) told = by_act shape file before moment.event.actor moment.landed moment.event.act legal.1.guard asks waits
