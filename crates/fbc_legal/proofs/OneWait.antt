-- An owner waits for one thing at most, after each event.
use Rattle.std.proofs.Common.{◌≡◌, ◌∙◌, ◌⊎◌, inl, inr, ℕ, true, get_or, sym, arith}
use Rattle.std.specs.List.{AllPairs}
use Rattle.std.proofs.lemmas.Bool.Decides.{nat_tests}
use Rattle.std.proofs.lemmas.List.Folds.{list_any_at}
use Rattle.fbc_levels.specs.declared.resources.Request.{Request}
use Rattle.fbc_levels.specs.declared.resources.Resource.{Resource}
use Rattle.fbc_levels.specs.LockState.{LockState, is_wait_of}
use Rattle.fbc_lock_table.proofs.Pairs.{NotBoth}
use Rattle.fbc_lock_table.proofs.Ways.{same_resource-self}
use Rattle.fbc_world.specs.declared.events.Act.{Act}
use Rattle.fbc_world.specs.declared.events.Act.TheVariants.{Ask}
use Rattle.fbc_world.specs.Locks.{locks_step}
use Rattle.fbc_world.proofs.Apart.{IsApart}
use Rattle.fbc_legal.specs.Guards.{Guard}
use Rattle.fbc_legal.specs.Scene.{Scene}
use Rattle.fbc_legal.proofs.Asking.{IsAskFor, waits-step}
use Rattle.fbc_legal.proofs.Pins.{clash}
use Rattle.fbc_legal.proofs.Waiters.{waits_by, waits_free, waits_in}

abbrev pub WaitForOne : LockState → Type 0
WaitForOne s = (owner : ℕ) (first second : Resource) → waits_in s owner first ≡ true → waits_in s owner second ≡ true → first ≡ second

asks_one : (actor : ℕ) (act : Act) (owner : ℕ) (first second : Resource) → IsAskFor actor act owner first → IsAskFor actor act owner second → first ≡ second
asks_one actor (Ask resource level wait word) owner first second one other = sym one.1 ∙ other.1
asks_one actor _ owner first second one other = absurd one

module _ (at : Scene) (actor : ℕ) where
  -- Who asks waits for nothing yet.
  pub asks_free : (act : Act) → Guard at actor act → (owner : ℕ) (wanted waited : Resource) → IsAskFor actor act owner wanted → waits_in at.world.locks owner waited ≡ true → ⊥
  asks_free (Ask resource level wait word) g owner wanted waited asks waits = clash _ (waits_free actor waited at.world.locks g.free) (rw (sym asks.0) at waits)
  asks_free _ g owner wanted waited asks waits = asks

  pub one-step : (act : Act) → Guard at actor act → WaitForOne at.world.locks → WaitForOne (locks_step at.world.locks actor act)
  one-step act g one owner first second a b = go (waits-step owner first at.world.locks actor act a) (waits-step owner second at.world.locks actor act b) where
    go : (waits_in at.world.locks owner first ≡ true) ⊎ IsAskFor actor act owner first → (waits_in at.world.locks owner second ≡ true) ⊎ IsAskFor actor act owner second → first ≡ second
    go (inl a') (inl b') = one owner first second a' b'
    go (inr a') (inr b') = asks_one actor act owner first second a' b'
    go (inl a') (inr b') = absurd (asks_free act g owner second first b' a')
    go (inr a') (inl b') = absurd (asks_free act g owner first second a' b')

-- So no two requests are waits of one owner.
pub waits_once : (s : LockState) → IsApart s → WaitForOne s → (owner : ℕ) → AllPairs (NotBoth (is_wait_of owner)) s.requests
waits_once s apart one owner i j d below within a b =
    apart i j d below within (sym (owned_same (get_or s.requests i d) a) ∙ owned_same (get_or s.requests j d) b)
    (one owner (get_or s.requests i d).resource (get_or s.requests j d).resource
    (list_any_at (waits_by owner (get_or s.requests i d).resource) s.requests i d (omega (arith, below, within)) (by_own (get_or s.requests i d) a))
    (list_any_at (waits_by owner (get_or s.requests j d).resource) s.requests j d within (by_own (get_or s.requests j d) b))) where
      owned_same : (r : Request) → is_wait_of owner r ≡ true → owner ≡ r.owner
      owned_same r is = grind (arith, nat_tests, is)

      by_own : (r : Request) → is_wait_of owner r ≡ true → waits_by owner r.resource r ≡ true
      by_own r is = grind (arith, is, same_resource-self r.resource)
