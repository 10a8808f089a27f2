-- Where every open transaction goes on, no transaction of the machine ends.
use Rattle.std.proofs.Common.{◌≡◌, ℕ, Bool, true, false, List, [], ◌∷◌, Option, Some, None, map, refl, subst}
use Rattle.std.specs.Prelude.{Contains}
use Rattle.fbc_kinds.specs.declared.shapes.Shape.{Shape}
use Rattle.fbc_kinds.specs.declared.snapshots.Transaction.{Transaction}
use Rattle.fbc_kinds.specs.Machine.{is_open, is_open_of, open_transaction}
use Rattle.fbc_kinds.specs.Meaning.{IsSameOpen}
use Rattle.fbc_kinds.specs.View.{View}
use Rattle.fbc_version_edits.proofs.Finds.{none_passes}
use Rattle.fbc_runs.specs.Ended.{ended_by, is_owner_of, settled_by}
use Rattle.fbc_runs.proofs.EndedOnes.{closed_stays, is_own, living_stays, with_same}
use Rattle.fbc_runs.proofs.Numbers.{first_in, later_in}
use Rattle.fbc_world.specs.History.{History}
use Rattle.fbc_legal.specs.Scene.{Scene, scene_of}
use Rattle.fbc_numbers.specs.Numbers.{OpenNumbersStand}
use Rattle.fbc_numbers.proofs.CutFacts.{clash}
use Rattle.fbc_simulation.specs.Newest.{opens_at}
use Rattle.fbc_simulation.specs.Simulated.{OpensAreTheSame, machine_at}
use Rattle.fbc_simulation.proofs.LivingOwners.{lives_of}
use Rattle.fbc_simulation.proofs.OpensListed.{open-listed}

all_stay : {X : Type 0} (f : X → X) (xs : List X) → ((x : X) → Contains xs x → f x ≡ x) → map f xs ≡ xs
all_stay f [] each = refl
all_stay f (x ∷ xs) each = rw (each x (first_in x xs), all_stay f xs (λ y at. each y (later_in x xs y at))) refl

module _ (shape : Shape) (file : View) (past : History) (stand : OpenNumbersStand (scene_of shape file past).world) (same : OpensAreTheSame (scene_of shape file past)) where
  abbrev at : Scene
  at = scene_of shape file past

  -- The owner of each open transaction of the machine goes on.
  goes_on : (owner : ℕ) → ¬ (open_transaction (machine_at at) owner ≡ None) → is_owner_of (opens_at at) owner ≡ true
  goes_on owner some = go (at.world.transaction owner) refl (open_transaction (machine_at at) owner) refl (same owner) where
    go : (mine : Option Transaction) → at.world.transaction owner ≡ mine → (theirs : Option Transaction) → open_transaction (machine_at at) owner ≡ theirs → IsSameOpen mine theirs → is_owner_of (opens_at at) owner ≡ true
    go mine is None found alike = absurd (some found)
    go None is (Some u) found alike = absurd alike
    go (Some t) is (Some u) found alike = subst (λ who. is_owner_of (opens_at at) who ≡ true) (stand owner t is).own (lives_of (opens_at at) t (open-listed shape file past stand owner t is))

  stays : (commits : ℕ → Bool) (t : Transaction) → Contains (machine_at at).transactions t → ended_by (opens_at at) commits t ≡ t
  stays commits t there = go (is_open t.standing) refl where
    go : (b : Bool) → is_open t.standing ≡ b → ended_by (opens_at at) commits t ≡ t
    go false closed = closed_stays (opens_at at) commits t closed
    go true opened =
        living_stays (opens_at at) commits t
        (goes_on t.owner (λ none. absurd (clash (is_open_of t.owner t) (is_own t.owner t opened refl) (none_passes (is_open_of t.owner) (machine_at at).transactions t none there))))

  pub whole-machine : (commits : ℕ → Bool) → settled_by (opens_at at) commits (machine_at at) ≡ machine_at at
  whole-machine commits = with_same (machine_at at) _ _ (all_stay (ended_by (opens_at at) commits) (machine_at at).transactions (stays commits))
