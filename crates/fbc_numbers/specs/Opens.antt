-- What legal histories keep of the number of each open transaction: it stands apart from all that is over.
use Rattle.std.specs.Prelude.{◌≡◌, ◌<◌, ℕ, true, false, Some}
use Rattle.fbc_kinds.specs.declared.pages.State.TheVariants.{Dead}
use Rattle.fbc_kinds.specs.declared.snapshots.Transaction.{Transaction}
use Rattle.fbc_kinds.specs.Chain.{state_of}
use Rattle.fbc_kinds.specs.Machine.{is_held}
use Rattle.fbc_levels.specs.declared.levels.Level.TheVariants.{Ex}
use Rattle.fbc_world.specs.World.{World}
use Rattle.fbc_legal.specs.Scene.{Scene, number_resource}
use Rattle.fbc_closed_cuts.specs.Cut.{Cut, IsClosedCut, view}
use Rattle.fbc_numbers.specs.Numbers.{is_committed_in}

-- An owner has the number of its open transaction in EX.
abbrev pub OpensAreHeld : World → Type 0
OpensAreHeld w = (owner : ℕ) (t : Transaction) → w.transaction owner ≡ Some t → w.granted owner (number_resource t.number) ≡ Ex

-- No view of a closed cut shows an open number as dead.
abbrev pub OpensAreNotDead : World → Type 0
OpensAreNotDead w = (owner : ℕ) (t : Transaction) (cut : Cut) → w.transaction owner ≡ Some t → IsClosedCut w cut → ¬ (state_of (view w cut) t.number ≡ Dead)

-- The file shows no open number as committed.
abbrev pub OpensAreOutOfFile : World → Type 0
OpensAreOutOfFile w = (owner : ℕ) (t : Transaction) → w.transaction owner ≡ Some t → is_committed_in w.kept t.number ≡ false

-- The snapshot of a transaction holds its own number, which is above 0.
pub record HoldsOwnNumber (t : Transaction) : Type 0 where
  pub held : is_held t.snapshot t.number ≡ true
  pub above : 0 < t.number

abbrev pub SnapshotsHoldOwn : World → Type 0
SnapshotsHoldOwn w = (owner : ℕ) (t : Transaction) → w.transaction owner ≡ Some t → HoldsOwnNumber t

-- All of this at once.
pub record OpensStandApart (at : Scene) : Type 0 where
  pub held : OpensAreHeld at.world
  pub not_dead : OpensAreNotDead at.world
  pub out_of_file : OpensAreOutOfFile at.world
  pub own : SnapshotsHoldOwn at.world
