-- What legal histories keep of numbers, marks and snapshots.
use Rattle.std.specs.Prelude.{◌≡◌, ◌≢◌, ◌⊎◌, ◌<◌, ◌/◌, ◌%◌, ℕ, Bool, true, false, Some, None, is_some}
use Rattle.fbc_kinds.specs.declared.pages.State.TheVariants.{Committed}
use Rattle.fbc_kinds.specs.declared.shapes.Shape.{Shape}
use Rattle.fbc_kinds.specs.declared.snapshots.Standing.TheVariants as standing
use Rattle.fbc_kinds.specs.declared.snapshots.Transaction.{Transaction}
use Rattle.fbc_kinds.specs.Chain.{state_of}
use Rattle.fbc_kinds.specs.Limits.{tip_numbers}
use Rattle.fbc_kinds.specs.Machine.{is_held}
use Rattle.fbc_kinds.specs.View.{View, is_committed_state, next_of, state_in, tip_of}
use Rattle.fbc_levels.specs.declared.levels.Level.TheVariants.{Ex}
use Rattle.fbc_world.specs.Holdings.{is_draft_of}
use Rattle.fbc_levels.specs.Resources.{page_resource}
use Rattle.fbc_world.specs.World.{World, newest_of}
use Rattle.fbc_legal.specs.Scene.{Scene}
use Rattle.fbc_closed_cuts.specs.Cut.{Cut, IsClosedCut, view}

-- Whether a number is committed in a view.
abbrev pub is_committed_in : View → ℕ → Bool
is_committed_in seen number = is_committed_state (state_of seen number)

-- Every page of the one cut is in the other.
abbrev pub IsWithinCut : Cut → Cut → Type 0
IsWithinCut cut wider = (page : ℕ) → cut page ≡ true → wider page ≡ true

-- What is committed in the view of a closed cut is committed in that of each wider one.
abbrev pub CommitsGrow : World → Type 0
CommitsGrow w = (cut wider : Cut) (number : ℕ) → IsClosedCut w cut → IsClosedCut w wider → IsWithinCut cut wider
    → is_committed_in (view w cut) number ≡ true → is_committed_in (view w wider) number ≡ true

-- The header has given the number out: the newest one has, and so has the one in the file, unless its draft is the owner's.
pub record IsRaised (w : World) (owner number : ℕ) : Type 0 where
  pub newest : number < next_of (newest_of w)
  pub in_file : (number < next_of w.kept) ⊎ (is_draft_of owner (w.draft 0) ≡ true)

-- The number is the next one, and the owner has the header pinned in EX.
pub record IsUnraised (w : World) (owner number : ℕ) : Type 0 where
  pub next : number ≡ next_of (newest_of w)
  pub pinned : w.is_pinned owner 0 ≡ true
  pub exclusive : w.granted owner (page_resource 0) ≡ Ex

-- The open transaction of an owner is its own; the owner is alive, and the number given out or the next one.
pub record IsOpenNumber (w : World) (owner : ℕ) (t : Transaction) : Type 0 where
  pub own : t.owner ≡ owner
  pub opened : t.standing ≡ standing.Open
  pub alive : w.is_alive owner ≡ true
  pub begun : IsRaised w owner t.number ⊎ IsUnraised w owner t.number

abbrev pub OpenNumbersStand : World → Type 0
OpenNumbersStand w = (owner : ℕ) (t : Transaction) → w.transaction owner ≡ Some t → IsOpenNumber w owner t

-- Open transactions of different owners have different numbers.
abbrev pub NumbersDiffer : World → Type 0
NumbersDiffer w = (owner other : ℕ) (t u : Transaction) → owner ≢ other → w.transaction owner ≡ Some t → w.transaction other ≡ Some u → t.number ≢ u.number

-- An open transaction that is not marked as committed is not so in the newest pages.
abbrev pub OpensAreUncommitted : World → Type 0
OpensAreUncommitted w = (owner : ℕ) (t : Transaction) → w.transaction owner ≡ Some t → w.marked owner ≡ None → is_committed_in (newest_of w) t.number ≡ false

-- A number that is committed in the newest pages, and not in the file, is an owner's open one that it has marked.
pub record IsMarkedBy (w : World) (owner number : ℕ) : Type 0 where
  pub t : Transaction
  pub open_is : w.transaction owner ≡ Some t
  pub number_is : t.number ≡ number
  pub marked : is_some (w.marked owner) ≡ true

abbrev pub CommitsAreMarked : World → Type 0
CommitsAreMarked w = (number : ℕ) → is_committed_in (newest_of w) number ≡ true → is_committed_in w.kept number ≡ false → (owner : ℕ) × IsMarkedBy w owner number

-- The draft with the mark is the only one of its owner. The file names its page for the number, and the draft shows the number as
-- committed.
pub record IsTrueMark (shape : Shape) (w : World) (owner page : ℕ) (t : Transaction) : Type 0 where
  pub only : (other : ℕ) → is_draft_of owner (w.draft other) ≡ true → other ≡ page
  pub named : tip_of w.kept (t.number / tip_numbers shape.size) ≡ Some page
  pub shows : state_in (newest_of w page) (t.number % tip_numbers shape.size) ≡ Some Committed

abbrev pub MarksAreTrue : Shape → World → Type 0
MarksAreTrue shape w = (owner page : ℕ) (t : Transaction) → w.marked owner ≡ Some page → w.transaction owner ≡ Some t → IsTrueMark shape w owner page t

-- A snapshot holds its own number, and numbers below it that are committed in the file.
abbrev pub IsSnapshotNumber : World → Transaction → ℕ → Type 0
IsSnapshotNumber w t number = (number ≡ t.number) ⊎ ((is_committed_in w.kept number ≡ true) × (number < t.number))

abbrev pub SnapshotsAreTrue : World → Type 0
SnapshotsAreTrue w = (owner : ℕ) (t : Transaction) (number : ℕ) → w.transaction owner ≡ Some t → is_held t.snapshot number ≡ true → IsSnapshotNumber w t number

-- All of this at once.
pub record IsNumbered (at : Scene) : Type 0 where
  pub grow : CommitsGrow at.world
  pub stand : OpenNumbersStand at.world
  pub differ : NumbersDiffer at.world
  pub uncommitted : OpensAreUncommitted at.world
  pub marked : CommitsAreMarked at.world
  pub true_marks : MarksAreTrue at.shape at.world
  pub snapshots : SnapshotsAreTrue at.world
