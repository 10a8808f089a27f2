-- What holds of the one-thread machine beside every legal history.
use Rattle.std.specs.Prelude.{ℕ, List}
use Rattle.fbc_kinds.specs.declared.snapshots.Transaction.{Transaction}
use Rattle.fbc_kinds.specs.Machine.{Machine, open_transaction}
use Rattle.fbc_kinds.specs.Meaning.{IsSameOpen, meaning_of, meaning_with}
use Rattle.fbc_runs.specs.Ended.{settled_by}
use Rattle.fbc_runs.specs.Orderly.{IsOrderly}
use Rattle.fbc_runs.specs.Reading.{ReadsAs}
use Rattle.fbc_runs.specs.Runs.{MayAllCome}
use Rattle.fbc_world.specs.Commands.{commands_of}
use Rattle.fbc_legal.specs.Scene.{Scene}
use Rattle.fbc_closed_cuts.specs.Cut.{Cut, IsClosedCut, view}
use Rattle.fbc_simulation.specs.Beside.{AreOpenIn, commits_in, machine_of}

abbrev pub machine_at : Scene → Machine
machine_at at = machine_of at.shape at.file at.past

-- The machine has the open transactions that the owners have.
abbrev pub OpensAreTheSame : Scene → Type 0
OpensAreTheSame at = (owner : ℕ) → IsSameOpen (at.world.transaction owner) (open_transaction (machine_at at) owner)

-- Take some open transactions, and a closed cut that has all drafts of their owners. Its view, where these go on, reads as the machine
-- where they go on, the commits are done whose marks stand in drafts of the cut, and all others are rolled back.
abbrev pub ViewsAreMeant : Scene → Type 0
ViewsAreMeant at = (cut : Cut) (living : List Transaction) → IsClosedCut at.world cut → AreOpenIn at.world cut living
    → ReadsAs (meaning_with living (view at.world cut)) (settled_by living (commits_in at.world cut) (machine_at at))

-- All of this at once: each command could come at its place, too.
pub record IsSimulated (at : Scene) : Type 0 where
  pub comes : MayAllCome (meaning_of at.file) (commands_of at.shape at.file at.past)
  pub orderly : IsOrderly (machine_at at)
  pub opens : OpensAreTheSame at
  pub meant : ViewsAreMeant at
