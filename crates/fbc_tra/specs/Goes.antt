-- Runs of the desk's calls in which a transaction may begin.
use Rattle.std.specs.Prelude.{◌⊎◌, Some, false}
use Rattle.fbc_kinds.specs.declared.snapshots.Snapshot.{Snapshot}
use Rattle.fbc_desk.specs.Calls.{GoesOn}
use Rattle.fbc_desk.specs.Desk.{DeskState}

-- The desk where a transaction begins with this snapshot.
abbrev pub begun : Snapshot → DeskState → DeskState
begun snapshot d = record d { own = Some (record { snapshot = snapshot; is_raised = false; is_sealed = false }) }

-- A transaction begins once, between two runs of calls.
pub record BeginsAmid (before after : DeskState) : Type 0 where
  pub between : DeskState
  pub snapshot : Snapshot
  pub goes : GoesOn before between
  pub goes_on : GoesOn (begun snapshot between) after

abbrev pub GoesOrBegins : DeskState → DeskState → Type 0
GoesOrBegins before after = GoesOn before after ⊎ BeginsAmid before after
