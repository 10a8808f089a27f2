-- What a snapshot tells of numbers.
use Rattle.std.specs.Prelude.{◌==◌, ◌&&◌, ◌||◌, ℕ, Bool, nat_lt, slice_get, unwrap_or}
use Rattle.fbc_kinds.specs.declared.pages.State.{State}
use Rattle.fbc_kinds.specs.declared.pages.State.TheVariants as state
use Rattle.fbc_kinds.specs.declared.snapshots.Snapshot.{Snapshot}
use Rattle.fbc_kinds.specs.View.{is_active_state}

-- The state of a number, active where the snapshot has none.
abbrev pub state_by : Snapshot → ℕ → State
state_by snapshot number = unwrap_or (slice_get snapshot.states number) state.Active

-- Whether it is the own number, or one from 1 on below it that is active.
abbrev pub is_active_or_own : Snapshot → ℕ → Bool
is_active_or_own snapshot number =
    number == snapshot.own || (nat_lt 0 number && nat_lt number snapshot.own && is_active_state (state_by snapshot number))
