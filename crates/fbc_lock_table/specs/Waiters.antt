-- How many requests wait.
use Rattle.std.specs.Prelude.{ℕ, Bool, List, is_some}
use Rattle.std.specs.List.{count_by}
use Rattle.fbc_levels.specs.declared.resources.Request.{Request}
use Rattle.fbc_levels.specs.LockState.{LockState}

-- Whether it waits for a level.
abbrev pub is_waiting : Request → Bool
is_waiting r = is_some r.waiting

-- How many of these requests wait.
abbrev pub waiting_of : List Request → ℕ
waiting_of requests = count_by is_waiting requests

-- How many requests of the table wait.
abbrev pub waiters : LockState → ℕ
waiters s = waiting_of s.requests
