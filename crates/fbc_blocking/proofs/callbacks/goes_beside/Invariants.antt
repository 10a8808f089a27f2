use Rattle.std.proofs.Common.{◌≡◌, take, true}
use Rattle.std.specs.List.{list_all, filter_map}
use Rattle.fbc_levels.specs.Levels.{is_compatible}
use Rattle.fbc_blocking.specs.Callbacks.{wanted_by}
use Rattle.fbc_blocking.proofs.callbacks.goes_beside.Given as goal

abbrev pub invariant-loop-k : goal.invariant-loop-k
invariant-loop-k l =
    list_all (is_compatible l.level) (filter_map (wanted_by l.owner l.page) (take l.k l.table.requests)) ≡ true
