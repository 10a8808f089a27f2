use Rattle.std.proofs.Common.{◌≡◌, map, take}
use Rattle.serde_json.specs.View.{view}
use Rattle.fbc_report.specs.Values.{lost_cell_data}
use Rattle.fbc_report.proofs.json_report.lost_cell_values.Given as goal

-- The values so far.
abbrev pub invariant-loop-page : goal.invariant-loop-page
invariant-loop-page l = map view l.values.items ≡ map lost_cell_data (take l.page-index l.cells)
