use Rattle.std.proofs.Common.{◌≡◌, map, take}
use Rattle.serde_json.specs.View.{view}
use Rattle.fbc_report.specs.Values.{damage_data}
use Rattle.fbc_report.proofs.json_report.damage_values.Given as goal

-- The values so far.
abbrev pub invariant-loop-page : goal.invariant-loop-page
invariant-loop-page l = map view l.values.items ≡ map damage_data (take l.page-index l.damages)
