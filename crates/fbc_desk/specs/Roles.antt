-- Whether a page is of the kind and place that is due.
use Rattle.std.specs.Prelude.{◌==◌, not, if◌then◌else◌, Option, Some, None}
use Rattle.fbc_kinds.specs.declared.rules.Rule.{Rule}
use Rattle.fbc_kinds.specs.declared.rules.Rule.TheVariants as rule
use Rattle.fbc_cache.specs.declared.readers.Place.{Place}

-- The first rule that a page breaks by standing elsewhere than is due.
abbrev pub misplaced : Place → Place → Option Rule
misplaced found due =
    if not (found.kind == due.kind) then Some rule.Kind
    else if not (found.relation == due.relation) then Some rule.Relation
    else if not (found.sequence == due.sequence) then Some rule.Sequence
    else None
