use Rattle.std.proofs.Common.{◌≡◌, take}
use Rattle.fbc_apply.proofs.copies.copied_relations.Given as goal

abbrev pub invariant-loop-entry : goal.invariant-loop-entry
invariant-loop-entry l = l.copies ≡ take l.entry-index l.entries
