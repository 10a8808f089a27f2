use Rattle.std.proofs.Common.{◌≡◌, take}
use Rattle.fbc_files.specs.NewPages.{new_entries}
use Rattle.fbc_files.proofs.new_pages.new_entries.Given as goal

abbrev pub invariant-loop-i : goal.invariant-loop-i
invariant-loop-i l = l.entries.items ≡ new_entries 3 (take l.i l.relations)
