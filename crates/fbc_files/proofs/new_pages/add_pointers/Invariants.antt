use Rattle.std.proofs.Common.{◌≡◌, ◌++◌, map}
use Rattle.std.specs.List.{range_with_len}
use Rattle.fbc_files.specs.NewPages.{pointer_page}
use Rattle.fbc_files.proofs.new_pages.add_pointers.Given as goal

abbrev pub invariant-loop-relation : goal.invariant-loop-relation
invariant-loop-relation l = l.pages.items ≡ l.initial.pages.items ++ map (pointer_page l.size) (range_with_len 0 l.relation)
