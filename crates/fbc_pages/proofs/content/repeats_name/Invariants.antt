use Rattle.std.proofs.Common.{◌≡◌, false}
use Rattle.std.specs.Str.{bytes_eq}
use Rattle.fbc_kinds.specs.Head.{any_below}
use Rattle.fbc_kinds.specs.HeaderSpelling.{entry_at, name_in, relation_count_in, has_bad_name, repeats_name, has_bad_value, has_bad_pointers, has_bad_number}
use Rattle.fbc_pages.proofs.content.repeats_name.Given as goal

abbrev pub invariant-loop-j : goal.invariant-loop-j
invariant-loop-j l = any_below (λ k. bytes_eq (name_in (entry_at l.bytes k)) (name_in (entry_at l.bytes l.i))) l.j ≡ false
