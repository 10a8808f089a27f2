use Rattle.std.proofs.Common.{◌≡◌, false}
use Rattle.std.specs.Str.{bytes_eq}
use Rattle.fbc_kinds.specs.Head.{any_below}
use Rattle.fbc_kinds.specs.HeaderSpelling.{entry_at, name_in, relation_count_in, has_bad_name, repeats_name, has_bad_value, has_bad_pointers, has_bad_number}
use Rattle.fbc_pages.proofs.content.any_repeated_name.Given as goal

abbrev pub invariant-loop-i : goal.invariant-loop-i
invariant-loop-i l = any_below (repeats_name l.bytes) l.i ≡ false
