use Rattle.std.proofs.Common.{◌≡◌, ◌≤◌, ◌&&◌, ℕ, true, List, length}
use Rattle.std.specs.Prelude.{slice_index, nat_le}
use Rattle.std.specs.List.{list_all}
use Rattle.fbc_kinds.specs.Limits.{name_limit}
use Rattle.fbc_kinds.specs.HeaderSpelling.{is_name, is_letter, is_name_byte}
use Rattle.fbc_kinds.proofs.Heads.{both_pass}
use Rattle.fbc_kinds.proofs.Tests.{at_most}

-- A name has at most 15 bytes.
pub is_name-short : (text : List ℕ) → is_name text ≡ true → length text ≤ 15
is_name-short text is =
    let letters = both_pass (nat_le 1 (length text) && nat_le (length text) name_limit && is_letter (slice_index text 0)) (list_all is_name_byte text) is in
    let begins = both_pass (nat_le 1 (length text) && nat_le (length text) name_limit) (is_letter (slice_index text 0)) letters.0 in
    let long = both_pass (nat_le 1 (length text)) (nat_le (length text) name_limit) begins.0 in
    at_most (length text) name_limit long.1
