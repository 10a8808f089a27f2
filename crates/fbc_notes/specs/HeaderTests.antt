-- What the header of a view shows.
use Rattle.std.specs.Prelude.{◌==◌, ℕ, Bool, false, is_some, nat_lt, Option}
use Rattle.std.specs.Option.{option_map_or}
use Rattle.fbc_kinds.specs.View.{View, inventory_of, next_of, pointer_of, tip_of}

-- Whether the number was found.
abbrev pub is_number : Option ℕ → ℕ → Bool
is_number found number = option_map_or (λ n. n == number) found false

-- Whether the header names this transaction inventory page for the sequence.
abbrev pub names_tip : ℕ → ℕ → View → Bool
names_tip sequence tip view = is_number (tip_of view sequence) tip

-- Whether the header names this pointer page for the sequence of the relation.
abbrev pub names_pointer : ℕ → ℕ → ℕ → View → Bool
names_pointer relation sequence pointer view = is_number (pointer_of view relation sequence) pointer

-- Whether the header counts the page inventory of the sequence.
abbrev pub counts_inventory : ℕ → View → Bool
counts_inventory sequence view = is_some (inventory_of view sequence)

-- Whether the header has given the number out.
abbrev pub has_given_out : ℕ → View → Bool
has_given_out number view = nat_lt number (next_of view)
