use Rattle.std.specs.Prelude.{◌≡◌, ◌+◌, ◌*◌, ◌-◌, ◌/◌, ◌^◌, ◌⊎◌, ◌==◌, ◌||◌, ℕ, Bool, min}

-- A page has one of five sizes, in bytes.
abbrev pub IsPageSize : ℕ → Type 0
IsPageSize size = (size ≡ 1024) ⊎ (size ≡ 2048) ⊎ (size ≡ 4096) ⊎ (size ≡ 8192) ⊎ (size ≡ 16384)

-- The same as a test.
abbrev pub is_page_size : ℕ → Bool
is_page_size size = size == 1024 || size == 2048 || size == 4096 || size == 8192 || size == 16384

-- How many pages a page inventory page covers.
abbrev pub inventory_bits : ℕ → ℕ
inventory_bits size = (size - 16) * 8

-- How many transaction numbers stand in a transaction inventory page.
abbrev pub tip_numbers : ℕ → ℕ
tip_numbers size = 4 * (size - 16)

-- How many slots a pointer page has.
abbrev pub slots : ℕ → ℕ
slots size = (size - 16) / 4

-- How many cells a data page has, for values of at most `length` bytes.
abbrev pub cells : ℕ → ℕ → ℕ
cells size length = (size - 16) / (12 + length)

-- The greatest transaction number.
abbrev pub transaction_limit : ℕ → ℕ
transaction_limit size = 64 * (size - 16)

-- How many relations a file has at most.
abbrev pub relation_limit : ℕ
relation_limit = 8

-- How many pointer pages a relation has at most.
abbrev pub pointer_limit : ℕ
pointer_limit = 4

-- The greatest length of a value, in bytes.
abbrev pub value_limit : ℕ
value_limit = 200

-- The greatest length of a relation's name, in bytes.
abbrev pub name_limit : ℕ
name_limit = 15

-- How many page inventory pages a file has at most.
abbrev pub inventory_limit : ℕ
inventory_limit = 64

-- How many transaction inventory pages a file has at most.
abbrev pub tip_limit : ℕ
tip_limit = 16

-- Page numbers and sequences have four bytes.
abbrev pub number_limit : ℕ
number_limit = 2 ^ 32

-- How many pages a file may have where its device reaches so far, in bytes.
abbrev pub file_pages : ℕ → ℕ → ℕ
file_pages size reach = min (inventory_limit * inventory_bits size) (reach / size)
