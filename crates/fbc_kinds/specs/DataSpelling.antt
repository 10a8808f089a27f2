use Rattle.std.specs.Prelude.{◌≡◌, ◌<◌, ◌≤◌, ◌+◌, ◌-◌, ◌*◌, ◌^◌, ◌==◌, ◌&&◌, ◌||◌, ℕ, zero, suc, Bool, false, not, nat_lt, if◌then◌else◌, List, [], length, take, drop, slice_index, slice_index_or, slice_range, replicate, Option, Some, None}
use Rattle.std.specs.List.{All}
use Rattle.fbc_kinds.specs.declared.pages.Cell.{Cell}
use Rattle.fbc_kinds.specs.declared.pages.Data.{Data}
use Rattle.fbc_kinds.specs.declared.pages.Flag.{Flag}
use Rattle.fbc_kinds.specs.declared.pages.Flag.TheVariants as flag
use Rattle.fbc_kinds.specs.declared.rules.Rule.{Rule}
use Rattle.fbc_kinds.specs.declared.rules.Rule.TheVariants as rule
use Rattle.fbc_kinds.specs.Limits.{cells, number_limit, relation_limit}
use Rattle.fbc_kinds.specs.Head.{HasHead, is_zeros, little_bytes, or_else}
use Rattle.fbc_kinds.specs.Padding.{padded}
use Rattle.fbc_kinds.specs.PointerSpelling.{broken_start}

-- A cell that holds nothing.
abbrev pub empty_cell : Cell
empty_cell = record { flag = flag.Empty; number = 0; back_page = 0; back_cell = 0; value = [] }

-- A version has a transaction's number, and names a back cell only together with a back page.
pub record IsVersion (version : Cell) : Type 0 where
  pub numbered : 0 < version.number
  pub number_fits : version.number < number_limit
  pub back_page_fits : version.back_page < number_limit
  pub back_cell_fits : version.back_cell < 2 ^ 16
  pub back : version.back_page ≡ 0 → version.back_cell ≡ 0

-- What a cell may hold, by its flag: a deletion has no value, another version has one of a byte or more.
abbrev pub IsContent : Flag → ℕ → Cell → Type 0
IsContent flag.Empty greatest content = content ≡ empty_cell
IsContent flag.Deletion greatest content = IsVersion content × (content.value ≡ [])
IsContent flag.Primary greatest content = IsVersion content × (0 < length content.value) × (length content.value ≤ greatest)
IsContent flag.Back greatest content = IsVersion content × (0 < length content.value) × (length content.value ≤ greatest)

-- A cell within its limits, for values of at most `greatest` bytes.
abbrev pub IsCell : ℕ → Cell → Type 0
IsCell greatest content = IsContent content.flag greatest content

-- A data page within its limits: it has all its cells, and its relation is one of eight.
pub record IsData (size greatest : ℕ) (data_page : Data) : Type 0 where
  pub page_fits : data_page.page < number_limit
  pub sequence_fits : data_page.sequence < number_limit
  pub relation_fits : data_page.relation < relation_limit
  pub count : length data_page.cells ≡ cells size greatest
  pub each : All (IsCell greatest) data_page.cells

-- The byte that stands for a flag.
abbrev pub flag_code : Flag → ℕ
flag_code flag.Empty = 0
flag_code flag.Primary = 1
flag_code flag.Deletion = 2
flag_code flag.Back = 3

-- The bytes of a cell: 12 bytes of what it is, and then the value with zeros up to the greatest length.
pub record SpellsCell (greatest : ℕ) (content : Cell) (bytes : List ℕ) : Type 0 where
  pub flag_is : slice_index bytes 0 ≡ flag_code content.flag
  pub length_is : slice_index bytes 1 ≡ length content.value
  pub back_cell_is : slice_range bytes 2 4 ≡ little_bytes 2 content.back_cell
  pub number_is : slice_range bytes 4 8 ≡ little_bytes 4 content.number
  pub back_page_is : slice_range bytes 8 12 ≡ little_bytes 4 content.back_page
  pub value_is : drop 12 bytes ≡ padded greatest content.value

-- One of the pieces of equal width that follow one another.
abbrev pub piece : ℕ → ℕ → List ℕ → List ℕ
piece width at bytes = take width (drop (width * at) bytes)

-- The bytes of one cell of a data page.
abbrev pub cell_bytes : ℕ → ℕ → List ℕ → List ℕ
cell_bytes greatest at bytes = piece (12 + greatest) at (drop 16 bytes)

-- Where the cells of a data page end.
abbrev pub cells_end : ℕ → ℕ → ℕ
cells_end size greatest = 16 + (12 + greatest) * cells size greatest

-- The bytes of a data page: the head, its cells, and then zeros.
pub record SpellsData (size greatest : ℕ) (data_page : Data) (bytes : List ℕ) : Type 0 where
  pub fits : IsData size greatest data_page
  pub size_is : length bytes ≡ size
  pub head : HasHead 5 data_page.relation data_page.page data_page.sequence bytes
  pub cell : (k : ℕ) → k < cells size greatest → SpellsCell greatest (slice_index_or data_page.cells k empty_cell) (cell_bytes greatest k bytes)
  pub rest : drop (cells_end size greatest) bytes ≡ replicate (size - cells_end size greatest) 0

-- Whether one of the first pieces passes the test.
unfoldable pub any_piece : (List ℕ → Bool) → ℕ → ℕ → List ℕ → Bool
any_piece test width zero bytes = false
any_piece test width (suc count) bytes = any_piece test width count bytes || test (piece width count bytes)

-- No flag has this byte.
abbrev pub has_unknown_flag : List ℕ → Bool
has_unknown_flag bytes = nat_lt 3 (slice_index bytes 0)

-- A deletion has a value, or another version has none or too long a one.
abbrev pub has_bad_length : ℕ → List ℕ → Bool
has_bad_length greatest bytes =
    if slice_index bytes 0 == 2 then not (slice_index bytes 1 == 0)
    else slice_index bytes 1 == 0 || nat_lt greatest (slice_index bytes 1)

-- A back cell stands there without a back page.
abbrev pub has_stray_back : List ℕ → Bool
has_stray_back bytes = is_zeros (slice_range bytes 8 12) && not (is_zeros (slice_range bytes 2 4))

-- A version with a bad length, without a number, with bytes after its value, or with a stray back cell.
abbrev pub is_bad_version : ℕ → List ℕ → Bool
is_bad_version greatest bytes =
    has_bad_length greatest bytes || is_zeros (slice_range bytes 4 8) || not (is_zeros (drop (12 + slice_index bytes 1) bytes)) || has_stray_back bytes

-- An empty cell that is not all zeros, or a bad version.
abbrev pub is_bad_cell : ℕ → List ℕ → Bool
is_bad_cell greatest bytes = if slice_index bytes 0 == 0 then not (is_zeros bytes) else is_bad_version greatest bytes

-- The first rule that the cells and what follows them break.
abbrev pub broken_cells : ℕ → ℕ → List ℕ → Option Rule
broken_cells size greatest bytes =
    if any_piece has_unknown_flag (12 + greatest) (cells size greatest) (drop 16 bytes) then Some rule.Flag
    else if any_piece (is_bad_cell greatest) (12 + greatest) (cells size greatest) (drop 16 bytes) then Some rule.Cell
    else if not (is_zeros (drop (cells_end size greatest) bytes)) then Some rule.Rest
    else None

-- The first rule that these bytes break as the data page of that number, for values of at most `greatest` bytes.
abbrev pub broken_data : ℕ → ℕ → ℕ → List ℕ → Option Rule
broken_data size greatest page bytes = or_else (broken_start 5 page bytes) (broken_cells size greatest bytes)
