-- A row is put into its cell.
use Rattle.std.specs.Prelude.{◌≡◌, ◌⊎◌, ◌≤◌, ◌*◌, ◌+◌, ◌^◌, [], ◌∷◌, ℕ, List, Option, Some, None}
use Rattle.fbc_kinds.specs.declared.edits.Edit.{Edit}
use Rattle.fbc_kinds.specs.declared.edits.Edit.TheVariants as edit
use Rattle.fbc_kinds.specs.declared.pages.Flag.TheVariants as flag
use Rattle.fbc_kinds.specs.declared.shapes.Shape.{Shape}
use Rattle.fbc_cache.specs.Cache.{CacheState, copy_in}
use Rattle.fbc_cache.specs.Readers.{place, place_in}
use Rattle.fbc_desk.specs.declared.edits.Made.TheVariants as made
use Rattle.fbc_desk.specs.Calls.{EditComesTo, MayMake, UnpinsAll}
use Rattle.fbc_desk.specs.Desk.{DeskState}
use Rattle.fbc_desk.specs.Roles.{misplaced}
use Rattle.fbc_chains.specs.Places.{row_cells}
use Rattle.fbc_rows.specs.declared.parts.RowStep.{RowStep}
use Rattle.fbc_rows.specs.declared.parts.RowStep.TheVariants as step
use Rattle.fbc_rows.specs.Writes.{WritesFirst}

-- The number of the row in the cell of the relation's data page of the sequence.
abbrev pub row_at : Shape → ℕ → ℕ → ℕ → ℕ
row_at shape relation sequence cell = sequence * row_cells shape relation + cell

-- The same where it is a number.
abbrev pub IsRow : Shape → ℕ → ℕ → ℕ → Option ℕ → Type 0
IsRow shape relation sequence cell (Some row) = row ≡ row_at shape relation sequence cell
IsRow shape relation sequence cell None = 2 ^ 32 ≤ row_at shape relation sequence cell

-- So it is in a cell of that page.
abbrev pub IsPlaced : CacheState → ℕ → ℕ → ℕ → Type 0
IsPlaced c relation sequence page = misplaced (place_in (copy_in c.held page)) (place 5 relation sequence) ≡ None

abbrev pub IsRowOn : CacheState → ℕ → ℕ → ℕ → ℕ → Option ℕ → Type 0
IsRowOn c relation sequence page cell (Some row) = IsPlaced c relation sequence page × (row ≡ row_at c.shape relation sequence cell)
IsRowOn c relation sequence page cell None = (¬ IsPlaced c relation sequence page) ⊎ (2 ^ 32 ≤ row_at c.shape relation sequence cell)

-- A new row is put into the cell.
abbrev pub row_edit : ℕ → ℕ → List ℕ → Edit
row_edit cell number value = edit.PutCell cell (record { flag = flag.Primary; number = number; back_page = 0; back_cell = 0; value = value })

-- The header, which gave out the number of its transaction, is written before its page.
abbrev pub row_highs : List ℕ
row_highs = 0 ∷ []

-- The row is put into the relation's data page of the sequence: the edit is made, and then no page is in use any more.
pub record PutsRow (before : DeskState) (relation number : ℕ) (value : List ℕ) (page sequence cell row : ℕ) (after : DeskState) : Type 0 where
  pub between : DeskState
  pub makes : EditComesTo before between page (row_edit cell number value) row_highs made.Done
  pub unpins : UnpinsAll between after
  pub placed : IsPlaced before.cache relation sequence page
  pub is_row : row ≡ row_at before.cache.shape relation sequence cell

-- The row is refused: it is none of a data page that stands in its place, or past all numbers; or the edit may not be made.
abbrev pub IsRefused : DeskState → ℕ → ℕ → List ℕ → ℕ → ℕ → ℕ → Type 0
IsRefused d relation number value page sequence cell =
    IsRowOn d.cache relation sequence page cell None ⊎ (¬ MayMake d page (row_edit cell number value) row_highs)

-- What it comes to.
abbrev pub PutComesTo : DeskState → ℕ → ℕ → List ℕ → ℕ → ℕ → ℕ → DeskState → RowStep → Type 0
PutComesTo before relation number value page sequence cell after (step.Done row) = PutsRow before relation number value page sequence cell row after
PutComesTo before relation number value page sequence cell after (step.Must asked) = WritesFirst before page (row_edit cell number value) row_highs asked after
PutComesTo before relation number value page sequence cell after step.Refused = IsRefused before relation number value page sequence cell × (after ≡ before)
PutComesTo before relation number value page sequence cell after _ = ⊥
