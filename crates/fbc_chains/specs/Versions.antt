-- What versions tell of a row.
use Rattle.std.specs.Prelude.{◌≡◌, ◌==◌, ◌&&◌, ℕ, Bool, false, nat_lt, unwrap_or}
use Rattle.fbc_kinds.specs.declared.pages.Cell.{Cell}
use Rattle.fbc_kinds.specs.DataSpelling.{empty_cell}
use Rattle.fbc_kinds.specs.View.{cell_at, is_back}
use Rattle.fbc_cache.specs.Readers.{place_in}
use Rattle.fbc_notes.specs.Sights.{TellsBelow}
use Rattle.fbc_chains.specs.declared.telling.Told.{Told}
use Rattle.fbc_chains.specs.declared.telling.Told.TheVariants as told
use Rattle.fbc_chains.specs.Showing.{Showing}

-- What stands in a cell, as the copies show it.
abbrev pub version_at : Showing → ℕ → ℕ → Cell
version_at s page cell = unwrap_or (cell_at s.copies page cell) empty_cell

-- Where the version before the one in the cell stands, and what stands there.
abbrev pub page_below : Showing → ℕ → ℕ → ℕ
page_below s page cell = (version_at s page cell).back_page

abbrev pub cell_below : Showing → ℕ → ℕ → ℕ
cell_below s page cell = (version_at s page cell).back_cell

abbrev pub version_below : Showing → ℕ → ℕ → Cell
version_below s page cell = version_at s (page_below s page cell) (cell_below s page cell)

-- Whether the page below is a data page of the relation, and an older value stands there, of a lower number.
abbrev pub is_older : Showing → ℕ → ℕ → ℕ → Bool
is_older s relation page cell =
    ((place_in (s.copies (page_below s page cell))).kind == 5)
    && ((place_in (s.copies (page_below s page cell))).relation == relation)
    && is_back (version_below s page cell).flag
    && nat_lt (version_below s page cell).number (version_at s page cell).number

-- The version is not seen, and leads on to the one before it.
pub record LeadsOn (seen : ℕ → Bool) (version : Cell) : Type 0 where
  pub unseen : seen version.number ≡ false
  pub linked : (version.back_page == 0) ≡ false

-- A version tells what is seen of the row, or leads on.
abbrev pub Tells : (ℕ → Bool) → Cell → Told → Type 0
Tells seen version (told.Sees value) = TellsBelow seen version value
Tells seen version told.LeadsOn = LeadsOn seen version
