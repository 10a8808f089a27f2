use Rattle.std.specs.Prelude.{◌++◌, List, ℕ, [], ◌∷◌, length}
use Rattle.fbc_kinds.specs.declared.pages.Cell.{Cell}
use Rattle.fbc_kinds.specs.Head.{little_bytes}
use Rattle.fbc_kinds.specs.DataSpelling.{flag_code}

-- The first 12 bytes of a cell.
abbrev pub cell_front : Cell → List ℕ
cell_front content =
    flag_code content.flag ∷ (length content.value ∷ (little_bytes 2 content.back_cell ++ little_bytes 4 content.number ++ little_bytes 4 content.back_page))
