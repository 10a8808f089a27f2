-- Links that a draft has lost: they were cut of settled versions.
use Rattle.std.specs.Prelude.{◌≡◌, ◌≢◌, ℕ, Some}
use Rattle.fbc_kinds.specs.declared.pages.Cell.{Cell}
use Rattle.fbc_kinds.specs.View.{cell_in}
use Rattle.fbc_legal.specs.Rows.{IsSettled}
use Rattle.fbc_legal.specs.Scene.{Scene, born_at, newest_at}

-- Where the file and the newest pages have one version in a cell, by its stamp, and its link stands in the file alone, its
-- number is settled: the file has it as committed, and every open snapshot holds it.
abbrev pub CutsAreSettled : Scene → Type 0
CutsAreSettled at = (page cell : ℕ) (old new : Cell)
    → cell_in (at.world.kept page) cell ≡ Some old
    → cell_in (newest_at at page) cell ≡ Some new
    → (at.stamps.kept page).born cell ≡ born_at at page cell
    → old.back_page ≢ 0
    → new.back_page ≡ 0
    → IsSettled at new.number
