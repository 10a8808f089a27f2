-- How pages are wanted.
use Rattle.std.specs.Prelude.{ℕ, Bool, true, false}
use Rattle.fbc_levels.specs.declared.levels.Level.TheVariants.{Ex}
use Rattle.fbc_cache.specs.declared.needs.Need.{Need}
use Rattle.fbc_cache.specs.declared.readers.Place.{Place}
use Rattle.fbc_cache.specs.Readers.{number_at, place}
use Rattle.fbc_cache.specs.Remembered.{pointers_of}
use Rattle.fbc_chains.specs.Showing.{Showing}

-- A page is changed; or it is free, and is got to be formatted, and waited for.
abbrev pub to_change : ℕ → Bool → Need
to_change page wait = record { page = page; level = Ex; wait = wait; fresh = false }

abbrev pub to_get : ℕ → Need
to_get page = record { page = page; level = Ex; wait = true; fresh = true }

-- The relation's pointer page of a sequence, 0 where it is not known, and where it is due.
abbrev pub pointer_at : Showing → ℕ → ℕ → ℕ
pointer_at s relation pointer = number_at (pointers_of s.pointers relation) pointer

abbrev pub pointer_place : ℕ → ℕ → Place
pointer_place relation pointer = place 4 relation pointer
