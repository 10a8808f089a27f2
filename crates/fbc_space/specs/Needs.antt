-- How pages are wanted, and what it comes to for the header and the page inventories.
use Rattle.std.specs.Prelude.{true, false, ℕ}
use Rattle.fbc_kinds.specs.View.{inventory_page}
use Rattle.fbc_levels.specs.declared.levels.Level.TheVariants.{Ex, Pr}
use Rattle.fbc_cache.specs.declared.needs.Need.{Need}
use Rattle.fbc_cache.specs.Readers.{place}
use Rattle.fbc_desk.specs.declared.holding.Held.{Held}
use Rattle.fbc_desk.specs.Desk.{DeskState}
use Rattle.fbc_desk.specs.Holds.{HoldsAs}

-- A page is read, or changed, and waited for; or it is free and is to be formatted, and is not waited for.
abbrev pub to_read : ℕ → Need
to_read page = record { page = page; level = Pr; wait = true; fresh = false }

abbrev pub to_change : ℕ → Need
to_change page = record { page = page; level = Ex; wait = true; fresh = false }

abbrev pub to_format : ℕ → Need
to_format page = record { page = page; level = Ex; wait = false; fresh = true }

-- What it comes to when the header is to be read.
abbrev pub HeaderComesTo : DeskState → Held → Type 0
HeaderComesTo d held = HoldsAs d (to_read 0) (place 1 0 0) held

-- What it comes to when the page inventory of a sequence is to be changed.
abbrev pub InventoryComesTo : DeskState → ℕ → Held → Type 0
InventoryComesTo d sequence held = HoldsAs d (to_change (inventory_page d.cache.shape.size sequence)) (place 2 0 sequence) held
