-- The header and the transaction inventory pages, as a begin and a commit need them.
use Rattle.std.specs.Prelude.{ℕ, true, false}
use Rattle.fbc_levels.specs.declared.levels.Level.TheVariants.{Ex}
use Rattle.fbc_cache.specs.declared.needs.Need.{Need}
use Rattle.fbc_cache.specs.Readers.{place}
use Rattle.fbc_desk.specs.declared.holding.Held.{Held}
use Rattle.fbc_desk.specs.Desk.{DeskState}
use Rattle.fbc_desk.specs.Holds.{HoldsAs}
use Rattle.fbc_tip.specs.Inventories.{reading}

-- The page is needed to be changed, and is waited for.
abbrev pub to_change : ℕ → Need
to_change page = record { page = page; level = Ex; wait = true; fresh = false }

-- What it comes to when the header is to be held, or is looked at.
abbrev pub HoldsHeader : DeskState → Held → Type 0
HoldsHeader d held = HoldsAs d (to_change 0) (place 1 0 0) held

abbrev pub LooksAtHeader : DeskState → Held → Type 0
LooksAtHeader d held = HoldsAs d (reading 0) (place 1 0 0) held

-- The same when the transaction inventory page of a sequence is to be held.
abbrev pub HoldsTip : DeskState → ℕ → ℕ → Held → Type 0
HoldsTip d page sequence held = HoldsAs d (to_change page) (place 3 0 sequence) held
