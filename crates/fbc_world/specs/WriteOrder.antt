-- The order of writes: which pages are to be written before which.
use Rattle.std.specs.Prelude.{◌≡◌, ℕ, Bool, true, false, not, ◌==◌, ◌&&◌, ◌||◌, if◌then◌else◌, [], ◌∷◌}
use Rattle.fbc_world.specs.declared.events.Act.{Act}
use Rattle.fbc_world.specs.declared.events.Act.TheVariants.{Die, Local, Write}
use Rattle.fbc_world.specs.declared.events.LocalEvent.TheVariants as local
use Rattle.fbc_world.specs.History.{History}

-- Whether the owner's pair of these pages stands after an act of some actor: the owner records it, and it ends with a
-- write of the high page that lands, and with the owner's death.
abbrev pub pair_step : ℕ → ℕ → ℕ → Bool → ℕ → Act → Bool → Bool
pair_step owner high low stands actor (Local (local.Before above below)) landed = ((actor == owner) && (above == high) && (below == low)) || stands
pair_step owner high low stands actor (Write number cause failed) landed = if ((number == high) && (not failed || landed)) || (failed && (actor == owner)) then false else stands
pair_step owner high low stands actor Die landed = if actor == owner then false else stands
pair_step owner high low stands actor _ landed = stands

-- The pairs of an owner after a history, as a test of two pages.
abbrev pub pairs_of : History → ℕ → ℕ → ℕ → Bool
pairs_of [] owner high low = false
pairs_of (moment ∷ before) owner high low = pair_step owner high low (pairs_of before owner high low) moment.event.actor moment.event.act moment.landed

-- Some owner has the pair.
abbrev pub IsPair : History → ℕ → ℕ → Type 0
IsPair history high low = (owner : ℕ) × (pairs_of history owner high low ≡ true)
