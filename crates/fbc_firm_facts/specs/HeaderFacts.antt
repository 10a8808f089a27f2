-- What the header of a view goes on to show when it grows.
use Rattle.std.specs.Prelude.{◌≡◌, Bool, true}
use Rattle.fbc_kinds.specs.View.{View}
use Rattle.fbc_closed_cuts.specs.Growth.{GrowsInto}

-- A view passes the test also when its header has grown.
abbrev pub GrowsWithHeaders : (View → Bool) → Type 0
GrowsWithHeaders passes = (earlier later : View) → GrowsInto (earlier 0) (later 0) → passes earlier ≡ true → passes later ≡ true
