-- What stands after every legal history over a sound file.
use Rattle.fbc_legal.specs.Scene.{Scene}
use Rattle.fbc_numbers.specs.Opens.{OpensStandApart}
use Rattle.fbc_origins.specs.Owed.{IsInOrder}
use Rattle.fbc_origins.specs.Cuts.{CutsAreSettled}
use Rattle.fbc_origins.specs.Rows.{RowsStand}

-- Every view is sound, and numbers, marks and stamps are in order; rows are named as they are to be, open numbers stand apart from
-- all others, and links that drafts have lost were cut of settled versions.
pub record IsWhole (at : Scene) : Type 0 where
  pub order : IsInOrder at
  pub rows : RowsStand at
  pub apart : OpensStandApart at
  pub cuts : CutsAreSettled at
