use Rattle.std.proofs.Common.{◌≡◌, Bool, true, false, refl}
use Rattle.fbc_kinds.specs.declared.edits.Edit.TheVariants.{PutCell}
use Rattle.fbc_legal.specs.Rows.{IsFirstVersion, IsNewVersion, IsOwnChange, IsPut}
use Rattle.fbc_legal.specs.Scene.{scene_of}
use Rattle.fbc_runs.specs.Ended.{is_owner_of}
use Rattle.fbc_simulation.specs.EditIn.{EditIsMeant}
use Rattle.fbc_simulation.proofs.cells.put_cells_are_meant.Goals as goal

pub returns : goal.returns
returns c shape file past owner page cell new content cut living is = go is.sees.guard.row where
  first : (b : Bool) → is_owner_of living owner ≡ b → IsFirstVersion (scene_of shape file past) owner page cell new → EditIsMeant shape file past owner page (PutCell cell new) content cut living
  first true lives f = (c.puts_of_the_living_are_meant.ensures shape file past owner page cell new content cut living is lives).first f
  first false ends f = (c.puts_of_others_are_meant.ensures shape file past owner page cell new content cut living is ends).first f

  own : (b : Bool) → is_owner_of living owner ≡ b → IsOwnChange (scene_of shape file past) owner page cell new → EditIsMeant shape file past owner page (PutCell cell new) content cut living
  own true lives f = (c.puts_of_the_living_are_meant.ensures shape file past owner page cell new content cut living is lives).own f
  own false ends f = (c.puts_of_others_are_meant.ensures shape file past owner page cell new content cut living is ends).own f

  over : (b : Bool) → is_owner_of living owner ≡ b → IsNewVersion (scene_of shape file past) owner page cell new → EditIsMeant shape file past owner page (PutCell cell new) content cut living
  over true lives f = (c.puts_of_the_living_are_meant.ensures shape file past owner page cell new content cut living is lives).over f
  over false ends f = (c.puts_of_others_are_meant.ensures shape file past owner page cell new content cut living is ends).over f

  go : IsPut (scene_of shape file past) owner page cell new → EditIsMeant shape file past owner page (PutCell cell new) content cut living
  go (IsPut.first f) = first (is_owner_of living owner) refl f
  go (IsPut.over_own f) = own (is_owner_of living owner) refl f
  go (IsPut.over f) = over (is_owner_of living owner) refl f
  go (IsPut.move f) = c.moves_are_meant.ensures shape file past owner page cell new content cut living is f
  go (IsPut.backout f) = c.backouts_are_meant.ensures shape file past owner page cell new content cut living is f
  go (IsPut.cut f) = c.cuts_are_meant.ensures shape file past owner page cell new content cut living is f
