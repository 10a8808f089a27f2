use Rattle.fbc_world.specs.World.{world_of}
use Rattle.fbc_cut.proofs.NoOne.{no-page-closed, no_page}
use Rattle.fbc_cut.proofs.laws.kept_pages_are_sound.Goals as goal

pub returns : goal.returns
returns c shape file history of_shape sound legal = c.every_cut_is_sound.ensures shape file history no_page of_shape sound legal (no-page-closed (world_of shape file history))
