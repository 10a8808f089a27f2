use Rattle.std.proofs.Common.{◌∙◌, ap}
use Rattle.fbc_world.specs.History.{recorded}
use Rattle.fbc_world.specs.Owners.{is_alive}
use Rattle.fbc_region.proofs.Places.{has_place_of}
use Rattle.fbc_region.proofs.chronicles.Chronicle.is_alive.Goals as goal

pub returns : goal.returns
returns c =
    c.has.ensures
    ∙ has_place_of (recorded c.self.inside.journal) c.self.inside.census c.self.invariant.census_is c.args.owner
    ∙ ap (λ j. is_alive (recorded j) c.args.owner) c.self.view_is
