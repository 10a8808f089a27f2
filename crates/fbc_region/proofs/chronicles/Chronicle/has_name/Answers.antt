use Rattle.std.proofs.Common.{◌∙◌, ap}
use Rattle.fbc_world.specs.History.{recorded}
use Rattle.fbc_region.specs.Conditions.{has_name}
use Rattle.fbc_region.proofs.Places.{has_name_in}
use Rattle.fbc_region.proofs.chronicles.Chronicle.has_name.Goals as goal

pub returns : goal.returns
returns c =
    c.has_name.ensures
    ∙ has_name_in (recorded c.self.inside.journal) c.self.inside.census c.self.invariant.census_is c.args.name
    ∙ ap (λ j. has_name (recorded j) c.args.name) c.self.view_is
