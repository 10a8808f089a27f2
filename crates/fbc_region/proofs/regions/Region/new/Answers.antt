use Rattle.std.proofs.Common.{◌∷◌, [], rules}
use Rattle.fbc_region.specs.Adding.{Adds, by}
use Rattle.fbc_region.proofs.Staying.{lawful_opened}
use Rattle.fbc_region.proofs.regions.Region.new.Goals as goal
use Rattle.fbc_world.specs.declared.events.Act.TheVariants as act

pub returns-in-Ok-clause-legal : goal.returns-in-Ok-clause-legal
returns-in-Ok-clause-legal g c =
    let adds : Adds c.args.journal c.in-Ok.ledger (by 0 (act.Opened c.args.locks) ∷ []) = search rules in
    λ bytes file landings lawful. lawful_opened c.args.size bytes c.args.journal c.in-Ok.ledger file landings c.is_at_rest.ensures.rests lawful c.args.locks c.requires adds
