use Rattle.std.proofs.Common.{◌≡◌, ◌*◌, ℕ, true, Bool, List, Option, rules, sym, subst}
use Rattle.fbc_kinds.specs.View.{View}
use Rattle.fbc_region.specs.Lawful.{IsLawfulOver}
use Rattle.fbc_region.specs.Shared.{Shared}
use Rattle.fbc_region.proofs.Staying.{lawful_died}
use Rattle.fbc_world.specs.History.{recorded}
use Rattle.fbc_world.specs.Owners.{is_alive}
use Rattle.fbc_region.proofs.regions.Region.die.Goals as goal

pub returns-clause-reserved : goal.returns-clause-reserved
returns-clause-reserved g c =
    let same : c.self.inside.ledger ≡ c.args.self.now.journal = search rules in
    λ n reserved. c.die.ensures.room (n * 73) (rw same reserved)

pub returns-clause-legal : goal.returns-clause-legal
returns-clause-legal g c =
    let alive : is_alive (recorded c.self.inside.ledger) c.args.who ≡ true = subst (λ (v : Shared _). is_alive (recorded v.journal) c.args.who ≡ true) (sym c.self.view_is) c.requires in
    subst (λ (v : Shared _). (bytes : Option (List ℕ)) (file : View) (landings : List Bool) → IsLawfulOver v.size bytes v.journal file landings → IsLawfulOver c.self.inside.size bytes c.die.new.self file landings) c.self.view_is
    (λ bytes file landings lawful. lawful_died c.self.inside.size bytes c.self.inside.ledger c.die.new.self file landings c.is_at_rest.ensures lawful c.args.who alive c.die.ensures.adds)
