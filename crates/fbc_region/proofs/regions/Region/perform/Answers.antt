use Rattle.std.proofs.Common.{◌≡◌, ◌++◌, ℕ, Bool, List, suc, length, sym, subst}
use Rattle.fbc_kinds.specs.View.{View}
use Rattle.fbc_region.specs.Lawful.{IsLawfulOver, MeetsStep, new_landings}
use Rattle.fbc_region.specs.Shared.{HasReserved, Shared}
use Rattle.fbc_region.specs.Stepping.{MayPerform}
use Rattle.fbc_region.proofs.Staying.{stays_lawful}
use Rattle.fbc_region.proofs.Stable.{may_too, step_reserved, step_room}
use Rattle.fbc_region.proofs.regions.Region.perform.Goals as goal

pub step-requires-clause-ask : goal.step-requires-clause-ask
step-requires-clause-ask g c =
    may_too c.self.inside.ledger c.record_all.new.self c.args.who c.args.local.now c.record_all.ensures.adds (g.D.Device.reach c.self.inside.device) c.self.inside.size c.args.ask
    (subst (λ (v : Shared _). MayPerform (g.D.Device.reach v.device) v.size v.journal c.args.who c.args.ask) (sym c.self.view_is) c.requires.ask)

pub step-requires-clause-room : goal.step-requires-clause-room
step-requires-clause-room g c =
    step_room c.self.inside.ledger c.record_all.new.self (length c.args.local.now) c.requires.local c.record_all.ensures.room
    (subst (λ (v : Shared _). HasReserved v.journal 1) (sym c.self.view_is) c.requires.reserved)

pub returns-clause-reserved : goal.returns-clause-reserved
returns-clause-reserved g c =
    subst (λ (v : Shared _). (n : ℕ) → HasReserved v.journal (suc n) → HasReserved c.step.new.self.journal n) c.self.view_is
    (step_reserved c.self.inside.ledger c.record_all.new.self c.step.new.self.journal (length c.args.local.now) c.requires.local c.record_all.ensures.room c.step.ensures.room)

pub returns-clause-legal : goal.returns-clause-legal
returns-clause-legal g c =
    let fits : length c.args.image.now ≡ c.self.inside.size = subst (λ (v : Shared _). length c.args.image.now ≡ v.size) (sym c.self.view_is) c.requires.image in
    subst (λ (v : Shared _). (file : View) (landings : List Bool) → IsLawfulOver v.size (g.D.Device.bytes v.device) v.journal file landings
    → MeetsStep v.journal file landings c.args.who c.args.local.now c.args.image.now c.args.ask
    → IsLawfulOver c.step.new.self.size (g.D.Device.bytes c.step.new.self.device) c.step.new.self.journal file (landings ++ new_landings (g.D.Device.landings v.device) (g.D.Device.landings c.step.new.self.device)))
    c.self.view_is
    (λ file landings lawful meets.
    subst (λ n. IsLawfulOver n (g.D.Device.bytes c.step.new.self.device) c.step.new.self.journal file (landings ++ new_landings (g.D.Device.landings c.self.inside.device) (g.D.Device.landings c.step.new.self.device)))
    (sym c.step.ensures.size)
    (stays_lawful c.self.inside.size c.self.inside.ledger c.step.new.self.journal file landings (g.D.Device.landings c.self.inside.device) (g.D.Device.landings c.step.new.self.device) c.args.who c.args.local.now c.step.result
    c.args.image.now c.step.new.image fits c.is_at_rest.ensures (g.D.Device.bytes c.self.inside.device) (g.D.Device.bytes c.step.new.self.device) c.args.ask lawful meets
    (record { between = c.record_all.new.self; local = c.record_all.ensures.adds; step = c.step.ensures.step }) c.step.ensures.pages))
