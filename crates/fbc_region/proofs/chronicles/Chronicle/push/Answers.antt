use Rattle.std.proofs.Common.{◌≤◌, sym, subst}
use Rattle.fbc_legal.specs.Lives.{entered, entered_step}
use Rattle.fbc_world.specs.History.{recorded}
use Rattle.fbc_region.specs.Census.{IsNew}
use Rattle.fbc_region.specs.Kept.{LeavesRest}
use Rattle.fbc_region.proofs.Lengthening.{chronicle_next}
use Rattle.fbc_region.proofs.chronicles.Chronicle.push.Goals as goal

pub invariant_of-self : goal.invariant_of-self
invariant_of-self c =
    chronicle_next c.self.inside.journal c.push.new.self c.self.inside.census c.keep_up.new.self c.args.event
    (subst (λ j. entered_step (entered (recorded j)) c.args.event.act ≤ 65536) (sym c.self.view_is) c.requires.few)
    (subst (λ j. IsNew (recorded j) c.args.event.actor c.args.event.act) (sym c.self.view_is) c.requires.new)
    (subst (λ j. LeavesRest (recorded j) c.args.event.actor c.args.event.act) (sym c.self.view_is) c.requires.rests)
    c.push.ensures.events c.keep_up.ensures.owners c.keep_up.ensures.residents c.self.invariant
