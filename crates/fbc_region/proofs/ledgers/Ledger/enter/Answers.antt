use Rattle.std.proofs.Common.{◌≡◌, ◌<◌, suc, length, sym, subst}
use Rattle.fbc_legal.specs.Lives.{entered, living}
use Rattle.fbc_world.specs.History.{recorded}
use Rattle.fbc_region.specs.Shared.{HasRoom}
use Rattle.fbc_region.proofs.Fates.{kept_enter}
use Rattle.fbc_region.proofs.ledgers.Ledger.enter.Goals as goal

pub invariant_of-self : goal.invariant_of-self
invariant_of-self c =
    kept_enter c.self.inside.chronicle c.push.new.self c.args.owner c.self.inside.table c.self.invariant c.args.buffers c.args.name c.push.ensures.events c.push.ensures.spare
    (subst (λ j. c.args.owner ≡ suc (entered (recorded j))) (sym c.self.view_is) c.requires.next) c.requires.few
    (subst (λ j. length (living (recorded j)) < 8) (sym c.self.view_is) c.requires.place) (subst (λ j. HasRoom j 2) (sym c.self.view_is) c.requires.room)
