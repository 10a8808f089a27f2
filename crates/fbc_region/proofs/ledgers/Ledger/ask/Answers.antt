use Rattle.std.proofs.Common.{refl, subst, arith}
use Rattle.fbc_lock_table.specs.declared.answers.Asked.TheVariants as asked
use Rattle.fbc_legal.specs.Lives.{living}
use Rattle.fbc_world.specs.History.{recorded}
use Rattle.fbc_region.specs.Adding.{UsesRoom}
use Rattle.fbc_region.proofs.Asking.{few_live, kept_both, kept_circle, kept_refused, kept_waiting}
use Rattle.fbc_region.proofs.ledgers.Ledger.ask.Goals as goal

pub returns-in-Dead-clause-room : goal.returns-in-Dead-clause-room
returns-in-Dead-clause-room c = subst (λ j. UsesRoom j c.reap.new.self 9) c.self.view_is c.reap.ensures.room

pub invariant_of-self-in-Granted : goal.invariant_of-self-in-Granted
invariant_of-self-in-Granted c =
    kept_both c.args.self.now c.self.inside.chronicle c.push_granted.new.self c.self.inside.table c.args.owner c.args.resource c.args.level c.args.wait c.args.word c.self.view_is c.self.invariant c.requires.alive c.requires.may c.requires.room
    c.push_granted.ensures.events c.push_granted.ensures.spare c.ask-asked.new.self c.in-Granted.ensures.answer c.in-Granted.ensures.after

pub cycle_from-requires : goal.cycle_from-requires
cycle_from-requires c =
    omega (
      arith,
      c.living_owners_are_few.ensures.census c.ask-asked.new.self (living (recorded c.self.inside.chronicle))
          (few_live c.args.self.now c.self.inside.chronicle c.push.new.self c.self.inside.table c.args.owner c.args.resource c.args.level c.args.wait c.args.word c.self.view_is c.self.invariant c.requires.alive c.requires.may c.requires.room c.push.ensures.events c.push.ensures.spare c.ask-asked.new.self c.in-Queued.ensures.after),
      c.self.invariant.few,
    )

pub invariant_of-self-in-Some : goal.invariant_of-self-in-Some
invariant_of-self-in-Some c =
    kept_circle c.args.self.now c.self.inside.chronicle c.push.new.self c.self.inside.table c.args.owner c.args.resource c.args.level c.args.wait c.args.word c.self.view_is c.self.invariant c.requires.alive c.requires.may c.requires.room c.push.ensures.events c.push.ensures.spare
    c.ask-asked.new.self c.withdraw.new.self c.in-Some.cycle c.in-Queued.ensures.answer c.in-Queued.ensures.after c.in-Some.ensures.found c.withdraw.ensures

pub invariant_of-self-in-None : goal.invariant_of-self-in-None
invariant_of-self-in-None c =
    kept_waiting c.args.self.now c.self.inside.chronicle c.push.new.self c.self.inside.table c.args.owner c.args.resource c.args.level c.args.wait c.args.word c.self.view_is c.self.invariant c.requires.alive c.requires.may c.requires.room c.push.ensures.events c.push.ensures.spare
    c.ask-asked.new.self c.in-Queued.ensures.answer c.in-Queued.ensures.after c.in-None.ensures.found

pub invariant_of-self-in-Busy : goal.invariant_of-self-in-Busy
invariant_of-self-in-Busy c =
    kept_refused c.args.self.now c.self.inside.chronicle c.push.new.self c.self.inside.table c.args.owner c.args.resource c.args.level c.args.wait c.args.word c.self.view_is c.self.invariant c.requires.alive c.requires.may c.requires.room c.push.ensures.events c.push.ensures.spare
    (asked.Busy c.in-Busy.holder c.in-Busy.held) c.ask-asked.new.self c.in-Busy.ensures.answer c.in-Busy.ensures.after refl

pub invariant_of-self-in-Room : goal.invariant_of-self-in-Room
invariant_of-self-in-Room c =
    kept_refused c.args.self.now c.self.inside.chronicle c.push.new.self c.self.inside.table c.args.owner c.args.resource c.args.level c.args.wait c.args.word c.self.view_is c.self.invariant c.requires.alive c.requires.may c.requires.room c.push.ensures.events c.push.ensures.spare
    (asked.Room c.in-Room.used) c.ask-asked.new.self c.in-Room.ensures.answer c.in-Room.ensures.after refl
