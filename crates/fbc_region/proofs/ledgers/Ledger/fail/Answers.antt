use Rattle.std.proofs.Common.{◌≡◌, ℕ, true, sym, subst}
use Rattle.fbc_world.specs.declared.events.Act.TheVariants.{Write}
use Rattle.fbc_world.specs.History.{recorded}
use Rattle.fbc_world.specs.Owners.{is_alive}
use Rattle.fbc_region.specs.Shared.{HasRoom}
use Rattle.fbc_region.proofs.Fates.{failed, kept_die, place_die, room_die}
use Rattle.fbc_region.proofs.ledgers.Ledger.fail.Goals as goal

pub push-requires-clause-room : goal.push-requires-clause-room
push-requires-clause-room c =
    place_die c.self.inside.chronicle c.args.owner c.self.inside.table c.self.invariant
    (subst (λ j. is_alive (recorded j) c.args.owner ≡ true) (sym c.self.view_is) c.requires.alive)

pub invariant_of-self : goal.invariant_of-self
invariant_of-self c =
    rw (c.die.ensures.after) (kept_die c.self.inside.chronicle c.push.new.self c.args.owner c.self.inside.table c.self.invariant (Write c.args.page c.args.cause true) (failed c.args.page c.args.cause)
    (subst (λ j. is_alive (recorded j) c.args.owner ≡ true) (sym c.self.view_is) c.requires.alive) c.push.ensures.events c.push.ensures.spare)

pub returns-clause-room : goal.returns-clause-room
returns-clause-room c =
    subst (λ j. (n : ℕ) → HasRoom j n → HasRoom c.push.new.self n) c.self.view_is
    (room_die c.self.inside.chronicle c.push.new.self c.args.owner c.self.inside.table c.self.invariant (Write c.args.page c.args.cause true) (failed c.args.page c.args.cause)
    (subst (λ j. is_alive (recorded j) c.args.owner ≡ true) (sym c.self.view_is) c.requires.alive) c.push.ensures.events c.push.ensures.spare)
