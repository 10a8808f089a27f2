use Rattle.std.proofs.Common.{◌≡◌, ◌∙◌, None, ap, sym, subst}
use Rattle.fbc_owner_queues.specs.Grants.{first_of}
use Rattle.fbc_region.specs.Adding.{UsesRoom}
use Rattle.fbc_region.specs.Shared.{HasRoom, locks_in}
use Rattle.fbc_region.proofs.Fates.{kept_leave, room_leave}
use Rattle.fbc_region.proofs.ledgers.Ledger.leave.Goals as goal

pub invariant_of-self : goal.invariant_of-self
invariant_of-self c =
    kept_leave c.self.inside.chronicle c.push.new.self c.args.owner c.self.inside.table c.self.invariant c.push.ensures.events c.push.ensures.spare
    (subst (λ s. first_of s c.args.owner ≡ None) (sym (c.self.invariant.requests ∙ ap locks_in c.self.view_is)) c.requires.none) (subst (λ j. HasRoom j 1) (sym c.self.view_is) c.requires.room)

pub returns-clause-room : goal.returns-clause-room
returns-clause-room c =
    subst (λ j. UsesRoom j c.push.new.self 1) c.self.view_is
    (room_leave c.self.inside.chronicle c.push.new.self c.args.owner c.self.inside.table c.self.invariant c.push.ensures.events c.push.ensures.spare)
