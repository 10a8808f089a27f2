use Rattle.std.proofs.Common.{ap, sym, subst, arith}
use Rattle.fbc_region.specs.Shared.{Shared}
use Rattle.fbc_region.specs.Answering.{IsAsked}
use Rattle.fbc_region.specs.Stepping.{StepComesTo}
use Rattle.fbc_region.proofs.Stable.{uses_upto}
use Rattle.fbc_region.proofs.regions.Region.step.Goals as goal

pub returns-in-Enter-clause-room : goal.returns-in-Enter-clause-room
returns-in-Enter-clause-room g c =
    uses_upto c.args.self.now.journal c.enter.new.self c.self.inside.ledger 2 (omega arith) (ap (λ (r : Shared _). r.journal) c.self.view_is) c.enter.ensures.room

pub returns-in-Leave-clause-room : goal.returns-in-Leave-clause-room
returns-in-Leave-clause-room g c =
    uses_upto c.args.self.now.journal c.leave.new.self c.self.inside.ledger 1 (omega arith) (ap (λ (r : Shared _). r.journal) c.self.view_is) c.leave.ensures.room

pub returns-in-Lock-clause-room : goal.returns-in-Lock-clause-room
returns-in-Lock-clause-room g c =
    uses_upto c.args.self.now.journal c.ask.new.self c.self.inside.ledger 9 (omega arith) (ap (λ (r : Shared _). r.journal) c.self.view_is) c.ask.ensures.room

pub returns-in-Look-clause-room : goal.returns-in-Look-clause-room
returns-in-Look-clause-room g c =
    uses_upto c.args.self.now.journal c.look.new.self c.self.inside.ledger 9 (omega arith) (ap (λ (r : Shared _). r.journal) c.self.view_is) c.look.ensures.room

pub returns-in-Withdraw-clause-room : goal.returns-in-Withdraw-clause-room
returns-in-Withdraw-clause-room g c =
    uses_upto c.args.self.now.journal c.withdraw.new.self c.self.inside.ledger 9 (omega arith) (ap (λ (r : Shared _). r.journal) c.self.view_is) c.withdraw.ensures.room

pub returns-in-Lower-clause-room : goal.returns-in-Lower-clause-room
returns-in-Lower-clause-room g c =
    uses_upto c.args.self.now.journal c.lower.new.self c.self.inside.ledger 9 (omega arith) (ap (λ (r : Shared _). r.journal) c.self.view_is) c.lower.ensures.room

pub returns-in-Read-clause-room : goal.returns-in-Read-clause-room
returns-in-Read-clause-room g c =
    uses_upto c.args.self.now.journal c.read_page.new.ledger c.self.inside.ledger 1 (omega arith) (ap (λ (r : Shared _). r.journal) c.self.view_is) c.read_page.ensures.room

pub returns-in-Write-clause-room : goal.returns-in-Write-clause-room
returns-in-Write-clause-room g c =
    uses_upto c.args.self.now.journal c.write_page.new.ledger c.self.inside.ledger 1 (omega arith) (ap (λ (r : Shared _). r.journal) c.self.view_is) c.write_page.ensures.room

pub returns-in-Poll-clause-room : goal.returns-in-Poll-clause-room
returns-in-Poll-clause-room g c =
    uses_upto c.args.self.now.journal c.poll.new.self c.self.inside.ledger 1 (omega arith) (ap (λ (r : Shared _). r.journal) c.self.view_is) c.poll.ensures.room

pub returns-in-Least-clause-room : goal.returns-in-Least-clause-room
returns-in-Least-clause-room g c =
    uses_upto c.args.self.now.journal c.least.new.self c.self.inside.ledger 1 (omega arith) (ap (λ (r : Shared _). r.journal) c.self.view_is) c.least.ensures.room

pub returns-in-Note-clause-room : goal.returns-in-Note-clause-room
returns-in-Note-clause-room g c =
    uses_upto c.args.self.now.journal c.record.new.self c.self.inside.ledger 1 (omega arith) (ap (λ (r : Shared _). r.journal) c.self.view_is) c.record.ensures.room

pub returns-in-Lock-clause-step : goal.returns-in-Lock-clause-step
returns-in-Lock-clause-step g c =
    subst (λ a. StepComesTo c.args.self.now.journal c.ask.new.self c.args.who c.ask.result a) (sym c.in-Lock.is)
    (subst (λ j. IsAsked j c.ask.new.self c.args.who c.in-Lock.resource c.in-Lock.level c.in-Lock.wait c.in-Lock.word c.ask.result) (ap (λ (r : Shared _). r.journal) c.self.view_is) c.ask.ensures.step)
