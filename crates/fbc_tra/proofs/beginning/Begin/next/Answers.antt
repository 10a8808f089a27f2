-- At the end of a begin a transaction is open.
use Rattle.std.proofs.Common.{◌≡◌, IfOk, OnErr, sym, subst, arith}
use Rattle.fbc_tra.specs.declared.beginning.BeginStage.{BeginStage}
use Rattle.fbc_tra.specs.declared.beginning.BeginStage.TheVariants as stages
use Rattle.fbc_tra.specs.Begins.{BeginAnswers, BeginComesTo, BeginMoves, BeginStops, BeginWants, BeginsWhole}
use Rattle.fbc_tra.proofs.Ends.{begins-whole}
use Rattle.fbc_tra.proofs.Ways.{here-ok, stops-here-err}
use Rattle.fbc_tra.proofs.beginning.Begin.next.Goals as goal

pub returns-in-Header-clause-whole : goal.returns-in-Header-clause-whole
returns-in-Header-clause-whole c =
    let at : c.args.self.now.stage ≡ stages.Header = grind (arith, c.self.view_is, c.in-Header.ensures.value) in
    subst (λ (s : BeginStage). IfOk c.from_header.result (BeginsWhole s c.from_header.new.desk)) (sym at)
    (begins-whole c.self.inside.wait c.args.desk.now c.from_header.new.desk stages.Header c.from_header.new.stage c.from_header.result c.from_header.ensures.comes)

pub returns-in-Tips-clause-whole : goal.returns-in-Tips-clause-whole
returns-in-Tips-clause-whole c =
    let at : c.args.self.now.stage ≡ stages.Tips c.in-Tips.part = grind (arith, c.self.view_is, c.in-Tips.ensures.value) in
    subst (λ (s : BeginStage). IfOk c.from_tips.result (BeginsWhole s c.from_tips.new.desk)) (sym at)
    (begins-whole c.self.inside.wait c.args.desk.now c.from_tips.new.desk (stages.Tips c.in-Tips.part) c.from_tips.new.stage c.from_tips.result c.from_tips.ensures.comes)

pub returns-in-Number-clause-whole : goal.returns-in-Number-clause-whole
returns-in-Number-clause-whole c =
    let at : c.args.self.now.stage ≡ stages.Number c.in-Number.snapshot c.in-Number.waiting = grind (arith, c.self.view_is, c.in-Number.ensures.value) in
    subst (λ (s : BeginStage). IfOk c.from_number.result (BeginsWhole s c.from_number.new.desk)) (sym at)
    (begins-whole c.args.self.now.wait c.args.desk.now c.from_number.new.desk (stages.Number c.in-Number.snapshot c.in-Number.waiting) c.from_number.new.stage c.from_number.result (c.from_number.ensures.comes c.args.self.now.wait))

-- From here on: the transaction has begun already.
begun-comes : (c : goal.After-from_begun) → IfOk c.from_begun.result (BeginComesTo c.args.self.now.wait c.args.desk.now stages.Begun c.from_begun.new.desk c.from_begun.new.stage)
begun-comes c = here-ok (BeginMoves c.args.self.now.wait) BeginAnswers c.args.desk.now c.from_begun.new.desk stages.Begun c.from_begun.new.stage c.from_begun.result c.from_begun.ensures.comes

pub returns-in-Begun-clause-comes : goal.returns-in-Begun-clause-comes
returns-in-Begun-clause-comes c =
    let at : c.args.self.now.stage ≡ stages.Begun = grind (arith, c.self.view_is, c.in-Begun.ensures.value) in
    subst (λ (s : BeginStage). IfOk c.from_begun.result (BeginComesTo c.args.self.now.wait c.args.desk.now s c.from_begun.new.desk c.from_begun.new.stage)) (sym at) (begun-comes c)

pub returns-in-Begun-clause-whole : goal.returns-in-Begun-clause-whole
returns-in-Begun-clause-whole c =
    let at : c.args.self.now.stage ≡ stages.Begun = grind (arith, c.self.view_is, c.in-Begun.ensures.value) in
    subst (λ (s : BeginStage). IfOk c.from_begun.result (BeginsWhole s c.from_begun.new.desk)) (sym at)
    (begins-whole c.args.self.now.wait c.args.desk.now c.from_begun.new.desk stages.Begun c.from_begun.new.stage c.from_begun.result (begun-comes c))

pub returns-in-Begun-clause-err : goal.returns-in-Begun-clause-err
returns-in-Begun-clause-err c =
    let at : c.args.self.now.stage ≡ stages.Begun = grind (arith, c.self.view_is, c.in-Begun.ensures.value) in
    subst (λ (s : BeginStage). OnErr c.from_begun.result (BeginStops c.args.self.now.wait c.args.desk.now s c.from_begun.new.desk c.from_begun.new.stage)) (sym at)
    (stops-here-err (BeginMoves c.args.self.now.wait) BeginWants c.args.desk.now c.from_begun.new.desk stages.Begun c.from_begun.new.stage c.from_begun.result c.from_begun.ensures.err)
