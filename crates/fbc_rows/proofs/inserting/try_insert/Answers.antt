-- What the insert comes to at a stage is told by where it began.
use Rattle.std.proofs.Common.{◌∙◌, Option, None, IfSome, inl, inr, refl, sym, subst}
use Rattle.fbc_desk.specs.Calls.{GoesOn}
use Rattle.fbc_desk.proofs.Goes.{goes_on}
use Rattle.fbc_chains.specs.Showing.{shown_by}
use Rattle.fbc_rows.specs.declared.parts.RowStep.{RowStep}
use Rattle.fbc_rows.specs.Damages.{InsertDamages}
use Rattle.fbc_rows.specs.Inserting.{SearchesFirst}
use Rattle.fbc_rows.specs.Stages.{Leads, StageComesTo}
use Rattle.fbc_rows.proofs.Standing.{damages-so, searches-last, searches-so, stands-later}
use Rattle.fbc_rows.proofs.inserting.try_insert.Goals as goal

pub loop-part-init : goal.loop-part-init
loop-part-init c = (Leads.stays, GoesOn.stays _, inl (refl, refl))

pub returns-in-Some-clause-searches : goal.returns-in-Some-clause-searches
returns-in-Some-clause-searches c =
    searches-so c.args.desk.now c.args.relation c.args.part.now c.loop-part.desk c.loop-part.part c.go_on.new.part c.in-Some.step c.loop-part.invariant.2
    (λ searching. subst (λ (done : Option RowStep). SearchesFirst (shown_by c.loop-part.desk.cache) c.args.relation c.loop-part.part.at c.go_on.new.part done) c.in-Some.is (c.in_ok-step.ensures.searches searching))

pub returns-in-Some-clause-damages : goal.returns-in-Some-clause-damages
returns-in-Some-clause-damages c =
    damages-so c.args.desk.now c.args.relation c.args.part.now c.loop-part.desk c.loop-part.part c.go_on.new.desk c.in-Some.step c.loop-part.invariant.2
    (subst (λ (done : Option RowStep). IfSome done (InsertDamages c.go_on.new.desk c.args.relation c.loop-part.part)) c.in-Some.is c.in_ok-step.ensures.damages)

pub loop-part-preserved : goal.loop-part-preserved
loop-part-preserved c =
    let comes : StageComesTo c.args.relation c.args.place.now c.loop-part.part.stage c.loop-part.desk c.loop-part.part c.go_on.new.desk c.go_on.new.part None =
    subst (λ (done : Option RowStep). StageComesTo c.args.relation c.args.place.now c.loop-part.part.stage c.loop-part.desk c.loop-part.part c.go_on.new.desk c.go_on.new.part done) c.in_default.is c.in_ok-step.ensures.comes in (
      Leads.goes c.loop-part.desk c.go_on.new.desk c.loop-part.part c.go_on.new.part c.loop-part.invariant.0 comes,
      goes_on _ _ _ c.loop-part.invariant.1 c.go_on.ensures.goes,
      inr (stands-later c.args.desk.now c.args.relation c.args.place.now c.args.part.now c.loop-part.desk c.loop-part.part c.go_on.new.desk c.go_on.new.part c.loop-part.invariant.2 comes
          (λ searching. subst (λ (done : Option RowStep). SearchesFirst (shown_by c.loop-part.desk.cache) c.args.relation c.loop-part.part.at c.go_on.new.part done) c.in_default.is (c.in_ok-step.ensures.searches searching))),
    )

pub returns-clause-searches : goal.returns-clause-searches
returns-clause-searches c = searches-last c.args.desk.now c.args.relation c.args.part.now c.loop-part.desk c.loop-part.part c.loop-part.part c.put.result c.loop-part.invariant.2 (sym c.is_to_put.ensures ∙ c.loop-part-test.false)
