-- Sequence by sequence the search comes further, until it is stopped.
use Rattle.std.proofs.Common.{◌≡◌, ◌∙◌, ◌+◌, inl, inr, ℕ, Some, refl, sym, ap, subst}
use Rattle.fbc_desk.specs.Calls.{GoesOn}
use Rattle.fbc_desk.proofs.Goes.{goes_on}
use Rattle.fbc_chains.specs.Showing.{Showing, shown_by}
use Rattle.fbc_rows.specs.declared.parts.InsertPart.{InsertPart}
use Rattle.fbc_rows.specs.declared.parts.Stage.TheVariants as stages
use Rattle.fbc_rows.specs.Searching.{ArePassed, IsPassed, LooksOver, SearchStops}
use Rattle.fbc_rows.proofs.Remembered.{damages-first}
use Rattle.fbc_rows.proofs.Ways.{none-yet, one-more, rests, stops-there}
use Rattle.fbc_rows.proofs.Gone.{gone-first}
use Rattle.fbc_rows.proofs.searching.search.Goals as goal

pub loop-part-init : goal.loop-part-init
loop-part-init c = (none-yet _ _ _, refl, GoesOn.stays _, refl, inl refl)

pub loop-part-preserved : goal.loop-part-preserved
loop-part-preserved c =
    let same-at : c.look.new.part.at ≡ c.loop-part.part.at = ap (λ (p : InsertPart). p.at) c.look.ensures.rest in (
      subst (λ (n : ℕ). ArePassed (shown_by c.args.desk.now.cache) c.args.relation c.args.part.now.at (n + 1)) (sym same-at)
          (one-more (shown_by c.args.desk.now.cache) c.args.relation c.args.part.now.at c.loop-part.part.at c.loop-part.invariant.0
          (subst (λ (u : Showing). IsPassed u c.args.relation c.loop-part.part.at) c.loop-part.invariant.1 c.in_default.ensures.passes)),
      c.look.ensures.same ∙ c.loop-part.invariant.1,
      goes_on _ _ _ c.loop-part.invariant.2 c.look.ensures.goes,
      rests c.args.part.now c.loop-part.part c.look.new.part (c.look.new.part.at + 1) stages.Slot c.loop-part.invariant.3 c.look.ensures.rest,
      inr refl,
    )

pub returns-in-Some-clause-passes : goal.returns-in-Some-clause-passes
returns-in-Some-clause-passes c =
    subst (λ (n : ℕ). ArePassed (shown_by c.args.desk.now.cache) c.args.relation c.args.part.now.at n) (sym (ap (λ (p : InsertPart). p.at) c.look.ensures.rest)) c.loop-part.invariant.0

pub returns-in-Some-clause-stops : goal.returns-in-Some-clause-stops
returns-in-Some-clause-stops c =
    subst (λ (n : ℕ). SearchStops (shown_by c.args.desk.now.cache) c.args.relation n (Some c.in-Some.stop)) (sym (ap (λ (p : InsertPart). p.at) c.look.ensures.rest))
    (stops-there (shown_by c.args.desk.now.cache) c.args.relation c.loop-part.part.at c.in-Some.stop
    (subst (λ (u : Showing). LooksOver u c.args.relation c.loop-part.part.at (Some c.in-Some.stop)) c.loop-part.invariant.1 c.in-Some.ensures.passes))

pub returns-in-Some-clause-rest : goal.returns-in-Some-clause-rest
returns-in-Some-clause-rest c = rests c.args.part.now c.loop-part.part c.look.new.part c.look.new.part.at c.look.new.part.stage c.loop-part.invariant.3 c.look.ensures.rest

pub returns-in-Some-clause-same : goal.returns-in-Some-clause-same
returns-in-Some-clause-same c = c.look.ensures.same ∙ c.loop-part.invariant.1

pub returns-in-Some-clause-goes : goal.returns-in-Some-clause-goes
returns-in-Some-clause-goes c = goes_on _ _ _ c.loop-part.invariant.2 c.look.ensures.goes

pub returns-in-Some-clause-damages : goal.returns-in-Some-clause-damages
returns-in-Some-clause-damages c =
    damages-first c.look.new.desk c.args.relation c.args.part.now c.loop-part.part c.in-Some.stop c.loop-part.invariant.4 c.in-Some.ensures.damages

pub returns-in-Some-clause-gone : goal.returns-in-Some-clause-gone
returns-in-Some-clause-gone c =
    gone-first (shown_by c.args.desk.now.cache) (shown_by c.loop-part.desk.cache) c.args.relation c.args.part.now c.loop-part.part c.in-Some.stop c.loop-part.invariant.1 c.loop-part.invariant.4 c.in-Some.ensures.gone
