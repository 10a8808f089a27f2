-- The way down.
use Rattle.std.proofs.Common.{◌≡◌, ◌≢◌, ◌⊎◌, ℕ, inl, inr, refl, subst}
use Rattle.fbc_chains.specs.declared.walking.Down.TheVariants as downs
use Rattle.fbc_chains.proofs.Pins.{same-or-not}
use Rattle.fbc_kinds.specs.Chain.{holds}
use Rattle.fbc_desk.specs.Calls.{GoesOn}
use Rattle.fbc_desk.proofs.Goes.{goes_on}
use Rattle.fbc_chains.specs.declared.parts.ReadPart.TheVariants as parts
use Rattle.fbc_chains.specs.declared.parts.ReadStep.{ReadStep}
use Rattle.fbc_chains.specs.declared.parts.ReadStep.TheVariants as steps
use Rattle.fbc_chains.specs.Using.{IsLeft, IsLeftBelow, IsUsed, StandsStill, StaysAbove}
use Rattle.fbc_chains.specs.Reading.{Answers, GoesTo, LeadsTo}
use Rattle.fbc_chains.specs.Showing.{Showing, shown_by}
use Rattle.fbc_chains.proofs.Ways.{number-falls}
use Rattle.fbc_chains.proofs.walking.walk.Goals as goal

pub loop-below-init : goal.loop-below-init
loop-below-init c = (LeadsTo.stays _, refl, GoesOn.stays _, λ used. used, λ other used. first other used (same-or-not other c.args.from)) where
  first : (other : ℕ) → IsUsed c.args.desk.now other → (other ≡ c.args.from) ⊎ (other ≢ c.args.from) → (IsUsed c.args.desk.now other × (other ≢ c.args.from)) ⊎ (other ≡ c.args.from)
  first other used (inl is) = inr is
  first other used (inr differs) = inl (used, differs)

pub loop-below-smaller : goal.loop-below-smaller
loop-below-smaller c =
    number-falls (shown_by c.args.desk.now.cache) (shown_by c.loop-below.desk.cache) c.args.at (holds c.args.snapshot.now) c.loop-below.page c.loop-below.cell c.in-To.below c.in-To.older
    c.loop-below.invariant.1 c.in-To.ensures.steps

pub loop-below-preserved : goal.loop-below-preserved
loop-below-preserved c = (
  LeadsTo.goes _ (parts.Walk c.loop-below.page c.loop-below.cell) _ c.loop-below.invariant.0
      (subst (λ (u : Showing). GoesTo u c.args.at (holds c.args.snapshot.now) (parts.Walk c.loop-below.page c.loop-below.cell) (parts.Walk c.in-To.below c.in-To.older))
      c.loop-below.invariant.1 c.in-To.ensures.steps),
  subst (λ (u : Showing). shown_by c.step_down.new.desk.cache ≡ u) c.loop-below.invariant.1 c.in-To.ensures.same,
  goes_on _ _ _ c.loop-below.invariant.2 c.in-To.ensures.goes,
  λ used. c.in-To.ensures.stands,
  λ other used. left other (c.in-To.ensures.left other used),
) where
  left : (other : ℕ) → (IsUsed c.loop-below.desk other × (other ≢ c.loop-below.page)) ⊎ (other ≡ c.in-To.below) → (IsUsed c.args.desk.now other × (other ≢ c.args.from)) ⊎ (other ≡ c.in-To.below)
  left other (inr is) = inr is
  left other (inl used) = before (c.loop-below.invariant.4 other used.0) where
    before : (IsUsed c.args.desk.now other × (other ≢ c.args.from)) ⊎ (other ≡ c.loop-below.page) → (IsUsed c.args.desk.now other × (other ≢ c.args.from)) ⊎ (other ≡ c.in-To.below)
    before (inl was) = inl was
    before (inr is) = absurd (used.1 is)

pub returns-in-Answer-clause-comes : goal.returns-in-Answer-clause-comes
returns-in-Answer-clause-comes c = record {
  way = c.loop-below.invariant.0;
  answers =
      subst (λ (u : Showing). Answers u c.args.at (holds c.args.snapshot.now) (parts.Walk c.loop-below.page c.loop-below.cell) c.in-Answer.step)
      c.loop-below.invariant.1 c.in-Answer.ensures.steps;
}

pub returns-in-Answer-clause-same : goal.returns-in-Answer-clause-same
returns-in-Answer-clause-same c = subst (λ (u : Showing). shown_by c.step_down.new.desk.cache ≡ u) c.loop-below.invariant.1 c.in-Answer.ensures.same

pub returns-in-Answer-clause-goes : goal.returns-in-Answer-clause-goes
returns-in-Answer-clause-goes c = goes_on _ _ _ c.loop-below.invariant.2 c.in-Answer.ensures.goes

pub returns-in-Answer-clause-stands : goal.returns-in-Answer-clause-stands
returns-in-Answer-clause-stands c = λ used. go (c.loop-below.invariant.3 used) c.in-Answer.step c.in-Answer.ensures.stands where
  go : IsUsed c.loop-below.desk c.loop-below.page → (step : ReadStep) → StaysAbove c.loop-below.desk c.step_down.new.desk c.loop-below.page step → StandsStill c.step_down.new.desk (parts.Walk c.loop-below.page c.loop-below.cell) step
  go used (steps.Done value) stays = tt
  go used (steps.Miss need) stays = stays used
  go used (steps.Damaged page rule) stays = stays used

pub returns-in-Answer-clause-left : goal.returns-in-Answer-clause-left
returns-in-Answer-clause-left c = λ other used. left other (c.in-Answer.ensures.left other used) where
  own : (other : ℕ) (step : ReadStep) → IsLeftBelow (shown_by c.args.desk.now.cache) c.loop-below.page c.loop-below.cell (downs.Answer step) other → IsLeft (shown_by c.args.desk.now.cache) c.args.at (parts.Walk c.loop-below.page c.loop-below.cell) step other
  own other (steps.Done value) is = is
  own other (steps.Miss need) is = is
  own other (steps.Damaged page rule) is = is

  left : (other : ℕ) → (IsUsed c.loop-below.desk other × (other ≢ c.loop-below.page)) ⊎ IsLeftBelow (shown_by c.loop-below.desk.cache) c.loop-below.page c.loop-below.cell (downs.Answer c.in-Answer.step) other
      → (IsUsed c.args.desk.now other × (other ≢ c.args.from)) ⊎ IsLeft (shown_by c.args.desk.now.cache) c.args.at (parts.Walk c.loop-below.page c.loop-below.cell) c.in-Answer.step other
  left other (inr is) =
      inr (own other c.in-Answer.step (subst (λ (u : Showing). IsLeftBelow u c.loop-below.page c.loop-below.cell (downs.Answer c.in-Answer.step) other) c.loop-below.invariant.1 is))
  left other (inl used) = before (c.loop-below.invariant.4 other used.0) where
    before : (IsUsed c.args.desk.now other × (other ≢ c.args.from)) ⊎ (other ≡ c.loop-below.page)
        → (IsUsed c.args.desk.now other × (other ≢ c.args.from)) ⊎ IsLeft (shown_by c.args.desk.now.cache) c.args.at (parts.Walk c.loop-below.page c.loop-below.cell) c.in-Answer.step other
    before (inl was) = inl was
    before (inr is) = absurd (used.1 is)
