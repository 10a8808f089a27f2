-- What an insert comes to at a stage is told by where it began: it stands there still, or is past the search.
use Rattle.std.proofs.Common.{◌≡◌, ◌<◌, ℕ, true, false, Some, None, Result, IfOk, sym, subst, ap, inl, inr, arith}
use Rattle.fbc_kinds.specs.declared.rules.Rule.{Rule}
use Rattle.fbc_desk.specs.Desk.{DeskState}
use Rattle.fbc_chains.specs.Showing.{shown_by}
use Rattle.fbc_rows.specs.declared.parts.InsertPart.{InsertPart}
use Rattle.fbc_rows.specs.declared.parts.RowStep.{RowStep}
use Rattle.fbc_rows.specs.declared.parts.RowStep.TheVariants as step
use Rattle.fbc_rows.specs.declared.parts.Stage.{Stage}
use Rattle.fbc_rows.specs.declared.parts.Stage.TheVariants as stage
use Rattle.fbc_rows.specs.Damages.{InsertDamages, IsDamageTo}
use Rattle.fbc_rows.specs.Inserting.{Searches, SearchesFirst, Sought}
use Rattle.fbc_rows.specs.Parts.{is_searching, is_to_put, rank}
use Rattle.fbc_rows.specs.Stages.{StageComesTo}
use Rattle.fbc_rows.proofs.Onward.{IsLater, StandsSo, not-searching, onward}
use Rattle.fbc_rows.proofs.Steps.{result-searches, sought-searches}

-- How far the search goes.
pub searches-so : (before : DeskState) (relation : ℕ) (from : InsertPart) (d : DeskState) (part to : InsertPart) (answer : RowStep) → StandsSo before relation from d part
    → (is_searching part.stage ≡ true → SearchesFirst (shown_by d.cache) relation part.at to (Some answer))
    → is_searching from.stage ≡ true → Searches (shown_by before.cache) relation from.at to answer
searches-so before relation from d part to answer (inl same) searches searching =
    subst (λ (s : DeskState). Searches (shown_by s.cache) relation from.at to answer) same.0
    (subst (λ (p : InsertPart). Searches (shown_by d.cache) relation p.at to answer) same.1
    (searches (subst (λ (p : InsertPart). is_searching p.stage ≡ true) (sym same.1) searching)))
searches-so before relation from d part to answer (inr later) searches searching =
    sought-searches (shown_by before.cache) relation from.at to answer (later.sought searching)

pub searches-last : {E : Type 0} (before : DeskState) (relation : ℕ) (from : InsertPart) (d : DeskState) (part to : InsertPart) (result : Result RowStep E) → StandsSo before relation from d part
    → is_to_put part.stage ≡ true
    → is_searching from.stage ≡ true → IfOk result (Searches (shown_by before.cache) relation from.at to)
searches-last before relation from d part to result (inl same) last searching =
    absurd (apart part.stage last (subst (λ (p : InsertPart). is_searching p.stage ≡ true) (sym same.1) searching)) where
      apart : (at : Stage) → is_to_put at ≡ true → is_searching at ≡ true → ⊥
      apart stage.Slot put searches = absurd (cc)
      apart (stage.Page page) put searches = absurd (cc)
      apart (stage.Named page broken) put searches = absurd (cc)
      apart (stage.Slots pointer) put searches = absurd (cc)
      apart (stage.Header known) put searches = absurd (cc)
      apart (stage.Find sequence search) put searches = absurd (cc)
      apart (stage.Get new) put searches = absurd (cc)
      apart (stage.Pointer new) put searches = absurd (cc)
      apart (stage.Free new) put searches = absurd (cc)
      apart (stage.Take new far) put searches = absurd (cc)
      apart (stage.Name new) put searches = absurd (cc)
      apart (stage.Put page sequence cell) put searches = absurd (cc)
searches-last before relation from d part to result (inr later) last searching =
    result-searches (shown_by before.cache) relation from.at to result (later.sought searching)

-- Past the search the part remembers no damaged page.
damage-later : (after : DeskState) (relation : ℕ) (from part : InsertPart) (page : ℕ) (broken : Rule) → is_searching part.stage ≡ false
    → IsDamageTo after relation part page broken → IsDamageTo after relation from page broken
damage-later after relation from part page broken past (inl is) = inl is
damage-later after relation from part page broken past (inr is) = absurd (cc (past, ap is_searching is.was))

damages-later : (after : DeskState) (relation : ℕ) (from part : InsertPart) (answer : RowStep) → is_searching part.stage ≡ false
    → InsertDamages after relation part answer → InsertDamages after relation from answer
damages-later after relation from part (step.Damaged page broken) past is = damage-later after relation from part page broken past is
damages-later after relation from part (step.Done row) past is = tt
damages-later after relation from part (step.Miss need) past is = tt
damages-later after relation from part (step.Must asked) past is = tt
damages-later after relation from part step.Again past is = tt
damages-later after relation from part (step.Limit pages) past is = tt
damages-later after relation from part step.Refused past is = tt
damages-later after relation from part step.Unbuilt past is = tt

pub damages-so : (before : DeskState) (relation : ℕ) (from : InsertPart) (d : DeskState) (part : InsertPart) (after : DeskState) (answer : RowStep) → StandsSo before relation from d part
    → InsertDamages after relation part answer → InsertDamages after relation from answer
damages-so before relation from d part after answer (inl same) is = subst (λ (p : InsertPart). InsertDamages after relation p answer) same.1 is
damages-so before relation from d part after answer (inr later) is = damages-later after relation from part answer later.past is

-- Where it goes on from a stage, it is past the search.
sought-so : (before : DeskState) (relation : ℕ) (from : InsertPart) (d : DeskState) (part to : InsertPart) → StandsSo before relation from d part
    → (is_searching part.stage ≡ true → SearchesFirst (shown_by d.cache) relation part.at to None)
    → is_searching from.stage ≡ true → Sought (shown_by before.cache) relation from.at
sought-so before relation from d part to (inl same) searches searching =
    subst (λ (s : DeskState). Sought (shown_by s.cache) relation from.at) same.0
    (subst (λ (p : InsertPart). Sought (shown_by d.cache) relation p.at) same.1
    (searches (subst (λ (p : InsertPart). is_searching p.stage ≡ true) (sym same.1) searching)))
sought-so before relation from d part to (inr later) searches searching = later.sought searching

pub stands-later : (before : DeskState) (relation home : ℕ) (from : InsertPart) (d : DeskState) (part : InsertPart) (after : DeskState) (to : InsertPart) → StandsSo before relation from d part
    → StageComesTo relation home part.stage d part after to None
    → (is_searching part.stage ≡ true → SearchesFirst (shown_by d.cache) relation part.at to None)
    → IsLater before relation from to
stands-later before relation home from d part after to stands comes searches =
    let later : rank part.stage < rank to.stage = onward relation home part.stage d part after to comes in
    record {
      past = not-searching to.stage (omega (arith, later));
      sought = sought-so before relation from d part to stands searches;
    }
