-- What it comes to when the pointer page of a new page is to be changed.
use Rattle.std.proofs.Common.{◌≡◌, ◌/◌, ℕ, Option, Some, None, true, subst}
use Rattle.fbc_kinds.specs.Limits.{slots}
use Rattle.fbc_desk.specs.declared.holding.Held.TheVariants as held
use Rattle.fbc_desk.specs.Desk.{DeskState}
use Rattle.fbc_desk.specs.Holds.{HoldsAs}
use Rattle.fbc_chains.specs.Showing.{Showing, shown_by}
use Rattle.fbc_rows.specs.declared.parts.InsertPart.{InsertPart}
use Rattle.fbc_rows.specs.declared.parts.NewPage.{NewPage}
use Rattle.fbc_rows.specs.declared.parts.RowStep.{RowStep}
use Rattle.fbc_rows.specs.declared.parts.RowStep.TheVariants as step
use Rattle.fbc_rows.specs.Gathered.{HoldsPointer, PointerComesTo, SlotComesTo}
use Rattle.fbc_rows.specs.Needs.{pointer_at, pointer_place, to_change}

-- Where it is in use, its slot tells.
slot-tells : (d : DeskState) (relation : ℕ) (new : NewPage) (from to : InsertPart) (answer : Option RowStep)
    → HoldsPointer d relation new held.Here → SlotComesTo (shown_by d.cache) relation new from to answer → PointerComesTo d relation new from to answer
slot-tells d relation new from to None here tells = (here, tells)
slot-tells d relation new from to (Some (step.Done row)) here tells = absurd tells
slot-tells d relation new from to (Some (step.Miss need)) here tells = absurd tells
slot-tells d relation new from to (Some (step.Must asked)) here tells = absurd tells
slot-tells d relation new from to (Some step.Again) here tells = (here, tells)
slot-tells d relation new from to (Some (step.Limit pages)) here tells = absurd tells
slot-tells d relation new from to (Some (step.Damaged page broken)) here tells = absurd tells
slot-tells d relation new from to (Some step.Refused) here tells = absurd tells
slot-tells d relation new from to (Some step.Unbuilt) here tells = absurd tells

pub pointer-comes : (d between : DeskState) (relation count : ℕ) (new : NewPage) (from to : InsertPart) (answer : Option RowStep) → count ≡ slots d.cache.shape.size
    → HoldsAs d (to_change (pointer_at (shown_by d.cache) relation (new.sequence / count)) true) (pointer_place relation (new.sequence / count)) held.Here
    → shown_by between.cache ≡ shown_by d.cache → SlotComesTo (shown_by between.cache) relation new from to answer → PointerComesTo d relation new from to answer
pointer-comes d between relation count new from to answer is_count here same tells =
    slot-tells d relation new from to answer
    (subst (λ (n : ℕ). HoldsAs d (to_change (pointer_at (shown_by d.cache) relation (new.sequence / n)) true) (pointer_place relation (new.sequence / n)) held.Here) is_count here)
    (subst (λ (s : Showing). SlotComesTo s relation new from to answer) same tells)
