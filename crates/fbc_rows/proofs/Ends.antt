-- What the search for an empty slot comes to, by what stops it.
use Rattle.std.proofs.Common.{ℕ, Option, IfSome, sym, subst}
use Rattle.fbc_desk.specs.Desk.{DeskState}
use Rattle.fbc_rows.specs.declared.gathering.Empty.{Empty}
use Rattle.fbc_rows.specs.declared.gathering.Empty.TheVariants as empty
use Rattle.fbc_rows.specs.declared.parts.InsertPart.{InsertPart}
use Rattle.fbc_rows.specs.declared.parts.RowStep.{RowStep}
use Rattle.fbc_rows.specs.Damages.{Damages, EmptyDamages}
use Rattle.fbc_rows.specs.Gathering.{EmptyEnds}
use Rattle.fbc_rows.specs.Inserting.{IsBetween, Leaves}
use Rattle.fbc_rows.specs.Missing.{EmptyMisses, Misses}
use Rattle.fbc_rows.specs.Writes.{Writes}

pub between-empty : (stopped : Empty) (found : Option RowStep) → EmptyEnds stopped found → IfSome found IsBetween
between-empty (empty.At sequence) found is = subst (λ (f : Option RowStep). IfSome f IsBetween) (sym is) tt
between-empty (empty.Miss need) found is = subst (λ (f : Option RowStep). IfSome f IsBetween) (sym is) tt
between-empty (empty.Damaged page broken) found is = subst (λ (f : Option RowStep). IfSome f IsBetween) (sym is) tt

pub leaves-empty : (d : DeskState) (p : InsertPart) (stopped : Empty) (found : Option RowStep) → EmptyEnds stopped found → IfSome found (Leaves d p)
leaves-empty d p (empty.At sequence) found is = subst (λ (f : Option RowStep). IfSome f (Leaves d p)) (sym is) tt
leaves-empty d p (empty.Miss need) found is = subst (λ (f : Option RowStep). IfSome f (Leaves d p)) (sym is) tt
leaves-empty d p (empty.Damaged page broken) found is = subst (λ (f : Option RowStep). IfSome f (Leaves d p)) (sym is) tt

pub misses-empty : (d : DeskState) (stopped : Empty) (found : Option RowStep) → EmptyEnds stopped found → EmptyMisses d stopped → IfSome found (Misses d)
misses-empty d (empty.At sequence) found is misses = subst (λ (f : Option RowStep). IfSome f (Misses d)) (sym is) tt
misses-empty d (empty.Miss need) found is misses = subst (λ (f : Option RowStep). IfSome f (Misses d)) (sym is) misses
misses-empty d (empty.Damaged page broken) found is misses = subst (λ (f : Option RowStep). IfSome f (Misses d)) (sym is) tt

pub damages-empty : (d : DeskState) (relation : ℕ) (stopped : Empty) (found : Option RowStep) → EmptyEnds stopped found → EmptyDamages d relation stopped → IfSome found (Damages d relation)
damages-empty d relation (empty.At sequence) found is damages = subst (λ (f : Option RowStep). IfSome f (Damages d relation)) (sym is) tt
damages-empty d relation (empty.Miss need) found is damages = subst (λ (f : Option RowStep). IfSome f (Damages d relation)) (sym is) tt
damages-empty d relation (empty.Damaged page broken) found is damages = subst (λ (f : Option RowStep). IfSome f (Damages d relation)) (sym is) damages

pub writes-empty : (d : DeskState) (stopped : Empty) (found : Option RowStep) → EmptyEnds stopped found → IfSome found (Writes d)
writes-empty d (empty.At sequence) found is = subst (λ (f : Option RowStep). IfSome f (Writes d)) (sym is) tt
writes-empty d (empty.Miss need) found is = subst (λ (f : Option RowStep). IfSome f (Writes d)) (sym is) tt
writes-empty d (empty.Damaged page broken) found is = subst (λ (f : Option RowStep). IfSome f (Writes d)) (sym is) tt
