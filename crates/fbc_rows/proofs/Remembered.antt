-- A page that the part remembers as damaged.
use Rattle.std.proofs.Common.{◌≡◌, ◌⊎◌, inl, inr, ℕ, Option, Some, None, Result, Ok, Err, IfOk, IfSome, sym, subst, ◌∙◌}
use Rattle.fbc_kinds.specs.declared.rules.Rule.{Rule}
use Rattle.fbc_cache.specs.Readers.{place, place_in}
use Rattle.fbc_desk.specs.Desk.{DeskState}
use Rattle.fbc_desk.specs.Roles.{misplaced}
use Rattle.fbc_chains.specs.Showing.{Showing, shown_by}
use Rattle.fbc_rows.specs.declared.parts.InsertPart.{InsertPart}
use Rattle.fbc_rows.specs.declared.parts.RowStep.{RowStep}
use Rattle.fbc_rows.specs.declared.parts.RowStep.TheVariants as step
use Rattle.fbc_rows.specs.declared.parts.Stage.TheVariants as stage
use Rattle.fbc_rows.specs.declared.searching.Stop.{Stop}
use Rattle.fbc_rows.specs.declared.searching.Stop.TheVariants as stop
use Rattle.fbc_rows.specs.Damages.{Damages, InsertDamages, IsDamaged, NamedDamages, SearchDamages, StopDamages}

-- At the first sequence the part is as it was; later it stands at a slot, and remembers nothing.
pub damages-first : (d : DeskState) (relation : ℕ) (first part : InsertPart) (found : Stop) → (part ≡ first) ⊎ (part.stage ≡ stage.Slot) → SearchDamages d relation part found → SearchDamages d relation first found
damages-first d relation first part found (inl is) damages = subst (λ (p : InsertPart). SearchDamages d relation p found) is damages
damages-first d relation first part (stop.Room page cell) (inr is) damages = tt
damages-first d relation first part (stop.Miss need) (inr is) damages = tt
damages-first d relation first part stop.Gone (inr is) damages = tt
damages-first d relation first part (stop.Damaged page broken) (inr is) (inl damage) = inl damage
damages-first d relation first part (stop.Damaged page broken) (inr is) (inr remembered) = absurd (other (sym is ∙ remembered.was)) where
  other : stage.Slot ≡ stage.Named page (Some broken) → ⊥
  other same = cc same

-- What is judged by the copies at hand is damage, where it is named.
named-now : (d : DeskState) (s : Showing) (relation sequence used : ℕ) (kept : Option Rule) (found : Stop) → kept ≡ misplaced (place_in (s.copies used)) (place 5 relation sequence) → shown_by d.cache ≡ s
    → NamedDamages d relation sequence used kept found → StopDamages d relation found
named-now d s relation sequence used kept (stop.Room page cell) is same damages = tt
named-now d s relation sequence used kept (stop.Miss need) is same damages = tt
named-now d s relation sequence used kept stop.Gone is same damages = tt
named-now d s relation sequence used kept (stop.Damaged page broken) is same (inl damage) = damage
named-now d s relation sequence used kept (stop.Damaged page broken) is same (inr still) =
    inl (IsDamaged.data_page sequence still.names
    (subst (λ (p : ℕ). misplaced (place_in ((shown_by d.cache).copies p)) (place 5 relation sequence) ≡ Some broken) (sym still.is_page)
    (subst (λ (u : Showing). misplaced (place_in (u.copies used)) (place 5 relation sequence) ≡ Some broken) (sym same) (sym is ∙ still.was))))

pub named-now-some : (d : DeskState) (s : Showing) (relation sequence used : ℕ) (kept : Option Rule) (found : Option Stop) → kept ≡ misplaced (place_in (s.copies used)) (place 5 relation sequence) → shown_by d.cache ≡ s
    → IfSome found (NamedDamages d relation sequence used kept) → IfSome found (StopDamages d relation)
named-now-some d s relation sequence used kept None is same damages = tt
named-now-some d s relation sequence used kept (Some found) is same damages = named-now d s relation sequence used kept found is same damages

-- What is judged by what the part remembers.
named-then : (d : DeskState) (relation : ℕ) (from : InsertPart) (used : ℕ) (kept : Option Rule) (found : Stop) → from.stage ≡ stage.Named used kept → NamedDamages d relation from.at used kept found → SearchDamages d relation from found
named-then d relation from used kept (stop.Room page cell) is damages = tt
named-then d relation from used kept (stop.Miss need) is damages = tt
named-then d relation from used kept stop.Gone is damages = tt
named-then d relation from used kept (stop.Damaged page broken) is (inl damage) = inl damage
named-then d relation from used kept (stop.Damaged page broken) is (inr still) = inr (record {
  was = subst (λ (p : ℕ). from.stage ≡ stage.Named p (Some broken)) (sym still.is_page) (subst (λ (k : Option Rule). from.stage ≡ stage.Named used k) still.was is);
  names = still.names;
})

pub named-then-some : (d : DeskState) (relation : ℕ) (from : InsertPart) (used : ℕ) (kept : Option Rule) (found : Option Stop) → from.stage ≡ stage.Named used kept → IfSome found (NamedDamages d relation from.at used kept) → IfSome found (SearchDamages d relation from)
named-then-some d relation from used kept None is damages = tt
named-then-some d relation from used kept (Some found) is damages = named-then d relation from used kept found is damages

-- What is damage is so to any part.
damages-now : (d : DeskState) (relation : ℕ) (from : InsertPart) (found : Stop) → StopDamages d relation found → SearchDamages d relation from found
damages-now d relation from (stop.Room page cell) damages = tt
damages-now d relation from (stop.Miss need) damages = tt
damages-now d relation from stop.Gone damages = tt
damages-now d relation from (stop.Damaged page broken) damages = inl damages

pub damages-now-some : (d : DeskState) (relation : ℕ) (from : InsertPart) (found : Option Stop) → IfSome found (StopDamages d relation) → IfSome found (SearchDamages d relation from)
damages-now-some d relation from None damages = tt
damages-now-some d relation from (Some found) damages = damages-now d relation from found damages

pub damages-later : (d : DeskState) (relation : ℕ) (from : InsertPart) (found : RowStep) → Damages d relation found → InsertDamages d relation from found
damages-later d relation from (step.Done row) damages = tt
damages-later d relation from (step.Miss need) damages = tt
damages-later d relation from (step.Must asked) damages = tt
damages-later d relation from step.Again damages = tt
damages-later d relation from (step.Limit pages) damages = tt
damages-later d relation from (step.Damaged page broken) damages = inl damages
damages-later d relation from step.Refused damages = tt
damages-later d relation from step.Unbuilt damages = tt

pub damages-later-some : (d : DeskState) (relation : ℕ) (from : InsertPart) (found : Option RowStep) → IfSome found (Damages d relation) → IfSome found (InsertDamages d relation from)
damages-later-some d relation from None damages = tt
damages-later-some d relation from (Some found) damages = damages-later d relation from found damages

pub damages-later-ok : {E : Type 0} (d : DeskState) (relation : ℕ) (from : InsertPart) (found : Result RowStep E) → IfOk found (Damages d relation) → IfOk found (InsertDamages d relation from)
damages-later-ok d relation from (Ok found) damages = damages-later d relation from found damages
damages-later-ok d relation from (Err error) damages = tt
