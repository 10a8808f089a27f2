-- An insert goes on to later stages, and once it is past the search for an empty cell it never searches again.
use Rattle.std.proofs.Common.{◌≡◌, ◌⊎◌, ◌<◌, ◌≤◌, ℕ, true, false, Option, Some, None, refl, sym, subst, arith}
use Rattle.fbc_desk.specs.declared.edits.Made.{Made}
use Rattle.fbc_desk.specs.declared.edits.Made.TheVariants as made
use Rattle.fbc_desk.specs.Desk.{DeskState}
use Rattle.fbc_space.specs.declared.finding.Found.{Found}
use Rattle.fbc_space.specs.declared.finding.Found.TheVariants as found
use Rattle.fbc_space.specs.declared.finding.FreeSearch.{FreeSearch}
use Rattle.fbc_space.specs.declared.free_steps.FreeStep.{FreeStep}
use Rattle.fbc_space.specs.declared.free_steps.FreeStep.TheVariants as free
use Rattle.fbc_space.specs.declared.taking_pages.TakeStep.{TakeStep}
use Rattle.fbc_space.specs.declared.taking_pages.TakeStep.TheVariants as takes
use Rattle.fbc_space.specs.declared.taking_pages.Taking.{Taking}
use Rattle.fbc_space.specs.declared.taking_pages.Taking.TheVariants as takings
use Rattle.fbc_chains.specs.Showing.{Showing, shown_by}
use Rattle.fbc_rows.specs.declared.gathering.Empty.{Empty}
use Rattle.fbc_rows.specs.declared.gathering.Empty.TheVariants as empty
use Rattle.fbc_rows.specs.declared.parts.InsertPart.{InsertPart}
use Rattle.fbc_rows.specs.declared.parts.NewPage.{NewPage}
use Rattle.fbc_rows.specs.declared.parts.Stage.{Stage}
use Rattle.fbc_rows.specs.declared.parts.Stage.TheVariants as stage
use Rattle.fbc_rows.specs.declared.searching.Stop.{Stop}
use Rattle.fbc_rows.specs.declared.searching.Stop.TheVariants as stop
use Rattle.fbc_rows.specs.Gathered.{FindEnds, FreeEnds, SlotsEnd}
use Rattle.fbc_rows.specs.Inserting.{Sought}
use Rattle.fbc_rows.specs.Making.{NameEnds, TakeEnds}
use Rattle.fbc_rows.specs.Parts.{is_searching, rank, standing}
use Rattle.fbc_rows.specs.Searching.{CellComesTo, PassEnds, SearchEnds}
use Rattle.fbc_rows.specs.Stages.{StageComesTo}

-- The part stands at this stage.
at-rank : (first : ℕ) (at : Stage) (from to : InsertPart) → first < rank at → to ≡ standing at from → first < rank to.stage
at-rank first at from to later is = subst (λ (p : InsertPart). first < rank p.stage) (sym is) later

-- It goes on from the slots, from the search for a free page, and where that is used.
slots-onward : (home reached : ℕ) (from to : InsertPart) (stopped : Option Empty) → SlotsEnd home reached from to stopped None → 1 < rank to.stage
slots-onward home reached from to None ends = at-rank 1 (stage.Header reached) from to (grind arith) ends.1
slots-onward home reached from to (Some (empty.At sequence)) ends = subst (λ (p : InsertPart). 1 < rank p.stage) (sym ends.1) (grind arith)
slots-onward home reached from to (Some (empty.Miss need)) ends = absurd (cc ends.0)
slots-onward home reached from to (Some (empty.Damaged page broken)) ends = absurd (cc ends.0)

find-onward : (sequence : ℕ) (reached : FreeSearch) (from to : InsertPart) (stopped : Found) → FindEnds sequence reached from to stopped None → 3 < rank to.stage
find-onward sequence reached from to (found.Page page) ends = at-rank 3 (stage.Get (record { page = page; sequence = sequence })) from to (grind arith) ends.1
find-onward sequence reached from to (found.Miss need) ends = absurd (cc ends.0)
find-onward sequence reached from to (found.Limit pages) ends = absurd (cc ends.0)
find-onward sequence reached from to (found.Uncounted uncounted) ends = absurd (cc ends.0)
find-onward sequence reached from to (found.Damaged page broken) ends = absurd (cc ends.0)

free-onward : (new : NewPage) (from to : InsertPart) (stopped : FreeStep) → FreeEnds new from to stopped None → 6 < rank to.stage
free-onward new from to free.Here ends = at-rank 6 (stage.Take new takings.Free) from to (grind arith) ends.1
free-onward new from to (free.Miss need) ends = absurd (cc ends.0)
free-onward new from to free.Gone ends = absurd (cc ends.0)
free-onward new from to (free.Damaged page broken) ends = absurd (cc ends.0)

-- It goes on where the page is taken, and where it is named.
take-onward : (new : NewPage) (reached : Taking) (from to : InsertPart) (stopped : TakeStep) → TakeEnds new reached from to stopped None → 7 < rank to.stage
take-onward new reached from to takes.Done ends = at-rank 7 (stage.Name new) from to (grind arith) ends.1
take-onward new reached from to (takes.Must asked) ends = absurd (cc ends.0)
take-onward new reached from to takes.Refused ends = absurd (cc ends.0)

name-onward : (relation : ℕ) (new : NewPage) (between after : DeskState) (from to : InsertPart) (outcome : Made) → NameEnds relation new between after from to outcome None → 8 < rank to.stage
name-onward relation new between after from to made.Done ends = at-rank 8 (stage.Put new.page new.sequence 0) from to (grind arith) ends.2
name-onward relation new between after from to (made.WriteFirst edited high) ends = absurd (cc (ends.1.answers))
name-onward relation new between after from to made.Refused ends = absurd (cc ends.1)

-- It goes on from the search for an empty cell.
pass-onward : (last : Option ℕ) (from to : InsertPart) → PassEnds last from to None → 0 < rank to.stage
pass-onward None from to ends = at-rank 0 (stage.Slots 0) from to (grind arith) ends.1
pass-onward (Some pages) from to ends = absurd (cc ends.0)

search-onward : (home : ℕ) (from to : InsertPart) (stopped : Option Stop) → SearchEnds home from to stopped None → 0 < rank to.stage
search-onward home from to None ends = pass-onward from.last from to ends
search-onward home from to (Some (stop.Room page cell)) ends = at-rank 0 (stage.Put page from.at cell) from to (grind arith) ends.1
search-onward home from to (Some (stop.Miss need)) ends = absurd (cc ends.0)
search-onward home from to (Some stop.Gone) ends = absurd (cc ends.0)
search-onward home from to (Some (stop.Damaged page broken)) ends = absurd (cc ends.0)

cell-onward : (s : Showing) (relation home : ℕ) (from to : InsertPart) → CellComesTo s relation home from to None → 0 < rank to.stage
cell-onward s relation home from to is = search-onward home is.between to is.stopped is.ends

-- Where it goes on, it does so to a later stage.
pub onward : (relation home : ℕ) (at : Stage) (d : DeskState) (from : InsertPart) (after : DeskState) (to : InsertPart) → StageComesTo relation home at d from after to None → rank at < rank to.stage
onward relation home stage.Slot d from after to is = cell-onward (shown_by d.cache) relation home from to is.1
onward relation home (stage.Page page) d from after to is = cell-onward (shown_by d.cache) relation home from to is.1
onward relation home (stage.Named page broken) d from after to is = cell-onward (shown_by d.cache) relation home from to is.1
onward relation home (stage.Slots pointer) d from after to is = slots-onward home is.1.reached from to is.1.stopped is.1.ends
onward relation home (stage.Header known) d from after to is = absurd is.1
onward relation home (stage.Find sequence search-at) d from after to is = find-onward sequence is.1.reached from to is.1.stopped is.1.ends
onward relation home (stage.Get new) d from after to is = at-rank 4 (stage.Pointer new) from to (grind arith) is.1.1
onward relation home (stage.Pointer new) d from after to is = at-rank 5 (stage.Free new) from to (grind arith) is.1.1.1
onward relation home (stage.Free new) d from after to is = free-onward new from to is.1.stopped is.1.ends
onward relation home (stage.Take new far) d from after to is = take-onward new is.reached from to is.stopped is.ends
onward relation home (stage.Name new) d from after to is = name-onward relation new is.between after from to is.outcome is.ends
onward relation home (stage.Put page sequence cell) d from after to is = absurd is

-- No stage after the first ones is one of the search.
pub not-searching : (at : Stage) → 0 < rank at → is_searching at ≡ false
not-searching stage.Slot later = absurd (omega (arith, later))
not-searching (stage.Page page) later = absurd (omega (arith, later))
not-searching (stage.Named page broken) later = absurd (omega (arith, later))
not-searching (stage.Slots pointer) later = refl
not-searching (stage.Header known) later = refl
not-searching (stage.Find sequence search-at) later = refl
not-searching (stage.Get new) later = refl
not-searching (stage.Pointer new) later = refl
not-searching (stage.Free new) later = refl
not-searching (stage.Take new far) later = refl
not-searching (stage.Name new) later = refl
not-searching (stage.Put page sequence cell) later = refl

pub in-order : (at : Stage) → rank at ≤ 9
in-order stage.Slot = grind arith
in-order (stage.Page page) = grind arith
in-order (stage.Named page broken) = grind arith
in-order (stage.Slots pointer) = grind arith
in-order (stage.Header known) = grind arith
in-order (stage.Find sequence search-at) = grind arith
in-order (stage.Get new) = grind arith
in-order (stage.Pointer new) = grind arith
in-order (stage.Free new) = grind arith
in-order (stage.Take new far) = grind arith
in-order (stage.Name new) = grind arith
in-order (stage.Put page sequence cell) = grind arith

-- The part is past the search, which came to its end where the insert began in it.
pub record IsLater (before : DeskState) (relation : ℕ) (from part : InsertPart) : Type 0 where
  pub past : is_searching part.stage ≡ false
  pub sought : is_searching from.stage ≡ true → Sought (shown_by before.cache) relation from.at

-- The insert stands where it began, or is later.
abbrev pub StandsSo : DeskState → ℕ → InsertPart → DeskState → InsertPart → Type 0
StandsSo before relation from d part = ((d ≡ before) × (part ≡ from)) ⊎ IsLater before relation from part
