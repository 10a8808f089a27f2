-- What an insert comes to at the stages at which it gathers what a new data page needs: none where it goes on to the next stage.
use Rattle.std.specs.Prelude.{◌≡◌, ◌≢◌, ◌≤◌, ◌<◌, ◌*◌, ◌/◌, ℕ, Option, Some, None, true, false, length}
use Rattle.fbc_kinds.specs.Limits.{pointer_limit, slots}
use Rattle.fbc_cache.specs.Readers.{place as due_at}
use Rattle.fbc_cache.specs.Remembered.{pointers_of}
use Rattle.fbc_desk.specs.declared.holding.Held.{Held}
use Rattle.fbc_desk.specs.declared.holding.Held.TheVariants as held
use Rattle.fbc_desk.specs.Desk.{DeskState}
use Rattle.fbc_desk.specs.Holds.{Holds, HoldsAs}
use Rattle.fbc_space.specs.declared.finding.Found.{Found}
use Rattle.fbc_space.specs.declared.finding.Found.TheVariants as found
use Rattle.fbc_space.specs.declared.finding.FreeSearch.{FreeSearch}
use Rattle.fbc_space.specs.declared.free_steps.FreeStep.{FreeStep}
use Rattle.fbc_space.specs.declared.free_steps.FreeStep.TheVariants as free
use Rattle.fbc_space.specs.declared.taking_pages.Taking.TheVariants as taking
use Rattle.fbc_space.specs.Finding.{GoesPast, StopsAt}
use Rattle.fbc_space.specs.FreeSteps.{HoldsFree}
use Rattle.fbc_chains.specs.Pages.{LooksAt, StandsAt}
use Rattle.fbc_chains.specs.Showing.{Showing, shown_by}
use Rattle.fbc_chains.specs.Slots.{named_at}
use Rattle.fbc_rows.specs.declared.gathering.Empty.{Empty}
use Rattle.fbc_rows.specs.declared.gathering.Empty.TheVariants as empty
use Rattle.fbc_rows.specs.declared.parts.InsertPart.{InsertPart}
use Rattle.fbc_rows.specs.declared.parts.NewPage.{NewPage}
use Rattle.fbc_rows.specs.declared.parts.RowStep.{RowStep}
use Rattle.fbc_rows.specs.declared.parts.RowStep.TheVariants as step
use Rattle.fbc_rows.specs.declared.parts.Stage.TheVariants as stage
use Rattle.fbc_rows.specs.Gathering.{AreFull, EmptyEnds, FindsEmpty}
use Rattle.fbc_rows.specs.Needs.{pointer_at, pointer_place, to_change, to_get}
use Rattle.fbc_rows.specs.Parts.{in_last, standing}
use Rattle.fbc_rows.specs.Slots.{data_at}

-- The part by what the search for an empty slot finds: a free page is looked for from the first page inventory on, and the search for a
-- cell goes back to the place.
abbrev pub after_empty : ℕ → Empty → InsertPart → InsertPart
after_empty home (empty.At sequence) p = record p { at = home; stage = stage.Find sequence (record { sequence = 0; is_counted = false }) }
after_empty home _ p = p

-- What it comes to at the pointer page that is reached: past all that are known the header is looked at.
abbrev pub SlotsEnd : ℕ → ℕ → InsertPart → InsertPart → Option Empty → Option RowStep → Type 0
SlotsEnd home reached from to None answer = (answer ≡ None) × (to ≡ standing (stage.Header reached) from)
SlotsEnd home reached from to (Some stopped) answer = EmptyEnds stopped answer × (to ≡ after_empty home stopped (standing (stage.Slots reached) from))

-- The pointer pages before the one that is reached are full.
pub record SlotsComeTo (s : Showing) (relation home pointer : ℕ) (from to : InsertPart) (answer : Option RowStep) : Type 0 where
  pub reached : ℕ
  pub stopped : Option Empty
  pub full : AreFull s relation pointer reached
  pub finds : FindsEmpty s relation reached stopped
  pub ends : SlotsEnd home reached from to stopped answer

-- How many pointer pages are known.
abbrev pub pointer_count : Showing → ℕ → ℕ
pointer_count s relation = length (pointers_of s.pointers relation)

-- The part begins again where more pointer pages are known than were looked at; where there are as many as a relation has at most, the
-- last pass begins, with all sequences as its limit.
pub data GoesBack (s : Showing) (relation known : ℕ) (from to : InsertPart) : Type 0 where
  more : known < pointer_count s relation → to ≡ standing stage.Slot from → GoesBack s relation known from to
  most : pointer_count s relation ≤ known → known ≡ pointer_limit → to ≡ in_last (pointer_limit * slots s.shape.size) from → GoesBack s relation known from to

-- A further pointer page is due, which is not built.
pub record IsPointerDue (s : Showing) (relation known : ℕ) : Type 0 where
  pub no_more : pointer_count s relation ≤ known
  pub few : known ≢ pointer_limit

abbrev pub PastPointers : Showing → ℕ → ℕ → InsertPart → InsertPart → RowStep → Type 0
PastPointers s relation known from to step.Again = GoesBack s relation known from to
PastPointers s relation known from to step.Unbuilt = IsPointerDue s relation known × (to ≡ from)
PastPointers s relation known from to _ = ⊥

-- No slot of the known pointer pages is empty: the header is looked at.
abbrev pub HeaderComesTo : Showing → ℕ → ℕ → InsertPart → InsertPart → RowStep → Type 0
HeaderComesTo s relation known from to (step.Miss need) = LooksAt s 0 (due_at 1 0 0) (held.Miss need) × (to ≡ from)
HeaderComesTo s relation known from to (step.Damaged page broken) = LooksAt s 0 (due_at 1 0 0) (held.Damaged page broken) × (to ≡ from)
HeaderComesTo s relation known from to answer = StandsAt s 0 (due_at 1 0 0) × PastPointers s relation known from to answer

-- What the search for a free page comes to. Where none is free the last pass begins, and a further page inventory is not built.
abbrev pub FindEnds : ℕ → FreeSearch → InsertPart → InsertPart → Found → Option RowStep → Type 0
FindEnds sequence reached from to (found.Page page) answer = (answer ≡ None) × (to ≡ standing (stage.Get (record { page = page; sequence = sequence })) from)
FindEnds sequence reached from to (found.Miss need) answer = (answer ≡ Some (step.Miss need)) × (to ≡ standing (stage.Find sequence reached) from)
FindEnds sequence reached from to (found.Limit pages) answer = (answer ≡ Some step.Again) × (to ≡ in_last pages from)
FindEnds sequence reached from to (found.Uncounted uncounted) answer = (answer ≡ Some step.Unbuilt) × (to ≡ standing (stage.Find sequence reached) from)
FindEnds sequence reached from to (found.Damaged page broken) answer = (answer ≡ Some (step.Damaged page broken)) × (to ≡ standing (stage.Find sequence reached) from)

pub record FindComesTo (d : DeskState) (sequence : ℕ) (search : FreeSearch) (from to : InsertPart) (answer : Option RowStep) : Type 0 where
  pub reached : FreeSearch
  pub stopped : Found
  pub past : GoesPast d d.cache.shape.limit search reached
  pub stops : StopsAt d d.cache.shape.limit from.passed reached stopped
  pub ends : FindEnds sequence reached from to stopped answer

-- The free page is got.
abbrev pub GetComesTo : DeskState → NewPage → InsertPart → InsertPart → Option RowStep → Type 0
GetComesTo d new from to None = Holds d (to_get new.page) held.Here × (to ≡ standing (stage.Pointer new) from)
GetComesTo d new from to (Some (step.Miss need)) = Holds d (to_get new.page) (held.Miss need) × (to ≡ from)
GetComesTo d new from to (Some (step.Damaged page broken)) = Holds d (to_get new.page) (held.Damaged page broken) × (to ≡ from)
GetComesTo d new from to (Some _) = ⊥

-- What it comes to when the pointer page of the new page is to be changed.
abbrev pub HoldsPointer : DeskState → ℕ → NewPage → Held → Type 0
HoldsPointer d relation new answer =
    HoldsAs d (to_change (pointer_at (shown_by d.cache) relation (new.sequence / slots d.cache.shape.size)) true)
    (pointer_place relation (new.sequence / slots d.cache.shape.size)) answer

-- What its slot names: the insert goes on where that is no page, and else begins again.
abbrev pub SlotComesTo : Showing → ℕ → NewPage → InsertPart → InsertPart → Option RowStep → Type 0
SlotComesTo s relation new from to None = (named_at s (data_at relation new.sequence) ≡ 0) × (to ≡ standing (stage.Free new) from)
SlotComesTo s relation new from to (Some step.Again) = (named_at s (data_at relation new.sequence) ≢ 0) × (to ≡ standing stage.Slot from)
SlotComesTo s relation new from to (Some _) = ⊥

abbrev pub PointerComesTo : DeskState → ℕ → NewPage → InsertPart → InsertPart → Option RowStep → Type 0
PointerComesTo d relation new from to (Some (step.Miss need)) = HoldsPointer d relation new (held.Miss need) × (to ≡ from)
PointerComesTo d relation new from to (Some (step.Damaged page broken)) = HoldsPointer d relation new (held.Damaged page broken) × (to ≡ from)
PointerComesTo d relation new from to answer = HoldsPointer d relation new held.Here × SlotComesTo (shown_by d.cache) relation new from to answer

-- The free page is used, with the page inventory over it; the insert begins again where that shows it as taken.
abbrev pub FreeEnds : NewPage → InsertPart → InsertPart → FreeStep → Option RowStep → Type 0
FreeEnds new from to free.Here answer = (answer ≡ None) × (to ≡ standing (stage.Take new taking.Free) from)
FreeEnds new from to (free.Miss need) answer = (answer ≡ Some (step.Miss need)) × (to ≡ from)
FreeEnds new from to free.Gone answer = (answer ≡ Some step.Again) × (to ≡ standing stage.Slot from)
FreeEnds new from to (free.Damaged page broken) answer = (answer ≡ Some (step.Damaged page broken)) × (to ≡ from)

pub record FreeComesTo (d : DeskState) (new : NewPage) (from to : InsertPart) (answer : Option RowStep) : Type 0 where
  pub stopped : FreeStep
  pub between : DeskState
  pub holds : HoldsFree d new.page stopped between
  pub ends : FreeEnds new from to stopped answer
