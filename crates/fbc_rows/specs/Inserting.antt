-- What an insert comes to.
use Rattle.std.specs.Prelude.{◌≡◌, ◌⊎◌, ℕ, List, Option, Some, None, false}
use Rattle.fbc_cache.specs.Cache.{is_pinned_in}
use Rattle.fbc_desk.specs.Calls.{GoesOn}
use Rattle.fbc_desk.specs.Desk.{DeskState}
use Rattle.fbc_chains.specs.Showing.{Showing}
use Rattle.fbc_rows.specs.declared.parts.InsertPart.{InsertPart}
use Rattle.fbc_rows.specs.declared.parts.RowStep.{RowStep}
use Rattle.fbc_rows.specs.declared.parts.RowStep.TheVariants as step
use Rattle.fbc_rows.specs.declared.parts.Stage.TheVariants as stage
use Rattle.fbc_rows.specs.Putting.{PutsRow}
use Rattle.fbc_rows.specs.Searching.{ArePassed, HasRoom, sequences}

-- The last pass is over: this is its limit, and all sequences are passed over from where it stood.
pub record EndsLast (s : Showing) (relation from : ℕ) (last : Option ℕ) (pages : ℕ) : Type 0 where
  pub limit : last ≡ Some pages
  pub passed : ArePassed s relation from (sequences s relation)

-- Before the row is put, nothing ends with a row; and the search for an empty cell alone ends with a limit.
abbrev pub IsBetween : RowStep → Type 0
IsBetween (step.Done row) = ⊥
IsBetween (step.Limit pages) = ⊥
IsBetween _ = Unit {0}

abbrev pub IsBefore : Showing → ℕ → InsertPart → RowStep → Type 0
IsBefore s relation from (step.Done row) = ⊥
IsBefore s relation from (step.Limit pages) = EndsLast s relation from.at from.last pages
IsBefore s relation from _ = Unit {0}

-- Where the row is to be put, nothing ends with a limit.
abbrev pub IsAtEnd : RowStep → Type 0
IsAtEnd (step.Limit pages) = ⊥
IsAtEnd _ = Unit {0}

-- The place afterwards: the sequence, where the row is put.
abbrev pub place_after : RowStep → ℕ → ℕ → ℕ
place_after (step.Done row) sequence place = sequence
place_after _ sequence place = place

-- The row is put, after all that is done before: its page is the relation's data page of the sequence that is the place from now on.
pub record PutsAtLast (before : DeskState) (relation number : ℕ) (value : List ℕ) (place row : ℕ) (after : DeskState) : Type 0 where
  pub between : DeskState
  pub page : ℕ
  pub cell : ℕ
  pub goes : GoesOn before between
  pub puts : PutsRow between relation number value page place cell row after

-- What an insert comes to: a row that is put, or anything else, which leaves the place.
abbrev pub InsertComesTo : DeskState → ℕ → ℕ → List ℕ → ℕ → ℕ → DeskState → RowStep → Type 0
InsertComesTo before relation number value place placed after (step.Done row) = PutsAtLast before relation number value placed row after
InsertComesTo before relation number value place placed after _ = placed ≡ place

-- The limit comes in the last pass alone, when from where the part stood all sequences are passed over.
abbrev pub LimitComes : Showing → ℕ → InsertPart → RowStep → Type 0
LimitComes s relation from (step.Limit pages) = EndsLast s relation from.at from.last pages
LimitComes s relation from _ = Unit {0}

-- What the search for an empty cell passes over to its end: each sequence before one where there is room, or all.
pub data Sought (s : Showing) (relation from : ℕ) : Type 0 where
  room : (sequence page cell : ℕ) → ArePassed s relation from sequence → HasRoom s relation sequence page cell → Sought s relation from
  all : ArePassed s relation from (sequences s relation) → Sought s relation from

-- A call that begins in the search for an empty cell passes over sequences to its end; or to where the part stands, where a page is
-- missing or damaged; unless it begins anew.
abbrev pub Searches : Showing → ℕ → ℕ → InsertPart → RowStep → Type 0
Searches s relation from to (step.Miss need) = Sought s relation from ⊎ ArePassed s relation from to.at
Searches s relation from to (step.Damaged page broken) = Sought s relation from ⊎ ArePassed s relation from to.at
Searches s relation from to step.Again = Unit {0}
Searches s relation from to _ = Sought s relation from

abbrev pub SearchesFirst : Showing → ℕ → ℕ → InsertPart → Option RowStep → Type 0
SearchesFirst s relation from to (Some found) = Searches s relation from to found
SearchesFirst s relation from to None = Sought s relation from

-- No page is in use.
abbrev pub IsUnused : DeskState → Type 0
IsUnused d = (page : ℕ) → is_pinned_in d.cache.held page ≡ false

-- Behind a row that is put no page is in use, and neither is one where the part begins again: it stands at its first line then.
abbrev pub Leaves : DeskState → InsertPart → RowStep → Type 0
Leaves d p (step.Done row) = IsUnused d
Leaves d p step.Again = IsUnused d × (p.stage ≡ stage.Slot)
Leaves d p _ = Unit {0}
