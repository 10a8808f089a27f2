-- What the search for an empty cell comes to.
use Rattle.std.specs.Prelude.{◌≡◌, ◌≢◌, ◌⊎◌, ◌≤◌, ◌<◌, ◌*◌, ℕ, Option, Some, None, IfSome, length}
use Rattle.fbc_kinds.specs.Limits.{slots}
use Rattle.fbc_cache.specs.Least.{IsLeast, is_empty_in}
use Rattle.fbc_cache.specs.Readers.{place, place_in}
use Rattle.fbc_cache.specs.Remembered.{pointers_of}
use Rattle.fbc_desk.specs.Roles.{misplaced}
use Rattle.fbc_chains.specs.Showing.{Showing}
use Rattle.fbc_rows.specs.declared.parts.InsertPart.{InsertPart}
use Rattle.fbc_rows.specs.declared.parts.RowStep.{RowStep}
use Rattle.fbc_rows.specs.declared.parts.RowStep.TheVariants as step
use Rattle.fbc_rows.specs.declared.parts.Stage.{Stage}
use Rattle.fbc_rows.specs.declared.parts.Stage.TheVariants as stage
use Rattle.fbc_rows.specs.declared.searching.Stop.{Stop}
use Rattle.fbc_rows.specs.declared.searching.Stop.TheVariants as stop
use Rattle.fbc_rows.specs.Parts.{standing, went_back}
use Rattle.fbc_rows.specs.Slots.{Names}

-- How many sequences the relation has on the pointer pages that are known.
abbrev pub sequences : Showing → ℕ → ℕ
sequences s relation = length (pointers_of s.pointers relation) * slots s.shape.size

-- The slot of the sequence names the page, which is the relation's data page of the sequence.
pub record IsNamedHere (s : Showing) (relation sequence page : ℕ) : Type 0 where
  pub names : Names s relation sequence page
  pub placed : misplaced (place_in (s.copies page)) (place 5 relation sequence) ≡ None

-- That page has no empty cell; or this is its first one.
pub record HasNoRoom (s : Showing) (relation sequence : ℕ) : Type 0 where
  pub page : ℕ
  pub named : IsNamedHere s relation sequence page
  pub full : IsLeast (is_empty_in (s.copies page)) None

pub record HasRoom (s : Showing) (relation sequence page cell : ℕ) : Type 0 where
  pub named : IsNamedHere s relation sequence page
  pub first : IsLeast (is_empty_in (s.copies page)) (Some cell)

-- A sequence is passed over where its slot names no page, or a data page without an empty cell.
abbrev pub IsPassed : Showing → ℕ → ℕ → Type 0
IsPassed s relation sequence = Names s relation sequence 0 ⊎ HasNoRoom s relation sequence

-- Each sequence from the first number on and before the second is passed over.
abbrev pub ArePassed : Showing → ℕ → ℕ → ℕ → Type 0
ArePassed s relation from to = (sequence : ℕ) → from ≤ sequence → sequence < to → IsPassed s relation sequence

-- What the search comes to at a sequence: it is passed over, or there is room; what else stops it, says nothing of its cells.
abbrev pub LooksOver : Showing → ℕ → ℕ → Option Stop → Type 0
LooksOver s relation sequence None = IsPassed s relation sequence
LooksOver s relation sequence (Some (stop.Room page cell)) = HasRoom s relation sequence page cell
LooksOver s relation sequence (Some _) = Unit {0}

-- What it comes to where it stands: it is past all sequences, or is stopped at one of them.
abbrev pub SearchStops : Showing → ℕ → ℕ → Option Stop → Type 0
SearchStops s relation at None = sequences s relation ≤ at
SearchStops s relation at (Some (stop.Room page cell)) = HasRoom s relation at page cell
SearchStops s relation at (Some _) = Unit {0}

-- The slot of the sequence names another page by now.
pub record NamesOther (s : Showing) (relation sequence page : ℕ) : Type 0 where
  pub named : ℕ
  pub names : Names s relation sequence named
  pub other : named ≢ page

-- The page is gone that the part remembers as the one that its slot named.
abbrev pub remembered : Stage → Option ℕ
remembered (stage.Page page) = Some page
remembered (stage.Named page broken) = Some page
remembered _ = None

pub record IsGone (s : Showing) (relation : ℕ) (from : InsertPart) : Type 0 where
  pub page : ℕ
  pub is_remembered : remembered from.stage ≡ Some page
  pub names_other : NamesOther s relation from.at page

-- Where the search is stopped because a page is gone, this is so.
abbrev pub IfGone : Type 0 → Stop → Type 0
IfGone So stop.Gone = So
IfGone So _ = Unit {0}

-- What the insert comes to by what stops the search at a sequence: the row is to be put where there is room; the search goes back and
-- begins anew where the page is gone.
abbrev pub StopEnds : ℕ → InsertPart → InsertPart → Stop → Option RowStep → Type 0
StopEnds home from to (stop.Room page cell) answer = (answer ≡ None) × (to ≡ standing (stage.Put page from.at cell) from)
StopEnds home from to (stop.Miss need) answer = (answer ≡ Some (step.Miss need)) × (to ≡ from)
StopEnds home from to stop.Gone answer = (answer ≡ Some step.Again) × (to ≡ went_back home from)
StopEnds home from to (stop.Damaged page broken) answer = (answer ≡ Some (step.Damaged page broken)) × (to ≡ from)

-- Past all sequences: the limit, in the last pass; else pointer pages are looked at for an empty slot.
abbrev pub PassEnds : Option ℕ → InsertPart → InsertPart → Option RowStep → Type 0
PassEnds (Some pages) from to answer = (answer ≡ Some (step.Limit pages)) × (to ≡ from)
PassEnds None from to answer = (answer ≡ None) × (to ≡ standing (stage.Slots 0) from)

abbrev pub SearchEnds : ℕ → InsertPart → InsertPart → Option Stop → Option RowStep → Type 0
SearchEnds home from to (Some stopped) answer = StopEnds home from to stopped answer
SearchEnds home from to None answer = PassEnds from.last from to answer

-- The search for an empty cell passes over sequences, to where it is stopped, or past all of them.
pub record CellComesTo (s : Showing) (relation home : ℕ) (from to : InsertPart) (answer : Option RowStep) : Type 0 where
  pub between : InsertPart
  pub stopped : Option Stop
  pub rest : between ≡ record from { at = between.at; stage = between.stage }
  pub passes : ArePassed s relation from.at between.at
  pub stops : SearchStops s relation between.at stopped
  pub gone : IfSome stopped (IfGone (IsGone s relation from))
  pub ends : SearchEnds home between to stopped answer
