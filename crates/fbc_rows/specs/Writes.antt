-- Which write is due before an edit.
use Rattle.std.specs.Prelude.{ℕ, List}
use Rattle.fbc_kinds.specs.declared.edits.Edit.{Edit}
use Rattle.fbc_world.specs.declared.asks.Ask.{Ask}
use Rattle.fbc_world.specs.declared.asks.Cause.TheVariants as cause
use Rattle.fbc_cache.specs.Giving.{IsWriteFor}
use Rattle.fbc_desk.specs.declared.edits.Made.TheVariants as made
use Rattle.fbc_desk.specs.Calls.{EditComesTo}
use Rattle.fbc_desk.specs.Desk.{DeskState}
use Rattle.fbc_rows.specs.declared.parts.RowStep.{RowStep}
use Rattle.fbc_rows.specs.declared.parts.RowStep.TheVariants as step

-- The edited page is to be written first, before a high page: the next write in order is asked, among that page and those before it.
pub record WritesFirst (before : DeskState) (page : ℕ) (made_by : Edit) (highs : List ℕ) (asked : Ask) (after : DeskState) : Type 0 where
  pub edited : ℕ
  pub high : ℕ
  pub halts : EditComesTo before after page made_by highs (made.WriteFirst edited high)
  pub is_write : IsWriteFor after.cache.pairs edited (cause.Cycle high) asked

-- Some edit waits so, and nothing was done behind it.
pub record IsDueFirst (after : DeskState) (asked : Ask) : Type 0 where
  pub before : DeskState
  pub page : ℕ
  pub made_by : Edit
  pub highs : List ℕ
  pub waits : WritesFirst before page made_by highs asked after

-- A write is asked where an edit waits so.
abbrev pub Writes : DeskState → RowStep → Type 0
Writes d (step.Must asked) = IsDueFirst d asked
Writes d _ = Unit {0}
