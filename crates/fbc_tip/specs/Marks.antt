-- What a mark comes to.
use Rattle.std.specs.Prelude.{ℕ, List}
use Rattle.fbc_kinds.specs.declared.edits.Edit.TheVariants as edit
use Rattle.fbc_kinds.specs.declared.pages.State.{State}
use Rattle.fbc_world.specs.declared.asks.Ask.{Ask}
use Rattle.fbc_world.specs.declared.asks.Cause.TheVariants as cause
use Rattle.fbc_cache.specs.Giving.{IsWriteFor}
use Rattle.fbc_desk.specs.declared.edits.Made.TheVariants as made
use Rattle.fbc_desk.specs.Calls.{EditComesTo, Halts}
use Rattle.fbc_desk.specs.Desk.{DeskState}
use Rattle.fbc_tip.specs.declared.marks.MarkStep.{MarkStep}
use Rattle.fbc_tip.specs.declared.marks.MarkStep.TheVariants as step

-- The page is to be written before one of the high pages: the next write in order is due, for that page.
pub record IsHalted (before after : DeskState) (page number : ℕ) (state : State) (highs : List ℕ) (asked : Ask) : Type 0 where
  pub high : ℕ
  pub halts : Halts before page (edit.Mark number state) highs high after
  pub write : IsWriteFor after.cache.pairs page (cause.Cycle high) asked

abbrev pub MarkComesTo : DeskState → DeskState → ℕ → ℕ → State → List ℕ → MarkStep → Type 0
MarkComesTo before after page number state highs step.Done = EditComesTo before after page (edit.Mark number state) highs made.Done
MarkComesTo before after page number state highs (step.Must asked) = IsHalted before after page number state highs asked
MarkComesTo before after page number state highs step.Refused = EditComesTo before after page (edit.Mark number state) highs made.Refused
