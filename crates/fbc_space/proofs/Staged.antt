-- How far a page that is taken has come.
use Rattle.std.proofs.Common.{ℕ}
use Rattle.fbc_desk.specs.declared.edits.Made.TheVariants as made
use Rattle.fbc_desk.specs.Calls.{GoesOn, stays}
use Rattle.fbc_desk.specs.Desk.{DeskState}
use Rattle.fbc_desk.proofs.Goes.{goes_on}
use Rattle.fbc_space.specs.declared.taking_pages.Taking.{Taking}
use Rattle.fbc_space.specs.declared.taking_pages.Taking.TheVariants as stages
use Rattle.fbc_space.specs.TakingPages.{DueComesTo, Takes, begins, makes, next}

-- How many edits are left.
abbrev pub left : Taking → ℕ
left stages.Free = 2
left stages.Taken = 1
left stages.Formatted = 0

pub record HasTaken (page relation sequence : ℕ) (from : Taking) (before : DeskState) (to : Taking) (now : DeskState) : Type 0 where
  pub takes : Takes page relation sequence from before to now
  pub goes : GoesOn before now

module _ (page relation sequence : ℕ) (from : Taking) (before : DeskState) where
  pub takes-first : HasTaken page relation sequence from before from before
  takes-first = record { takes = begins; goes = stays before }

  -- By one edit more.
  pub takes-further : (to : Taking) (now later : DeskState) → HasTaken page relation sequence from before to now
      → DueComesTo page relation sequence to now later made.Done → GoesOn now later → HasTaken page relation sequence from before (next to) later
  takes-further to now later has due on = record { takes = makes to now later has.takes due; goes = goes_on before now later has.goes on }
