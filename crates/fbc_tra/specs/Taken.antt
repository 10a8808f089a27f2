-- Which answers a lock takes that is on its way.
use Rattle.std.specs.Prelude.{if◌then◌else◌}
use Rattle.fbc_world.specs.declared.answers.Answer.{Answer}
use Rattle.fbc_reserve.specs.Waits.{WaitState, is_answer_to, stage_after, step_of}
use Rattle.fbc_tra.specs.declared.beginning.BeginStage.{BeginStage}
use Rattle.fbc_tra.specs.declared.beginning.BeginStage.TheVariants as at

-- The lock takes the answer, if it is one to what is asked for it.
abbrev pub taken_if_asked : Answer → WaitState → WaitState
taken_if_asked answer w = if is_answer_to (step_of w) answer then record w { stage = stage_after w.stage answer } else w

-- A begin takes an answer while the lock of its number is on its way; else it changes nothing.
abbrev pub stage_taken : Answer → BeginStage → BeginStage
stage_taken answer (at.Number snapshot waiting) = at.Number snapshot (taken_if_asked answer waiting)
stage_taken answer stage = stage
