-- One lock that is got: what is asked for it, and how far it has come.
use Rattle.std.specs.Prelude.{◌≢◌, ℕ, Bool, true, false, Option, Some, None}
use Rattle.fbc_kinds.specs.declared.replies.Reply.{Reply}
use Rattle.fbc_kinds.specs.declared.replies.Reply.TheVariants as reply
use Rattle.fbc_levels.specs.declared.levels.Level.{Level}
use Rattle.fbc_levels.specs.declared.levels.Level.TheVariants.{Free}
use Rattle.fbc_levels.specs.declared.resources.Resource.{Resource}
use Rattle.fbc_levels.specs.declared.resources.Series.TheVariants.{Page}
use Rattle.fbc_levels.specs.Levels.{number_of}
use Rattle.fbc_world.specs.declared.answers.Answer.{Answer}
use Rattle.fbc_world.specs.declared.answers.Answer.TheVariants as answers
use Rattle.fbc_world.specs.declared.asks.Ask.{Ask}
use Rattle.fbc_world.specs.declared.asks.Ask.TheVariants as ask
use Rattle.fbc_reserve.specs.declared.refusals.LockRefusal.{LockRefusal}
use Rattle.fbc_reserve.specs.declared.refusals.LockRefusal.TheVariants as refusal
use Rattle.fbc_reserve.specs.declared.waiting.Stage.{Stage}
use Rattle.fbc_reserve.specs.declared.waiting.Stage.TheVariants as stage
use Rattle.fbc_reserve.specs.declared.waiting.WaitStep.{WaitStep}
use Rattle.fbc_reserve.specs.declared.waiting.WaitStep.TheVariants as step

-- What is got so: a transaction or a relation, in a level that is one.
pub record MayWaitFor (resource : Resource) (level : Level) : Type 0 where
  pub no_page : resource.series ≢ Page
  pub some_level : level ≢ Free

-- The lock that is asked, and how far it has come.
pub record WaitState : Type 0 where
  pub resource : Resource
  pub level : Level
  pub wait : Bool
  pub word : ℕ
  pub stage : Stage

-- The reply to a statement whose lock was refused so.
abbrev pub reply_to : LockRefusal → Reply
reply_to (refusal.Busy holder level) = reply.Busy holder level
reply_to (refusal.Room used) = reply.Room used
reply_to (refusal.Deadlock circle) = reply.Deadlock circle

-- What comes next at each stage.
abbrev pub step_at : WaitState → Stage → WaitStep
step_at w stage.Asks = step.Must (ask.Lock w.resource w.level w.wait w.word)
step_at w stage.Looks = step.Must ask.Look
step_at w stage.Got = step.Got
step_at w (stage.Over refused) = step.Over (reply_to refused)

abbrev pub step_of : WaitState → WaitStep
step_of w = step_at w w.stage

-- Whether it is an answer to that step: one to a lock or to a look, and none where nothing is asked.
abbrev pub is_answer_to : WaitStep → Answer → Bool
is_answer_to (step.Must (ask.Lock resource level wait word)) answers.Granted = true
is_answer_to (step.Must (ask.Lock resource level wait word)) answers.Queued = true
is_answer_to (step.Must (ask.Lock resource level wait word)) (answers.Busy holder held) = true
is_answer_to (step.Must (ask.Lock resource level wait word)) (answers.Room used) = true
is_answer_to (step.Must (ask.Lock resource level wait word)) (answers.Deadlock circle) = true
is_answer_to (step.Must (ask.Lock resource level wait word)) (answers.Reaped owner) = true
is_answer_to (step.Must ask.Look) answers.Granted = true
is_answer_to (step.Must ask.Look) (answers.NotYet holder) = true
is_answer_to (step.Must ask.Look) (answers.Reaped owner) = true
is_answer_to _ _ = false

-- The stage after an answer. Behind a dead owner that was reaped the same is asked again.
abbrev pub stage_after : Stage → Answer → Stage
stage_after before answers.Granted = stage.Got
stage_after before answers.Queued = stage.Looks
stage_after before (answers.NotYet holder) = stage.Looks
stage_after before (answers.Busy holder level) = stage.Over (refusal.Busy holder (number_of level))
stage_after before (answers.Room used) = stage.Over (refusal.Room used)
stage_after before (answers.Deadlock circle) = stage.Over (refusal.Deadlock circle)
stage_after before _ = before

-- The refusal that an answer is, and its reply.
abbrev pub refusal_by : Answer → Option Reply
refusal_by (answers.Busy holder level) = Some (reply.Busy holder (number_of level))
refusal_by (answers.Room used) = Some (reply.Room used)
refusal_by (answers.Deadlock circle) = Some (reply.Deadlock circle)
refusal_by _ = None

-- The ask of a step.
abbrev pub ask_of : WaitStep → Option Ask
ask_of (step.Must asked) = Some asked
ask_of _ = None

-- What is asked behind an answer to a step: a look while it waits, and the same again where a dead owner was reaped.
abbrev pub asked_after : WaitStep → Answer → Option Ask
asked_after before answers.Queued = Some ask.Look
asked_after before (answers.NotYet holder) = Some ask.Look
asked_after before (answers.Reaped owner) = ask_of before
asked_after before _ = None
