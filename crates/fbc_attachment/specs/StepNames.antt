-- The names that a step bears, as a trap or a gate calls them.
use Rattle.std.specs.Prelude.{Bool, true, false}
use Rattle.fbc_outside.specs.declared.gate.StepName.{StepName}
use Rattle.fbc_outside.specs.declared.gate.StepName.TheVariants as step
use Rattle.fbc_world.specs.declared.asks.Ask.{Ask}
use Rattle.fbc_world.specs.declared.asks.Ask.TheVariants as ask
use Rattle.fbc_world.specs.declared.asks.Cause.{Cause}
use Rattle.fbc_world.specs.declared.asks.Cause.TheVariants as cause

-- Whether a write with this cause bears a name. By commit it is the mark where its page is a transaction inventory page.
abbrev pub write_bears : Cause → Bool → StepName → Bool
write_bears why is_tip step.Write = true
write_bears (cause.CallbackOf asker) is_tip step.Callback = true
write_bears cause.Commit is_tip step.Mark = is_tip
write_bears why is_tip _ = false

-- Whether the step of an ask bears a name.
abbrev pub bears : Ask → Bool → StepName → Bool
bears (ask.Lock resource level wait word) is_tip step.Ask = true
bears ask.Look is_tip step.Look = true
bears (ask.Lower resource level) is_tip step.Lower = true
bears (ask.Read page) is_tip step.Read = true
bears (ask.Write page why) is_tip name = write_bears why is_tip name
bears (ask.Poll above) is_tip step.Poll = true
bears (ask.Note reply) is_tip step.Answer = true
bears _ is_tip _ = false
