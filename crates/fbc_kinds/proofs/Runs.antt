-- A run goes on by one command.
use Rattle.std.proofs.Common.{◌++◌, List, [], ◌∷◌, refl}
use Rattle.fbc_kinds.specs.declared.commands.Command.{Command}
use Rattle.fbc_kinds.specs.declared.replies.Reply.{Reply}
use Rattle.fbc_kinds.specs.Machine.{Machine, MayCome, IsReply, IsRun, machine_step}

pub IsRun-push : (machine : Machine) (commands : List Command) (replies : List Reply) (after : Machine) (asked : Command) (answer : Reply) → IsRun machine commands replies after → MayCome after asked → IsReply after asked answer → IsRun machine (commands ++ asked ∷ []) (replies ++ answer ∷ []) (machine_step after asked)
IsRun-push machine [] [] after asked answer run may is = rw run (may, is, refl)
IsRun-push machine [] (a ∷ as') after asked answer run may is = absurd run
IsRun-push machine (c ∷ cs) [] after asked answer run may is = absurd run
IsRun-push machine (c ∷ cs) (a ∷ as') after asked answer run may is = (run.0, run.1, IsRun-push (machine_step machine c) cs as' after asked answer run.2 may is)
