-- Every command that is no question has a reply, so commands that may come are a run.
use Rattle.std.proofs.Common.{◌≡◌, true, List, [], ◌∷◌, refl}
use Rattle.std.specs.Prelude.{All}
use Rattle.std.proofs.lemmas.List.Elements.{All-head, All-tail}
use Rattle.fbc_kinds.specs.declared.commands.Command.{Command}
use Rattle.fbc_kinds.specs.declared.commands.Command.TheVariants as command
use Rattle.fbc_kinds.specs.declared.replies.Reply.{Reply}
use Rattle.fbc_kinds.specs.Machine.{IsReply, IsRun, Machine, machine_step}
use Rattle.fbc_runs.specs.Runs.{MayAllCome, is_change, machine_after}

-- The reply to a command that is no question.
answered : (machine : Machine) (asked : Command) → is_change asked ≡ true → (answer : Reply) × IsReply machine asked answer
answered machine (command.Begin who number) is = (_, refl)
answered machine (command.Insert who relation row value) is = (_, refl)
answered machine (command.Update who relation row value) is = (_, refl)
answered machine (command.Delete who relation row) is = (_, refl)
answered machine (command.Read who relation row) is = cc
answered machine (command.Scan who relation) is = cc
answered machine (command.Commit who) is = (_, refl)
answered machine (command.Rollback who) is = (_, refl)
answered machine (command.Kill who) is = (_, refl)

pub run_of : (machine : Machine) (commands : List Command) → All (λ c. is_change c ≡ true) commands → MayAllCome machine commands → (replies : List Reply) × IsRun machine commands replies (machine_after machine commands)
run_of machine [] changes may = ([], refl)
run_of machine (asked ∷ later) changes may =
    let first = answered machine asked (All-head (λ c. is_change c ≡ true) asked later changes) in
    let rest = run_of (machine_step machine asked) later (All-tail (λ c. is_change c ≡ true) asked later changes) may.1 in
    (first.0 ∷ rest.0, (may.0, first.1, rest.1))
