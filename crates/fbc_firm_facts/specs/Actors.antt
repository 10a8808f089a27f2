-- Who gives a command.
use Rattle.std.specs.Prelude.{ℕ}
use Rattle.fbc_kinds.specs.declared.commands.Command.{Command}
use Rattle.fbc_kinds.specs.declared.commands.Command.TheVariants as command

abbrev pub actor_of : Command → ℕ
actor_of (command.Begin who number) = who
actor_of (command.Insert who relation row value) = who
actor_of (command.Update who relation row value) = who
actor_of (command.Delete who relation row) = who
actor_of (command.Read who relation row) = who
actor_of (command.Scan who relation) = who
actor_of (command.Commit who) = who
actor_of (command.Rollback who) = who
actor_of (command.Kill who) = who
