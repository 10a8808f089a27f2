-- What each form of a change of a row comes to, and commands that come to the machine and are done.
use Rattle.std.specs.Prelude.{ℕ, All, List}
use Rattle.fbc_kinds.specs.declared.commands.Command.{Command}
use Rattle.fbc_kinds.specs.declared.pages.Cell.{Cell}
use Rattle.fbc_kinds.specs.Machine.{IsReply, Machine}
use Rattle.fbc_runs.specs.Runs.{MayAllCome}
use Rattle.fbc_legal.specs.Rows.{IsFirstVersion, IsNewVersion, IsOwnChange}
use Rattle.fbc_legal.specs.Scene.{Scene}
use Rattle.fbc_simulation.specs.Carried.{done_reply}

-- The same follows whether an owner puts a row's first version, another in place of its own, or one over another's.
pub record ForEachChange (at : Scene) (owner page cell : ℕ) (new : Cell) (Fact : Type 0) : Type 0 where
  pub first : IsFirstVersion at owner page cell new → Fact
  pub own : IsOwnChange at owner page cell new → Fact
  pub over : IsNewVersion at owner page cell new → Fact

-- The commands may come to the machine one after the other, and each is answered that it is done.
pub record AreDone (machine : Machine) (commands : List Command) : Type 0 where
  pub come : MayAllCome machine commands
  pub answered : All (λ (asked : Command). IsReply machine asked (done_reply asked)) commands
