-- What stands beside a view and the machine that its meaning reads as.
use Rattle.std.specs.Prelude.{◌≡◌, ℕ, List, Contains}
use Rattle.fbc_kinds.specs.declared.commands.Command.{Command}
use Rattle.fbc_kinds.specs.declared.replies.Reply.{Reply}
use Rattle.fbc_kinds.specs.declared.snapshots.Transaction.{Transaction}
use Rattle.fbc_kinds.specs.Machine.{IsReply, Machine, MayCome, machine_step}
use Rattle.fbc_kinds.specs.View.{View}
use Rattle.fbc_version_edits.specs.Open.{IsClosed}
use Rattle.fbc_runs.specs.Reading.{ReadsAs}
use Rattle.fbc_page_edits.specs.Facing.{IsRowAt}

-- A transaction is apart from the open ones: none of them has its owner or its number.
pub record IsApart (living : List Transaction) (t : Transaction) : Type 0 where
  pub owner : (u : Transaction) → Contains living u → ¬ (u.owner ≡ t.owner)
  pub number : IsClosed living t.number

-- No row has its top in the cell.
abbrev pub HasNoRowAt : View → ℕ → ℕ → Type 0
HasNoRowAt view page cell = (relation row : ℕ) → ¬ IsRowAt view relation row page cell

-- A command may come to a machine and is answered so, and afterwards the other machine reads as it.
pub record IsCarriedOut (machine : Machine) (asked : Command) (answer : Reply) (later : Machine) : Type 0 where
  pub comes : MayCome machine asked
  pub answered : IsReply machine asked answer
  pub reads : ReadsAs later (machine_step machine asked)
