-- The transactions that are open beside a view, the numbers that are settled for all of them, and what they may change.
use Rattle.std.specs.Prelude.{◌≡◌, ℕ, List, true, Contains}
use Rattle.fbc_kinds.specs.declared.commands.Command.TheVariants as command
use Rattle.fbc_kinds.specs.declared.pages.Cell.{Cell}
use Rattle.fbc_kinds.specs.declared.replies.Reply.TheVariants as reply
use Rattle.fbc_kinds.specs.declared.snapshots.Standing.TheVariants as standing
use Rattle.fbc_kinds.specs.declared.snapshots.Transaction.{Transaction}
use Rattle.fbc_kinds.specs.Chain.{state_of}
use Rattle.fbc_kinds.specs.Machine.{IsReply, Machine, MayCome, is_held}
use Rattle.fbc_kinds.specs.View.{View, is_committed_state}

-- All of these transactions are open. Two of one number are one, and two of one owner are one.
pub record AreOpen (living : List Transaction) : Type 0 where
  pub opened : (t : Transaction) → Contains living t → t.standing ≡ standing.Open
  pub one_number : (t u : Transaction) → Contains living t → Contains living u → t.number ≡ u.number → t ≡ u
  pub one_owner : (t u : Transaction) → Contains living t → Contains living u → t.owner ≡ u.owner → t ≡ u

-- No open transaction has this number.
abbrev pub IsClosed : List Transaction → ℕ → Type 0
IsClosed living number = (t : Transaction) → Contains living t → ¬ (t.number ≡ number)

-- Each open snapshot holds this number.
abbrev pub IsHeldByAll : List Transaction → ℕ → Type 0
IsHeldByAll living number = (t : Transaction) → Contains living t → is_held t.snapshot number ≡ true

-- A number is settled: it is committed, no open transaction has it, and each open snapshot holds it.
pub record IsSettled (view : View) (living : List Transaction) (number : ℕ) : Type 0 where
  pub committed : is_committed_state (state_of view number) ≡ true
  pub closed : IsClosed living number
  pub held : IsHeldByAll living number

-- An open transaction makes this version: it has its number.
pub record IsMaker (living : List Transaction) (t : Transaction) (version : Cell) : Type 0 where
  pub open_ones : AreOpen living
  pub lives : Contains living t
  pub number : t.number ≡ version.number

-- An owner's update of a row, or its deletion, may come, and is answered that it is done.
pub record IsChangeDone (machine : Machine) (who relation row : ℕ) : Type 0 where
  pub update_comes : (value : List ℕ) → MayCome machine (command.Update who relation row value)
  pub update_done : (value : List ℕ) → IsReply machine (command.Update who relation row value) reply.Ok
  pub delete_comes : MayCome machine (command.Delete who relation row)
  pub delete_done : IsReply machine (command.Delete who relation row) reply.Ok
