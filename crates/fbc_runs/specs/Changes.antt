-- What changes of rows and ends of transactions leave of what one machine reads as.
use Rattle.std.specs.Prelude.{◌≡◌, ◌≢◌, ◌==◌, ◌||◌, ℕ, Bool, Contains, List}
use Rattle.fbc_kinds.specs.declared.commands.Command.{Command}
use Rattle.fbc_kinds.specs.declared.commands.Command.TheVariants.{Begin, Delete, Insert, Update}
use Rattle.fbc_kinds.specs.declared.replies.Reply.TheVariants as reply
use Rattle.fbc_kinds.specs.declared.snapshots.Transaction.{Transaction}
use Rattle.fbc_kinds.specs.Chain.{Version}
use Rattle.fbc_kinds.specs.Machine.{IsReply, Machine, MayCome, committed_numbers, is_held, machine_step, newest, standing_versions}
use Rattle.fbc_runs.specs.Ended.{settled_by}
use Rattle.fbc_runs.specs.Reading.{IsNewestOrLacks, ReadsAs}

-- A command that may come to the one machine may come to the other, and afterwards the one reads as the other.
abbrev pub StaysRead : Machine → Machine → Command → Type 0
StaysRead a b asked = MayCome a asked → MayCome b asked × ReadsAs (machine_step a asked) (machine_step b asked)

-- So it is for every change of a row.
pub record ChangesStayRead (a b : Machine) : Type 0 where
  pub insert : (who relation row : ℕ) (value : List ℕ) → StaysRead a b (Insert who relation row value)
  pub update : (who relation row : ℕ) (value : List ℕ) → StaysRead a b (Update who relation row value)
  pub delete : (who relation row : ℕ) → StaysRead a b (Delete who relation row)

-- A transaction's snapshot holds its own number, and those that are committed on the machine.
abbrev pub HoldsCommitted : Machine → Transaction → Type 0
HoldsCommitted m t = (number : ℕ) → is_held t.snapshot number ≡ ((number == t.number) || is_held (committed_numbers m.transactions) number)

-- No version that stands has the number.
abbrev pub HasNoVersions : Machine → ℕ → Type 0
HasNoVersions m number = (relation row : ℕ) (version : Version) → Contains (standing_versions m relation row) version → version.number ≢ number

-- Of the newest versions of the one machine's rows the other lacks settled deletions alone.
abbrev pub LacksSettledAlone : Machine → Machine → Type 0
LacksSettledAlone after m = (relation row : ℕ) → IsNewestOrLacks m.transactions (newest (standing_versions after relation row)) (newest (standing_versions m relation row))

-- The other machine, with its ended transactions at their ends, goes on to read as the first, whatever this owner does.
pub record IsNotRead (living : List Transaction) (commits : ℕ → Bool) (a m : Machine) (who : ℕ) : Type 0 where
  pub insert : (relation row : ℕ) (value : List ℕ) → ReadsAs a (settled_by living commits (machine_step m (Insert who relation row value)))
  pub update : (relation row : ℕ) (value : List ℕ) → ReadsAs a (settled_by living commits (machine_step m (Update who relation row value)))
  pub delete : (relation row : ℕ) → ReadsAs a (settled_by living commits (machine_step m (Delete who relation row)))
  pub begin : (number : ℕ) → ReadsAs a (settled_by living commits (machine_step m (Begin who number)))

-- A command comes to the same before the others are at their ends and after.
abbrev pub CommutesWithEnds : List Transaction → (ℕ → Bool) → Machine → Command → Type 0
CommutesWithEnds living commits m asked = settled_by living commits (machine_step m asked) ≡ machine_step (settled_by living commits m) asked

-- A change that is answered that it is done, before the others are at their ends and after, comes to the same.
abbrev pub CommutesWhereDone : List Transaction → (ℕ → Bool) → Machine → Command → Type 0
CommutesWhereDone living commits m asked = IsReply m asked reply.Ok → IsReply (settled_by living commits m) asked reply.Ok
    → CommutesWithEnds living commits m asked

-- An owner's changes of rows come to the same where the others are at their ends.
pub record ChangesEnded (living : List Transaction) (commits : ℕ → Bool) (m : Machine) (who : ℕ) : Type 0 where
  pub insert : (relation row : ℕ) (value : List ℕ) → CommutesWithEnds living commits m (Insert who relation row value)
  pub update : (relation row : ℕ) (value : List ℕ) → CommutesWhereDone living commits m (Update who relation row value)
  pub delete : (relation row : ℕ) → CommutesWhereDone living commits m (Delete who relation row)
