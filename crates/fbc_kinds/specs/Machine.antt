-- The one-thread machine: its state, when a command may come, its reply, and the machine after. It has no pages,
-- caches, locks or
-- order of writes, and it drops no version.
use Rattle.std.specs.Prelude.{◌≡◌, ◌↔◌, ◌==◌, ◌&&◌, ◌||◌, ◌++◌, ℕ, Bool, true, false, not, nat_lt, List, [], ◌∷◌, Option, Some, None, IsTrue, Contains, if◌then◌else◌, is_some, is_none, map, filter, filter_map, find, slice_get}
use Rattle.std.specs.List.{list_any, list_all, position_from}
use Rattle.std.specs.List.Sorted.{IsStrictlyIncreasing}
use Rattle.std.specs.Option.{option_and_then}
use Rattle.fbc_kinds.specs.declared.commands.Command.{Command}
use Rattle.fbc_kinds.specs.declared.commands.Command.TheVariants as command
use Rattle.fbc_kinds.specs.declared.replies.Reply.{Reply}
use Rattle.fbc_kinds.specs.declared.replies.Reply.TheVariants as reply
use Rattle.fbc_kinds.specs.declared.snapshots.Standing.{Standing}
use Rattle.fbc_kinds.specs.declared.snapshots.Standing.TheVariants as standing
use Rattle.fbc_kinds.specs.declared.snapshots.Transaction.{Transaction}
use Rattle.fbc_kinds.specs.Chain.{Version, see}

-- How a transaction stands.
abbrev pub is_open : Standing → Bool
is_open standing.Open = true
is_open _ = false

abbrev pub is_committed : Standing → Bool
is_committed standing.Committed = true
is_committed _ = false

abbrev pub is_rolled_back : Standing → Bool
is_rolled_back standing.RolledBack = true
is_rolled_back _ = false

-- A version belongs to the transaction that made it, which is named by its place in the order of the beginnings,
-- since a later one may have the same number. Its value is None where it is a deletion.
pub record Made : Type 0 where
  pub maker : ℕ
  pub value : Option (List ℕ)

-- The machine has for each relation and row number the row's versions, newest first, and the transactions in the
-- order of their beginnings.
pub record Machine : Type 0 where
  pub rows : ℕ → ℕ → List Made
  pub transactions : List Transaction

-- The machine that has no rows.
abbrev pub empty : Machine
empty = record { rows = λ relation row. []; transactions = [] }

-- Whether a snapshot of these numbers holds a number.
abbrev pub is_held : List ℕ → ℕ → Bool
is_held snapshot number = list_any (λ held. held == number) snapshot

-- The numbers of all committed transactions.
abbrev pub committed_numbers : List Transaction → List ℕ
committed_numbers transactions =
    map (λ (t : Transaction). t.number) (filter (λ (t : Transaction). is_committed t.standing) transactions)

-- Whether a transaction is the open one of this owner.
abbrev pub is_open_of : ℕ → Transaction → Bool
is_open_of who t = is_open t.standing && (t.owner == who)

-- The open transaction of an owner, and its place in the order of the beginnings.
abbrev pub open_transaction : Machine → ℕ → Option Transaction
open_transaction machine who = find (is_open_of who) machine.transactions

abbrev pub open_place : Machine → ℕ → Option ℕ
open_place machine who = position_from (is_open_of who) 0 machine.transactions

-- A version with its transaction's number, unless that transaction is rolled back.
abbrev pub numbered : Option (List ℕ) → Transaction → Option Version
numbered value t = if is_rolled_back t.standing then None else Some (record { number = t.number; value = value })

-- The versions of a row that are not rolled back, newest first.
abbrev pub standing_versions : Machine → ℕ → ℕ → List Version
standing_versions machine relation row =
    filter_map
    (λ (v : Made). option_and_then (numbered v.value) (slice_get machine.transactions v.maker))
    (machine.rows relation row)

-- The newest version, if there is one.
abbrev pub newest : List Version → Option Version
newest [] = None
newest (version ∷ older) = Some version

-- What a transaction sees of a row: it passes over versions that are rolled back.
abbrev pub seen : Machine → ℕ → ℕ → Transaction → Option (List ℕ)
seen machine relation row t = see (standing_versions machine relation row) (is_held t.snapshot)

-- What an owner sees of a row: nothing without an open transaction.
abbrev pub seen_by : Machine → ℕ → ℕ → ℕ → Option (List ℕ)
seen_by machine who relation row = option_and_then (seen machine relation row) (open_transaction machine who)

-- Each open snapshot holds the number.
abbrev pub is_held_by_open : List Transaction → ℕ → Bool
is_held_by_open transactions number =
    list_all (λ (t : Transaction). not (is_open t.standing) || is_held t.snapshot number) transactions

-- The number is another owner's open one.
abbrev pub is_open_of_other : List Transaction → ℕ → ℕ → Bool
is_open_of_other transactions who number =
    list_any (λ (t : Transaction). is_open t.standing && (t.number == number) && not (t.owner == who)) transactions

-- A begin may come with a number that is greater than those of all transactions that are open or committed.
abbrev pub is_greater_number : List Transaction → ℕ → Bool
is_greater_number transactions number =
    list_all (λ (t : Transaction). is_rolled_back t.standing || nat_lt t.number number) transactions

-- A row may be put where the newest version not rolled back is none, or is a deletion that each open snapshot holds.
abbrev pub is_free_row : List Transaction → Option Version → Bool
is_free_row transactions None = true
is_free_row transactions (Some version) = is_none version.value && is_held_by_open transactions version.number

-- A row may be changed where the newest version not rolled back is not another's open one.
abbrev pub is_settled_row : List Transaction → ℕ → Option Version → Bool
is_settled_row transactions who None = true
is_settled_row transactions who (Some version) = not (is_open_of_other transactions who version.number)

-- An update or a delete may come where nothing is seen, or where the row may be changed.
abbrev pub may_change : Machine → ℕ → ℕ → ℕ → Bool
may_change machine who relation row =
    is_none (seen_by machine who relation row)
    || is_settled_row machine.transactions who (newest (standing_versions machine relation row))

-- When a command may come.
abbrev pub may_come : Machine → Command → Bool
may_come machine (command.Begin who number) = is_greater_number machine.transactions number
may_come machine (command.Insert who relation row value) =
    is_free_row machine.transactions (newest (standing_versions machine relation row))
may_come machine (command.Update who relation row value) = may_change machine who relation row
may_come machine (command.Delete who relation row) = may_change machine who relation row
may_come machine (command.Read who relation row) = true
may_come machine (command.Scan who relation) = true
may_come machine (command.Commit who) = true
may_come machine (command.Rollback who) = true
may_come machine (command.Kill who) = true

abbrev pub MayCome : Machine → Command → Type 0
MayCome machine asked = IsTrue (may_come machine asked)

-- An update or a delete finds no row where nothing is seen, else it conflicts with the newest version not rolled
-- back if the snapshot does not hold that, else it is done.
abbrev pub change_reply : List ℕ → List Version → Reply
change_reply snapshot [] = reply.NoRow
change_reply snapshot (version ∷ older) =
    if is_none (see (version ∷ older) (is_held snapshot)) then reply.NoRow
    else if is_held snapshot version.number then reply.Ok else reply.Conflict version.number

-- Whether an update or a delete is done.
abbrev pub is_done : List ℕ → List Version → Bool
is_done snapshot [] = false
is_done snapshot (version ∷ older) = is_some (see (version ∷ older) (is_held snapshot)) && is_held snapshot version.number

-- A read answers the value that is seen, or none.
abbrev pub read_reply : Option (List ℕ) → Reply
read_reply None = reply.None
read_reply (Some value) = reply.Value value

-- A scan answers each row that is seen, with its value, in rising order of their numbers.
pub record IsScan (shown : ℕ → Option (List ℕ)) (rows : List (ℕ × List ℕ)) : Type 0 where
  pub rising : IsStrictlyIncreasing (map (λ (r : ℕ × List ℕ). r.0) rows)
  pub exact : (row : ℕ) (value : List ℕ) → Contains rows (row, value) ↔ (shown row ≡ Some value)

abbrev pub IsScanReply : (ℕ → Option (List ℕ)) → Reply → Type 0
IsScanReply shown (reply.Rows rows) = IsScan shown rows
IsScanReply shown _ = ⊥

-- Without an open transaction the reply is that there is none.
abbrev pub reply_in : Option Transaction → (Transaction → Reply) → Reply
reply_in None reply_of = reply.NoTransaction
reply_in (Some t) reply_of = reply_of t

abbrev pub IsScanReplyIn : Machine → ℕ → Option Transaction → Reply → Type 0
IsScanReplyIn machine relation None answer = answer ≡ reply.NoTransaction
IsScanReplyIn machine relation (Some t) answer = IsScanReply (λ row. seen machine relation row t) answer

-- A begin is answered by its number, and a second one by that a transaction is open already.
abbrev pub begin_reply : Option Transaction → ℕ → Reply
begin_reply None number = reply.Number number
begin_reply (Some t) number = reply.AlreadyOpen

-- What an update or a delete of a row is answered.
abbrev pub changed : Machine → ℕ → ℕ → Transaction → Reply
changed machine relation row t = change_reply t.snapshot (standing_versions machine relation row)

-- The machine's reply to a command.
abbrev pub IsReply : Machine → Command → Reply → Type 0
IsReply machine (command.Begin who number) answer =
    answer ≡ begin_reply (open_transaction machine who) number
IsReply machine (command.Insert who relation row value) answer =
    answer ≡ reply_in (open_transaction machine who) (λ t. reply.Row row)
IsReply machine (command.Update who relation row value) answer =
    answer ≡ reply_in (open_transaction machine who) (changed machine relation row)
IsReply machine (command.Delete who relation row) answer =
    answer ≡ reply_in (open_transaction machine who) (changed machine relation row)
IsReply machine (command.Read who relation row) answer =
    answer ≡ reply_in (open_transaction machine who) (λ t. read_reply (seen machine relation row t))
IsReply machine (command.Scan who relation) answer =
    IsScanReplyIn machine relation (open_transaction machine who) answer
IsReply machine (command.Commit who) answer =
    answer ≡ reply_in (open_transaction machine who) (λ t. reply.Ok)
IsReply machine (command.Rollback who) answer =
    answer ≡ reply_in (open_transaction machine who) (λ t. reply.Ok)
IsReply machine (command.Kill who) answer =
    answer ≡ reply_in (open_transaction machine who) (λ t. reply.Ok)

-- A transaction that begins is open, and its snapshot holds its own number and all committed ones.
abbrev pub begun : Machine → ℕ → ℕ → Transaction
begun machine who number = record {
  number = number;
  owner = who;
  standing = standing.Open;
  snapshot = number ∷ committed_numbers machine.transactions;
}

-- The machine with a transaction more, unless its owner has an open one.
abbrev pub after_begin : Machine → ℕ → ℕ → Machine
after_begin machine who number =
    if is_some (open_transaction machine who) then machine
    else record { rows = machine.rows; transactions = machine.transactions ++ begun machine who number ∷ [] }

-- The machine with a version in front of a row. Without a maker it stays as it is.
abbrev pub with_version : Machine → Option ℕ → ℕ → ℕ → Option (List ℕ) → Machine
with_version machine None relation row value = machine
with_version machine (Some maker) relation row value = record {
  rows = λ r k.
      if (relation == r) && (row == k) then record { maker = maker; value = value } ∷ machine.rows r k
      else machine.rows r k;
  transactions = machine.transactions;
}

-- The machine after an update or a delete: with a version more where it is done.
abbrev pub after_change : Machine → ℕ → ℕ → ℕ → Option (List ℕ) → Option Transaction → Machine
after_change machine who relation row value None = machine
after_change machine who relation row value (Some t) =
    if is_done t.snapshot (standing_versions machine relation row)
    then with_version machine (open_place machine who) relation row value else machine

-- The machine with the owner's open transaction at its end.
abbrev pub ended : ℕ → Standing → Transaction → Transaction
ended who now t = if is_open_of who t then record t { standing = now } else t

abbrev pub after_end : Machine → ℕ → Standing → Machine
after_end machine who now = record { rows = machine.rows; transactions = map (ended who now) machine.transactions }

-- The machine after a command.
abbrev pub machine_step : Machine → Command → Machine
machine_step machine (command.Begin who number) = after_begin machine who number
machine_step machine (command.Insert who relation row value) =
    with_version machine (open_place machine who) relation row (Some value)
machine_step machine (command.Update who relation row value) =
    after_change machine who relation row (Some value) (open_transaction machine who)
machine_step machine (command.Delete who relation row) =
    after_change machine who relation row None (open_transaction machine who)
machine_step machine (command.Read who relation row) = machine
machine_step machine (command.Scan who relation) = machine
machine_step machine (command.Commit who) = after_end machine who standing.Committed
machine_step machine (command.Rollback who) = after_end machine who standing.RolledBack
machine_step machine (command.Kill who) = after_end machine who standing.RolledBack

-- A run: each command may come where it comes, and each reply is the machine's.
abbrev pub IsRun : Machine → List Command → List Reply → Machine → Type 0
IsRun machine [] [] after = machine ≡ after
IsRun machine [] (answer ∷ answers) after = ⊥
IsRun machine (asked ∷ later) [] after = ⊥
IsRun machine (asked ∷ later) (answer ∷ answers) after =
    MayCome machine asked × IsReply machine asked answer × IsRun (machine_step machine asked) later answers after
