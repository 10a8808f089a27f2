-- The number of a transaction: whether there is one more, its lock, and the header's next one.
use Rattle.std.specs.Prelude.{◌≡◌, ◌+◌, ◌-◌, ◌*◌, ◌^◌, ℕ, Bool, true, false, if◌then◌else◌, [], Option, Some, None, length, min, nat_le}
use Rattle.std.specs.Option.{option_map_or}
use Rattle.fbc_kinds.specs.declared.edits.Edit.{Edit}
use Rattle.fbc_kinds.specs.declared.edits.Edit.TheVariants as edit
use Rattle.fbc_kinds.specs.declared.pages.Header.{Header}
use Rattle.fbc_kinds.specs.declared.replies.Reply.TheVariants as reply
use Rattle.fbc_kinds.specs.declared.snapshots.Snapshot.{Snapshot}
use Rattle.fbc_kinds.specs.Limits.{tip_numbers, transaction_limit}
use Rattle.fbc_levels.specs.declared.levels.Level.TheVariants.{Ex, Free}
use Rattle.fbc_levels.specs.declared.resources.Resource.{Resource}
use Rattle.fbc_levels.specs.declared.resources.Series.TheVariants.{Transaction}
use Rattle.fbc_world.specs.declared.asks.Ask.{Ask}
use Rattle.fbc_world.specs.declared.asks.Ask.TheVariants as ask
use Rattle.fbc_cache.specs.Least.{IsLeast}
use Rattle.fbc_cache.specs.Readers.{header_number}
use Rattle.fbc_desk.specs.declared.edits.Made.TheVariants as made
use Rattle.fbc_desk.specs.declared.own.Own.{Own}
use Rattle.fbc_desk.specs.Calls.{EditComesTo}
use Rattle.fbc_desk.specs.Desk.{DeskState}
use Rattle.fbc_reserve.specs.declared.waiting.Stage.TheVariants as stage
use Rattle.fbc_reserve.specs.Waits.{WaitState}
use Rattle.fbc_tip.specs.Snapshots.{is_active_or_own}
use Rattle.fbc_tra.specs.declared.steps.BodyStep.{BodyStep}
use Rattle.fbc_tra.specs.declared.steps.BodyStep.TheVariants as step

-- The number that the next transaction gets, as the header says.
abbrev pub next_number : DeskState → ℕ
next_number d = header_number (λ (h : Header). h.next) d.cache

-- What stands in the way of one number more: no file has that many; or the transaction inventory pages that the header names have no
-- place for it, and a further one is not built.
abbrev pub bar_at : ℕ → ℕ → ℕ → Option BodyStep
bar_at size tips next =
    if nat_le (transaction_limit size) next then Some (step.Over (reply.TransactionLimit next))
    else if nat_le (tip_numbers size * tips) next then Some step.Unbuilt
    else None

abbrev pub bar : DeskState → Option BodyStep
bar d = bar_at d.cache.shape.size (length d.tips) (next_number d)

-- A transaction as what is locked, and the end of its lock.
abbrev pub transaction_resource : ℕ → Resource
transaction_resource number = record { series = Transaction; key = number }

abbrev pub lowering : ℕ → Ask
lowering number = ask.Lower (transaction_resource number) Free

-- The lock on the own number of a snapshot, not asked yet. Its data word is the least number that is active, or the own one.
pub record IsLockOf (snapshot : Snapshot) (wait : Bool) (waiting : WaitState) : Type 0 where
  pub word : ℕ
  pub least : IsLeast (is_active_or_own snapshot) (Some word)
  pub is : waiting ≡ record { resource = transaction_resource snapshot.own; level = Ex; wait = wait; word = word; stage = stage.Asks }

-- The number of the open transaction, 0 where there is none.
abbrev pub own_number : DeskState → ℕ
own_number d = option_map_or (λ (own : Own). own.snapshot.own) d.own 0

-- The header gives out the number behind it.
abbrev pub raising : DeskState → Edit
raising d = edit.SetNext (min (own_number d + 1) (2 ^ 32 - 1))

-- Whether it does: not where that edit may not be made.
abbrev pub RaisesTo : DeskState → DeskState → Bool → Type 0
RaisesTo before after true = EditComesTo before after 0 (raising before) [] made.Done
RaisesTo before after false = EditComesTo before after 0 (raising before) [] made.Refused
