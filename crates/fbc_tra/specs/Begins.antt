-- How a begin goes on, and what it comes to.
use Rattle.std.specs.Prelude.{◌≡◌, ℕ, Bool, true, false, Some, None, Option}
use Rattle.fbc_kinds.specs.declared.snapshots.Snapshot.{Snapshot}
use Rattle.fbc_desk.specs.declared.holding.Held.{Held}
use Rattle.fbc_desk.specs.declared.holding.Held.TheVariants as held
use Rattle.fbc_desk.specs.declared.own.Own.{Own}
use Rattle.fbc_desk.specs.Calls.{UnpinsAll}
use Rattle.fbc_desk.specs.Desk.{DeskState}
use Rattle.fbc_desk.specs.Holds.{after_hold}
use Rattle.fbc_reserve.specs.declared.waiting.WaitStep.TheVariants as waits
use Rattle.fbc_reserve.specs.Waits.{WaitState, step_of}
use Rattle.fbc_tip.specs.declared.inventories.TipStep.TheVariants as tip
use Rattle.fbc_tip.specs.Inventories.{AreHeld, HoldsOn, InventoryComesTo}
use Rattle.fbc_tip.specs.Using.{OnlyUses}
use Rattle.fbc_tra.specs.declared.beginning.BeginStage.{BeginStage}
use Rattle.fbc_tra.specs.declared.beginning.BeginStage.TheVariants as at
use Rattle.fbc_tra.specs.declared.steps.BodyStep.{BodyStep}
use Rattle.fbc_tra.specs.declared.steps.BodyStep.TheVariants as step
use Rattle.fbc_tra.specs.Goes.{begun}
use Rattle.fbc_tra.specs.Numbers.{IsLockOf, RaisesTo, bar}
use Rattle.fbc_tra.specs.Pages.{HoldsHeader, to_change}
use Rattle.fbc_tra.specs.Ways.{ComesTo, Stops}

-- The transaction inventory pages are held in turn, with so many of them held already: so many are then, each in use, and nothing else
-- is done.
pub record HoldsTips (before : DeskState) (old : ℕ) (after : DeskState) (new : ℕ) (last : Held) : Type 0 where
  pub held : AreHeld after new
  pub turns : HoldsOn before old after new last
  pub same : OnlyUses before after

-- One number more is there, and the pages are held to the last one: the snapshot is taken, and the lock of its number comes next.
pub record TakesSnapshot (wait : Bool) (before : DeskState) (old : ℕ) (after : DeskState) (snapshot : Snapshot) (waiting : WaitState) : Type 0 where
  pub free : bar before ≡ None
  pub new : ℕ
  pub holds : HoldsTips before old after new held.Here
  pub taken : InventoryComesTo after new (tip.Done snapshot)
  pub lock : IsLockOf snapshot wait waiting

-- A begin goes on: from the header, which is held from then on, to the transaction inventory pages; from there, with the snapshot, to
-- the lock of its number; and when that is granted, the transaction has begun.
abbrev pub BeginMoves : Bool → DeskState → BeginStage → DeskState → BeginStage → Type 0
BeginMoves wait d at.Header after (at.Tips part) = HoldsHeader d held.Here × (after ≡ after_hold d (to_change 0) held.Here) × (part.held ≡ 0)
BeginMoves wait d (at.Tips part) after (at.Number snapshot waiting) = TakesSnapshot wait d part.held after snapshot waiting
BeginMoves wait d (at.Number snapshot waiting) after at.Begun = (step_of waiting ≡ waits.Got) × (after ≡ begun snapshot d)
BeginMoves wait d _ after _ = ⊥

-- What it comes to at the header: that is missed, or stands elsewhere.
abbrev pub HeaderAnswers : DeskState → DeskState → BodyStep → Type 0
HeaderAnswers d after (step.Miss need) = HoldsHeader d (held.Miss need) × (after ≡ d)
HeaderAnswers d after (step.Damaged page rule) = HoldsHeader d (held.Damaged page rule) × (after ≡ after_hold d (to_change 0) (held.Damaged page rule))
HeaderAnswers d after _ = ⊥

-- At the transaction inventory pages, where one number more is there: the next of them is missed, or stands elsewhere.
abbrev pub TipsAnswer : DeskState → ℕ → DeskState → ℕ → BodyStep → Type 0
TipsAnswer d old after new (step.Miss need) = HoldsTips d old after new (held.Miss need) × InventoryComesTo after new (tip.Miss need)
TipsAnswer d old after new (step.Damaged page rule) =
    HoldsTips d old after new (held.Damaged page rule) × InventoryComesTo after new (tip.Damaged page rule)
TipsAnswer d old after new _ = ⊥

-- Where there is none, nothing is done.
abbrev pub BarredOrNot : Option BodyStep → DeskState → ℕ → DeskState → ℕ → BodyStep → Type 0
BarredOrNot (Some barred) d old after new answer = (answer ≡ barred) × (after ≡ d) × (new ≡ old)
BarredOrNot None d old after new answer = TipsAnswer d old after new answer

-- At the lock of the number: what is asked next for it, or the reply by which it is refused.
abbrev pub NumberAnswers : WaitState → BodyStep → Type 0
NumberAnswers waiting (step.Must asked) = step_of waiting ≡ waits.Must asked
NumberAnswers waiting (step.Over reply) = step_of waiting ≡ waits.Over reply
NumberAnswers waiting _ = ⊥

-- The header gives out the next number, and then no page is in use any more.
pub record Raises (before after : DeskState) : Type 0 where
  pub between : DeskState
  pub raises : RaisesTo before between true
  pub unpins : UnpinsAll between after

-- Where the transaction has begun: the end, or an edit that may not be made.
abbrev pub BegunAnswers : DeskState → DeskState → BodyStep → Type 0
BegunAnswers d after step.Done = Raises d after
BegunAnswers d after step.Refused = RaisesTo d after false
BegunAnswers d after _ = ⊥

-- What a begin comes to where it stands. It stays there, but for the count of the pages that are held.
abbrev pub BeginAnswers : DeskState → BeginStage → DeskState → BeginStage → BodyStep → Type 0
BeginAnswers d at.Header after to answer = HeaderAnswers d after answer × (to ≡ at.Header)
BeginAnswers d (at.Tips part) after (at.Tips later) answer = BarredOrNot (bar d) d part.held after later.held answer
BeginAnswers d (at.Number snapshot waiting) after to answer = NumberAnswers waiting answer × (after ≡ d) × (to ≡ at.Number snapshot waiting)
BeginAnswers d at.Begun after to answer = BegunAnswers d after answer × (to ≡ at.Begun)
BeginAnswers d _ after _ answer = ⊥

abbrev pub BeginComesTo : Bool → DeskState → BeginStage → DeskState → BeginStage → BodyStep → Type 0
BeginComesTo wait before from after to answer = ComesTo (BeginMoves wait) BeginAnswers before from after to answer

-- Where there is no memory: all transaction inventory pages are held, and the snapshot is to be taken; or the transaction has begun, and
-- the header is as it was.
pub record WantsSnapshot (before : DeskState) (old : ℕ) (after : DeskState) (new : ℕ) : Type 0 where
  pub free : bar before ≡ None
  pub holds : HoldsTips before old after new held.Here

abbrev pub BeginWants : DeskState → BeginStage → DeskState → BeginStage → Type 0
BeginWants d (at.Tips part) after (at.Tips later) = WantsSnapshot d part.held after later.held
BeginWants d at.Begun after at.Begun = after ≡ d
BeginWants d _ after _ = ⊥

abbrev pub BeginStops : Bool → DeskState → BeginStage → DeskState → BeginStage → Type 0
BeginStops wait before from after to = Stops (BeginMoves wait) BeginWants before from after to

-- A transaction is open, and this attachment has edited the header to give out the number behind its own.
pub record IsBegun (d : DeskState) : Type 0 where
  pub own : Own
  pub is_own : d.own ≡ Some own
  pub raised : own.is_raised ≡ true

-- So it is at the end of a begin. Where the lock of the number was on its way, it is the transaction with that snapshot.
abbrev pub HasBegun : BeginStage → DeskState → Type 0
HasBegun (at.Number snapshot waiting) d = d.own ≡ Some (record { snapshot = snapshot; is_raised = true; is_sealed = false })
HasBegun _ d = IsBegun d

abbrev pub BeginsWhole : BeginStage → DeskState → BodyStep → Type 0
BeginsWhole from d step.Done = HasBegun from d
BeginsWhole from d _ = Unit {0}
