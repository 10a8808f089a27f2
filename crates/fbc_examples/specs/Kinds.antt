-- The kinds of events and of edits, and that each occurs in a legal history.
use Rattle.std.specs.Prelude.{◌≡◌, Bool, ◌∷◌, if◌then◌else◌}
use Rattle.fbc_kinds.specs.declared.edits.Edit.{Edit}
use Rattle.fbc_kinds.specs.declared.edits.Edit.TheVariants as edit
use Rattle.fbc_kinds.specs.declared.shapes.Shape.{Shape}
use Rattle.fbc_kinds.specs.View.{View}
use Rattle.fbc_levels.specs.declared.resources.Series.{Series}
use Rattle.fbc_world.specs.declared.asks.Cause.{Cause}
use Rattle.fbc_world.specs.declared.asks.Cause.TheVariants as cause
use Rattle.fbc_world.specs.declared.events.Act.{Act}
use Rattle.fbc_world.specs.declared.events.Act.TheVariants as act
use Rattle.fbc_world.specs.declared.events.LocalEvent.TheVariants as local
use Rattle.fbc_world.specs.History.{History, Moment}
use Rattle.fbc_world.specs.World.{is_begin}
use Rattle.fbc_legal.specs.Legal.{IsLegal}
use Rattle.fbc_examples.specs.Files.{IsStart}

-- The kinds of edits.
pub data EditKind : Type 0 where
  SettingNext : EditKind
  AddingTip : EditKind
  AddingPointer : EditKind
  AddingInventory : EditKind
  TakingPage : EditKind
  FreeingPage : EditKind
  Marking : EditKind
  Naming : EditKind
  Unnaming : EditKind
  PuttingCell : EditKind
  ClearingCell : EditKind
  Formatting : EditKind

-- The kind of an edit.
abbrev pub edit_kind : Edit → EditKind
edit_kind (edit.SetNext next) = SettingNext
edit_kind (edit.AddTip page) = AddingTip
edit_kind (edit.AddPointer relation page) = AddingPointer
edit_kind edit.AddInventory = AddingInventory
edit_kind (edit.TakePage page) = TakingPage
edit_kind (edit.FreePage page) = FreeingPage
edit_kind (edit.Mark number state) = Marking
edit_kind (edit.Name slot page) = Naming
edit_kind (edit.Unname slot) = Unnaming
edit_kind (edit.PutCell cell content) = PuttingCell
edit_kind (edit.ClearCell cell) = ClearingCell
edit_kind (edit.Format page_kind page relation sequence) = Formatting

-- The causes of writes.
pub data CauseKind : Type 0 where
  ForCommit : CauseKind
  ForCallback : CauseKind
  ForCycle : CauseKind
  ForEviction : CauseKind
  ForMark : CauseKind
  ForDetach : CauseKind

-- The kind of a cause.
abbrev pub cause_kind : Cause → CauseKind
cause_kind cause.Commit = ForCommit
cause_kind (cause.CallbackOf asker) = ForCallback
cause_kind (cause.Cycle high) = ForCycle
cause_kind (cause.Evict wanted) = ForEviction
cause_kind cause.Mark = ForMark
cause_kind cause.Detach = ForDetach

-- The kinds of events. Locks are those of pages, transactions and relations; a grant may begin a transaction. A read fails or
-- does not. A write has a cause, or fails, and then has reached the file or has not.
pub data Kind : Type 0 where
  Opening : Kind
  Coming : Kind
  Leaving : Kind
  Dying : Kind
  Asking : (series : Series) → Kind
  Granting : (series : Series) → Kind
  Beginning : Kind
  Looking : Kind
  Withdrawing : Kind
  Lowering : (series : Series) → Kind
  Reading : Kind
  FailingRead : Kind
  Writing : (cause : CauseKind) → Kind
  FailingWrite : (landed : Bool) → Kind
  Reaping : Kind
  Polling : Kind
  AskingLeast : Kind
  Answering : Kind
  Ordering : Kind
  Pinning : Kind
  Unpinning : Kind
  Editing : (kind : EditKind) → Kind

-- The kind of an act; of a failed write, by whether it reached the file.
abbrev pub act_kind : Act → Bool → Kind
act_kind (act.Opened locks) landed = Opening
act_kind (act.Enter buffers name) landed = Coming
act_kind act.Leave landed = Leaving
act_kind act.Die landed = Dying
act_kind (act.Ask resource level wait word) landed = Asking resource.series
act_kind (act.Grant resource level) landed = if is_begin resource level then Beginning else Granting resource.series
act_kind act.Look landed = Looking
act_kind act.Withdraw landed = Withdrawing
act_kind (act.Lower resource level) landed = Lowering resource.series
act_kind (act.Read page fault) landed = if fault then FailingRead else Reading
act_kind (act.Write page reason failed) landed = if failed then FailingWrite landed else Writing (cause_kind reason)
act_kind (act.Reap owner by) landed = Reaping
act_kind (act.Poll above) landed = Polling
act_kind act.Least landed = AskingLeast
act_kind (act.Note reply) landed = Answering
act_kind (act.Local (local.Before high low)) landed = Ordering
act_kind (act.Local (local.Pin page)) landed = Pinning
act_kind (act.Local (local.Unpin page)) landed = Unpinning
act_kind (act.Local (local.Edit page edit)) landed = Editing (edit_kind edit)

-- A legal history over a sound file ends with an event of this kind.
pub record Occurs (kind : Kind) : Type 0 where
  pub shape : Shape
  pub file : View
  pub before : History
  pub moment : Moment
  pub start : IsStart shape file
  pub legal : IsLegal shape file (moment ∷ before)
  pub is : act_kind moment.event.act moment.landed ≡ kind
