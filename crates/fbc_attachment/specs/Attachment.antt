-- What is seen of an attachment from outside, and the step that it takes next.
use Rattle.std.specs.Prelude.{◌≡◌, ◌<◌, ◌-◌, ◌==◌, ◌&&◌, ℕ, Bool, true, false, if◌then◌else◌, nat_lt, List, [], Option, Some, None, IfSome}
use Rattle.std.specs.Option.{option_map, option_map_or}
use Rattle.fbc_kinds.specs.declared.pages.Page.{Page}
use Rattle.fbc_kinds.specs.declared.shapes.Shape.{Shape}
use Rattle.fbc_kinds.specs.Spelling.{IsSpelling}
use Rattle.fbc_kinds.specs.declared.replies.Reply.{Reply}
use Rattle.fbc_kinds.specs.declared.replies.Reply.TheVariants as reply
use Rattle.fbc_outside.specs.declared.gate.StepName.{StepName}
use Rattle.fbc_script.specs.declared.script.Statement.{Statement}
use Rattle.fbc_script.specs.declared.script.Statement.TheVariants as statement
use Rattle.fbc_script.specs.declared.script.Trap.{Trap}
use Rattle.fbc_world.specs.declared.asks.Ask.{Ask}
use Rattle.fbc_world.specs.declared.asks.Ask.TheVariants as ask
use Rattle.fbc_cache.specs.Cache.{CacheState, copy_in}
use Rattle.fbc_cache.specs.Readers.{place_in}
use Rattle.fbc_desk.specs.Desk.{DeskState}
use Rattle.fbc_attachment.specs.declared.attachment.Move.{Move}
use Rattle.fbc_attachment.specs.declared.attachment.Move.TheVariants as move
use Rattle.fbc_attachment.specs.declared.due.Due.{Due}
use Rattle.fbc_attachment.specs.declared.due.Due.TheVariants as due
use Rattle.fbc_attachment.specs.declared.polls.Polls.{Polls}
use Rattle.fbc_attachment.specs.declared.polls.Polls.TheVariants as polls
use Rattle.fbc_attachment.specs.StepNames.{bears}

-- Its owner number, its name, and for how many pages it comes; how many pages the file has at most; its desk; the statement that is
-- not answered; how far a moment of polls has come, and whether it was called since its last poll; the step that is due; the reply
-- that is not told yet; the death that waits; and whether its statement needs what is not built yet.
pub record AttachmentState : Type 0 where
  pub who : ℕ
  pub name : ℕ
  pub buffers : ℕ
  pub limit : ℕ
  pub desk : DeskState
  pub statement : Option Statement
  pub polls : Polls
  pub is_called : Bool
  pub due : Option Due
  pub reply : Option Reply
  pub trap : Option Trap
  pub is_unbuilt : Bool

-- A desk of so many buffers that holds nothing, for a file of that shape.
abbrev pub empty_desk : ℕ → Shape → DeskState
empty_desk buffers shape = record {
  cache = record { shape = shape; room = buffers; held = []; pairs = []; pointers = [] };
  unsent = [];
  is_spilled = false;
  tips = [];
  counted = 0;
  written = 0;
  notes = [];
  deeds = [];
  own = None;
}

-- An attachment that was given nothing yet.
abbrev pub fresh : ℕ → ℕ → ℕ → Shape → AttachmentState
fresh who name buffers shape = record {
  who = who;
  name = name;
  buffers = buffers;
  limit = shape.limit;
  desk = empty_desk buffers shape;
  statement = None;
  polls = polls.Off;
  is_called = false;
  due = None;
  reply = None;
  trap = None;
  is_unbuilt = false;
}

-- The statements that an attachment can do so far.
abbrev pub is_built : Statement → Bool
is_built statement.Attach = true
is_built (statement.Begin wait) = true
is_built (statement.Insert name text) = true
is_built (statement.Read name row) = true
is_built statement.Commit = true
is_built _ = false

-- The ask of a step that is due. What a note answers stands elsewhere.
abbrev pub ask_of : Due → Ask
ask_of (due.Enter buffers name) = ask.Enter buffers name
ask_of (due.Lock resource level wait word) = ask.Lock resource level wait word
ask_of due.Look = ask.Look
ask_of (due.Lower resource level) = ask.Lower resource level
ask_of (due.Read page) = ask.Read page
ask_of (due.Write page cause) = ask.Write page cause
ask_of (due.Poll above) = ask.Poll above
ask_of due.Note = ask.Note reply.Ok

-- A step is due that the ask of a part is.
abbrev pub due_of : Ask → Option Due
due_of (ask.Lock resource level wait word) = Some (due.Lock resource level wait word)
due_of ask.Look = Some due.Look
due_of (ask.Lower resource level) = Some (due.Lower resource level)
due_of (ask.Read page) = Some (due.Read page)
due_of (ask.Write page cause) = Some (due.Write page cause)
due_of _ = None

-- A page that is written is below the limit.
abbrev pub IsBelow : ℕ → Option Due → Type 0
IsBelow limit (Some (due.Write page cause)) = page < limit
IsBelow limit _ = Unit {0}

-- The bytes spell the page as it may be used.
abbrev pub IsImage : CacheState → ℕ → List ℕ → Type 0
IsImage c page bytes = IfSome (copy_in c.held page) (λ (copy : Page). IsSpelling c.shape copy bytes)

-- Whether the step writes a transaction inventory page.
abbrev pub is_tip : DeskState → Due → Bool
is_tip d (due.Write page cause) = (place_in (copy_in d.cache.held page)).kind == 3
is_tip d _ = false

-- Whether the step that is due bears the name.
abbrev pub step_bears : AttachmentState → StepName → Bool
step_bears a name = option_map_or (λ (step : Due). bears (ask_of step) (is_tip a.desk step) name) a.due false

-- It asks for a callback.
abbrev pub polling : Bool → Option ℕ → AttachmentState → AttachmentState
polling is_idle above a = record a { polls = polls.Asked is_idle; due = Some (due.Poll above) }

-- Where no step is due, a statement that was given begins: an attach with its coming, any other with a poll; and without a
-- statement one that was called polls.
abbrev pub roused_by : Option Due → Option Statement → Bool → AttachmentState → AttachmentState
roused_by (Some step) given called a = a
roused_by None (Some statement.Attach) called a = record a { due = Some (due.Enter a.buffers a.name) }
roused_by None (Some _) called a = polling false None a
roused_by None None true a = polling true None a
roused_by None None false a = a

abbrev pub roused : AttachmentState → AttachmentState
roused a = roused_by a.due a.statement a.is_called a

-- Whether the step that is due is the one before which it is to die.
abbrev pub is_trapped : AttachmentState → Bool
is_trapped a = option_map_or (λ (t : Trap). (t.count == 1) && step_bears a t.name) a.trap false

-- What it does by a step: the note tells the reply, any other is asked for.
abbrev pub reply_told : Option Reply → Reply
reply_told (Some told) = told
reply_told None = reply.Ok

abbrev pub move_by : Option Reply → Due → Move
move_by told due.Note = move.Answered (reply_told told)
move_by told step = move.Ask (ask_of step)

-- What it does next.
abbrev pub move_of : AttachmentState → Option Due → Move
move_of a (Some step) = if is_trapped a then move.Die else move_by a.reply step
move_of a None = move.Idle

abbrev pub move_next : AttachmentState → Move
move_next a = move_of (roused a) (roused a).due

-- A reply that is told is handed out.
abbrev pub after_move : Move → AttachmentState → AttachmentState
after_move (move.Answered told) a = record a { reply = None }
after_move _ a = a

-- Nothing is due, no statement is unanswered, and it was not called.
pub record IsAtRest (a : AttachmentState) : Type 0 where
  pub due : a.due ≡ None
  pub statement : a.statement ≡ None
  pub called : a.is_called ≡ false

-- A trap comes nearer by a step that bears its name.
abbrev pub nearer : AttachmentState → Trap → Trap
nearer a t = if nat_lt 1 t.count && step_bears a t.name then record t { count = t.count - 1 } else t

-- Who it is stays, and so does its trap.
pub record IsSame (before after : AttachmentState) : Type 0 where
  pub who : after.who ≡ before.who
  pub name : after.name ≡ before.name
  pub buffers : after.buffers ≡ before.buffers
  pub limit : after.limit ≡ before.limit
  pub trap : after.trap ≡ before.trap

-- The trap, if there is one, comes nearer by the step that is due.
abbrev pub counted : AttachmentState → AttachmentState
counted a = record a { trap = option_map (nearer a) a.trap }
