-- A step of an owner whose cache fits, and what is supposed besides where the cache takes the answer.
use Rattle.std.specs.Prelude.{◌≡◌, ℕ, true, false, List, Option, Some, None, is_some}
use Rattle.std.specs.List.{list_any}
use Rattle.fbc_kinds.specs.declared.pages.Page.{Page}
use Rattle.fbc_kinds.specs.declared.rules.Rule.{Rule}
use Rattle.fbc_kinds.specs.declared.shapes.Shape.{Shape}
use Rattle.fbc_kinds.specs.File.{ShowsPage}
use Rattle.fbc_kinds.specs.Spelling.{first_broken_rule}
use Rattle.fbc_kinds.specs.View.{View}
use Rattle.fbc_levels.specs.declared.resources.Request.{Request}
use Rattle.fbc_levels.specs.LockState.{LockState, wait_of}
use Rattle.fbc_lock_table.specs.Answers.{holder_of_wait}
use Rattle.fbc_world.specs.declared.answers.Answer.{Answer}
use Rattle.fbc_world.specs.declared.answers.Answer.TheVariants as answers
use Rattle.fbc_world.specs.declared.asks.Ask.{Ask}
use Rattle.fbc_world.specs.declared.asks.Ask.TheVariants as ask
use Rattle.fbc_world.specs.declared.events.LocalEvent.{LocalEvent}
use Rattle.fbc_world.specs.History.{History}
use Rattle.fbc_world.specs.Locks.{locks_of}
use Rattle.fbc_world.specs.PageCell.{kept}
use Rattle.fbc_legal.specs.Legal.{IsLegal}
use Rattle.fbc_region.specs.Lawful.{with_locals}
use Rattle.fbc_region.specs.Steps.{IsStepOf}
use Rattle.fbc_buffers.specs.Holding.{is_waiting}
use Rattle.fbc_cache.specs.Cache.{CacheState, IsCache}
use Rattle.fbc_cache.specs.Takes.{after_take}
use Rattle.fbc_cache.specs.Wants.{is_due, is_page_series}
use Rattle.fbc_fit.specs.After.{FitsAfter}

-- Where an owner asks: the file and its shape, the history before the step, and what the owner does then in its own cache.
pub record AskScene : Type 0 where
  pub shape : Shape
  pub file : View
  pub history : History
  pub who : ℕ
  pub events : List LocalEvent

-- The history before the owner's ask.
abbrev pub before_ask : AskScene → History
before_ask at = with_locals at.history at.who at.events

-- The cache fits before the owner asks for what is due, and this is answered. The history behind the step is legal.
pub record IsAnsweredOver (at : AskScene) (c : CacheState) (asked : Ask) (answer : Answer) (later : History) : Type 0 where
  pub fits : FitsAfter at.shape at.file (before_ask at) at.who c
  pub due : is_due c asked ≡ true
  pub step : IsStepOf at.history at.who at.events asked answer later
  pub legal : IsLegal at.shape at.file later

-- The cache after the answer fits the history behind the step.
abbrev pub FitsTaken : AskScene → CacheState → Ask → Answer → Option Page → History → Type 0
FitsTaken at c asked answer shown later = FitsAfter at.shape at.file later at.who (after_take c asked answer shown)

-- Where the owner waits, somebody is in the way of what it waits for.
abbrev pub IsHeldUp : LockState → ℕ → Type 0
IsHeldUp locks who = (wait : Request) → wait_of locks who ≡ Some wait → is_some (holder_of_wait locks wait.resource wait.waiting who) ≡ true

-- Where the owner waits for a number or a relation, its cache waits for no page.
abbrev pub WaitsForOne : LockState → ℕ → CacheState → Type 0
WaitsForOne locks who c = (wait : Request) → wait_of locks who ≡ Some wait → is_page_series wait.resource ≡ false → list_any is_waiting c.held ≡ false

-- The image shows of the page what is kept of it.
pub record ShowsKept (shape : Shape) (file : View) (past : History) (page : ℕ) (image : List ℕ) : Type 0 where
  pub shown : (content : Page) → ShowsPage shape page image content → kept shape file past page ≡ Some content
  pub broken : (rule : Rule) → first_broken_rule shape page image ≡ Some rule → kept shape file past page ≡ None

-- The owner lives through its step: it neither comes nor goes, and no write of it fails.
abbrev pub IsLivedThrough : Ask → Answer → Type 0
IsLivedThrough (ask.Enter buffers name) answer = ⊥
IsLivedThrough ask.Leave answer = ⊥
IsLivedThrough (ask.Write page cause) answers.WriteFault = ⊥
IsLivedThrough _ answer = Unit {0}

-- What is supposed besides, by the kind of the ask.
abbrev pub IsSupposed : AskScene → CacheState → Ask → Answer → List ℕ → Type 0
IsSupposed at c ask.Look answer image = IsHeldUp (locks_of (before_ask at)) at.who
IsSupposed at c ask.Withdraw answer image = IsCache c × WaitsForOne (locks_of (before_ask at)) at.who c
IsSupposed at c (ask.Read page) (answers.PageIs length) image = ShowsKept at.shape at.file (before_ask at) page image
IsSupposed at c asked answer image = IsLivedThrough asked answer

-- Asks of no lock, which leave the pages.
abbrev pub IsBystander : Ask → Type 0
IsBystander (ask.Poll above) = Unit {0}
IsBystander ask.Least = Unit {0}
IsBystander (ask.Note reply) = Unit {0}
IsBystander _ = ⊥

-- A lock that is refused: another is in the way, there is no room, or a dead owner is taken away first.
abbrev pub IsRefusal : Answer → Type 0
IsRefusal (answers.Busy holder level) = Unit {0}
IsRefusal (answers.Room used) = Unit {0}
IsRefusal (answers.Reaped dead) = Unit {0}
IsRefusal _ = ⊥
