-- When a journal is lawful over a file, and what a step owes so that it stays so.
use Rattle.std.specs.Prelude.{◌≡◌, ℕ, Bool, true, false, List, [], ◌∷◌, length, drop, Option, Some, None}
use Rattle.fbc_kinds.specs.declared.pages.Page.{Page}
use Rattle.fbc_kinds.specs.declared.shapes.Shape.{Shape}
use Rattle.fbc_kinds.specs.File.{IsViewOf}
use Rattle.fbc_kinds.specs.Spelling.{IsSpelling}
use Rattle.fbc_kinds.specs.View.{View}
use Rattle.fbc_lock_table.specs.declared.answers.Asked.TheVariants.{Dead}
use Rattle.fbc_lock_table.specs.Answers.{answer_to_ask}
use Rattle.fbc_legal.specs.Guards.{Guard}
use Rattle.fbc_legal.specs.Legal.{IsLegal, MayAct}
use Rattle.fbc_legal.specs.Scene.{Scene, scene_of}
use Rattle.fbc_world.specs.declared.answers.Answer.{Answer}
use Rattle.fbc_world.specs.declared.answers.Answer.TheVariants as answers
use Rattle.fbc_world.specs.declared.asks.Ask.{Ask}
use Rattle.fbc_world.specs.declared.asks.Ask.TheVariants as ask
use Rattle.fbc_world.specs.declared.events.Act.{Act}
use Rattle.fbc_world.specs.declared.events.Act.TheVariants as act
use Rattle.fbc_world.specs.declared.events.LocalEvent.{LocalEvent}
use Rattle.fbc_world.specs.History.{History, Recording, happens}
use Rattle.fbc_world.specs.PageCell.{page_for}
use Rattle.fbc_world.specs.World.{world_of}
use Rattle.fbc_region.specs.Shared.{history_of}

-- The actor of an act may act, and the act meets its guard.
pub record MeetsGuard (at : Scene) (owner : ℕ) (act : Act) : Type 0 where
  pub alive : MayAct at owner act
  pub guard : Guard at owner act

-- The history after what an owner did in its own cache.
abbrev pub with_locals : History → ℕ → List LocalEvent → History
with_locals past owner [] = past
with_locals past owner (event ∷ events) = with_locals (happens owner (act.Local event) false ∷ past) owner events

-- What an owner does in its own cache meets the guards, each event in the scene after those before it.
abbrev pub MeetInTurn : Shape → View → History → ℕ → List LocalEvent → Type 0
MeetInTurn shape file past owner [] = Unit {0}
MeetInTurn shape file past owner (event ∷ events) =
    MeetsGuard (scene_of shape file past) owner (act.Local event) × MeetInTurn shape file (happens owner (act.Local event) false ∷ past) owner events

-- The event that an ask stands for meets its guard. Of a lock this is owed only where no dead owner is in the way: where one is, it
-- is reaped in place of the ask.
abbrev pub MeetsAsk : Scene → ℕ → Ask → Type 0
MeetsAsk at owner (ask.Enter buffers name) = MeetsGuard at owner (act.Enter buffers name)
MeetsAsk at owner ask.Leave = MeetsGuard at owner act.Leave
MeetsAsk at owner (ask.Lock resource level wait word) =
    (at.world.is_alive owner ≡ true)
    × (((dead : ℕ) → ¬ (answer_to_ask at.world.locks owner resource level wait ≡ Dead dead)) → Guard at owner (act.Ask resource level wait word))
MeetsAsk at owner ask.Look = MeetsGuard at owner act.Look
MeetsAsk at owner ask.Withdraw = MeetsGuard at owner act.Withdraw
MeetsAsk at owner (ask.Lower resource level) = MeetsGuard at owner (act.Lower resource level)
MeetsAsk at owner (ask.Read page) = (fault : Bool) → MeetsGuard at owner (act.Read page fault)
MeetsAsk at owner (ask.Write page cause) = (failed : Bool) → MeetsGuard at owner (act.Write page cause failed)
MeetsAsk at owner (ask.Poll above) = MeetsGuard at owner (act.Poll above)
MeetsAsk at owner ask.Least = MeetsGuard at owner act.Least
MeetsAsk at owner (ask.Note reply) = MeetsGuard at owner (act.Note reply)

-- A step meets the guards after a history over a file.
pub record MeetsGuards (shape : Shape) (file : View) (past : History) (who : ℕ) (events : List LocalEvent) (asked : Ask) : Type 0 where
  pub local : MeetInTurn shape file past who events
  pub own : MeetsAsk (scene_of shape file (with_locals past who events)) who asked

-- The landings that a step adds: one where a write failed, and none elsewhere.
abbrev pub AreLandings : Answer → List Bool → Type 0
AreLandings answers.WriteFault landings = (landed : Bool) × (landings ≡ landed ∷ [])
AreLandings _ landings = landings ≡ []

-- What a device's landings say beyond those of before.
abbrev pub new_landings : List Bool → List Bool → List Bool
new_landings before now = drop (length before) now

-- The bytes spell a page.
abbrev pub Spells : Shape → List ℕ → Option Page → Type 0
Spells shape bytes None = ⊥
Spells shape bytes (Some page) = IsSpelling shape page bytes

-- Where a page is to be written, the image spells the writer's draft of it.
abbrev pub MeetsImage : Scene → ℕ → List ℕ → Ask → Type 0
MeetsImage at who image (ask.Write page cause) = Spells at.shape image (page_for who (at.world.kept page) (at.world.draft page))
MeetsImage at who image _ = Unit {0}

-- The bytes are told, and are those of these pages.
abbrev pub ShowsView : Shape → Option (List ℕ) → View → Type 0
ShowsView shape None view = ⊥
ShowsView shape (Some bytes) view = IsViewOf shape bytes view

-- Over this file, and where its failed writes landed so, the journal is legal; the pages have the size that the file's
-- shape gives, and what is kept of each is what the device's bytes show.
pub record IsLawfulOver (size : ℕ) (bytes : Option (List ℕ)) (journal : Recording) (file : View) (landings : List Bool) : Type 0 where
  pub legal : IsLegal journal.shape file (history_of journal landings)
  pub sized : size ≡ journal.shape.size
  pub shown : ShowsView journal.shape bytes (world_of journal.shape file (history_of journal landings)).kept

-- What a step owes over a file for these landings.
pub record MeetsStep (journal : Recording) (file : View) (landings : List Bool) (who : ℕ) (events : List LocalEvent) (image : List ℕ) (asked : Ask)
    : Type 0 where
  pub guards : MeetsGuards journal.shape file (history_of journal landings) who events asked
  pub image_is : MeetsImage (scene_of journal.shape file (with_locals (history_of journal landings) who events)) who image asked
