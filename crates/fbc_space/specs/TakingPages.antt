-- How a free page becomes a data page.
use Rattle.std.specs.Prelude.{◌≡◌, ◌/◌, [], ◌∷◌, nat_lt, ℕ, if◌then◌else◌, List}
use Rattle.fbc_kinds.specs.declared.edits.Edit.{Edit}
use Rattle.fbc_kinds.specs.declared.edits.Edit.TheVariants as edit
use Rattle.fbc_kinds.specs.Limits.{inventory_bits}
use Rattle.fbc_world.specs.declared.asks.Ask.{Ask}
use Rattle.fbc_world.specs.declared.asks.Cause.TheVariants as cause
use Rattle.fbc_cache.specs.Giving.{IsWriteFor}
use Rattle.fbc_desk.specs.declared.edits.Made.{Made}
use Rattle.fbc_desk.specs.declared.edits.Made.TheVariants as made
use Rattle.fbc_desk.specs.Calls.{EditComesTo}
use Rattle.fbc_desk.specs.Desk.{DeskState}
use Rattle.fbc_desk.specs.Grounds.{inventory_over}
use Rattle.fbc_space.specs.declared.taking_pages.TakeStep.{TakeStep}
use Rattle.fbc_space.specs.declared.taking_pages.TakeStep.TheVariants as steps
use Rattle.fbc_space.specs.declared.taking_pages.Taking.{Taking}
use Rattle.fbc_space.specs.declared.taking_pages.Taking.TheVariants as stages

-- The page is taken from the page inventory over it.
abbrev pub take_edit : ℕ → Edit
take_edit page = edit.TakePage page

-- It becomes the data page of the relation at that sequence.
abbrev pub format_edit : ℕ → ℕ → ℕ → Edit
format_edit page relation sequence = edit.Format 5 page relation sequence

-- What is written before the formatted page: the page inventory over it, and the header where the file does not count that yet.
abbrev pub format_highs : DeskState → ℕ → List ℕ
format_highs d page =
    inventory_over d.cache.shape.size page ∷ (if nat_lt (page / inventory_bits d.cache.shape.size) d.written then [] else 0 ∷ [])

-- What the edit that is due comes to, by how far the page has come.
abbrev pub DueComesTo : ℕ → ℕ → ℕ → Taking → DeskState → DeskState → Made → Type 0
DueComesTo page relation sequence stages.Free before after outcome =
    EditComesTo before after (inventory_over before.cache.shape.size page) (take_edit page) [] outcome
DueComesTo page relation sequence stages.Taken before after outcome =
    EditComesTo before after page (format_edit page relation sequence) (format_highs before page) outcome
DueComesTo page relation sequence stages.Formatted before after outcome = (after ≡ before) × (outcome ≡ made.Done)

-- How far the page comes by it.
abbrev pub next : Taking → Taking
next stages.Free = stages.Taken
next stages.Taken = stages.Formatted
next stages.Formatted = stages.Formatted

-- The edits that are due are made, each once and in their order.
pub data Takes (page relation sequence : ℕ) (from : Taking) (before : DeskState) : Taking → DeskState → Type 0 where
  begins : Takes page relation sequence from before from before
  makes : (stage : Taking) (between after : DeskState) → Takes page relation sequence from before stage between
      → DueComesTo page relation sequence stage between after made.Done → Takes page relation sequence from before (next stage) after

-- Another page is to be written before the edit that is due: the pairs that were recorded stay, and that page's next write is asked.
pub record IsHalted (page relation sequence : ℕ) (stage : Taking) (before after : DeskState) (asked : Ask) : Type 0 where
  pub edited : ℕ
  pub high : ℕ
  pub halts : DueComesTo page relation sequence stage before after (made.WriteFirst edited high)
  pub is_write : IsWriteFor after.cache.pairs edited (cause.Cycle high) asked

-- What the taking of a page comes to where it stops: all is done; a page is to be written first; the edit that is due is refused.
abbrev pub StopsAt : ℕ → ℕ → ℕ → Taking → DeskState → DeskState → TakeStep → Type 0
StopsAt page relation sequence stage between after steps.Done = (stage ≡ stages.Formatted) × (after ≡ between)
StopsAt page relation sequence stage between after (steps.Must asked) = IsHalted page relation sequence stage between after asked
StopsAt page relation sequence stage between after steps.Refused = DueComesTo page relation sequence stage between after made.Refused

-- The edits that are due are made as far as they can be.
pub record TakesTo (page relation sequence : ℕ) (from to : Taking) (before after : DeskState) (step : TakeStep) : Type 0 where
  pub between : DeskState
  pub takes : Takes page relation sequence from before to between
  pub stops : StopsAt page relation sequence to between after step
