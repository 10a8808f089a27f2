-- What an insert comes to at the stages at which it makes a data page of the free page: none where it goes on to the next stage.
use Rattle.std.specs.Prelude.{◌≡◌, ◌/◌, ◌%◌, [], ◌∷◌, ℕ, Option, Some, None, if◌then◌else◌}
use Rattle.fbc_kinds.specs.declared.edits.Edit.TheVariants as edit
use Rattle.fbc_kinds.specs.Limits.{slots}
use Rattle.fbc_notes.specs.declared.notes.Note.{Note}
use Rattle.fbc_notes.specs.declared.notes.Note.TheVariants as note
use Rattle.fbc_world.specs.declared.asks.Ask.{Ask}
use Rattle.fbc_world.specs.declared.asks.Cause.TheVariants as cause
use Rattle.fbc_cache.specs.Giving.{IsWriteFor}
use Rattle.fbc_desk.specs.declared.edits.Made.{Made}
use Rattle.fbc_desk.specs.declared.edits.Made.TheVariants as made
use Rattle.fbc_desk.specs.Calls.{EditComesTo}
use Rattle.fbc_desk.specs.Desk.{DeskState}
use Rattle.fbc_desk.specs.Noting.{is_noted, with_note}
use Rattle.fbc_space.specs.declared.taking_pages.TakeStep.{TakeStep}
use Rattle.fbc_space.specs.declared.taking_pages.TakeStep.TheVariants as takes
use Rattle.fbc_space.specs.declared.taking_pages.Taking.{Taking}
use Rattle.fbc_space.specs.TakingPages.{Takes, TakesTo}
use Rattle.fbc_chains.specs.Showing.{shown_by}
use Rattle.fbc_rows.specs.declared.parts.InsertPart.{InsertPart}
use Rattle.fbc_rows.specs.declared.parts.NewPage.{NewPage}
use Rattle.fbc_rows.specs.declared.parts.RowStep.{RowStep}
use Rattle.fbc_rows.specs.declared.parts.RowStep.TheVariants as step
use Rattle.fbc_rows.specs.declared.parts.Stage.TheVariants as stage
use Rattle.fbc_rows.specs.Needs.{pointer_at}
use Rattle.fbc_rows.specs.Parts.{standing}

-- The page is taken from its page inventory and formatted, as far as the edits are due: then it is to be named.
abbrev pub TakeEnds : NewPage → Taking → InsertPart → InsertPart → TakeStep → Option RowStep → Type 0
TakeEnds new reached from to takes.Done answer = (answer ≡ None) × (to ≡ standing (stage.Name new) from)
TakeEnds new reached from to (takes.Must asked) answer = (answer ≡ Some (step.Must asked)) × (to ≡ standing (stage.Take new reached) from)
TakeEnds new reached from to takes.Refused answer = (answer ≡ Some step.Refused) × (to ≡ standing (stage.Take new reached) from)

pub record TakeComesTo (before after : DeskState) (relation : ℕ) (new : NewPage) (taking : Taking) (from to : InsertPart) (answer : Option RowStep) : Type 0 where
  pub reached : Taking
  pub stopped : TakeStep
  pub takes : TakesTo new.page relation new.sequence taking reached before after stopped
  pub ends : TakeEnds new reached from to stopped answer

-- Where there is no memory, the edits that were due before are made.
pub record TakeWants (before after : DeskState) (relation : ℕ) (new : NewPage) (taking : Taking) (from to : InsertPart) : Type 0 where
  pub reached : Taking
  pub takes : Takes new.page relation new.sequence taking before reached after
  pub stays : to ≡ standing (stage.Take new reached) from

-- What it comes to when the slot of a sequence is to name the new page, which is written before the pointer page.
abbrev pub NameComesTo : DeskState → ℕ → NewPage → DeskState → Made → Type 0
NameComesTo before relation new after outcome =
    EditComesTo before after (pointer_at (shown_by before.cache) relation (new.sequence / slots before.cache.shape.size))
    (edit.Name (new.sequence % slots before.cache.shape.size) new.page) (new.page ∷ []) outcome

-- The note that the slot of a sequence names the page, and the desk where it is noted, if it may be.
abbrev pub naming : DeskState → ℕ → ℕ → ℕ → Note
naming d relation sequence page = note.Named relation sequence (pointer_at (shown_by d.cache) relation (sequence / slots d.cache.shape.size)) page

abbrev pub noted : Note → DeskState → DeskState
noted found d = if is_noted d found then with_note found d else d

-- The next write in order is asked, before an edit of a page that waits for a high page.
pub record AsksWrite (d : DeskState) (edited high : ℕ) (answer : Option RowStep) : Type 0 where
  pub asked : Ask
  pub is_write : IsWriteFor d.cache.pairs edited (cause.Cycle high) asked
  pub answers : answer ≡ Some (step.Must asked)

-- The slot names the page, which is noted: then the row is to be put into its first cell.
abbrev pub NameEnds : ℕ → NewPage → DeskState → DeskState → InsertPart → InsertPart → Made → Option RowStep → Type 0
NameEnds relation new between after from to made.Done answer =
    (after ≡ noted (naming between relation new.sequence new.page) between) × (answer ≡ None) × (to ≡ standing (stage.Put new.page new.sequence 0) from)
NameEnds relation new between after from to (made.WriteFirst edited high) answer = (after ≡ between) × AsksWrite after edited high answer × (to ≡ from)
NameEnds relation new between after from to made.Refused answer = (after ≡ between) × (answer ≡ Some step.Refused) × (to ≡ from)

pub record NamesPage (before after : DeskState) (relation : ℕ) (new : NewPage) (from to : InsertPart) (answer : Option RowStep) : Type 0 where
  pub between : DeskState
  pub outcome : Made
  pub names : NameComesTo before relation new between outcome
  pub ends : NameEnds relation new between after from to outcome answer
