-- What becomes of the desk behind the step that was due.
use Rattle.std.specs.Prelude.{◌≡◌, ℕ, Bool, true, false, List, Option, Some, None, is_some, length}
use Rattle.fbc_kinds.specs.declared.rules.Rule.{Rule}
use Rattle.fbc_world.specs.declared.answers.Answer.{Answer}
use Rattle.fbc_world.specs.declared.answers.Answer.TheVariants as answers
use Rattle.fbc_world.specs.declared.asks.Ask.{Ask}
use Rattle.fbc_cache.specs.Takes.{broken_by}
use Rattle.fbc_desk.specs.Desk.{DeskState, sent}
use Rattle.fbc_desk.specs.Taking.{DeskTakes}
use Rattle.fbc_attachment.specs.Attachment.{AttachmentState}
use Rattle.fbc_attachment.specs.Running.{Runs}

-- An answer is taken where a step is due, with an image of the size of a page.
pub record MayTake (a : AttachmentState) (bytes : List ℕ) : Type 0 where
  pub due : is_some a.due ≡ true
  pub size : length bytes ≡ a.desk.cache.shape.size

-- Whether a write failed.
abbrev pub is_write_fault : Answer → Bool
is_write_fault answers.WriteFault = true
is_write_fault _ = false

-- The desk takes the answer. Where the bytes that were read break a rule, it knows that the step was taken, and no more.
abbrev pub TakesOrBreaks : Option Rule → DeskState → DeskState → Ask → Answer → List ℕ → Type 0
TakesOrBreaks None before after asked answer bytes = DeskTakes before after asked answer bytes
TakesOrBreaks (Some broken) before after asked answer bytes = after ≡ sent before

-- After a write that failed the attachment is dead, and its desk is left.
abbrev pub HearsOrDies : Bool → DeskState → DeskState → Ask → Answer → List ℕ → Type 0
HearsOrDies true before after asked answer bytes = after ≡ before
HearsOrDies false before after asked answer bytes = TakesOrBreaks (broken_by before.cache.shape asked answer bytes) before after asked answer bytes

-- What the answer to a step does at the desk.
abbrev pub Hears : DeskState → DeskState → Ask → Answer → List ℕ → Type 0
Hears before after asked answer bytes = HearsOrDies (is_write_fault answer) before after asked answer bytes

-- The desk as it stood when the step was due hears the answer, and then its calls follow.
pub record RunsBehind (before after : DeskState) (asked : Ask) (answer : Answer) (bytes : List ℕ) : Type 0 where
  pub between : DeskState
  pub hears : Hears before between asked answer bytes
  pub runs : Runs between after
