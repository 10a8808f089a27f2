-- How a commit goes on, and what it comes to.
use Rattle.std.specs.Prelude.{◌≡◌, ◌⊎◌, ◌<◌, ◌≤◌, ◌/◌, ℕ, true, false, [], ◌∷◌, Option, Some, None, length}
use Rattle.fbc_kinds.specs.declared.pages.State.TheVariants as state
use Rattle.fbc_kinds.specs.Limits.{tip_numbers}
use Rattle.fbc_world.specs.declared.asks.Ask.{Ask}
use Rattle.fbc_world.specs.declared.asks.Ask.TheVariants as ask
use Rattle.fbc_world.specs.declared.asks.Cause.TheVariants as cause
use Rattle.fbc_cache.specs.Cache.{is_dirty_in}
use Rattle.fbc_cache.specs.Edits.{AllClean, IsLeastDirty}
use Rattle.fbc_cache.specs.Readers.{number_at, tips_in}
use Rattle.fbc_desk.specs.declared.holding.Held.TheVariants as held
use Rattle.fbc_desk.specs.Calls.{GoesOn, UnpinsAll}
use Rattle.fbc_desk.specs.Desk.{DeskState}
use Rattle.fbc_desk.specs.Holds.{after_hold, after_looking}
use Rattle.fbc_tip.specs.declared.marks.MarkStep.{MarkStep}
use Rattle.fbc_tip.specs.declared.marks.MarkStep.TheVariants as mark
use Rattle.fbc_tip.specs.Inventories.{reading}
use Rattle.fbc_tip.specs.Marks.{MarkComesTo}
use Rattle.fbc_tra.specs.declared.committing.CommitStage.{CommitStage}
use Rattle.fbc_tra.specs.declared.committing.CommitStage.TheVariants as at
use Rattle.fbc_tra.specs.declared.steps.BodyStep.{BodyStep}
use Rattle.fbc_tra.specs.declared.steps.BodyStep.TheVariants as step
use Rattle.fbc_tra.specs.Numbers.{lowering}
use Rattle.fbc_tra.specs.Pages.{HoldsTip, LooksAtHeader, to_change}
use Rattle.fbc_tra.specs.Ways.{ComesTo, Stops}

-- The sequence of the page on which a number's state stands.
abbrev pub sequence_of : DeskState → ℕ → ℕ
sequence_of d number = number / tip_numbers d.cache.shape.size

-- The write of a page for the commit.
abbrev pub write_of : ℕ → Ask
write_of page = ask.Write page cause.Commit

-- The page that the header names for a number; none exactly where it names none.
abbrev pub NamesTip : DeskState → ℕ → Option ℕ → Type 0
NamesTip d number (Some page) = (sequence_of d number < length (tips_in d.cache)) × (page ≡ number_at (tips_in d.cache) (sequence_of d number))
NamesTip d number None = length (tips_in d.cache) ≤ sequence_of d number

-- The header is looked at, and names this for the number.
pub record FindsTip (d : DeskState) (number : ℕ) (after : DeskState) (found : Option ℕ) : Type 0 where
  pub here : LooksAtHeader d held.Here
  pub is_after : after ≡ after_looking d (reading 0) held.Here
  pub names : NamesTip after number found

-- The mark of the number, before which the header is written.
abbrev pub Marks : DeskState → DeskState → ℕ → ℕ → MarkStep → Type 0
Marks before after page number answer = MarkComesTo before after page number state.Committed (0 ∷ []) answer

-- A commit goes on: when no page is dirty, to the header; from there to the page that it names for the number; when that is held, to the
-- mark; and when that is made, to the write of the page.
abbrev pub CommitMoves : ℕ → DeskState → CommitStage → DeskState → CommitStage → Type 0
CommitMoves number d at.Drafts after at.Header = AllClean d.cache × (after ≡ d)
CommitMoves number d at.Header after (at.Tip page) = FindsTip d number after (Some page)
CommitMoves number d (at.Tip page) after (at.Mark held_page) =
    (held_page ≡ page) × HoldsTip d page (sequence_of d number) held.Here × (after ≡ after_hold d (to_change page) held.Here)
CommitMoves number d (at.Mark page) after (at.Marked marked) = (marked ≡ page) × Marks d after page number mark.Done
CommitMoves number d _ after _ = ⊥

-- What it comes to at the dirty pages: the next of them in their order is to be written.
pub record WritesDraft (d : DeskState) (asked : Ask) : Type 0 where
  pub page : ℕ
  pub least : IsLeastDirty d.cache (Some page)
  pub is_write : asked ≡ write_of page

abbrev pub DraftsAnswer : DeskState → BodyStep → Type 0
DraftsAnswer d (step.Must asked) = WritesDraft d asked
DraftsAnswer d _ = ⊥

-- At the header: that is missed, stands elsewhere, or names no page for the number.
abbrev pub HeaderAnswers : DeskState → ℕ → DeskState → BodyStep → Type 0
HeaderAnswers d number after (step.Miss need) = LooksAtHeader d (held.Miss need) × (after ≡ d)
HeaderAnswers d number after (step.Damaged page rule) =
    LooksAtHeader d (held.Damaged page rule) × (after ≡ after_looking d (reading 0) (held.Damaged page rule))
HeaderAnswers d number after step.Refused = FindsTip d number after None
HeaderAnswers d number after _ = ⊥

-- At the page of the number: that is missed, or stands elsewhere.
abbrev pub TipAnswers : DeskState → ℕ → ℕ → DeskState → BodyStep → Type 0
TipAnswers d page number after (step.Miss need) = HoldsTip d page (sequence_of d number) (held.Miss need) × (after ≡ d)
TipAnswers d page number after (step.Damaged damaged rule) =
    HoldsTip d page (sequence_of d number) (held.Damaged damaged rule) × (after ≡ after_hold d (to_change page) (held.Damaged damaged rule))
TipAnswers d page number after _ = ⊥

-- At the mark: another write comes first, or the mark may not be made.
abbrev pub MarkAnswers : DeskState → ℕ → ℕ → DeskState → BodyStep → Type 0
MarkAnswers d page number after (step.Must asked) = Marks d after page number (mark.Must asked)
MarkAnswers d page number after step.Refused = Marks d after page number mark.Refused
MarkAnswers d page number after _ = ⊥

-- The page with the mark is to be written.
pub record WritesMark (d : DeskState) (page : ℕ) (after : DeskState) (to : CommitStage) (asked : Ask) : Type 0 where
  pub dirty : is_dirty_in d.cache.held page ≡ true
  pub same : after ≡ d
  pub stays : to ≡ at.Marked page
  pub is_write : asked ≡ write_of page

-- It is written: no page is in use any more, and the lock of the number is given up.
pub record Lowers (d : DeskState) (page number : ℕ) (after : DeskState) (to : CommitStage) (asked : Ask) : Type 0 where
  pub clean : is_dirty_in d.cache.held page ≡ false
  pub unpins : UnpinsAll d after
  pub goes : to ≡ at.Lowered
  pub is_lowering : asked ≡ lowering number

abbrev pub MarkedAnswers : DeskState → ℕ → ℕ → DeskState → CommitStage → BodyStep → Type 0
MarkedAnswers d page number after to (step.Must asked) = WritesMark d page after to asked ⊎ Lowers d page number after to asked
MarkedAnswers d page number after to _ = ⊥

-- Where the lock is given up, the transaction is over.
abbrev pub LoweredAnswers : DeskState → DeskState → BodyStep → Type 0
LoweredAnswers d after step.Done = after ≡ record d { own = None }
LoweredAnswers d after _ = ⊥

-- What a commit comes to where it stands. It stays there, but for the lowering, which is asked once.
abbrev pub CommitAnswers : ℕ → DeskState → CommitStage → DeskState → CommitStage → BodyStep → Type 0
CommitAnswers number d at.Drafts after to answer = DraftsAnswer d answer × (after ≡ d) × (to ≡ at.Drafts)
CommitAnswers number d at.Header after to answer = HeaderAnswers d number after answer × (to ≡ at.Header)
CommitAnswers number d (at.Tip page) after to answer = TipAnswers d page number after answer × (to ≡ at.Tip page)
CommitAnswers number d (at.Mark page) after to answer = MarkAnswers d page number after answer × (to ≡ at.Mark page)
CommitAnswers number d (at.Marked page) after to answer = MarkedAnswers d page number after to answer
CommitAnswers number d at.Lowered after to answer = LoweredAnswers d after answer × (to ≡ at.Lowered)

abbrev pub CommitComesTo : ℕ → DeskState → CommitStage → DeskState → CommitStage → BodyStep → Type 0
CommitComesTo number before from after to answer = ComesTo (CommitMoves number) (CommitAnswers number) before from after to answer

-- Where there is no memory, nothing is marked.
abbrev pub CommitWants : DeskState → CommitStage → DeskState → CommitStage → Type 0
CommitWants d (at.Mark page) after to = (after ≡ d) × (to ≡ at.Mark page)
CommitWants d _ after to = ⊥

abbrev pub CommitStops : ℕ → DeskState → CommitStage → DeskState → CommitStage → Type 0
CommitStops number before from after to = Stops (CommitMoves number) CommitWants before from after to

-- Where the lock is given up, the transaction is over, and nothing else is done; else what is done is a run of the desk's calls.
abbrev pub GoesOrEnds : CommitStage → DeskState → DeskState → Type 0
GoesOrEnds at.Lowered before after = after ≡ record before { own = None }
GoesOrEnds _ before after = GoesOn before after

-- At its end no transaction is open.
abbrev pub EndsWhole : DeskState → BodyStep → Type 0
EndsWhole d step.Done = d.own ≡ None
EndsWhole d _ = Unit {0}
