-- The guards: when each kind of event may happen. Each guard says what has to stand before the event of an owner.
use Rattle.std.specs.Prelude.{◌≡◌, ◌≢◌, ◌⊎◌, ◌≤◌, ◌<◌, ℕ, suc, Bool, true, false, length, Option, Some, None, is_some}
use Rattle.fbc_kinds.specs.declared.edits.Edit.{Edit}
use Rattle.fbc_kinds.specs.declared.edits.Edit.TheVariants.{Format}
use Rattle.fbc_kinds.specs.declared.pages.State.TheVariants.{Active}
use Rattle.fbc_kinds.specs.declared.snapshots.Transaction.{Transaction}
use Rattle.fbc_kinds.specs.Chain.{state_of}
use Rattle.fbc_kinds.specs.Edits.{IsEdit}
use Rattle.fbc_kinds.specs.View.{View, next_of, tip_of}
use Rattle.fbc_levels.specs.declared.levels.Level.{Level}
use Rattle.fbc_levels.specs.declared.levels.Level.TheVariants.{Ex, Pr}
use Rattle.fbc_levels.specs.declared.resources.Request.{Request}
use Rattle.fbc_levels.specs.declared.resources.Resource.{Resource}
use Rattle.fbc_levels.specs.declared.resources.Series.{Series}
use Rattle.fbc_levels.specs.declared.resources.Series.TheVariants as series
use Rattle.fbc_levels.specs.Levels.{is_compatible, join}
use Rattle.fbc_levels.specs.LockState.{dead_of, holder_of, request_of, wait_of}
use Rattle.fbc_lock_table.specs.declared.answers.Asked.TheVariants.{Dead, Queued}
use Rattle.fbc_lock_table.specs.Answers.{answer_to_ask, lacks_room}
use Rattle.fbc_lock_table.specs.Effects.{after_ask}
use Rattle.fbc_owner_queues.specs.Circles.{circle_from}
use Rattle.fbc_world.specs.declared.asks.Ask.{Ask}
use Rattle.fbc_world.specs.declared.asks.Ask.TheVariants as ask
use Rattle.fbc_world.specs.declared.asks.Cause.{Cause}
use Rattle.fbc_world.specs.declared.events.Act.{Act}
use Rattle.fbc_world.specs.declared.events.Act.TheVariants as act
use Rattle.fbc_world.specs.declared.events.LocalEvent.TheVariants as local
use Rattle.fbc_world.specs.Holdings.{holdings_of}
use Rattle.fbc_levels.specs.Resources.{page_resource}
use Rattle.fbc_world.specs.Locks.{waiting_of}
use Rattle.fbc_world.specs.World.{is_begin, page_after}
use Rattle.fbc_legal.specs.Causes.{MeetsCause, MeetsLowering}
use Rattle.fbc_legal.specs.Leans.{LeansOn}
use Rattle.fbc_legal.specs.Lives.{entered, living, name_of}
use Rattle.fbc_legal.specs.Marks.{IsUnwritten}
use Rattle.fbc_legal.specs.Naming.{IsNamedWhereEdited}
use Rattle.fbc_legal.specs.Ranks.{WaitsUpward}
use Rattle.fbc_legal.specs.Rows.{HasOpen, IsEditOfRow}
use Rattle.fbc_legal.specs.Scene.{Scene, HasDraft, HasExclusive, IsBefore, newest_at, number_resource}

-- The owner waits for nothing.
abbrev pub IsFreeToAct : Scene → ℕ → Type 0
IsFreeToAct at owner = wait_of at.world.locks owner ≡ None

-- The owner has no request for the resource.
abbrev pub HasNoRequest : Scene → ℕ → Resource → Type 0
HasNoRequest at owner resource = request_of at.world.locks owner resource ≡ None

-- Opened: nobody is alive. It has no actor, and is recorded with 0.
pub record GuardOfOpened (at : Scene) (owner : ℕ) : Type 0 where
  pub nobody : owner ≡ 0
  pub none_alive : (other : ℕ) → at.world.is_alive other ≡ false

-- Enter: the owner is the next one of all, and at most the 65,536th; fewer than eight are alive; the number of its name
-- is one to eight, and no living owner has it.
pub record GuardOfEnter (at : Scene) (owner name : ℕ) : Type 0 where
  pub next : owner ≡ suc (entered at.past)
  pub few : owner ≤ 65536
  pub room : length (living at.past) < 8
  pub name_from : 1 ≤ name
  pub name_to : name ≤ 8
  pub fresh : (other : ℕ) → at.world.is_alive other ≡ true → name_of at.past other ≢ name

-- Leave: the owner has no request, no draft, no pin and no open transaction.
pub record GuardOfLeave (at : Scene) (owner : ℕ) : Type 0 where
  pub requests : (resource : Resource) → HasNoRequest at owner resource
  pub drafts : (page : ℕ) → ¬ HasDraft at owner page
  pub pins : (page : ℕ) → at.world.is_pinned owner page ≡ false
  pub settled : at.world.transaction owner ≡ None

-- The data word of a begin: the least number below it whose state is active, or the number itself where there is none.
pub record IsLeastActive (view : View) (number word : ℕ) : Type 0 where
  pub from_one : 1 ≤ word
  pub to : word ≤ number
  pub active : (word ≡ number) ⊎ (state_of view word ≡ Active)
  pub least : (other : ℕ) → 1 ≤ other → other < word → ¬ (state_of view other ≡ Active)

-- A number is begun: it is the next one of the newest header; the owner has no open transaction, and no other number in
-- EX; it has the header pinned under EX, and every transaction inventory page that the header names.
pub record MayBegin (at : Scene) (owner number word : ℕ) : Type 0 where
  pub next : next_of (newest_at at) ≡ number
  pub none_open : at.world.transaction owner ≡ None
  pub one_number : (other : ℕ) → at.world.granted owner (number_resource other) ≡ Ex → other ≡ number
  pub header : at.world.is_pinned owner 0 ≡ true
  pub exclusive : HasExclusive at owner 0
  pub tips : (sequence page : ℕ) → tip_of (newest_at at) sequence ≡ Some page → at.world.is_pinned owner page ≡ true
  pub word_is : IsLeastActive (newest_at at) number word

-- Ask of a page: the owner has no request for it, and fewer page requests than room for pages.
pub record GuardOfPageAsk (at : Scene) (owner page : ℕ) : Type 0 where
  pub fresh : HasNoRequest at owner (page_resource page)
  pub room : (holdings_of at.world owner).count < (holdings_of at.world owner).buffers

-- Ask of another's number: the file says that it was begun; the owner has no request for it, and all its requests for
-- numbers are its own, in EX.
pub record GuardOfNumberAsk (at : Scene) (owner number : ℕ) : Type 0 where
  pub from_one : 1 ≤ number
  pub begun : number < next_of at.world.kept
  pub fresh : HasNoRequest at owner (number_resource number)
  pub alone : (other : ℕ) (r : Request) → request_of at.world.locks owner (number_resource other) ≡ Some r → r.granted ≡ Ex

-- By what is asked: a page, a number, the owner's own number, a relation.
abbrev pub GuardOfSeries : Scene → ℕ → Series → ℕ → Level → ℕ → Type 0
GuardOfSeries at owner series.Page key level word = GuardOfPageAsk at owner key
GuardOfSeries at owner series.Transaction key Ex word = MayBegin at owner key word
GuardOfSeries at owner series.Transaction key level word = GuardOfNumberAsk at owner key
GuardOfSeries at owner series.Relation key level word = Unit {0}

-- Ask: the owner waits for nothing; where it has to wait now, it waits upward. No dead owner is in its way: that one would
-- be reaped first.
pub record GuardOfAsk (at : Scene) (owner : ℕ) (resource : Resource) (level : Level) (wait : Bool) (word : ℕ) : Type 0 where
  pub free : IsFreeToAct at owner
  pub asked : GuardOfSeries at owner resource.series resource.key level word
  pub upward : answer_to_ask at.world.locks owner resource level wait ≡ Queued
      → circle_from (after_ask at.world.locks owner resource level word Queued) owner ≡ None
      → WaitsUpward at owner resource
  pub no_dead : (dead : ℕ) → ¬ (answer_to_ask at.world.locks owner resource level wait ≡ Dead dead)

-- The data word of a request.
abbrev pub word_of : Option Request → ℕ
word_of None = 0
word_of (Some r) = r.word

-- A grant that begins a number asks what its ask did.
abbrev pub BeginsWell : Scene → ℕ → Resource → Level → Type 0
BeginsWell at owner resource level =
    is_begin resource level ≡ true → MayBegin at owner resource.key (word_of (request_of at.world.locks owner resource))

-- Grant: the owner waits for the level, and what the others are granted goes beside it.
pub record GuardOfGrant (at : Scene) (owner : ℕ) (resource : Resource) (level : Level) : Type 0 where
  pub wanted : waiting_of at.world.locks owner resource ≡ Some level
  pub beside : (other : ℕ) → other ≢ owner → is_compatible level (at.world.granted other resource) ≡ true
  pub begins : BeginsWell at owner resource level

-- The owner may use the page: it has it in PR or EX.
abbrev pub MayUse : Scene → ℕ → ℕ → Type 0
MayUse at owner page = ((holdings_of at.world owner).level page ≡ Pr) ⊎ ((holdings_of at.world owner).level page ≡ Ex)

-- Read: the owner may use the page, and has no copy of it.
pub record GuardOfRead (at : Scene) (owner page : ℕ) : Type 0 where
  pub held : MayUse at owner page
  pub none : (holdings_of at.world owner).copy page ≡ None

-- Pin: the owner may use the page, and waits for nothing.
pub record GuardOfPin (at : Scene) (owner page : ℕ) : Type 0 where
  pub held : MayUse at owner page
  pub free : IsFreeToAct at owner

-- Unpin of the header: the newest next number is greater than the owner's open number, if it has one.
abbrev pub GuardOfUnpin : Scene → ℕ → ℕ → Type 0
GuardOfUnpin at owner page = page ≡ 0 → (t : Transaction) → HasOpen at owner t → t.number < next_of (newest_at at)

-- Before: the draft of the high page is the owner's, it has the low page in EX, and the low page does not stand before the
-- high one, which is another.
pub record GuardOfBefore (at : Scene) (owner high low : ℕ) : Type 0 where
  pub free : IsFreeToAct at owner
  pub apart : high ≢ low
  pub drafted : (holdings_of at.world owner).is_draft high ≡ true
  pub exclusive : (holdings_of at.world owner).level low ≡ Ex
  pub order : ¬ IsBefore at low high

-- A format makes the page that it carries; every other edit wants a copy.
abbrev pub HasBase : Scene → ℕ → ℕ → Edit → Type 0
HasBase at owner page (Format kind number relation sequence) = number ≡ page
HasBase at owner page edit = is_some ((holdings_of at.world owner).copy page) ≡ true

-- Edit: the owner has the page pinned under EX, with a copy; it has no mark of its commit to write; the edit has numbers that bytes hold and fits, it leans
-- on what is shown, the page is named where it has to be, and the edit is one of those that there are.
pub record GuardOfEdit (at : Scene) (owner page : ℕ) (edit : Edit) : Type 0 where
  pub free : IsFreeToAct at owner
  pub unmarked : at.world.marked owner ≡ None
  pub exclusive : (holdings_of at.world owner).level page ≡ Ex
  pub pinned : (holdings_of at.world owner).is_pinned page ≡ true
  pub base : HasBase at owner page edit
  pub numbers : IsEdit edit
  pub fits : is_some (page_after at.shape at.world owner page edit) ≡ true
  pub leans : LeansOn at owner page edit
  pub named : IsNamedWhereEdited at owner page edit
  pub row : IsEditOfRow at owner page edit

-- Write: the draft is the owner's, no page with a draft stands before it, and the write meets its cause.
pub record GuardOfWrite (at : Scene) (owner page : ℕ) (reason : Cause) : Type 0 where
  pub drafted : (holdings_of at.world owner).is_draft page ≡ true
  pub first : (high : ℕ) → is_some (at.world.draft high) ≡ true → ¬ IsBefore at high page
  pub cause : MeetsCause at owner page reason

-- Lower of a page: the owner has neither a draft of it nor a pin on it, no page stands before it, and the lowering meets
-- its reason.
pub record GuardOfPageLowering (at : Scene) (owner page : ℕ) (level : Level) : Type 0 where
  pub clean : (holdings_of at.world owner).is_draft page ≡ false
  pub unpinned : (holdings_of at.world owner).is_pinned page ≡ false
  pub last : (high : ℕ) → ¬ IsBefore at high page
  pub reason : MeetsLowering at owner page level

-- Lower of a number: it is not the owner's open one; where it is the owner's own, no mark of it is still to be written.
pub record GuardOfNumberLowering (at : Scene) (owner number : ℕ) : Type 0 where
  pub over : (t : Transaction) → HasOpen at owner t → t.number ≢ number
  pub written : at.world.granted owner (number_resource number) ≡ Ex → ¬ IsUnwritten at.past owner number

-- Lower of a relation: the owner has no open transaction.
abbrev pub GuardOfRelationLowering : Scene → ℕ → Type 0
GuardOfRelationLowering at owner = at.world.transaction owner ≡ None

abbrev pub GuardOfSeriesLowering : Scene → ℕ → Series → ℕ → Level → Type 0
GuardOfSeriesLowering at owner series.Page key level = GuardOfPageLowering at owner key level
GuardOfSeriesLowering at owner series.Transaction key level = GuardOfNumberLowering at owner key
GuardOfSeriesLowering at owner series.Relation key level = GuardOfRelationLowering at owner

-- Lower: what is left is a part of what was granted.
pub record GuardOfLower (at : Scene) (owner : ℕ) (resource : Resource) (level : Level) : Type 0 where
  pub part : join (at.world.granted owner resource) level ≡ at.world.granted owner resource
  pub by_series : GuardOfSeriesLowering at owner resource.series resource.key level

-- The dead owner is in the way of what the owner waits for.
pub record IsInWayOfWait (at : Scene) (owner dead : ℕ) : Type 0 where
  pub wait : Request
  pub level : Level
  pub holder : Request
  pub waits : wait_of at.world.locks owner ≡ Some wait
  pub wanted : wait.waiting ≡ Some level
  pub in_way : holder_of at.world.locks owner wait.resource level ≡ Some holder
  pub is : holder.owner ≡ dead

-- The dead owner is in the way of what is asked; or there is no room, which comes before a conflict, and it is the least
-- dead owner that has requests.
pub data IsInWayOfAsk (at : Scene) (owner dead : ℕ) (resource : Resource) (level : Level) : Type 0 where
  holds : (holder : Request)
      → lacks_room at.world.locks owner resource ≡ false
      → holder_of at.world.locks owner resource level ≡ Some holder
      → holder.owner ≡ dead
      → IsInWayOfAsk at owner dead resource level
  fills : (least : Request)
      → lacks_room at.world.locks owner resource ≡ true
      → dead_of at.world.locks ≡ Some least
      → least.owner ≡ dead
      → IsInWayOfAsk at owner dead resource level

abbrev pub IsInWay : Scene → ℕ → ℕ → Ask → Type 0
IsInWay at owner dead (ask.Lock resource level wait word) = IsInWayOfAsk at owner dead resource level
IsInWay at owner dead ask.Look = IsInWayOfWait at owner dead
IsInWay at owner dead _ = ⊥

-- Reap: a dead owner is in the way of this ask or look.
pub record GuardOfReap (at : Scene) (owner dead : ℕ) (by : Ask) : Type 0 where
  pub is_dead : at.world.is_alive dead ≡ false
  pub in_way : IsInWay at owner dead by

-- The guard of each act of an owner. A statement's answer, and the moments of a poll, are no matter of the history alone.
abbrev pub Guard : Scene → ℕ → Act → Type 0
Guard at owner (act.Opened locks) = GuardOfOpened at owner
Guard at owner (act.Enter buffers name) = GuardOfEnter at owner name
Guard at owner act.Leave = GuardOfLeave at owner
Guard at owner act.Die = Unit {0}
Guard at owner (act.Ask resource level wait word) = GuardOfAsk at owner resource level wait word
Guard at owner (act.Grant resource level) = GuardOfGrant at owner resource level
Guard at owner act.Look = Unit {0}
Guard at owner act.Withdraw = Unit {0}
Guard at owner (act.Lower resource level) = GuardOfLower at owner resource level
Guard at owner (act.Read page fault) = GuardOfRead at owner page
Guard at owner (act.Write page reason failed) = GuardOfWrite at owner page reason
Guard at owner (act.Reap dead by) = GuardOfReap at owner dead by
Guard at owner (act.Poll above) = Unit {0}
Guard at owner act.Least = Unit {0}
Guard at owner (act.Note reply) = Unit {0}
Guard at owner (act.Local (local.Edit page edit)) = GuardOfEdit at owner page edit
Guard at owner (act.Local (local.Before high low)) = GuardOfBefore at owner high low
Guard at owner (act.Local (local.Pin page)) = GuardOfPin at owner page
Guard at owner (act.Local (local.Unpin page)) = GuardOfUnpin at owner page
