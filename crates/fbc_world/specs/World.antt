-- What stands after a history, as one record, with one step for each kind of event.
use Rattle.std.specs.Prelude.{◌≡◌, ℕ, Bool, true, false, ◌==◌, ◌&&◌, if◌then◌else◌, [], ◌∷◌, Option, Some, None, is_some}
use Rattle.std.specs.Option.{option_map_or}
use Rattle.fbc_kinds.specs.declared.edits.Edit.{Edit}
use Rattle.fbc_kinds.specs.declared.edits.Edit.TheVariants.{Mark}
use Rattle.fbc_kinds.specs.declared.pages.Page.{Page}
use Rattle.fbc_kinds.specs.declared.pages.State.TheVariants.{Committed, Dead}
use Rattle.fbc_kinds.specs.declared.shapes.Shape.{Shape}
use Rattle.fbc_kinds.specs.declared.snapshots.Transaction.{Transaction}
use Rattle.fbc_kinds.specs.Machine.{begun}
use Rattle.fbc_kinds.specs.Meaning.{meaning_of}
use Rattle.fbc_kinds.specs.View.{View}
use Rattle.fbc_levels.specs.declared.levels.Level.{Level}
use Rattle.fbc_levels.specs.declared.levels.Level.TheVariants.{Ex, Free}
use Rattle.fbc_levels.specs.declared.resources.Resource.{Resource}
use Rattle.fbc_levels.specs.declared.resources.Series.TheVariants as series
use Rattle.fbc_levels.specs.Levels.{is_exclusive, is_free}
use Rattle.fbc_levels.specs.LockState.{LockState}
use Rattle.fbc_levels.specs.Resources.{is_same_resource, is_same_series}
use Rattle.fbc_world.specs.declared.drafts.Draft.{Draft}
use Rattle.fbc_world.specs.declared.events.Act.{Act}
use Rattle.fbc_world.specs.declared.events.Act.TheVariants.{Die, Enter, Grant, Leave, Local, Lower, Opened, Read, Reap, Write}
use Rattle.fbc_world.specs.declared.events.LocalEvent.{LocalEvent}
use Rattle.fbc_world.specs.declared.events.LocalEvent.TheVariants as local
use Rattle.fbc_world.specs.History.{History, Moment, Recording, recorded}
use Rattle.fbc_world.specs.Locks.{locks_step}
use Rattle.fbc_world.specs.PageCell.{blank_file, drafted, edited, is_page, newest_in, page_for, recopied, without}

-- What stands after a history over a file.
pub record World : Type 0 where
  -- What the file keeps of each page: None where its bytes spell none.
  pub kept : View
  -- The draft of each page, if some owner has one.
  pub draft : ℕ → Option Draft
  -- What each owner may use of each page.
  pub copy : ℕ → ℕ → Option Page
  -- The level that each owner is granted on each resource.
  pub granted : ℕ → Resource → Level
  -- All requests, in the order of asking.
  pub locks : LockState
  -- Whether each owner has each page pinned.
  pub is_pinned : ℕ → ℕ → Bool
  -- Whether each owner's pair of two pages stands; the first is to be written before the second.
  pub has_pair : ℕ → ℕ → ℕ → Bool
  -- Each owner's open transaction, with its number and its snapshot.
  pub transaction : ℕ → Option Transaction
  -- The page in whose draft each owner has marked its open transaction as committed.
  pub marked : ℕ → Option ℕ
  -- Who is alive.
  pub is_alive : ℕ → Bool
  -- For how many pages each owner has room.
  pub buffers : ℕ → ℕ

-- Before the first event there is the file alone.
abbrev pub start : View → World
start file = record {
  kept = file;
  draft = λ page. None;
  copy = λ owner page. None;
  granted = λ owner resource. Free;
  locks = record { capacity = 0; requests = [] };
  is_pinned = λ owner page. false;
  has_pair = λ owner high low. false;
  transaction = λ owner. None;
  marked = λ owner. None;
  is_alive = λ owner. false;
  buffers = λ owner. 0;
}

-- The newest content of each page: its draft's where it has one, and otherwise what is kept.
abbrev pub newest_of : World → View
newest_of w page = newest_in (w.kept page) (w.draft page)

-- Some owner's pair of the two pages stands.
abbrev pub IsPairIn : World → ℕ → ℕ → Type 0
IsPairIn w high low = (owner : ℕ) × (w.has_pair owner high low ≡ true)

-- The number is the owner's own: it holds it in EX.
abbrev pub IsOwnNumber : World → ℕ → ℕ → Type 0
IsOwnNumber w owner number = w.granted owner (record { series = series.Transaction; key = number }) ≡ Ex

-- The file is opened: nobody is granted anything.
abbrev pub opened : World → World
opened w = record w { granted = λ owner resource. Free }

-- The owner comes, with room for that many pages.
abbrev pub come : World → ℕ → ℕ → World
come w owner buffers = record w {
  is_alive = λ other. if other == owner then true else w.is_alive other;
  buffers = λ other. if other == owner then buffers else w.buffers other;
}

-- The owner goes.
abbrev pub gone : World → ℕ → World
gone w owner = record w { is_alive = λ other. if other == owner then false else w.is_alive other }

-- The owner dies. What it was granted stays; all else that was its own is lost.
abbrev pub dead : World → ℕ → World
dead w owner = record w {
  draft = λ page. without owner (w.draft page);
  copy = λ other page. if other == owner then None else w.copy other page;
  is_pinned = λ other page. if other == owner then false else w.is_pinned other page;
  has_pair = λ other high low. if other == owner then false else w.has_pair other high low;
  transaction = λ other. if other == owner then None else w.transaction other;
  marked = λ other. if other == owner then None else w.marked other;
  is_alive = λ other. if other == owner then false else w.is_alive other;
}

-- A grant of a transaction number in EX begins the transaction of that number.
abbrev pub is_begin : Resource → Level → Bool
is_begin resource level = is_same_series resource.series series.Transaction && is_exclusive level

-- The owner is granted the level. A transaction that begins holds its own number and those that are committed in the
-- newest pages.
abbrev pub granted_level : World → ℕ → Resource → Level → World
granted_level w owner resource level = record w {
  granted = λ other r. if (other == owner) && is_same_resource resource r then level else w.granted other r;
  transaction = λ other. if (other == owner) && is_begin resource level then Some (begun (meaning_of (newest_of w)) owner resource.key) else w.transaction other;
}

-- The owner's level is lowered: with the lock on a page its copy ends.
abbrev pub lowered_level : World → ℕ → Resource → Level → World
lowered_level w owner resource level = record w {
  granted = λ other r. if (other == owner) && is_same_resource resource r then level else w.granted other r;
  copy = λ other page. if (other == owner) && is_page page resource && is_free level then None else w.copy other page;
}

-- What a dead owner was granted is taken away.
abbrev pub reaped : World → ℕ → World
reaped w owner = record w { granted = λ other r. if other == owner then Free else w.granted other r }

-- The owner reads the page into its copy. Where the read fails, or the bytes spell no page, there is none.
abbrev pub read : World → ℕ → ℕ → Bool → World
read w owner page fault = record w {
  copy = λ other p. if (other == owner) && (p == page) then (if fault then None else w.kept p) else w.copy other p;
}

-- Whether this is the page with the mark.
abbrev pub is_mark_on : ℕ → Option ℕ → Bool
is_mark_on page mark = option_map_or (λ number. number == page) mark false

-- The owner's draft of the page is kept, and every pair with that high page ends. With its mark the owner's transaction
-- is committed, and is open no more.
abbrev pub written : World → ℕ → ℕ → World
written w owner page = record w {
  kept = λ p. if p == page then page_for owner (w.kept p) (w.draft p) else w.kept p;
  draft = λ p. if p == page then without owner (w.draft p) else w.draft p;
  has_pair = λ other high low. if high == page then false else w.has_pair other high low;
  transaction = λ other. if (other == owner) && is_mark_on page (w.marked other) then None else w.transaction other;
  marked = λ other. if (other == owner) && is_mark_on page (w.marked other) then None else w.marked other;
}

-- Whether the number is that of the open transaction.
abbrev pub is_number_of : ℕ → Option Transaction → Bool
is_number_of number transaction = option_map_or (λ (t : Transaction). t.number == number) transaction false

-- An edit that marks the open transaction's own number dead ends it.
abbrev pub transaction_after_edit : Edit → Option Transaction → Option Transaction
transaction_after_edit (Mark number Dead) transaction = if is_number_of number transaction then None else transaction
transaction_after_edit _ transaction = transaction

-- An edit that marks the open transaction's own number as committed leaves its mark in the draft of this page; any other
-- mark of that number ends this.
abbrev pub mark_after_edit : ℕ → Edit → Option Transaction → Option ℕ → Option ℕ
mark_after_edit page (Mark number Committed) transaction mark = if is_number_of number transaction then Some page else mark
mark_after_edit page (Mark number _) transaction mark = if is_number_of number transaction then None else mark
mark_after_edit page _ transaction mark = mark

-- The page after the owner's edit, if that fits the page as the owner has it.
abbrev pub page_after : Shape → World → ℕ → ℕ → Edit → Option Page
page_after shape w owner page edit = edited shape edit (page_for owner (w.kept page) (w.draft page))

-- The owner edits the page in its draft and in its copy, if the edit fits. Else nothing changes.
abbrev pub with_edit : World → ℕ → ℕ → Edit → Option Page → World
with_edit w owner page edit after = record w {
  draft = λ p. if p == page then drafted owner (w.draft p) after else w.draft p;
  copy = λ other p. if (other == owner) && (p == page) then recopied (w.copy other p) after else w.copy other p;
  transaction = λ other. if (other == owner) && is_some after then transaction_after_edit edit (w.transaction other) else w.transaction other;
  marked = λ other. if (other == owner) && is_some after then mark_after_edit page edit (w.transaction other) (w.marked other) else w.marked other;
}

-- The owner records that the high page is to be written before the low one.
abbrev pub paired : World → ℕ → ℕ → ℕ → World
paired w owner high low = record w {
  has_pair = λ other h l. if (other == owner) && (h == high) && (l == low) then true else w.has_pair other h l;
}

-- The owner pins the page, or no longer does.
abbrev pub pinned : World → ℕ → ℕ → Bool → World
pinned w owner page pins = record w { is_pinned = λ other p. if (other == owner) && (p == page) then pins else w.is_pinned other p }

-- After what an owner does in its own cache.
abbrev pub acted_locally : Shape → World → ℕ → LocalEvent → World
acted_locally shape w owner (local.Edit page edit) = with_edit w owner page edit (page_after shape w owner page edit)
acted_locally shape w owner (local.Before high low) = paired w owner high low
acted_locally shape w owner (local.Pin page) = pinned w owner page true
acted_locally shape w owner (local.Unpin page) = pinned w owner page false

-- After an act of the owner, the requests apart. A failed write is its death, and may have reached the file before.
abbrev pub changed : Shape → World → ℕ → Act → Bool → World
changed shape w owner (Opened locks) landed = opened w
changed shape w owner (Enter buffers name) landed = come w owner buffers
changed shape w owner Leave landed = gone w owner
changed shape w owner Die landed = dead w owner
changed shape w owner (Grant resource level) landed = granted_level w owner resource level
changed shape w owner (Lower resource level) landed = lowered_level w owner resource level
changed shape w owner (Reap other by) landed = reaped w other
changed shape w owner (Read page fault) landed = read w owner page fault
changed shape w owner (Write page cause false) landed = written w owner page
changed shape w owner (Write page cause true) true = dead (written w owner page) owner
changed shape w owner (Write page cause true) false = dead w owner
changed shape w owner (Local event) landed = acted_locally shape w owner event
changed shape w owner _ landed = w

-- After an act of the owner.
abbrev pub acted : Shape → World → ℕ → Act → Bool → World
acted shape w owner act landed = record (changed shape w owner act landed) { locks = locks_step w.locks owner act }

-- After a moment.
abbrev pub after : Shape → World → Moment → World
after shape w moment = acted shape w moment.event.actor moment.event.act moment.landed

-- What stands after a history over a file.
abbrev pub world_of : Shape → View → History → World
world_of shape file [] = start file
world_of shape file (moment ∷ before) = after shape (world_of shape file before) moment

-- What stands after what a journal records, over blank pages.
abbrev pub recorded_world : Recording → World
recorded_world recording = world_of recording.shape blank_file (recorded recording)
