-- What a cache says of its owner's pages, and what the history says.
use Rattle.std.specs.Prelude.{◌≡◌, ◌≢◌, ◌⊎◌, ℕ, false, true, List, Option, Some, None, length}
use Rattle.std.specs.List.{list_any}
use Rattle.std.specs.Option.{option_map}
use Rattle.fbc_kinds.specs.declared.edits.Edit.{Edit}
use Rattle.fbc_kinds.specs.declared.edits.Edit.TheVariants.{Format}
use Rattle.fbc_kinds.specs.declared.shapes.Shape.{Shape}
use Rattle.fbc_levels.specs.declared.levels.Level.{Level}
use Rattle.fbc_levels.specs.declared.levels.Level.TheVariants.{Free}
use Rattle.fbc_levels.specs.declared.resources.Request.{Request}
use Rattle.fbc_levels.specs.LockState.{request_of, wait_of}
use Rattle.fbc_lock_table.specs.declared.answers.Asked.{Asked}
use Rattle.fbc_lock_table.specs.declared.answers.Asked.TheVariants as asked
use Rattle.fbc_lock_table.specs.Answers.{answer_to_ask}
use Rattle.fbc_precedence.specs.Precedence.{is_pair}
use Rattle.fbc_world.specs.Holdings.{holdings_of, is_draft_of}
use Rattle.fbc_levels.specs.Resources.{page_resource}
use Rattle.fbc_world.specs.declared.events.Act.{Act}
use Rattle.fbc_world.specs.declared.events.Act.TheVariants as act
use Rattle.fbc_world.specs.World.{World}
use Rattle.fbc_buffers.specs.declared.buffers.Buffer.{Buffer}
use Rattle.fbc_buffers.specs.Holding.{buffer_of}
use Rattle.fbc_cache.specs.Cache.{CacheState, copy_in, is_dirty_in, is_pinned_in}
use Rattle.fbc_cache.specs.Wants.{is_page_series}

-- What an attachment knows of one lock: the level that it was granted, as far as it learnt, and the one that it waits for.
pub record KnownLock : Type 0 where
  pub level : Level
  pub wanted : Option Level

-- The level that is granted and the one that is waited for are those that are known.
abbrev pub IsSameLock : Level → Request → KnownLock → Type 0
IsSameLock level r known = (level ≡ known.level) × (r.waiting ≡ known.wanted)

-- What is waited for is granted already, by the step of another owner: a look will tell.
abbrev pub IsLateGrant : Level → Request → KnownLock → Type 0
IsLateGrant level r known = (known.wanted ≡ Some level) × (r.waiting ≡ None)

-- There is a request exactly where something is known of the lock.
abbrev pub ShowsLock : Level → Option Request → Option KnownLock → Type 0
ShowsLock level (Some r) (Some known) = IsSameLock level r known ⊎ IsLateGrant level r known
ShowsLock level None None = level ≡ Free
ShowsLock level _ _ = ⊥

-- The lock of a page is what its buffer knows.
abbrev pub lock_known : Buffer → KnownLock
lock_known b = record { level = b.level; wanted = b.wanted }

abbrev pub ShowsBuffer : Level → Option Request → Option Buffer → Type 0
ShowsBuffer level asked found = ShowsLock level asked (option_map lock_known found)

-- What is said of one page: its lock, its copy, whether its draft is the owner's, and whether it is pinned.
pub record FitsPage (w : World) (owner : ℕ) (held : List Buffer) (page : ℕ) : Type 0 where
  pub lock : ShowsBuffer (w.granted owner (page_resource page)) (request_of w.locks owner (page_resource page)) (buffer_of held page)
  pub copy : w.copy owner page ≡ copy_in held page
  pub draft : is_draft_of owner (w.draft page) ≡ is_dirty_in held page
  pub pin : w.is_pinned owner page ≡ is_pinned_in held page

-- The cache fits what stands after a history: of each page both say the same, and of the pairs, of how many pages are asked for, and for
-- how many there is room.
pub record Fits (shape : Shape) (w : World) (owner : ℕ) (c : CacheState) : Type 0 where
  pub shape_is : c.shape ≡ shape
  pub room : c.room ≡ w.buffers owner
  pub count : length c.held ≡ (holdings_of w owner).count
  pub pages : (page : ℕ) → FitsPage w owner c.held page
  pub pairs : (high low : ℕ) → w.has_pair owner high low ≡ list_any (is_pair high low) c.pairs

-- The owner waits for no number and for no relation.
abbrev pub WaitsForPages : World → ℕ → Type 0
WaitsForPages w owner = (r : Request) → wait_of w.locks owner ≡ Some r → is_page_series r.resource ≡ true

-- An ask that is refused: another is in the way, or there is no room.
abbrev pub IsRefused : Asked → Type 0
IsRefused (asked.Busy holder held) = Unit {0}
IsRefused (asked.Room used) = Unit {0}
IsRefused _ = ⊥

-- An act of the owner that is of no page, or changes nothing of one. Who asks for no page waits for nothing: where the ask closes a
-- circle, all that its owner waits for is withdrawn.
abbrev pub LeavesPages : World → ℕ → Act → Type 0
LeavesPages w owner (act.Ask resource level wait word) =
    ((is_page_series resource ≡ false) × (wait_of w.locks owner ≡ None)) ⊎ IsRefused (answer_to_ask w.locks owner resource level wait)
LeavesPages w owner (act.Grant resource level) = is_page_series resource ≡ false
LeavesPages w owner (act.Lower resource level) = is_page_series resource ≡ false
LeavesPages w owner (act.Reap dead by) = dead ≢ owner
LeavesPages w owner act.Withdraw = wait_of w.locks owner ≡ None
LeavesPages w owner act.Look = Unit {0}
LeavesPages w owner (act.Poll above) = Unit {0}
LeavesPages w owner act.Least = Unit {0}
LeavesPages w owner (act.Note reply) = Unit {0}
LeavesPages w owner _ = ⊥

-- An edit of the page that is a format carries the page's number.
abbrev pub IsBased : ℕ → Edit → Type 0
IsBased page (Format kind number relation sequence) = number ≡ page
IsBased page _ = Unit {0}
