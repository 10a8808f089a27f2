-- The pages that one attachment holds or waits for, in the order of their last use.
use Rattle.std.specs.Prelude.{◌≡◌, ◌≤◌, ℕ, Bool, false, not, ◌==◌, if◌then◌else◌, List, [], ◌∷◌, ◌++◌, Option, Some, None, length, unwrap_or, is_some}
use Rattle.std.specs.List.{filter, find}
use Rattle.std.specs.Option.{option_map}
use Rattle.fbc_kinds.specs.declared.pages.Page.{Page}
use Rattle.fbc_levels.specs.declared.levels.Level.{Level}
use Rattle.fbc_levels.specs.declared.levels.Level.TheVariants.{Free}
use Rattle.fbc_buffers.specs.declared.buffers.Buffer.{Buffer}
use Rattle.fbc_buffers.specs.declared.changes.Change.{Change}
use Rattle.fbc_buffers.specs.declared.changes.Change.TheVariants as change

-- How many buffers there are, and those in use, the one whose last use is longest ago first.
pub record Holding : Type 0 where
  pub room : ℕ
  pub held : List Buffer

-- Whether it is the buffer of this page.
abbrev pub is_of : ℕ → Buffer → Bool
is_of page b = b.page == page

-- The buffer of a page.
abbrev pub buffer_of : List Buffer → ℕ → Option Buffer
buffer_of held page = find (is_of page) held

-- Whether the page is waited for.
abbrev pub is_waiting : Buffer → Bool
is_waiting b = is_some b.wanted

-- Whether the page is not in use, and whether it is.
abbrev pub is_loose : Buffer → Bool
is_loose b = not b.is_pinned

abbrev pub is_pinned : Buffer → Bool
is_pinned b = b.is_pinned

-- There is a buffer, and it is not in use.
abbrev pub GivesWay : Option Buffer → Type 0
GivesWay None = ⊥
GivesWay (Some b) = b.is_pinned ≡ false

-- The page of the buffer whose last use is longest ago, of those that are not pinned.
abbrev pub victim_of : List Buffer → Option ℕ
victim_of held = option_map (λ (b : Buffer). b.page) (find is_loose held)

-- A page that is granted, and one that is waited for.
abbrev pub granted_buffer : ℕ → Level → Buffer
granted_buffer page level =
    record { page = page; level = level; wanted = None; copy = None; is_dirty = false; is_pinned = false; is_blocking = false }

abbrev pub waiting_buffer : ℕ → Level → Buffer
waiting_buffer page level =
    record { page = page; level = Free; wanted = Some level; copy = None; is_dirty = false; is_pinned = false; is_blocking = false }

-- The buffers without that of the page.
abbrev pub without : ℕ → List Buffer → List Buffer
without page held = filter (λ (b : Buffer). not (b.page == page)) held

-- The page is used: its buffer is the last.
abbrev pub touched : ℕ → List Buffer → List Buffer
touched page held = without page held ++ filter (is_of page) held

-- The buffer of the page with another level, copy or mark; every other buffer stays.
abbrev pub with_level : ℕ → Level → Buffer → Buffer
with_level page level b = if b.page == page then record b { level = level } else b

abbrev pub with_copy : ℕ → Option Page → Buffer → Buffer
with_copy page copy b = if b.page == page then record b { copy = copy } else b

abbrev pub with_dirt : ℕ → Bool → Buffer → Buffer
with_dirt page dirty b = if b.page == page then record b { is_dirty = dirty } else b

abbrev pub with_pin : ℕ → Bool → Buffer → Buffer
with_pin page pinned b = if b.page == page then record b { is_pinned = pinned } else b

abbrev pub with_blocking : ℕ → Bool → Buffer → Buffer
with_blocking page blocking b = if b.page == page then record b { is_blocking = blocking } else b

-- The same for any of these changes.
abbrev pub changed : Change → Buffer → Buffer
changed (change.Level level) b = record b { level = level }
changed (change.Copy copy) b = record b { copy = copy }
changed (change.Dirty dirty) b = record b { is_dirty = dirty }
changed (change.Pinned pinned) b = record b { is_pinned = pinned }
changed (change.Blocking blocking) b = record b { is_blocking = blocking }

abbrev pub with_change : ℕ → Change → Buffer → Buffer
with_change page c b = if b.page == page then changed c b else b

-- A change that leaves each buffer the buffer of its page.
abbrev pub KeepsPage : (Buffer → Buffer) → Type 0
KeepsPage f = (b : Buffer) → (f b).page ≡ b.page

-- What is waited for is granted.
abbrev pub granted_wait : Buffer → Buffer
granted_wait b = record b { level = unwrap_or b.wanted b.level; wanted = None }

-- No two of them are of one page.
abbrev pub AreApart : List Buffer → Type 0
AreApart [] = Unit {0}
AreApart (b ∷ bs) = (buffer_of bs b.page ≡ None) × AreApart bs

-- There are no more than there is room for, and one for each page.
pub record IsHolding (h : Holding) : Type 0 where
  pub few : length h.held ≤ h.room
  pub once : AreApart h.held
