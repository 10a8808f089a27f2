-- What one attachment keeps between its steps.
use Rattle.std.specs.Prelude.{◌≤◌, ℕ, Bool, false, if◌then◌else◌, List, [], Option}
use Rattle.std.specs.Option.{option_map_or}
use Rattle.fbc_kinds.specs.declared.pages.Header.{Header}
use Rattle.fbc_kinds.specs.View.{View, header_in}
use Rattle.fbc_world.specs.declared.events.LocalEvent.{LocalEvent}
use Rattle.fbc_notes.specs.declared.notes.Note.{Note}
use Rattle.fbc_cache.specs.Cache.{CacheState, copy_in, is_dirty_in}
use Rattle.fbc_desk.specs.declared.own.Deed.{Deed}
use Rattle.fbc_desk.specs.declared.own.Own.{Own}

-- The cache; what was done since the last step, the newest last, and whether there was no place for more of it; the transaction
-- inventory pages and the number of page inventory pages as the header last showed them, and how many of the latter are in the file;
-- what was found and what was done; and the open transaction.
pub record DeskState : Type 0 where
  pub cache : CacheState
  pub unsent : List LocalEvent
  pub is_spilled : Bool
  pub tips : List ℕ
  pub counted : ℕ
  pub written : ℕ
  pub notes : List Note
  pub deeds : List Deed
  pub own : Option Own

-- How many local events one step carries.
abbrev pub event_limit : ℕ
event_limit = 64

-- How many deeds have a place.
abbrev pub deed_limit : ℕ
deed_limit = 8

-- The pages that may be used, as a view in which all others are missing.
abbrev pub copies_of : CacheState → View
copies_of c page = copy_in c.held page

-- What the header shows where it may be used, else what was known before: the transaction inventory pages, and how many page
-- inventory pages there are. What a clean header counts is in the file.
abbrev pub tips_known : Option Header → List ℕ → List ℕ
tips_known shown before = option_map_or (λ (h : Header). h.tips) shown before

abbrev pub count_known : Option Header → ℕ → ℕ
count_known shown before = option_map_or (λ (h : Header). h.inventories) shown before

-- The desk with another cache, of which it knows what the header shows.
abbrev pub with_cache : DeskState → CacheState → DeskState
with_cache d c = record d {
  cache = c;
  tips = tips_known (header_in (copy_in c.held 0)) d.tips;
  counted = count_known (header_in (copy_in c.held 0)) d.counted;
  written = if is_dirty_in c.held 0 then d.written else count_known (header_in (copy_in c.held 0)) d.written;
}

-- The step was taken: nothing is unsent.
abbrev pub sent : DeskState → DeskState
sent d = record d { unsent = []; is_spilled = false }

-- So many have a place, and no more are there.
pub record HasPlaces (most count capacity : ℕ) : Type 0 where
  pub few : count ≤ most
  pub room : most ≤ capacity
