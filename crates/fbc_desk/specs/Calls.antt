-- What each call does to the desk, and what a run of calls between two steps comes to.
use Rattle.std.specs.Prelude.{◌≡◌, ◌<◌, ◌≤◌, ◌+◌, ◌==◌, ◌||◌, ℕ, Bool, true, false, not, if◌then◌else◌, List, [], ◌∷◌, ◌++◌, Option, Some, None, length, map, slice_get}
use Rattle.std.specs.List.{filter, remove}
use Rattle.std.specs.Option.{option_map_or}
use Rattle.fbc_kinds.specs.declared.edges.Edge.{Edge}
use Rattle.fbc_kinds.specs.declared.edits.Edit.{Edit}
use Rattle.fbc_kinds.specs.Edits.{IsEdit}
use Rattle.fbc_world.specs.declared.events.LocalEvent.{LocalEvent}
use Rattle.fbc_world.specs.declared.events.LocalEvent.TheVariants as local
use Rattle.fbc_notes.specs.declared.notes.Note.{Note}
use Rattle.fbc_notes.specs.Notes.{support_of}
use Rattle.fbc_cache.specs.declared.edits.Edited.TheVariants as edited
use Rattle.fbc_cache.specs.Cache.{CacheState, is_granted_in, is_pinned_in}
use Rattle.fbc_cache.specs.Edits.{Edits, MayEdit}
use Rattle.fbc_cache.specs.Least.{IsLeast, is_pinned_past}
use Rattle.fbc_cache.specs.Use as use_of
use Rattle.fbc_desk.specs.declared.edits.Made.{Made}
use Rattle.fbc_desk.specs.declared.edits.Made.TheVariants as made
use Rattle.fbc_desk.specs.declared.own.Deed.{Deed}
use Rattle.fbc_desk.specs.declared.own.Own.{Own}
use Rattle.fbc_desk.specs.Desk.{DeskState, deed_limit, event_limit, with_cache}
use Rattle.fbc_desk.specs.Grounds.{HasGrounds, deeds_after, own_after, support_of_deed}
use Rattle.fbc_desk.specs.Noting.{may_note_now, with_note}

-- One event more, where there is place for it.
abbrev pub with_event : LocalEvent → DeskState → DeskState
with_event event d = if length d.unsent == event_limit then record d { is_spilled = true } else record d { unsent = d.unsent ++ event ∷ [] }

-- A page that is held is in use, and is the last one used.
abbrev pub pinned_anew : ℕ → DeskState → DeskState
pinned_anew page d = if is_pinned_in d.cache.held page then d else with_event (local.Pin page) d

abbrev pub after_pin : DeskState → ℕ → DeskState
after_pin d page = if is_granted_in d.cache.held page then record (pinned_anew page d) { cache = use_of.after_pin d.cache page } else d

-- A page is used without a pin.
abbrev pub after_look : DeskState → ℕ → DeskState
after_look d page = record d { cache = use_of.after_touch d.cache page }

-- A page that is in use is asked for.
abbrev pub after_mark : DeskState → ℕ → DeskState
after_mark d page = record d { cache = use_of.after_mark d.cache page }

-- Whether an event is a pin, an unpin or an edit of the page, and whether it is a pin.
abbrev pub is_event_of : ℕ → LocalEvent → Bool
is_event_of page (local.Edit edited edit) = edited == page
is_event_of page (local.Before high low) = false
is_event_of page (local.Pin pinned) = pinned == page
is_event_of page (local.Unpin unpinned) = unpinned == page

abbrev pub is_pin : LocalEvent → Bool
is_pin (local.Pin pinned) = true
is_pin _ = false

-- The place of the last event of the page, none where there is none.
abbrev pub IsLastOf : ℕ → List LocalEvent → Option ℕ → Type 0
IsLastOf page events (Some place) =
    (option_map_or (is_event_of page) (slice_get events place) false ≡ true)
    × ((later : ℕ) → place < later → option_map_or (is_event_of page) (slice_get events later) false ≡ false)
IsLastOf page events None = (place : ℕ) → option_map_or (is_event_of page) (slice_get events place) false ≡ false

-- The header stays in use until it gives out the number of the open transaction.
abbrev pub may_leave : ℕ → Option Own → Bool
may_leave page own = not (page == 0) || option_map_or (λ (o : Own). o.is_raised) own true

-- An unpin of a page that is to stay in use is one that no step carries.
abbrev pub with_leaving : ℕ → DeskState → DeskState
with_leaving page d = if may_leave page d.own then with_event (local.Unpin page) d else record d { is_spilled = true }

-- A pin that was not sent, and behind which there is no event of the page, is taken back; else the unpin is one event more.
abbrev pub is_taken_back : List LocalEvent → Option ℕ → Bool
is_taken_back events (Some place) = option_map_or is_pin (slice_get events place) false
is_taken_back events None = false

abbrev pub with_unpin : ℕ → Option ℕ → DeskState → DeskState
with_unpin page last d =
    if is_taken_back d.unsent last then record d { unsent = option_map_or (remove d.unsent) last d.unsent } else with_leaving page d

-- What was found and done under a pin of the page is forgotten.
abbrev pub is_supported_by : ℕ → Option ℕ → Bool
is_supported_by page support = option_map_or (λ supporting. supporting == page) support false

abbrev pub without_support : ℕ → DeskState → DeskState
without_support page d = record d {
  notes = filter (λ (n : Note). not (is_supported_by page (support_of n))) d.notes;
  deeds = filter (λ (deed : Deed). not (support_of_deed deed == page)) d.deeds;
}

-- A page is in use no more.
pub record Unpins (before : DeskState) (page : ℕ) (after : DeskState) : Type 0 where
  pub last : Option ℕ
  pub is_last : IsLastOf page before.unsent last
  pub is_after : after ≡ record (without_support page (with_unpin page last before)) { cache = use_of.after_unpin before.cache page }

-- A page that is not in use is left; one that is, is in use no more.
abbrev pub PinnedOrNot : Bool → DeskState → ℕ → DeskState → Type 0
PinnedOrNot true before page after = Unpins before page after
PinnedOrNot false before page after = after ≡ before

abbrev pub UnpinsIfPinned : DeskState → ℕ → DeskState → Type 0
UnpinsIfPinned before page after = PinnedOrNot (is_pinned_in before.cache.held page) before page after

-- The pages in use are unpinned, the least one first.
pub data UnpinsAll : DeskState → DeskState → Type 0 where
  none : (d : DeskState) → ((page : ℕ) → is_pinned_in d.cache.held page ≡ false) → UnpinsAll d d
  next : (d between after : DeskState) (page : ℕ) → IsLeast (is_pinned_past d.cache.held None) (Some page)
      → Unpins d page between → UnpinsAll between after → UnpinsAll d after

-- The new pairs of an edit come before it.
abbrev pub befores : List Edge → List LocalEvent
befores pairs = map (λ (pair : Edge). local.Before pair.high pair.low) pairs

-- There is a place for the edit with a pair for each high page, and for a deed.
pub record HasPlace (d : DeskState) (highs : ℕ) : Type 0 where
  pub events : length d.unsent + highs + 1 ≤ event_limit
  pub deeds : length d.deeds < deed_limit

-- An edit may be made: its numbers are such as bytes hold, the page is in use and held in EX, the edit fits it, has its grounds, and has
-- a place.
pub record MayMake (d : DeskState) (page : ℕ) (edit : Edit) (highs : List ℕ) : Type 0 where
  pub numbers : IsEdit edit
  pub may : MayEdit d.cache page edit
  pub grounds : HasGrounds d page edit highs
  pub place : HasPlace d (length highs)

-- An edit that may be made is made, after the pairs that it needs.
pub record Makes (before : DeskState) (page : ℕ) (edit : Edit) (highs : List ℕ) (after : DeskState) : Type 0 where
  pub may : MayMake before page edit highs
  pub cache : CacheState
  pub edits : Edits before.cache cache page edit highs edited.Done
  pub new_pairs : List Edge
  pub pairs : cache.pairs ≡ before.cache.pairs ++ new_pairs
  pub is_after : after ≡ record (with_cache before cache) {
    unsent = (before.unsent ++ befores new_pairs) ++ local.Edit page edit ∷ [];
    deeds = deeds_after page edit before.deeds;
    own = own_after edit before.own;
  }

-- Another page is to be written first: nothing is edited, and the pairs that were recorded stay.
pub record Halts (before : DeskState) (page : ℕ) (edit : Edit) (highs : List ℕ) (high : ℕ) (after : DeskState) : Type 0 where
  pub may : MayMake before page edit highs
  pub cache : CacheState
  pub edits : Edits before.cache cache page edit highs (edited.WriteFirst page high)
  pub new_pairs : List Edge
  pub pairs : cache.pairs ≡ before.cache.pairs ++ new_pairs
  pub is_after : after ≡ record before { cache = cache; unsent = before.unsent ++ befores new_pairs }

-- What an edit comes to.
abbrev pub EditComesTo : DeskState → DeskState → ℕ → Edit → List ℕ → Made → Type 0
EditComesTo before after page edit highs made.Done = Makes before page edit highs after
EditComesTo before after page edit highs (made.WriteFirst written high) = (written ≡ page) × Halts before page edit highs high after
EditComesTo before after page edit highs made.Refused = (¬ MayMake before page edit highs) × (after ≡ before)

-- One call between two steps.
pub data IsCall : DeskState → DeskState → Type 0 where
  pins : (d : DeskState) (page : ℕ) → IsCall d (after_pin d page)
  unpins : (d : DeskState) (page : ℕ) (after : DeskState) → UnpinsIfPinned d page after → IsCall d after
  looks : (d : DeskState) (page : ℕ) → IsCall d (after_look d page)
  marks : (d : DeskState) (page : ℕ) → IsCall d (after_mark d page)
  notes : (d : DeskState) (note : Note) → may_note_now d note ≡ true → IsCall d (with_note note d)
  makes : (d : DeskState) (page : ℕ) (edit : Edit) (highs : List ℕ) (after : DeskState) → Makes d page edit highs after → IsCall d after
  halts : (d : DeskState) (page : ℕ) (edit : Edit) (highs : List ℕ) (high : ℕ) (after : DeskState) → Halts d page edit highs high after → IsCall d after

-- What calls between two steps come to: none, or some and one more.
pub data GoesOn : DeskState → DeskState → Type 0 where
  stays : (d : DeskState) → GoesOn d d
  goes : (d between after : DeskState) → GoesOn d between → IsCall between after → GoesOn d after
