-- What an edit rests on, told by what the desk has at hand.
use Rattle.std.specs.Prelude.{◌≡◌, ◌≢◌, ◌⊎◌, ◌<◌, ◌+◌, ◌*◌, ◌/◌, ◌==◌, ◌&&◌, ℕ, Bool, true, not, false, List, [], ◌∷◌, ◌++◌, Option, Some, None}
use Rattle.std.specs.List.{Contains, filter, list_all, list_any}
use Rattle.std.specs.Option.{option_map}
use Rattle.fbc_kinds.specs.declared.edits.Edit.{Edit}
use Rattle.fbc_kinds.specs.declared.edits.Edit.TheVariants as edit
use Rattle.fbc_kinds.specs.declared.pages.Cell.{Cell}
use Rattle.fbc_kinds.specs.declared.pages.Flag.TheVariants as flag
use Rattle.fbc_kinds.specs.declared.pages.Header.{Header}
use Rattle.fbc_kinds.specs.declared.pages.State.TheVariants as state
use Rattle.fbc_kinds.specs.Limits.{inventory_bits, slots, tip_numbers}
use Rattle.fbc_kinds.specs.View.{inventory_page, is_empty}
use Rattle.fbc_buffers.specs.Holding.{is_waiting}
use Rattle.fbc_notes.specs.Notes.{says_named}
use Rattle.fbc_precedence.specs.Precedence.{ComesBefore}
use Rattle.fbc_cache.specs.Cache.{CacheState, copy_in, is_dirty_in}
use Rattle.fbc_cache.specs.Edits.{is_clean_beside}
use Rattle.fbc_cache.specs.Readers.{cell_shown, header_number, is_taken_in, is_vacant_in, number_at, place_in, slot_shown}
use Rattle.fbc_cache.specs.declared.readers.Place.{Place}
use Rattle.fbc_desk.specs.declared.own.Deed.{Deed}
use Rattle.fbc_desk.specs.declared.own.Deed.TheVariants as deed
use Rattle.fbc_desk.specs.declared.own.Own.{Own}
use Rattle.fbc_desk.specs.Desk.{DeskState}

-- A page stands before one of the high pages that is dirty.
pub record LeadsTo (c : CacheState) (other high : ℕ) : Type 0 where
  pub dirty : is_dirty_in c.held high ≡ true
  pub leads : ComesBefore c.pairs other high

abbrev pub LeadsThrough : CacheState → List ℕ → ℕ → Type 0
LeadsThrough c [] other = ⊥
LeadsThrough c (high ∷ highs) other = LeadsTo c other high ⊎ LeadsThrough c highs other

-- A page needs no further pair to be written before the edited one, or gets it by this edit: it is clean, or the edited page itself,
-- or one of the high pages, or stands before one of them that is dirty, or before the edited page.
pub data IsAhead (c : CacheState) (page : ℕ) (highs : List ℕ) (other : ℕ) : Type 0 where
  clean : is_dirty_in c.held other ≡ false → IsAhead c page highs other
  itself : other ≡ page → IsAhead c page highs other
  high : Contains highs other → IsAhead c page highs other
  before : ComesBefore c.pairs other page → IsAhead c page highs other
  through : LeadsThrough c highs other → IsAhead c page highs other

-- Where the page inventory stands that covers a page.
abbrev pub inventory_over : ℕ → ℕ → ℕ
inventory_over size page = inventory_page size (page / inventory_bits size)

-- The page inventory over the page is at hand and shows it as taken; it comes first; and the header counts it, which comes first too
-- where the file does not have that yet.
pub record IsTakenInTime (d : DeskState) (edited : ℕ) (highs : List ℕ) (page : ℕ) : Type 0 where
  pub taken : is_taken_in d.cache (inventory_over d.cache.shape.size page) page ≡ true
  pub ahead : IsAhead d.cache edited highs (inventory_over d.cache.shape.size page)
  pub counted : page / inventory_bits d.cache.shape.size < d.counted
  pub in_file : (page / inventory_bits d.cache.shape.size < d.written) ⊎ IsAhead d.cache edited highs 0

-- The open transaction has its number from the header, as this attachment raised it, and the header comes first.
pub record IsRaisedInTime (d : DeskState) (edited : ℕ) (highs : List ℕ) (number : ℕ) : Type 0 where
  pub own : Own
  pub is_own : d.own ≡ Some own
  pub is_number : own.snapshot.own ≡ number
  pub raised : own.is_raised ≡ true
  pub ahead : IsAhead d.cache edited highs 0

-- The header gives out the number of the open transaction.
pub record MayRaise (d : DeskState) (page next : ℕ) : Type 0 where
  pub header : page ≡ 0
  pub own : Own
  pub is_own : d.own ≡ Some own
  pub unraised : own.is_raised ≡ false
  pub is_next : header_number (λ (h : Header). h.next) d.cache ≡ own.snapshot.own
  pub one_more : next ≡ own.snapshot.own + 1

-- A page is taken from the page inventory over it, which shows it as free.
pub record MayTakePage (d : DeskState) (page taken : ℕ) : Type 0 where
  pub over : page ≡ inventory_over d.cache.shape.size taken
  pub free : is_taken_in d.cache page taken ≡ false

-- This part has taken the page from the page inventory over it.
abbrev pub is_taking : ℕ → ℕ → Deed → Bool
is_taking page inventory (deed.Taken taken from) = (taken == page) && (from == inventory)

abbrev pub has_taken : DeskState → ℕ → Bool
has_taken d page = list_any (is_taking page (inventory_over d.cache.shape.size page)) d.deeds

-- A page that this part has taken becomes a data page.
pub record MayFormat (d : DeskState) (page : ℕ) (highs : List ℕ) (kind number : ℕ) : Type 0 where
  pub data_page : kind ≡ 5
  pub itself : number ≡ page
  pub other : page ≢ 0
  pub deed : has_taken d page ≡ true
  pub taken : IsTakenInTime d page highs page

-- Of what kind a page is that may be used, and for what place.
abbrev pub place_of : DeskState → ℕ → Place
place_of d page = place_in (copy_in d.cache.held page)

-- The page is the data page that the slot of the pointer page is for.
pub record IsNamedPlace (d : DeskState) (page slot named : ℕ) : Type 0 where
  pub pointer : (place_of d page).kind ≡ 4
  pub data_page : (place_of d named).kind ≡ 5
  pub relation : (place_of d named).relation ≡ (place_of d page).relation
  pub sequence : (place_of d named).sequence ≡ (place_of d page).sequence * slots d.cache.shape.size + slot

-- An empty data page that was made for a slot is ready to be named there.
pub record IsReady (d : DeskState) (page slot named : ℕ) : Type 0 where
  pub due : IsNamedPlace d page slot named
  pub vacant : is_vacant_in (copy_in d.cache.held named) ≡ true

-- A page that is named comes first, and was taken in time.
pub record IsNamedInTime (d : DeskState) (page : ℕ) (highs : List ℕ) (named : ℕ) : Type 0 where
  pub ahead : IsAhead d.cache page highs named
  pub taken : IsTakenInTime d page highs named

-- A page may be named in a slot.
pub record MayBeNamed (d : DeskState) (page : ℕ) (highs : List ℕ) (slot named : ℕ) : Type 0 where
  pub ready : IsReady d page slot named
  pub in_time : IsNamedInTime d page highs named

-- An empty slot of a pointer page names such a page.
pub record MayName (d : DeskState) (page : ℕ) (highs : List ℕ) (slot named : ℕ) : Type 0 where
  pub empty : slot_shown d.cache page slot ≡ 0
  pub may_be_named : MayBeNamed d page highs slot named

-- A new row: an empty cell of a data page that is named in its place gets a version of the open transaction that leads nowhere.
pub record MayPutRow (d : DeskState) (page : ℕ) (highs : List ℕ) (cell : ℕ) (content : Cell) : Type 0 where
  pub data_page : (place_of d page).kind ≡ 5
  pub empty : is_empty (cell_shown d.cache page cell).flag ≡ true
  pub named : list_any (says_named (place_of d page).relation (place_of d page).sequence page) d.notes ≡ true
  pub primary : content.flag ≡ flag.Primary
  pub unlinked : content.back_page ≡ 0
  pub raised : IsRaisedInTime d page highs content.number

-- The open transaction is marked as committed, on the page on which its state stands, when nothing else is left to be written.
pub record MayCommit (d : DeskState) (page : ℕ) (highs : List ℕ) (number : ℕ) : Type 0 where
  pub tip : number_at d.tips (number / tip_numbers d.cache.shape.size) ≡ page
  pub other : page ≢ 0
  pub clean : list_all (is_clean_beside page) d.cache.held ≡ true
  pub raised : IsRaisedInTime d page highs number

-- Whether an edit has its grounds, by its kind. The kinds that no statement makes yet have none.
abbrev pub GroundsOf : DeskState → ℕ → List ℕ → Edit → Type 0
GroundsOf d page highs (edit.SetNext next) = MayRaise d page next
GroundsOf d page highs (edit.TakePage taken) = MayTakePage d page taken
GroundsOf d page highs (edit.Format kind number relation sequence) = MayFormat d page highs kind number
GroundsOf d page highs (edit.Name slot named) = MayName d page highs slot named
GroundsOf d page highs (edit.PutCell cell content) = MayPutRow d page highs cell content
GroundsOf d page highs (edit.Mark number state.Committed) = MayCommit d page highs number
GroundsOf d page highs _ = ⊥

-- The open transaction, if there is one, is not marked yet.
abbrev pub IsUnsealed : Option Own → Type 0
IsUnsealed (Some own) = own.is_sealed ≡ false
IsUnsealed None = Unit {0}

-- An edit has its grounds: nothing is waited for, the open transaction is not marked yet, and what the kind of edit rests on is there.
pub record HasGrounds (d : DeskState) (page : ℕ) (edit : Edit) (highs : List ℕ) : Type 0 where
  pub free : list_any is_waiting d.cache.held ≡ false
  pub unsealed : IsUnsealed d.own
  pub by_kind : GroundsOf d page highs edit

-- Whether the deed is the taking of the page.
abbrev pub takes : ℕ → Deed → Bool
takes page (deed.Taken taken from) = taken == page

-- What an edit has done that later edits rest on: a page that is named is one of those that were taken no more.
abbrev pub deeds_after : ℕ → Edit → List Deed → List Deed
deeds_after page (edit.TakePage taken) deeds = deeds ++ deed.Taken taken page ∷ []
deeds_after page (edit.Name slot named) deeds = filter (λ (made : Deed). not (takes named made)) deeds
deeds_after page _ deeds = deeds

-- The page under whose pin a deed stands: the page inventory from which a page was taken.
abbrev pub support_of_deed : Deed → ℕ
support_of_deed (deed.Taken page inventory) = inventory

-- The open transaction after an edit.
abbrev pub own_remembers : Edit → Own → Own
own_remembers (edit.SetNext next) own = record own { is_raised = true }
own_remembers (edit.Mark number state.Committed) own = record own { is_sealed = true }
own_remembers _ own = own

abbrev pub own_after : Edit → Option Own → Option Own
own_after edit own = option_map (own_remembers edit) own
