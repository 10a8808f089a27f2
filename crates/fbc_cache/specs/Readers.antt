-- What pages say.
use Rattle.std.specs.Prelude.{ℕ, ◌%◌, Bool, false, List, Option, Some, [], slice_get, unwrap_or}
use Rattle.std.specs.List.{list_all}
use Rattle.std.specs.Option.{option_map_or}
use Rattle.fbc_kinds.specs.declared.pages.Cell.{Cell}
use Rattle.fbc_kinds.specs.declared.pages.Header.{Header}
use Rattle.fbc_kinds.specs.declared.pages.Page.{Page}
use Rattle.fbc_kinds.specs.declared.pages.Page.TheVariants as kind
use Rattle.fbc_kinds.specs.declared.pages.State.{State}
use Rattle.fbc_kinds.specs.declared.pages.State.TheVariants as state
use Rattle.fbc_kinds.specs.DataSpelling.{empty_cell}
use Rattle.fbc_kinds.specs.Limits.{inventory_bits, tip_numbers}
use Rattle.fbc_kinds.specs.View.{cell_in, header_in, is_empty, is_marked, mark_in, slot_in, state_in}
use Rattle.fbc_cache.specs.declared.readers.Place.{Place}
use Rattle.fbc_cache.specs.Cache.{CacheState, copy_in}

-- A kind, as the first byte of a page numbers it, with the relation and the sequence, which are 0 where the kind has none.
abbrev pub place : ℕ → ℕ → ℕ → Place
place kind relation sequence = record { kind = kind; relation = relation; sequence = sequence }

-- Where a page stands; all is 0 where nothing may be used of it, and of a blank page.
abbrev pub place_in : Option Page → Place
place_in (Some (kind.Header h)) = place 1 0 0
place_in (Some (kind.Inventory i)) = place 2 0 i.sequence
place_in (Some (kind.Tip t)) = place 3 0 t.sequence
place_in (Some (kind.Pointer p)) = place 4 p.relation p.sequence
place_in (Some (kind.Data d)) = place 5 d.relation d.sequence
place_in _ = place 0 0 0

-- What the header says, 0 where it may not be used.
abbrev pub header_number : (Header → ℕ) → CacheState → ℕ
header_number number c = option_map_or number (header_in (copy_in c.held 0)) 0

-- The transaction inventory pages that the header names.
abbrev pub tips_in : CacheState → List ℕ
tips_in c = option_map_or (λ (h : Header). h.tips) (header_in (copy_in c.held 0)) []

-- The number at this place of a list, 0 where there is none.
abbrev pub number_at : List ℕ → ℕ → ℕ
number_at numbers place = unwrap_or (slice_get numbers place) 0

-- Whether a page inventory shows the page as taken.
abbrev pub is_taken_in : CacheState → ℕ → ℕ → Bool
is_taken_in c page target = is_marked (mark_in (copy_in c.held page) (target % inventory_bits c.shape.size))

-- The state that a transaction inventory page shows of a number.
abbrev pub state_shown : CacheState → ℕ → ℕ → State
state_shown c page number = unwrap_or (state_in (copy_in c.held page) (number % tip_numbers c.shape.size)) state.Active

-- All states that a transaction inventory page shows, in the order of their numbers.
abbrev pub states_in : Option Page → List State
states_in (Some (kind.Tip t)) = t.states
states_in _ = []

-- What a slot of a pointer page names, and what stands in a cell of a data page.
abbrev pub slot_shown : CacheState → ℕ → ℕ → ℕ
slot_shown c page slot = unwrap_or (slot_in (copy_in c.held page) slot) 0

abbrev pub cell_shown : CacheState → ℕ → ℕ → Cell
cell_shown c page cell = unwrap_or (cell_in (copy_in c.held page) cell) empty_cell

-- Whether what may be used is a data page, and no cell of it holds a version.
abbrev pub is_vacant_in : Option Page → Bool
is_vacant_in (Some (kind.Data d)) = list_all (λ (c : Cell). is_empty c.flag) d.cells
is_vacant_in _ = false
