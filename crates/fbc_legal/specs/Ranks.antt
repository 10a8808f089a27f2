-- The order in which pages may be waited for: an owner that has pages pinned waits only for one of a higher rank.
use Rattle.std.specs.Prelude.{◌≡◌, ◌<◌, ◌⊎◌, ◌/◌, ◌%◌, ℕ, Bool, true, false, ◌==◌, ◌&&◌, nat_lt, if◌then◌else◌, Option, Some, None, position}
use Rattle.std.specs.List.{list_any}
use Rattle.fbc_kinds.specs.declared.pages.Header.{Header}
use Rattle.fbc_kinds.specs.declared.pages.Relation.{Relation}
use Rattle.fbc_kinds.specs.Limits.{inventory_bits, inventory_limit}
use Rattle.fbc_kinds.specs.View.{header_in}
use Rattle.fbc_levels.specs.declared.resources.Resource.{Resource}
use Rattle.fbc_levels.specs.declared.resources.Series.{Series}
use Rattle.fbc_levels.specs.declared.resources.Series.TheVariants as series
use Rattle.fbc_world.specs.PageCell.{page_for}
use Rattle.fbc_world.specs.World.{World, newest_of}
use Rattle.fbc_legal.specs.Scene.{Scene}

-- The rank of a page: by its kind, and in one kind by its place.
pub record Rank : Type 0 where
  pub kind : ℕ
  pub place : ℕ

-- Data pages come first, by their numbers; then pointer pages, the header, page inventories and transaction inventory
-- pages, these two by their sequences.
abbrev pub data_rank : ℕ → Rank
data_rank page = record { kind = 0; place = page }

abbrev pub pointer_rank : Rank
pointer_rank = record { kind = 1; place = 0 }

abbrev pub header_rank : Rank
header_rank = record { kind = 2; place = 0 }

abbrev pub inventory_rank : ℕ → Rank
inventory_rank sequence = record { kind = 3; place = sequence }

abbrev pub tip_rank : ℕ → Rank
tip_rank sequence = record { kind = 4; place = sequence }

abbrev pub IsLower : Rank → Rank → Type 0
IsLower a b = (a.kind < b.kind) ⊎ ((a.kind ≡ b.kind) × (a.place < b.place))

-- A relation of a header has the page among its pointer pages.
abbrev pub is_pointer_of : ℕ → Relation → Bool
is_pointer_of page relation = list_any (λ number. number == page) relation.pointers

-- The rank of a page by what a header names it: a transaction inventory page, a pointer page, or neither.
abbrev pub ranked : Option ℕ → Bool → ℕ → Rank
ranked (Some sequence) points page = tip_rank sequence
ranked None true page = pointer_rank
ranked None false page = data_rank page

abbrev pub named_rank : Option Header → ℕ → Rank
named_rank None page = data_rank page
named_rank (Some header) page =
    ranked (position (λ number. number == page) header.tips) (list_any (is_pointer_of page) header.relations) page

-- A page stands in the place of a page inventory, counted or not: it is the first page that this would cover.
abbrev pub is_inventory_place : ℕ → ℕ → Bool
is_inventory_place size page = (page % inventory_bits size == 0) && nat_lt (page / inventory_bits size) inventory_limit

-- The rank of a page, by a header and never by its own bytes.
abbrev pub rank_in : ℕ → Option Header → ℕ → Rank
rank_in size header page =
    if page == 0 then header_rank
    else if page == 1 then inventory_rank 0
    else if is_inventory_place size page then inventory_rank (page / inventory_bits size)
    else named_rank header page

-- The header as an owner may know it: its own draft, and otherwise the kept one.
abbrev pub header_for : World → ℕ → Option Header
header_for w owner = header_in (page_for owner (w.kept 0) (w.draft 0))

-- A pinned page has the rank that the newest header gives, and a page that is waited for the one that the owner may know.
abbrev pub pinned_rank : Scene → ℕ → Rank
pinned_rank at page = rank_in at.shape.size (header_in (newest_of at.world 0)) page

abbrev pub waited_rank : Scene → ℕ → ℕ → Rank
waited_rank at owner page = rank_in at.shape.size (header_for at.world owner) page

-- The owner may wait: for a page beside pinned pages of lower ranks alone, and for a number or a relation without any.
abbrev pub MayWaitFor : Scene → ℕ → Series → ℕ → Type 0
MayWaitFor at owner series.Page page = (pin : ℕ) → at.world.is_pinned owner pin ≡ true → IsLower (pinned_rank at pin) (waited_rank at owner page)
MayWaitFor at owner _ key = (pin : ℕ) → at.world.is_pinned owner pin ≡ false

abbrev pub WaitsUpward : Scene → ℕ → Resource → Type 0
WaitsUpward at owner resource = MayWaitFor at owner resource.series resource.key
