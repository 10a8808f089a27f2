-- Which free page is found, and how the search goes from one page inventory to the next.
use Rattle.std.specs.Prelude.{◌≡◌, ◌⊎◌, ◌<◌, ◌≤◌, ◌+◌, ◌*◌, ◌/◌, ◌==◌, ◌&&◌, ◌||◌, ℕ, Bool, true, false, not, nat_le, nat_lt, List, Option, Some, None}
use Rattle.fbc_kinds.specs.declared.pages.Header.{Header}
use Rattle.fbc_kinds.specs.Limits.{inventory_bits, inventory_limit}
use Rattle.fbc_kinds.specs.View.{inventory_page}
use Rattle.fbc_buffers.specs.Holding.{buffer_of}
use Rattle.fbc_cache.specs.Cache.{CacheState}
use Rattle.fbc_cache.specs.Least.{IsLeast}
use Rattle.fbc_cache.specs.Readers.{header_number, is_taken_in}
use Rattle.fbc_desk.specs.declared.holding.Held.TheVariants as holds
use Rattle.fbc_desk.specs.Desk.{DeskState}
use Rattle.fbc_space.specs.declared.finding.Found.{Found}
use Rattle.fbc_space.specs.declared.finding.Found.TheVariants as finds
use Rattle.fbc_space.specs.declared.finding.FreeSearch.{FreeSearch}
use Rattle.fbc_space.specs.Needs.{HeaderComesTo, InventoryComesTo}
use Rattle.fbc_space.specs.Passed.{is_passed}

-- Whether the page inventory of the sequence covers the page and shows it as free, and the page is below the limit.
abbrev pub is_free : CacheState → ℕ → ℕ → ℕ → Bool
is_free c limit sequence page =
    (page / inventory_bits c.shape.size == sequence) && nat_lt page limit && not (is_taken_in c (inventory_page c.shape.size sequence) page)

-- The same of a page that is not passed over.
abbrev pub is_candidate : CacheState → ℕ → List ℕ → ℕ → ℕ → Bool
is_candidate c limit passed sequence page = is_free c limit sequence page && not (is_passed passed page)

-- The least free page that is not passed over; where every free page is passed over, the least of all.
abbrev pub IsChoice : CacheState → ℕ → List ℕ → ℕ → ℕ → Type 0
IsChoice c limit passed sequence page =
    IsLeast (is_candidate c limit passed sequence) (Some page)
    ⊎ (IsLeast (is_candidate c limit passed sequence) None × IsLeast (is_free c limit sequence) (Some page))

-- What is chosen: none exactly where the page inventory of the sequence shows no page below the limit as free.
abbrev pub Chooses : CacheState → ℕ → List ℕ → ℕ → Option ℕ → Type 0
Chooses c limit passed sequence (Some page) = IsChoice c limit passed sequence page
Chooses c limit passed sequence None = IsLeast (is_free c limit sequence) None

-- Whether the search ends before this sequence: a file has no such page inventory, or it covers no page below the limit.
abbrev pub is_over : ℕ → ℕ → ℕ → Bool
is_over size limit sequence = nat_le inventory_limit sequence || nat_le limit (sequence * inventory_bits size)

-- Whether the header is looked at first: it is not known yet that it counts the page inventory, which is not the first.
abbrev pub is_header_due : FreeSearch → Bool
is_header_due s = not (s.sequence == 0) && not s.is_counted

-- The header may be read, and counts the page inventory of the sequence.
pub record IsCounted (d : DeskState) (sequence : ℕ) : Type 0 where
  pub here : HeaderComesTo d holds.Here
  pub counts : sequence < header_number (λ (h : Header). h.inventories) d.cache

-- The page inventory of the sequence may be changed, and shows no page below the limit as free.
pub record IsFull (d : DeskState) (limit sequence : ℕ) : Type 0 where
  pub here : InventoryComesTo d sequence holds.Here
  pub full : IsLeast (is_free d.cache limit sequence) None

-- The search goes on, past the header where it counts the page inventory, and past each page inventory that is full.
pub data GoesPast (d : DeskState) (limit : ℕ) (from : FreeSearch) : FreeSearch → Type 0 where
  begins : GoesPast d limit from from
  counted : (s : FreeSearch) → GoesPast d limit from s → is_over d.cache.shape.size limit s.sequence ≡ false → is_header_due s ≡ true
      → IsCounted d s.sequence → GoesPast d limit from (record { sequence = s.sequence; is_counted = true })
  full : (s : FreeSearch) → GoesPast d limit from s → is_over d.cache.shape.size limit s.sequence ≡ false → is_header_due s ≡ false
      → IsFull d limit s.sequence → GoesPast d limit from (record { sequence = s.sequence + 1; is_counted = false })

-- What stops the search where the header is looked at.
abbrev pub HeaderStops : DeskState → ℕ → Found → Type 0
HeaderStops d sequence (finds.Miss need) = HeaderComesTo d (holds.Miss need)
HeaderStops d sequence (finds.Damaged page rule) = HeaderComesTo d (holds.Damaged page rule)
HeaderStops d sequence (finds.Uncounted uncounted) =
    (uncounted ≡ sequence) × HeaderComesTo d holds.Here × (header_number (λ (h : Header). h.inventories) d.cache ≤ sequence)
HeaderStops d sequence _ = ⊥

-- What stops it where a page inventory is looked at.
abbrev pub InventoryStops : DeskState → ℕ → List ℕ → ℕ → Found → Type 0
InventoryStops d limit passed sequence (finds.Miss need) = InventoryComesTo d sequence (holds.Miss need)
InventoryStops d limit passed sequence (finds.Damaged page rule) = InventoryComesTo d sequence (holds.Damaged page rule)
InventoryStops d limit passed sequence (finds.Page page) = InventoryComesTo d sequence holds.Here × IsChoice d.cache limit passed sequence page
InventoryStops d limit passed sequence _ = ⊥

-- What the search comes to where it stands.
abbrev pub StopsBy : Bool → DeskState → ℕ → List ℕ → ℕ → Found → Type 0
StopsBy true d limit passed sequence found = HeaderStops d sequence found
StopsBy false d limit passed sequence found = InventoryStops d limit passed sequence found

abbrev pub StopsAt : DeskState → ℕ → List ℕ → FreeSearch → Found → Type 0
StopsAt d limit passed s (finds.Limit pages) = (pages ≡ limit) × (is_over d.cache.shape.size limit s.sequence ≡ true)
StopsAt d limit passed s found = (is_over d.cache.shape.size limit s.sequence ≡ false) × StopsBy (is_header_due s) d limit passed s.sequence found

-- Nothing but the order in which pages were used is another.
pub record IsOnlyUsed (before after : DeskState) : Type 0 where
  pub rest : after ≡ record before { cache = record before.cache { held = after.cache.held } }
  pub buffers : (page : ℕ) → buffer_of after.cache.held page ≡ buffer_of before.cache.held page
