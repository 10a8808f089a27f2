-- The least number that passes a test, and the tests of pages and cells of which the least is asked.
use Rattle.std.specs.Prelude.{◌≡◌, ◌≤◌, ◌&&◌, ◌||◌, ℕ, Bool, true, false, not, nat_lt, List, Option, Some, None}
use Rattle.std.specs.Option.{option_map_or}
use Rattle.fbc_kinds.specs.declared.pages.Cell.{Cell}
use Rattle.fbc_kinds.specs.declared.pages.Page.{Page}
use Rattle.fbc_kinds.specs.declared.pages.Page.TheVariants as kind
use Rattle.fbc_kinds.specs.View.{cell_in, is_empty}
use Rattle.fbc_buffers.specs.declared.buffers.Buffer.{Buffer}
use Rattle.fbc_cache.specs.Cache.{is_granted_in, is_pinned_in}

-- The least number that passes the test; none where no number does.
abbrev pub IsLeast : (ℕ → Bool) → Option ℕ → Type 0
IsLeast passes (Some least) = (passes least ≡ true) × ((other : ℕ) → passes other ≡ true → least ≤ other)
IsLeast passes None = (number : ℕ) → passes number ≡ false

-- Whether the page comes after this one, if one is named.
abbrev pub is_past : Option ℕ → ℕ → Bool
is_past None page = true
is_past (Some above) page = nat_lt above page

-- Whether it is a page past this one that is in use, or that is held.
abbrev pub is_pinned_past : List Buffer → Option ℕ → ℕ → Bool
is_pinned_past held above page = is_pinned_in held page && is_past above page

abbrev pub is_held_past : List Buffer → Option ℕ → ℕ → Bool
is_held_past held above page = is_granted_in held page && is_past above page

-- Whether what may be used is a data page, and the cell is an empty one of it.
abbrev pub is_empty_in : Option Page → ℕ → Bool
is_empty_in copy cell = option_map_or (λ (c : Cell). is_empty c.flag) (cell_in copy cell) false

-- Whether a buffer has a data page with a smaller number, or is not in use.
abbrev pub is_data : Option Page → Bool
is_data (Some (kind.Data d)) = true
is_data _ = false

abbrev pub is_data_below : ℕ → Buffer → Bool
is_data_below page b = is_data b.copy && nat_lt b.page page

abbrev pub is_below_if_pinned : ℕ → Buffer → Bool
is_below_if_pinned page b = not b.is_pinned || is_data_below page b
