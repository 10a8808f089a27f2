-- Which pages are taken, by what is kept of the page inventories.
use Rattle.std.specs.Prelude.{ℕ, ◌/◌, ◌%◌, Bool, ◌&&◌, nat_eq, nat_lt, Option, Some, None, slice_get}
use Rattle.indexmap.specs.IndexMap.{get}
use Rattle.fbc_kinds.specs.Limits.{inventory_bits}
use Rattle.fbc_kinds.specs.View.{inventory_page, is_marked}
use Rattle.fbc_kinds.specs.declared.pages.Header.{Header}
use Rattle.fbc_reach.specs.declared.content.Content.{Content}
use Rattle.fbc_reach.specs.declared.content.Content.TheVariants as content
use Rattle.fbc_reach.specs.declared.tally.NamedPage.{NamedPage}
use Rattle.fbc_reach.specs.declared.tally.Tally.{Tally}

-- The mark at a place of a page inventory; no other page has any.
abbrev pub mark_of : Content → ℕ → Option Bool
mark_of (content.Inventory sequence taken) place = slice_get taken place
mark_of _ place = None

abbrev pub mark_kept : Option NamedPage → ℕ → Option Bool
mark_kept None place = None
mark_kept (Some named) place = mark_of named.read.content place

-- A page is taken where the page inventory that covers it is counted and has its mark.
abbrev pub is_taken_by : Tally → Header → ℕ → Bool
is_taken_by tally h page =
    nat_lt (page / inventory_bits h.size) h.inventories
    && is_marked (mark_kept (get nat_eq tally.pages (inventory_page h.size (page / inventory_bits h.size))) (page % inventory_bits h.size))
