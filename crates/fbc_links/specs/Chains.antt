-- What is kept of the chains of versions.
use Rattle.std.specs.Prelude.{◌≡◌, ℕ, Bool, ◌==◌, ◌&&◌, Option, Some, None, is_some, nat_eq}
use Rattle.std.specs.List.{list_any}
use Rattle.indexmap.specs.IndexMap.{index_of}
use Rattle.indexmap.specs.IndexSet.{contains}
use Rattle.fbc_kinds.specs.View.{View}
use Rattle.fbc_links.specs.Links.{Link, links, breaks_chain, breaks_below}
use Rattle.fbc_links.specs.declared.chains.Chains.{Chains}
use Rattle.fbc_links.specs.Namers.{namer_at}
use Rattle.fbc_links.specs.declared.namers.Namers.{Namers}
use Rattle.fbc_links.specs.declared.namers.Place.{Place}

abbrev pub place_of : ℕ → ℕ → Place
place_of page cell = record { page = page; cell = cell }

-- Whether two places are one.
abbrev pub is_same_place : Place → Place → Bool
is_same_place a b = (a.page == b.page) && (a.cell == b.cell)

-- A good link that names this cell.
abbrev pub is_to : ℕ → ℕ → Link → Bool
is_to page cell link = link.good && (link.back_page == page) && (link.back_cell == cell)

-- Some version names this cell by a good link.
abbrev pub is_target : View → ℕ → ℕ → Bool
is_target view page cell = list_any (is_to page cell) (links view)

-- The version that named a cell first, by what is kept of a page of an index, and of a page.
abbrev pub namer_in : Namers → Option ℕ → ℕ → Option Place
namer_in namers None cell = None
namer_in namers (Some index) cell = namer_at namers index cell

abbrev pub namer : Chains → ℕ → ℕ → Option Place
namer chains page cell = namer_in chains.namers (index_of nat_eq chains.walked.tally.now.pages page) cell

-- What is kept says so of a cell, of a page with a fault, and of a page with an uncommitted version below a top.
abbrev pub is_linked : Chains → ℕ → ℕ → Bool
is_linked chains page cell = is_some (namer chains page cell)

abbrev pub has_fault : Chains → ℕ → Bool
has_fault chains page = contains nat_eq chains.faults page

abbrev pub has_below : Chains → ℕ → Bool
has_below chains page = contains nat_eq chains.belows page

-- It is what the chains of a view show.
pub record AreChainsOf (view : View) (chains : Chains) : Type 0 where
  pub linked : (page cell : ℕ) → is_linked chains page cell ≡ is_target view page cell
  pub broken : (page : ℕ) → has_fault chains page ≡ breaks_chain view page
  pub below : (page : ℕ) → has_below chains page ≡ breaks_below view page
