-- Chains that were followed so far: what is kept of some links, and the links from a version down.
use Rattle.std.specs.Prelude.{◌≡◌, ℕ, suc, Bool, true, ◌==◌, ◌&&◌, ◌||◌, List, [], ◌∷◌, if◌then◌else◌, find, Option, Some, None, Contains}
use Rattle.std.specs.List.{list_any}
use Rattle.std.specs.Option.{option_map}
use Rattle.fbc_kinds.specs.declared.pages.Cell.{Cell}
use Rattle.fbc_kinds.specs.View.{View, cell_at, is_top}
use Rattle.fbc_links.specs.Chains.{has_below, has_fault, is_to, namer, place_of}
use Rattle.fbc_reach.specs.Content.{version_kept}
use Rattle.fbc_links.specs.Links.{is_uncommitted, Link, is_faulty, link_of, links_from, links_of_page}
use Rattle.fbc_links.specs.Versions.{back_value}
use Rattle.fbc_reach.specs.Walk.{data_namings, is_first, relation_of_role, relation_walked}
use Rattle.fbc_links.specs.declared.chains.Chains.{Chains}
use Rattle.fbc_links.specs.declared.namers.Place.{Place}
use Rattle.fbc_reach.specs.declared.content.Version.{Version}
use Rattle.fbc_reach.specs.declared.namings.Naming.{Naming}

-- One of these links, of a version in this page, is at fault. A good link names an uncommitted version in this page.
abbrev pub is_fault_of : List Link → ℕ → Link → Bool
is_fault_of all page link = (link.page == page) && is_faulty all link

abbrev pub is_below_in : View → ℕ → Link → Bool
is_below_in view page link =
    link.good && (link.back_page == page) && is_uncommitted view (cell_at view link.back_page link.back_cell)

-- The place of the version whose link it is.
abbrev pub source : Link → Place
source link = place_of link.page link.cell

-- What is kept is what these links show: for each cell the version that names it first, the pages with a version at
-- fault, and those with an uncommitted version below a top.
pub record AreMarks (view : View) (all : List Link) (chains : Chains) : Type 0 where
  pub namers : (page cell : ℕ) → namer chains page cell ≡ option_map source (find (is_to page cell) all)
  pub faults : (page : ℕ) → has_fault chains page ≡ list_any (is_fault_of all page) all
  pub belows : (page : ℕ) → has_below chains page ≡ list_any (is_below_in view page) all

-- A good link between two places.
abbrev pub good_link : Place → Place → Link
good_link from to = record { page = from.page; cell = from.cell; back_page = to.page; back_cell = to.cell; good = true }

-- A version as a cell, without a value.
abbrev pub bare : Version → Cell
bare version = record { flag = version.flag; number = version.number; back_page = version.back_page; back_cell = version.back_cell; value = [] }

-- The link of a version that stands in a cell, if it names a back version.
abbrev pub first_link : View → ℕ → ℕ → ℕ → Version → List Link
first_link view relation page cell version = if version.back_page == 0 then [] else link_of view relation page cell (bare version) ∷ []

-- The version to go on with behind these links: the back value that a version names, if none of them names that.
abbrev pub next_version : View → ℕ → List Link → Version → Option Version
next_version view relation all version =
    if (version.back_page == 0) || list_any (is_to version.back_page version.back_cell) all then None
    else back_value view relation version.number version.back_page version.back_cell

-- The links from a version down.
abbrev pub links_below : View → ℕ → ℕ → ℕ → Version → List Link
links_below view relation page cell version = links_from view relation (suc version.number) page cell (Some (bare version))

-- The same of a version that may be no top. The links of a page, if it is walked for the role in which it is named.
abbrev pub links_of_version : View → ℕ → ℕ → ℕ → Version → List Link
links_of_version view relation page cell version = if is_top version.flag then links_below view relation page cell version else []

abbrev pub links_of_naming : View → Naming → List Link
links_of_naming view n = if is_first (data_namings view) n then links_of_page view n.page (relation_of_role n.role) else []

-- Below each version that a good one of these links names, all links are among them.
abbrev pub IsClosed : View → List Link → Type 0
IsClosed view all =
    (link : Link) (relation : ℕ) (back : Version)
    → Contains all link
    → link.good ≡ true
    → relation_walked view link.back_page ≡ Some relation
    → option_map version_kept (cell_at view link.back_page link.back_cell) ≡ Some back
    → (lower : Link)
    → Contains (links_below view relation link.back_page link.back_cell back) lower
    → Contains all lower

-- Whole chains were followed: what is kept is what these links show, and no link below them is missing.
pub record AreFollowed (view : View) (all : List Link) (chains : Chains) : Type 0 where
  pub marks : AreMarks view all chains
  pub closed : IsClosed view all
