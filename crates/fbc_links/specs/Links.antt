-- The links of versions to their back versions, in the order of the walk.
use Rattle.std.specs.Prelude.{ℕ, zero, suc, Bool, false, ◌==◌, ◌&&◌, ◌||◌, not, nat_lt, List, [], ◌∷◌, ◌++◌, if◌then◌else◌, find, Option, Some, None}
use Rattle.std.specs.List.{flat_map, list_any}
use Rattle.fbc_kinds.specs.declared.pages.Page.{Page}
use Rattle.fbc_kinds.specs.declared.pages.Page.TheVariants as kind
use Rattle.fbc_kinds.specs.declared.pages.Cell.{Cell}
use Rattle.fbc_kinds.specs.Chain.{state_of}
use Rattle.fbc_kinds.specs.View.{View, cell_at, is_back, is_committed_state, is_top}
use Rattle.fbc_reach.specs.Walk.{walked, data_namings, relation_of_role, relation_walked}
use Rattle.fbc_reach.specs.declared.namings.Naming.{Naming}

-- A version names another cell as its back version's. It is a good link where a back value of the relation stands
-- there, of a smaller number.
pub record Link : Type 0 where
  pub page : ℕ
  pub cell : ℕ
  pub back_page : ℕ
  pub back_cell : ℕ
  pub good : Bool

abbrev pub is_relation : ℕ → Option ℕ → Bool
is_relation relation None = false
is_relation relation (Some other) = other == relation

abbrev pub is_smaller_back : ℕ → Option Cell → Bool
is_smaller_back number None = false
is_smaller_back number (Some version) = is_back version.flag && nat_lt version.number number

abbrev pub is_back_value : View → ℕ → ℕ → ℕ → ℕ → Bool
is_back_value view relation number page cell =
    is_relation relation (relation_walked view page) && is_smaller_back number (cell_at view page cell)

abbrev pub link_of : View → ℕ → ℕ → ℕ → Cell → Link
link_of view relation page cell version = record {
  page = page;
  cell = cell;
  back_page = version.back_page;
  back_cell = version.back_cell;
  good = is_back_value view relation version.number version.back_page version.back_cell;
}

-- The links along a chain, at most so many: from a version down, as far as they are good.
abbrev pub links_from : View → ℕ → ℕ → ℕ → ℕ → Option Cell → List Link
links_from view relation zero page cell version = []
links_from view relation (suc count) page cell None = []
links_from view relation (suc count) page cell (Some version) =
    if version.back_page == 0 then []
    else link_of view relation page cell version
    ∷ (if is_back_value view relation version.number version.back_page version.back_cell
    then links_from view relation count version.back_page version.back_cell (cell_at view version.back_page version.back_cell)
    else [])

-- Numbers fall along good links, so there are at most so many below a top as its number says.
abbrev pub links_of_top : View → ℕ → ℕ → ℕ → Cell → List Link
links_of_top view relation page cell version =
    if is_top version.flag then links_from view relation (suc version.number) page cell (Some version) else []

-- The links below the tops of a data page, cell by cell.
abbrev pub links_of_cells : View → ℕ → ℕ → ℕ → List Cell → List Link
links_of_cells view relation page place [] = []
links_of_cells view relation page place (version ∷ versions) =
    links_of_top view relation page place version ++ links_of_cells view relation page (suc place) versions

abbrev pub cells_of : Option Page → List Cell
cells_of (Some (kind.Data d)) = d.cells
cells_of _ = []

abbrev pub links_of_page : View → ℕ → Option ℕ → List Link
links_of_page view page None = []
links_of_page view page (Some relation) = links_of_cells view relation page 0 (cells_of (view page))

-- The links of all chains: page by page as the data pages are walked.
abbrev pub links : View → List Link
links view = flat_map (λ (n : Naming). links_of_page view n.page (relation_of_role n.role)) (walked (data_namings view))

-- Of the versions that name one back version all but the first are at fault, and each that names none.
abbrev pub is_to_same : Link → Link → Bool
is_to_same link other = other.good && (other.back_page == link.back_page) && (other.back_cell == link.back_cell)

abbrev pub is_from_same : Link → Option Link → Bool
is_from_same link None = false
is_from_same link (Some first) = (first.page == link.page) && (first.cell == link.cell)

abbrev pub is_faulty : List Link → Link → Bool
is_faulty all link = not link.good || not (is_from_same link (find (is_to_same link) all))

-- A version stands there whose number is not committed.
abbrev pub is_uncommitted : View → Option Cell → Bool
is_uncommitted view None = false
is_uncommitted view (Some version) = not (is_committed_state (state_of view version.number))

-- A page with a version that is at fault, and one with a version that stands below the top of a chain and is not
-- committed.
abbrev pub breaks_chain : View → ℕ → Bool
breaks_chain view page = list_any (λ (link : Link). (link.page == page) && is_faulty (links view) link) (links view)

abbrev pub breaks_below : View → ℕ → Bool
breaks_below view page =
    list_any
    (λ (link : Link). link.good && (link.back_page == page) && is_uncommitted view (cell_at view link.back_page link.back_cell))
    (links view)
