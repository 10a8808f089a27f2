-- The links of the walk are links of versions that the view reaches.
use Rattle.std.proofs.Common.{◌≡◌, ℕ, zero, suc, ◌+◌, ◌==◌, Bool, true, false, List, [], ◌∷◌, Option, Some, None, ◌⊎◌, inl, inr, refl, subst, arith, slice_get, if◌then◌else◌}
use Rattle.fbc_kinds.specs.declared.pages.Cell.{Cell}
use Rattle.fbc_kinds.specs.declared.pages.Header.{Header}
use Rattle.fbc_kinds.specs.declared.pages.Page.{Page}
use Rattle.fbc_kinds.specs.declared.pages.Page.TheVariants as kind
use Rattle.fbc_kinds.specs.View.{View, header_of, cell_at, cell_in, is_top}
use Rattle.fbc_kinds.specs.Reach.{ReachesCell, top, along, LinksTo}
use Rattle.fbc_reach.specs.declared.namings.Role.{Role}
use Rattle.fbc_reach.specs.declared.namings.Naming.{Naming}
use Rattle.fbc_reach.specs.Walk.{walked, is_first, data_namings, relation_of_role}
use Rattle.fbc_links.specs.Links.{Link, is_back_value, link_of, links_from, links_of_top, links_of_cells, cells_of, links_of_page, links}
use Rattle.fbc_reach.proofs.Members.{In, in_either, filter_in, flat_map_in}
use Rattle.fbc_reach.proofs.DataNamings.{HaveAllSlots}
use Rattle.fbc_reach.proofs.Reached.{data_of_naming}

pub stands_cell : (o : Option Page) (cell : ℕ) (version : Cell) → slice_get (cells_of o) cell ≡ Some version → cell_in o cell ≡ Some version
stands_cell (Some (kind.Data d)) cell version e = e
stands_cell None cell version e = cc
stands_cell (Some (kind.Header h)) cell version e = cc
stands_cell (Some (kind.Inventory i)) cell version e = cc
stands_cell (Some (kind.Tip t)) cell version e = cc
stands_cell (Some (kind.Pointer p)) cell version e = cc
stands_cell (Some kind.Blank) cell version e = cc

-- A link of the walk is that of a version that is reached.
pub record IsLinkOf (view : View) (link : Link) : Type 0 where
  pub relation : ℕ
  pub place : ℕ
  pub at : ℕ
  pub version : Cell
  pub to : LinksTo view relation place at version version.back_page version.back_cell
  pub is : link_of view relation place at version ≡ link

chain_in : (view : View) (relation count page cell : ℕ) (version : Cell) (l : Link) → ReachesCell view relation page cell → cell_at view page cell ≡ Some version
    → In (links_from view relation count page cell (Some version)) l → IsLinkOf view l
chain_in view relation zero page cell version l reached stands i = absurd i
chain_in view relation (suc count) page cell version l reached stands i = go (version.back_page == 0) refl i (chain_in view relation count version.back_page version.back_cell)
  where
    below : (count : ℕ) (o : Option Cell) → cell_at view version.back_page version.back_cell ≡ o → (version.back_page == 0) ≡ false
        → In (links_from view relation count version.back_page version.back_cell o) l
        → ((w : Cell) (k : Link) → ReachesCell view relation version.back_page version.back_cell → cell_at view version.back_page version.back_cell ≡ Some w → In (links_from view relation count version.back_page version.back_cell (Some w)) k → IsLinkOf view k)
        → IsLinkOf view l
    below zero o here some i later = absurd i
    below (suc count) None here some i later = absurd i
    below (suc count) (Some w) here some i later =
        later w l (along page cell version.back_page version.back_cell version reached stands (record { some = some; page_is = refl; cell_is = refl })) here i

    next : (b : Bool) → (version.back_page == 0) ≡ false
        → In (if b then links_from view relation count version.back_page version.back_cell (cell_at view version.back_page version.back_cell) else []) l
        → ((w : Cell) (k : Link) → ReachesCell view relation version.back_page version.back_cell → cell_at view version.back_page version.back_cell ≡ Some w → In (links_from view relation count version.back_page version.back_cell (Some w)) k → IsLinkOf view k)
        → IsLinkOf view l
    next true some i later = below count (cell_at view version.back_page version.back_cell) refl some i later
    next false some i later = absurd i

    go : (b : Bool) → (version.back_page == 0) ≡ b
        → In (if b then [] else link_of view relation page cell version ∷ (if is_back_value view relation version.number version.back_page version.back_cell then links_from view relation count version.back_page version.back_cell (cell_at view version.back_page version.back_cell) else [])) l
        → ((w : Cell) (k : Link) → ReachesCell view relation version.back_page version.back_cell → cell_at view version.back_page version.back_cell ≡ Some w → In (links_from view relation count version.back_page version.back_cell (Some w)) k → IsLinkOf view k)
        → IsLinkOf view l
    go true is i later = absurd i
    go false is (inl e) later = record {
      relation = relation;
      place = page;
      at = cell;
      version = version;
      to = record { reached = reached; stands = stands; names = record { some = is; page_is = refl; cell_is = refl } };
      is = e;
    }
    go false is (inr i) later = next (is_back_value view relation version.number version.back_page version.back_cell) is i later

pub record StandsInCells (view : View) (relation page place : ℕ) (cells : List Cell) (l : Link) : Type 0 where
  pub at : ℕ
  pub version : Cell
  pub stands : slice_get cells at ≡ Some version
  pub is_first_of : is_top version.flag ≡ true
  pub within : In (links_from view relation (suc version.number) page (place + at) (Some version)) l

top_in : (view : View) (relation page place : ℕ) (version : Cell) (l : Link) → In (links_of_top view relation page place version) l
    → (is_top version.flag ≡ true) × In (links_from view relation (suc version.number) page place (Some version)) l
top_in view relation page place version l i = go (is_top version.flag) refl i
  where
    go : (b : Bool) → is_top version.flag ≡ b → In (if b then links_from view relation (suc version.number) page place (Some version) else []) l
        → (is_top version.flag ≡ true) × In (links_from view relation (suc version.number) page place (Some version)) l
    go true is i = (is, i)
    go false is i = absurd i

cells_in : (view : View) (relation page place : ℕ) (cells : List Cell) (l : Link) → In (links_of_cells view relation page place cells) l → StandsInCells view relation page place cells l
cells_in view relation page place [] l i = absurd i
cells_in view relation page place (x ∷ xs) l i = go (in_either (links_of_top view relation page place x) _ l i) (cells_in view relation page (suc place) xs l)
  where
    go : In (links_of_top view relation page place x) l ⊎ In (links_of_cells view relation page (suc place) xs) l
        → (In (links_of_cells view relation page (suc place) xs) l → StandsInCells view relation page (suc place) xs l)
        → StandsInCells view relation page place (x ∷ xs) l
    go (inl i) later =
        let found = top_in view relation page place x l i in
        let start : place ≡ place + 0 = omega arith in
        let Q : ℕ → Type 0 = λ at. In (links_from view relation (suc x.number) page at (Some x)) l in
        record { at = 0; version = x; stands = refl; is_first_of = found.0; within = subst Q start found.1 }
    go (inr i) later =
        let found = later i in
        let next : suc place + found.at ≡ place + suc found.at = omega arith in
        let Q : ℕ → Type 0 = λ at. In (links_from view relation (suc found.version.number) page at (Some found.version)) l in
        record { at = suc found.at; version = found.version; stands = found.stands; is_first_of = found.is_first_of; within = subst Q next found.within }

pub link_from : (view : View) → ((h : Header) → header_of view ≡ Some h → HaveAllSlots view) → (l : Link) → In (links view) l → IsLinkOf view l
link_from view all l i =
    let from = flat_map_in (λ (n : Naming). links_of_page view n.page (relation_of_role n.role)) (walked (data_namings view)) l i in
    let n : Naming = from.0 in
    let known = data_of_naming view all n (filter_in (is_first (data_namings view)) (data_namings view) n from.1).0 in
    let P : Role → Type 0 = λ r. In (links_of_page view n.page (relation_of_role r)) l in
    let found = cells_in view known.relation n.page 0 (cells_of (view n.page)) l (subst P known.role_is from.2) in
    let stands : cell_at view n.page found.at ≡ Some found.version = stands_cell (view n.page) found.at found.version found.stands in
    let start : 0 + found.at ≡ found.at = omega arith in
    let Q : ℕ → Type 0 = λ at. In (links_from view known.relation (suc found.version.number) n.page at (Some found.version)) l in
    chain_in view known.relation (suc found.version.number) n.page found.at found.version l
    (top known.sequence n.page found.at found.version known.reached stands found.is_first_of) stands (subst Q start found.within)
