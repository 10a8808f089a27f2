-- The links of all data pages, and what is kept where all of them were followed.
use Rattle.std.proofs.Common.{◌≡◌, ℕ, ◌+◌, ◌-◌, ◌<◌, ◌≤◌, ◌^◌, Bool, true, false, cond, if◌then◌else◌, List, [], ◌∷◌, ◌++◌, ◌||◌, length, find, is_some, take, get_or, Option, Some, None, refl, sym, subst, ap, ◌∙◌, arith, append-nil}
use Rattle.std.specs.List.{flat_map, list_any}
use Rattle.std.specs.Option.{option_map}
use Rattle.std.proofs.Math.Nat.{div-le_self}
use Rattle.std.proofs.lemmas.List.{take_more}
use Rattle.std.proofs.lemmas.List.Concat.{flat_map-append}
use Rattle.fbc_kinds.specs.declared.pages.Page.{Page}
use Rattle.fbc_kinds.specs.declared.pages.Page.TheVariants as kind
use Rattle.fbc_kinds.specs.declared.shapes.Shape.{Shape}
use Rattle.fbc_kinds.specs.File.{IsViewOf}
use Rattle.fbc_kinds.specs.Limits.{IsPageSize, cells}
use Rattle.fbc_kinds.specs.Spelling.{listed_length}
use Rattle.fbc_kinds.specs.View.{View}
use Rattle.fbc_links.specs.Chains.{AreChainsOf, is_to}
use Rattle.fbc_links.specs.Following.{AreFollowed, AreMarks, links_of_naming, source}
use Rattle.fbc_links.specs.Links.{Link, cells_of, links, links_of_cells, links_of_page}
use Rattle.fbc_links.specs.Versions.{cells_walked}
use Rattle.fbc_reach.specs.Walk.{data_namings, is_first, relation_of_role}
use Rattle.fbc_links.specs.declared.chains.Chains.{Chains}
use Rattle.fbc_reach.specs.declared.namings.Naming.{Naming}
use Rattle.fbc_reach.specs.declared.namings.Role.{Role}
use Rattle.fbc_reach.specs.declared.namings.Role.TheVariants as role
use Rattle.fbc_reach.proofs.ShownPages.{shows}
use Rattle.fbc_links.proofs.WalkedPages.{either_same}
use Rattle.fbc_reach.proofs.Walks.{flat_filter}

-- A page has few cells.
few_cells : (size greatest : ℕ) → IsPageSize size → cells size greatest ≤ 2 ^ 16
few_cells size greatest is =
    let quotient = div-le_self (size - 16) (12 + greatest) in
    let bound : size ≤ 16384 = grind arith in
    omega (arith, quotient, bound)

few_of_page : (shape : Shape) (bytes : List ℕ) (view : View) → IsViewOf shape bytes view → IsPageSize shape.size → (page : ℕ) → length (cells_of (view page)) ≤ 2 ^ 16
few_of_page shape bytes view shown size page = go (view page) refl
  where
    go : (o : Option Page) → view page ≡ o → length (cells_of o) ≤ 2 ^ 16
    go (Some (kind.Data d)) stands =
        let count = (shows shape bytes view shown page (kind.Data d) stands).spelled.fits.count in
        let few = few_cells shape.size (listed_length shape d.relation) size in
        omega (arith, count, few)
    go None stands = omega arith
    go (Some (kind.Header x)) stands = omega arith
    go (Some (kind.Inventory x)) stands = omega arith
    go (Some (kind.Tip x)) stands = omega arith
    go (Some (kind.Pointer x)) stands = omega arith
    go (Some kind.Blank) stands = omega arith

pub few_walked : (shape : Shape) (bytes : List ℕ) (view : View) → IsViewOf shape bytes view → IsPageSize shape.size → (n : Naming) → length (cells_walked view n) ≤ 2 ^ 16
few_walked shape bytes view shown size n = go (is_first (data_namings view) n)
  where
    go : (b : Bool) → length (if b then cells_of (view n.page) else []) ≤ 2 ^ 16
    go true = few_of_page shape bytes view shown size n.page
    go false = omega arith

-- The links of a page, if it is walked for the role in which it is named.
pub walked_links : (view : View) (n : Naming) (relation sequence : ℕ) → n.role ≡ role.Data relation sequence
    → links_of_cells view relation n.page 0 (cells_walked view n) ≡ links_of_naming view n
walked_links view n relation sequence is = go (is_first (data_namings view) n)
  where
    go : (b : Bool) → links_of_cells view relation n.page 0 (if b then cells_of (view n.page) else []) ≡ (if b then links_of_page view n.page (relation_of_role n.role) else [])
    go true = ap (λ r. links_of_page view n.page (relation_of_role r)) (sym is)
    go false = refl

abbrev no_links : List Link
no_links = []

pub none_walked : (view : View) (n : Naming) → ((relation sequence : ℕ) → n.role ≡ role.Data relation sequence → ⊥) → links_of_naming view n ≡ []
none_walked view n other = go n.role refl
  where
    go : (named : Role) → n.role ≡ named → (if is_first (data_namings view) n then links_of_page view n.page (relation_of_role named) else []) ≡ []
    go (role.Data relation sequence) is = absurd (other relation sequence is)
    go role.Header is = either_same (is_first (data_namings view) n) no_links
    go (role.Inventory s) is = either_same (is_first (data_namings view) n) no_links
    go (role.Tip s) is = either_same (is_first (data_namings view) n) no_links
    go (role.Pointer r s) is = either_same (is_first (data_namings view) n) no_links

-- One naming more.
pub next_page : (view : View) (found : List Naming) (k : ℕ) (other : Naming) (chains : Chains) → k < length found
    → AreFollowed view (flat_map (links_of_naming view) (take k found) ++ links_of_naming view (get_or found k other)) chains
    → AreFollowed view (flat_map (links_of_naming view) (take (k + 1) found)) chains
next_page view found k other chains within followed =
    let f : Naming → List Link = links_of_naming view in
    let P : List Link → Type 0 = λ all. AreFollowed view all chains in
    subst P
    (sym
    (ap (flat_map f) (take_more found k other within)
    ∙ flat_map-append f (take k found) (get_or found k other ∷ [])
    ∙ ap (λ links. flat_map f (take k found) ++ links) (append-nil (f (get_or found k other)))))
    followed

pub all_links : (view : View) → flat_map (links_of_naming view) (data_namings view) ≡ links view
all_links view =
    flat_filter (λ (n : Naming). links_of_page view n.page (relation_of_role n.role)) (links_of_naming view) (is_first (data_namings view)) (λ n. refl) (data_namings view)

-- What is kept of the links of all chains.
named_some : (page cell : ℕ) (all : List Link) → is_some (option_map source (find (is_to page cell) all)) ≡ list_any (is_to page cell) all
named_some page cell [] = refl
named_some page cell (x ∷ xs) = go (is_to page cell x) (named_some page cell xs)
  where
    go : (b : Bool) → is_some (option_map source (find (is_to page cell) xs)) ≡ list_any (is_to page cell) xs
        → is_some (option_map source (cond b (Some x) (find (is_to page cell) xs))) ≡ (b || list_any (is_to page cell) xs)
    go true later = refl
    go false later = later

pub are_chains : (view : View) (chains : Chains) → AreMarks view (links view) chains → AreChainsOf view chains
are_chains view chains marks = record {
  linked = λ page cell. ap is_some (marks.namers page cell) ∙ named_some page cell (links view);
  broken = marks.faults;
  below = marks.belows;
}
