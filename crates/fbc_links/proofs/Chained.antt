-- The links of the walk are those of the versions that the view reaches, where no version is at fault.
use Rattle.std.proofs.Common.{◌≡◌, ℕ, zero, suc, ◌+◌, ◌<◌, ◌==◌, true, false, List, [], ◌∷◌, Option, Some, None, inl, inr, refl, sym, subst, ap, ◌∙◌, arith, find, slice_get}
use Rattle.std.specs.List.{list_any}
use Rattle.std.proofs.lemmas.Bool.{ltb-true}
use Rattle.fbc_kinds.specs.declared.pages.Cell.{Cell}
use Rattle.fbc_kinds.specs.declared.pages.Page.{Page}
use Rattle.fbc_kinds.specs.declared.pages.Page.TheVariants as kind
use Rattle.fbc_kinds.specs.View.{View, cell_at, cell_in, is_top, is_back}
use Rattle.fbc_kinds.specs.Reach.{ReachesCell, top, along}
use Rattle.fbc_kinds.proofs.Heads.{both_pass, true_from_not}
use Rattle.fbc_kinds.proofs.Tests.{both_fail, same_from_test, test_of_same}
use Rattle.fbc_reach.specs.declared.namings.Role.TheVariants as role
use Rattle.fbc_reach.specs.declared.namings.Naming.{Naming}
use Rattle.fbc_reach.specs.Walk.{naming, is_of_page, is_first, walked, data_namings, namings, relation_of_role, relation_of_naming}
use Rattle.fbc_links.specs.Links.{Link, is_relation, is_smaller_back, is_back_value, link_of, links_from, links_of_top, links_of_cells, cells_of, links_of_page, links, is_to_same, is_from_same, is_faulty}
use Rattle.fbc_reach.proofs.Members.{In, in_left, in_right, in_filter, in_flat_map, any_here, find_in}
use Rattle.fbc_reach.proofs.Reached.{AreSingle, first_of, from_data, data_walked}

pub cell_stands : (o : Option Page) (cell : ℕ) (version : Cell) → cell_in o cell ≡ Some version → slice_get (cells_of o) cell ≡ Some version
cell_stands (Some (kind.Data d)) cell version e = e
cell_stands _ cell version e = cc

in_top : (view : View) (relation page place : ℕ) (version : Cell) (l : Link) → is_top version.flag ≡ true
    → In (links_from view relation (suc version.number) page place (Some version)) l → In (links_of_top view relation page place version) l
in_top view relation page place version l is i = rw is i

in_cells : (view : View) (relation page place : ℕ) (cells : List Cell) (k : ℕ) (version : Cell) (l : Link)
    → slice_get cells k ≡ Some version → is_top version.flag ≡ true
    → In (links_from view relation (suc version.number) page (place + k) (Some version)) l → In (links_of_cells view relation page place cells) l
in_cells view relation page place [] k version l e is i = cc
in_cells view relation page place (x ∷ xs) zero version l e is i =
    let same : version ≡ x = cc in
    let P : Cell → Type 0 = λ v. In (links_of_top view relation page place v) l in
    let Q : ℕ → Type 0 = λ at. In (links_from view relation (suc version.number) page at (Some version)) l in
    let start : place + 0 ≡ place = omega arith in
    in_left (links_of_top view relation page place x) _ l (subst P same (in_top view relation page place version l is (subst Q start i)))
in_cells view relation page place (x ∷ xs) (suc k) version l e is i =
    let Q : ℕ → Type 0 = λ at. In (links_from view relation (suc version.number) page at (Some version)) l in
    let next : place + suc k ≡ suc place + k = omega arith in
    in_right (links_of_top view relation page place x) _ l (in_cells view relation page (suc place) xs k version l e is (subst Q next i))

-- The link of a version stands first in its chain, and the links below a good link follow.
link_here : (view : View) (relation count page cell : ℕ) (version : Cell) → version.number < count → (version.back_page == 0) ≡ false
    → In (links_from view relation count page cell (Some version)) (link_of view relation page cell version)
link_here view relation zero page cell version enough some = absurd (omega arith)
link_here view relation (suc count) page cell version enough some = rw some (inl refl)

links_below : (view : View) (relation count page cell : ℕ) (version : Cell) (l : Link) → (version.back_page == 0) ≡ false
    → is_back_value view relation version.number version.back_page version.back_cell ≡ true
    → In (links_from view relation count version.back_page version.back_cell (cell_at view version.back_page version.back_cell)) l
    → In (links_from view relation (suc count) page cell (Some version)) l
links_below view relation count page cell version l some good i = rw (some, good) (inr i)

-- A version of the walk: its links are among those of the walk, and its page is a data page of its relation.
pub record OnWalk (view : View) (relation page cell : ℕ) (version : Cell) : Type 0 where
  pub count : ℕ
  pub enough : version.number < count
  pub within : (l : Link) → In (links_from view relation count page cell (Some version)) l → In (links view) l
  pub naming_of : Naming
  pub is_named : In (data_namings view) naming_of
  pub page_is : naming_of.page ≡ page

pub record IsBack (view : View) (relation number page cell : ℕ) : Type 0 where
  pub naming_of : Naming
  pub is_named : In (data_namings view) naming_of
  pub page_is : naming_of.page ≡ page
  pub relation_is : relation_of_role naming_of.role ≡ Some relation
  pub back : Cell
  pub stands : cell_at view page cell ≡ Some back
  pub is_value : is_back back.flag ≡ true
  pub smaller : back.number < number

relation_found : (relation : ℕ) (o : Option Naming) → is_relation relation (relation_of_naming o) ≡ true → (n : Naming) × (o ≡ Some n) × (relation_of_role n.role ≡ Some relation)
relation_found relation None e = cc
relation_found relation (Some n) e = go (relation_of_role n.role) refl e
  where
    go : (o : Option ℕ) → relation_of_role n.role ≡ o → is_relation relation o ≡ true → (m : Naming) × (Some n ≡ Some m) × (relation_of_role m.role ≡ Some relation)
    go None is e = cc
    go (Some other) is e = (n, refl, is ∙ ap Some (same_from_test other relation e))

smaller_found : (number : ℕ) (o : Option Cell) → is_smaller_back number o ≡ true → (back : Cell) × (o ≡ Some back) × (is_back back.flag ≡ true) × (back.number < number)
smaller_found number None e = cc
smaller_found number (Some back) e = let both = both_pass _ _ e in (back, refl, both.0, ltb-true _ _ both.1)

pub back_found : (view : View) (relation number page cell : ℕ) → is_back_value view relation number page cell ≡ true → IsBack view relation number page cell
back_found view relation number page cell e =
    let both = both_pass _ _ e in
    let n = relation_found relation (find (is_of_page page) (data_namings view)) both.0 in
    let member = find_in (is_of_page page) (data_namings view) n.0 n.1 in
    let value = smaller_found number (cell_at view page cell) both.1 in
    record {
      naming_of = n.0;
      is_named = member.0;
      page_is = same_from_test _ _ member.1;
      relation_is = n.2;
      back = value.0;
      stands = value.1;
      is_value = value.2;
      smaller = value.3;
    }

-- The link and what is known of it where it is at no fault.
pub record IsSoundLink (view : View) (relation page cell : ℕ) (version : Cell) : Type 0 where
  pub member : In (links view) (link_of view relation page cell version)
  pub good : is_back_value view relation version.number version.back_page version.back_cell ≡ true
  pub first : is_from_same (link_of view relation page cell version) (find (is_to_same (link_of view relation page cell version)) (links view)) ≡ true

module _ (view : View) (single : AreSingle view)
    (faultless : (l : Link) → In (links view) l → list_any (is_of_page l.page) (namings view) ≡ true → is_faulty (links view) l ≡ false) where
  pub sound_link : (relation page cell : ℕ) (version : Cell) → OnWalk view relation page cell version → (version.back_page == 0) ≡ false → IsSoundLink view relation page cell version
  sound_link relation page cell version on some =
      let l : Link = link_of view relation page cell version in
      let member = on.within l (link_here view relation on.count page cell version on.enough some) in
      let named : list_any (is_of_page page) (namings view) ≡ true = any_here (is_of_page page) (namings view) on.naming_of (from_data view on.naming_of on.is_named) (test_of_same _ _ on.page_is) in
      let none = both_fail _ _ (faultless l member named) in
      record { member = member; good = true_from_not _ none.0; first = true_from_not _ none.1 }

  on_top : (relation sequence page cell : ℕ) (version w : Cell) → In (data_namings view) (naming page (role.Data relation sequence))
      → cell_at view page cell ≡ Some version → is_top version.flag ≡ true → cell_at view page cell ≡ Some w → OnWalk view relation page cell w
  on_top relation sequence page cell version w i stands is here =
      let same : version ≡ w = (let both : Some version ≡ Some w = sym stands ∙ here in cc) in
      let n : Naming = naming page (role.Data relation sequence) in
      let first = first_of (data_namings view) n i (λ m j e. single n m (from_data view n i) (from_data view m j) (sym e)) in
      let begins : 0 + cell ≡ cell = omega arith in
      record {
        count = suc w.number;
        enough = omega arith;
        within = λ l j.
            let Q : ℕ → Type 0 = λ at. In (links_from view relation (suc w.number) page at (Some w)) l in
            in_flat_map (λ (m : Naming). links_of_page view m.page (relation_of_role m.role)) (walked (data_namings view)) n l
            (in_filter (is_first (data_namings view)) (data_namings view) n i first)
            (in_cells view relation page 0 (cells_of (view page)) cell w l (cell_stands (view page) cell w here) (ap (λ (v : Cell). is_top v.flag) (sym same) ∙ is) (subst Q (sym begins) j));
        naming_of = n;
        is_named = i;
        page_is = refl;
      }

  on_below : (relation page cell : ℕ) (version w : Cell) → OnWalk view relation page cell version → (version.back_page == 0) ≡ false
      → cell_at view version.back_page version.back_cell ≡ Some w → OnWalk view relation version.back_page version.back_cell w
  on_below relation page cell version w on some here = go on.count on.enough on.within
    where
      go : (count : ℕ) → version.number < count → ((l : Link) → In (links_from view relation count page cell (Some version)) l → In (links view) l) → OnWalk view relation version.back_page version.back_cell w
      go zero enough within = absurd (omega arith)
      go (suc count) enough within =
          let link = sound_link relation page cell version on some in
          let found = back_found view relation version.number version.back_page version.back_cell link.good in
          let same : found.back ≡ w = (let both : Some found.back ≡ Some w = sym found.stands ∙ here in cc) in
          let smaller : w.number < version.number = (let P : Cell → Type 0 = λ v. v.number < version.number in subst P same found.smaller) in
          record {
            count = count;
            enough = omega arith;
            within = λ l j.
                let P : Option Cell → Type 0 = λ o. In (links_from view relation count version.back_page version.back_cell o) l in
                within l (links_below view relation count page cell version l some link.good (subst P (sym here) j));
            naming_of = found.naming_of;
            is_named = found.is_named;
            page_is = found.page_is;
          }

  pub on_walk : (relation page cell : ℕ) → ReachesCell view relation page cell → (w : Cell) → cell_at view page cell ≡ Some w → OnWalk view relation page cell w
  on_walk relation _ _ (top sequence page cell version reached stands is) w here =
      on_top relation sequence page cell version w (data_walked view single relation sequence page reached) stands is here
  on_walk relation _ _ (along page cell back_page back_cell version reached stands names) w here =
      let under : cell_at view version.back_page version.back_cell ≡ Some w = ap (λ p. cell_at view p version.back_cell) names.page_is ∙ ap (cell_at view back_page) names.cell_is ∙ here in
      let on = on_below relation page cell version w (on_walk relation page cell reached version stands) names.some under in
      let P : ℕ → Type 0 = λ p. OnWalk view relation p version.back_cell w in
      let Q : ℕ → Type 0 = λ c. OnWalk view relation back_page c w in
      subst Q names.cell_is (subst P names.page_is on)
