-- Where no page that is named breaks a rule, the view is sound.
use Rattle.std.proofs.Common.{◌≡◌, ℕ, zero, suc, ◌+◌, ◌*◌, ◌<◌, ◌==◌, ◌&&◌, true, false, not, nat_lt, List, [], ◌∷◌, Option, Some, None, inl, inr, refl, sym, subst, ap, ◌∙◌, arith, find, slice_get}
use Rattle.std.specs.List.{list_any}
use Rattle.std.proofs.lemmas.Bool.{ltb-true}
use Rattle.fbc_kinds.specs.declared.pages.Page.{Page}
use Rattle.fbc_kinds.specs.declared.pages.Page.TheVariants as kind
use Rattle.fbc_kinds.specs.declared.pages.Cell.{Cell}
use Rattle.fbc_kinds.specs.declared.pages.State.{State}
use Rattle.fbc_kinds.specs.declared.shapes.Shape.{Shape}
use Rattle.fbc_kinds.specs.Limits.{tip_numbers}
use Rattle.fbc_kinds.specs.Chain.{state_of}
use Rattle.fbc_kinds.specs.File.{page_bytes, IsViewOf}
use Rattle.fbc_kinds.specs.View.{View, size_of, next_of, cell_at, cell_in, state_in, is_taken, is_empty, is_active_state, is_committed_state}
use Rattle.fbc_kinds.specs.Reach as reach
use Rattle.fbc_kinds.specs.Sound.{IsSound, IsBackValue}
use Rattle.fbc_kinds.proofs.Heads.{true_from_not, both_pass}
use Rattle.fbc_kinds.proofs.Tests.{same_from_test, test_of_same, fails_under, both_fail}
use Rattle.fbc_reach.specs.declared.namings.Role.{Role}
use Rattle.fbc_reach.specs.declared.namings.Role.TheVariants as role
use Rattle.fbc_reach.specs.Roles.{reached_as, is_late_in, is_late_version, has_late_state}
use Rattle.fbc_reach.specs.Walk.{naming, is_of_page, namings, relation_of_role}
use Rattle.fbc_links.specs.Links.{Link, link_of, links, is_from_same, is_faulty, is_uncommitted}
use Rattle.fbc_validator.specs.Damage.{AreSpelled}
use Rattle.fbc_reach.proofs.Members.{In, any_false, any_here}
use Rattle.fbc_validator.proofs.NoRule.{tests_passed}
use Rattle.fbc_reach.proofs.SameRoles.{as_named, reached_as_named, both_true}
use Rattle.fbc_reach.proofs.Reached.{AreSingle, reached_named, naming_reached, from_data}
use Rattle.fbc_links.proofs.Chained.{IsBack, IsSoundLink, back_found, sound_link, on_walk}
use Rattle.fbc_reach.proofs.ShownPages.{all_slots}
use Rattle.fbc_validator.proofs.Undamaged.{AreUnbroken, passes, in_role, fits, single}

pub in_get : {X : Type 0} (xs : List X) (k : ℕ) (x : X) → slice_get xs k ≡ Some x → In xs x
in_get [] k x e = cc
in_get (y ∷ ys) zero x e = inl (let same : y ≡ x = cc in same)
in_get (y ∷ ys) (suc k) x e = inr (in_get ys k x e)

-- A number that is not late is below the next.
past_version : (size next relation sequence : ℕ) (o : Option Page) (cell : ℕ) (version : Cell) → cell_in o cell ≡ Some version
    → is_late_in size next (role.Data relation sequence) o ≡ false → is_empty version.flag ≡ false → version.number < next
past_version size next relation sequence (Some (kind.Data d)) cell version stands past holds =
    ltb-true _ _ (true_from_not _ (fails_under (not (is_empty version.flag)) (not (nat_lt version.number next))
    (any_false (is_late_version next) d.cells version past (in_get d.cells cell version stands)) (ap not holds)))
past_version size next relation sequence _ cell version stands past holds = cc

past_state : (next number : ℕ) (states : List State) (place : ℕ) (state : State) → slice_get states place ≡ Some state
    → has_late_state next number states ≡ false → is_active_state state ≡ false → number + place < next
past_state next number [] place state stands past changed = cc
past_state next number (s ∷ ss) zero state stands past changed =
    let same : s ≡ state = cc in
    let none = both_fail (not (is_active_state s) && not (nat_lt number next)) (has_late_state next (suc number) ss) past in
    let below = ltb-true _ _ (true_from_not _ (fails_under (not (is_active_state s)) (not (nat_lt number next)) none.0 (ap (λ (t : State). not (is_active_state t)) same ∙ ap not changed))) in
    omega arith
past_state next number (s ∷ ss) (suc place) state stands past changed =
    let none = both_fail (not (is_active_state s) && not (nat_lt number next)) (has_late_state next (suc number) ss) past in
    let below = past_state next (suc number) ss place state stands none.1 changed in
    omega arith

past_tip : (size next sequence : ℕ) (o : Option Page) (place : ℕ) (state : State) → state_in o place ≡ Some state
    → is_late_in size next (role.Tip sequence) o ≡ false → is_active_state state ≡ false → sequence * tip_numbers size + place < next
past_tip size next sequence (Some (kind.Tip t)) place state stands past changed = past_state next (sequence * tip_numbers size) t.states place state stands past changed
past_tip size next sequence _ place state stands past changed = cc

data_role : (named : Role) (relation : ℕ) → relation_of_role named ≡ Some relation → (sequence : ℕ) × (named ≡ role.Data relation sequence)
data_role (role.Data r s) relation e = (s, ap (λ x. role.Data x s) (let same : r ≡ relation = cc in same))
data_role _ relation e = cc

first_from : (link : Link) (o : Option Link) → is_from_same link o ≡ true → (f : Link) × (o ≡ Some f) × (f.page ≡ link.page) × (f.cell ≡ link.cell)
first_from link None e = cc
first_from link (Some f) e = let both = both_pass _ _ e in (f, refl, same_from_test _ _ both.0, same_from_test _ _ both.1)

module _ (shape : Shape) (bytes : List ℕ) (view : View) (shown : IsViewOf shape bytes view)
    (spelled : AreSpelled shape bytes view) (unbroken : AreUnbroken shape bytes view) where
  one : AreSingle view
  one = single shape bytes view shown spelled unbroken

  faultless : (l : Link) → In (links view) l → list_any (is_of_page l.page) (namings view) ≡ true → is_faulty (links view) l ≡ false
  faultless l i named =
      fails_under (l.page == l.page) (is_faulty (links view) l)
      (any_false (λ (link : Link). (link.page == l.page) && is_faulty (links view) link) (links view) l
      (tests_passed shape view l.page (page_bytes shape.size bytes l.page) (unbroken l.page named)).chained i)
      (test_of_same l.page l.page refl)

  reached_in : (r : reach.Role) (page : ℕ) → reach.Reaches view r page → In (namings view) (naming page (as_named r))
  reached_in r page e = reached_named view one (as_named r) page (ap (reach.page_for view) (reached_as_named r) ∙ e)

  fitting : (r : reach.Role) (page : ℕ) → reach.Reaches view r page → reach.shows_role r page (view page) ≡ true
  fitting r page e =
      sym (ap (λ x. reach.shows_role x page (view page)) (reached_as_named r))
      ∙ fits shape bytes view shown spelled unbroken (naming page (as_named r)) (reached_in r page e)

  taken : (r : reach.Role) (page : ℕ) → reach.Reaches view r page → is_taken view page ≡ true
  taken r page e = true_from_not _ (passes shape bytes view shown spelled unbroken (naming page (as_named r)) (reached_in r page e)).taken

  once : (r s : reach.Role) (page : ℕ) → reach.Reaches view r page → reach.Reaches view s page → r ≡ s
  once r s page e f =
      sym (reached_as_named r)
      ∙ ap reached_as (one (naming page (as_named r)) (naming page (as_named s)) (reached_in r page e) (reached_in s page f) refl)
      ∙ reached_as_named s

  link_to : (relation page cell back_page back_cell : ℕ) (version : Cell) → reach.LinksTo view relation page cell version back_page back_cell → IsSoundLink view relation page cell version
  link_to relation page cell back_page back_cell version to =
      sound_link view one faultless relation page cell version (on_walk view one faultless relation page cell to.reached version to.stands) to.names.some

  back_of : (relation page cell back_page back_cell : ℕ) (version : Cell) → reach.LinksTo view relation page cell version back_page back_cell
      → IsBack view relation version.number version.back_page version.back_cell
  back_of relation page cell back_page back_cell version to =
      back_found view relation version.number version.back_page version.back_cell (link_to relation page cell back_page back_cell version to).good

  back : (relation page cell back_page back_cell : ℕ) (version : Cell) → reach.LinksTo view relation page cell version back_page back_cell
      → IsBackValue view relation back_page back_cell version.number
  back relation page cell back_page back_cell version to =
      let found = back_of relation page cell back_page back_cell version to in
      let known = data_role found.naming_of.role relation found.relation_is in
      let reached : reach.page_for view (reached_as found.naming_of.role) ≡ Some found.naming_of.page =
      naming_reached view (all_slots shape bytes view shown) found.naming_of (from_data view found.naming_of found.is_named) in
      let P : ℕ → Type 0 = λ p. IsBackValue view relation p version.back_cell version.number in
      let Q : ℕ → Type 0 = λ c. IsBackValue view relation back_page c version.number in
      subst Q to.names.cell_is (subst P to.names.page_is (record {
        sequence = known.0;
        back = found.back;
        named = sym (ap (λ r. reach.page_for view (reached_as r)) known.1) ∙ reached ∙ ap Some found.page_is;
        stands = found.stands;
        is_value = found.is_value;
        smaller = found.smaller;
      }))

  -- The first good link to a place.
  abbrev first_to : ℕ → ℕ → Option Link
  first_to page cell = find (λ (other : Link). other.good && (other.back_page == page) && (other.back_cell == cell)) (links view)

  first_to_back : (relation page cell back_page back_cell : ℕ) (version : Cell) → reach.LinksTo view relation page cell version back_page back_cell
      → (f : Link) × (first_to back_page back_cell ≡ Some f) × (f.page ≡ page) × (f.cell ≡ cell)
  first_to_back relation page cell back_page back_cell version to =
      let link = link_to relation page cell back_page back_cell version to in
      let found = first_from (link_of view relation page cell version) (first_to version.back_page version.back_cell) link.first in
      (found.0, sym (ap (λ p. first_to p version.back_cell) to.names.page_is ∙ ap (first_to back_page) to.names.cell_is) ∙ found.1, found.2, found.3)

  back_once : (relation page cell other_relation other_page other_cell back_page back_cell : ℕ) (version other : Cell)
      → reach.LinksTo view relation page cell version back_page back_cell
      → reach.LinksTo view other_relation other_page other_cell other back_page back_cell
      → (page ≡ other_page) × (cell ≡ other_cell)
  back_once relation page cell other_relation other_page other_cell back_page back_cell version other to too =
      let a = first_to_back relation page cell back_page back_cell version to in
      let b = first_to_back other_relation other_page other_cell back_page back_cell other too in
      let same : a.0 ≡ b.0 = (let both : Some a.0 ≡ Some b.0 = sym a.1 ∙ b.1 in cc) in
      (sym a.2 ∙ ap (λ (l : Link). l.page) same ∙ b.2, sym a.3 ∙ ap (λ (l : Link). l.cell) same ∙ b.3)

  late_in : (named : Role) (page : ℕ) → In (namings view) (naming page named) → is_late_in (size_of view) (next_of view) named (view page) ≡ false
  late_in named page i =
      in_role shape bytes view shown spelled unbroken (λ r. is_late_in (size_of view) (next_of view) r (view page)) (naming page named) i
      (passes shape bytes view shown spelled unbroken (naming page named) i).past

  numbers : (relation sequence page cell : ℕ) (version : Cell) → reach.Reaches view (reach.DataRole relation sequence) page
      → cell_at view page cell ≡ Some version → is_empty version.flag ≡ false → version.number < next_of view
  numbers relation sequence page cell version e stands holds =
      past_version (size_of view) (next_of view) relation sequence (view page) cell version stands
      (late_in (role.Data relation sequence) page (reached_in (reach.DataRole relation sequence) page e)) holds

  states : (sequence page place : ℕ) (state : State) → reach.Reaches view (reach.TipRole sequence) page
      → state_in (view page) place ≡ Some state → is_active_state state ≡ false → sequence * tip_numbers (size_of view) + place < next_of view
  states sequence page place state e stands changed =
      past_tip (size_of view) (next_of view) sequence (view page) place state stands
      (late_in (role.Tip sequence) page (reached_in (reach.TipRole sequence) page e)) changed

  below : (relation page cell back_page back_cell : ℕ) (version back : Cell) → reach.LinksTo view relation page cell version back_page back_cell
      → cell_at view back_page back_cell ≡ Some back → is_committed_state (state_of view back.number) ≡ true
  below relation page cell back_page back_cell version back to stands =
      let link = link_to relation page cell back_page back_cell version to in
      let found = back_of relation page cell back_page back_cell version to in
      let l : Link = link_of view relation page cell version in
      let p : ℕ = version.back_page in
      let named : list_any (is_of_page p) (namings view) ≡ true = any_here (is_of_page p) (namings view) found.naming_of (from_data view found.naming_of found.is_named) (test_of_same _ _ found.page_is) in
      let none = any_false (λ (x : Link). x.good && (x.back_page == p) && is_uncommitted view (cell_at view x.back_page x.back_cell)) (links view) l
      (tests_passed shape view p (page_bytes shape.size bytes p) (unbroken p named)).committed link.member in
      let under : cell_at view p version.back_cell ≡ Some back = ap (λ q. cell_at view q version.back_cell) to.names.page_is ∙ ap (cell_at view back_page) to.names.cell_is ∙ stands in
      let fails : is_uncommitted view (cell_at view p version.back_cell) ≡ false = fails_under (l.good && (p == p)) _ none (both_true _ _ link.good (test_of_same p p refl)) in
      true_from_not _ (sym (ap (is_uncommitted view) under) ∙ fails)

  pub sound_without_damage : IsSound view
  sound_without_damage = record {
    fitting = fitting;
    taken = taken;
    once = once;
    back = back;
    back_once = back_once;
    numbers = numbers;
    states = states;
    below = below;
  }
