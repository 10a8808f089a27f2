-- In a sound view no page that is named breaks a rule.
use Rattle.std.proofs.Common.{◌≡◌, ℕ, suc, ◌+◌, ◌*◌, ◌<◌, ◌==◌, ◌&&◌, Bool, true, false, not, nat_lt, List, [], ◌∷◌, Option, Some, None, inl, inr, refl, sym, subst, ap, ◌∙◌, arith, find, slice_get, slice_index}
use Rattle.std.specs.List.{list_any}
use Rattle.std.proofs.lemmas.Bool.{lt-ltb}
use Rattle.fbc_kinds.specs.declared.pages.Page.{Page}
use Rattle.fbc_kinds.specs.declared.pages.Page.TheVariants as kind
use Rattle.fbc_kinds.specs.declared.pages.Cell.{Cell}
use Rattle.fbc_kinds.specs.declared.pages.State.{State}
use Rattle.fbc_kinds.specs.declared.shapes.Shape.{Shape}
use Rattle.fbc_kinds.specs.Limits.{IsPageSize, tip_numbers}
use Rattle.fbc_kinds.specs.File.{page_bytes, IsViewOf}
use Rattle.fbc_kinds.specs.Spelling.{first_broken_rule}
use Rattle.fbc_kinds.specs.View.{View, size_of, next_of, cell_at, cell_in, state_in, is_empty, is_active_state}
use Rattle.fbc_kinds.specs.Reach as reach
use Rattle.fbc_kinds.specs.Sound.{IsSound, IsBackValue}
use Rattle.fbc_kinds.proofs.Tests.{same_from_test, test_of_same, not_of_true, and_fails, and_fails_right, neither, false_from_not}
use Rattle.fbc_kinds.proofs.Heads.{both_pass}
use Rattle.fbc_reach.specs.declared.namings.Role.{Role}
use Rattle.fbc_reach.specs.declared.namings.Role.TheVariants as role
use Rattle.fbc_reach.specs.declared.namings.Naming.{Naming}
use Rattle.fbc_reach.specs.Roles.{reached_as, kind_code, is_same_role, has_other_relation, has_other_sequence, is_late_in, is_late_version, has_late_state}
use Rattle.fbc_reach.specs.Walk.{naming, is_of_page, is_in_role, namings, data_namings, relation_of_role, relation_of_naming}
use Rattle.fbc_links.specs.Links.{Link, is_relation, is_smaller_back, is_back_value, links, is_to_same, is_from_same, is_faulty, is_uncommitted, breaks_chain, breaks_below}
use Rattle.fbc_validator.specs.Damage.{in_some_role, has_other_kind, is_named_twice, breaks_future}
use Rattle.fbc_reach.proofs.Members.{In, any_none, any_some, find_in, find_some}
use Rattle.fbc_validator.proofs.NoRule.{no_rule_broken}
use Rattle.fbc_spelling.proofs.Shows.{shown_code, unbroken_shown}
use Rattle.fbc_reach.proofs.SameRoles.{as_named, as_named_reached, both_true, own_role, Fits, fits_from}
use Rattle.fbc_reach.proofs.Reached.{AreSingle, naming_reached, from_data, data_walked}
use Rattle.fbc_reach.proofs.ShownPages.{all_slots, shows}
use Rattle.fbc_validator.proofs.Undamaged.{AreUnbroken}
use Rattle.fbc_links.proofs.SoundLinks.{IsLinkOf, link_from}

get_in : {X : Type 0} (xs : List X) (x : X) → In xs x → (k : ℕ) × (slice_get xs k ≡ Some x)
get_in [] x i = absurd i
get_in (y ∷ ys) x (inl e) = (0, ap Some e)
get_in (y ∷ ys) x (inr i) = let found = get_in ys x i in (suc found.0, found.1)

none_late : (next : ℕ) (cells : List Cell) → ((cell : ℕ) (version : Cell) → slice_get cells cell ≡ Some version → is_empty version.flag ≡ false → version.number < next)
    → list_any (is_late_version next) cells ≡ false
none_late next cells each =
    any_none (is_late_version next) cells
    (λ version i.
    let found = get_in cells version i in
    and_fails (not (is_empty version.flag)) (not (nat_lt version.number next))
    (λ holds. not_of_true _ (lt-ltb _ _ (each found.0 version found.1 (false_from_not _ holds)))))

no_late_state : (next number : ℕ) (states : List State) → ((place : ℕ) (state : State) → slice_get states place ≡ Some state → is_active_state state ≡ false → number + place < next)
    → has_late_state next number states ≡ false
no_late_state next number [] each = refl
no_late_state next number (s ∷ ss) each =
    neither (not (is_active_state s) && not (nat_lt number next)) (has_late_state next (suc number) ss)
    (and_fails (not (is_active_state s)) (not (nat_lt number next))
    (λ changed. let below = each 0 s refl (false_from_not _ changed) in not_of_true _ (lt-ltb number next (omega arith))))
    (no_late_state next (suc number) ss (λ place state e changed. let below = each (suc place) state e changed in omega arith))

-- Nothing of the future stands in a page.
not_late : (view : View) → IsSound view → (named : Role) (page : ℕ) → reach.page_for view (reached_as named) ≡ Some page
    → is_late_in (size_of view) (next_of view) named (view page) ≡ false
not_late view sound (role.Data relation sequence) page reached = go (view page) refl
  where
    go : (o : Option Page) → view page ≡ o → is_late_in (size_of view) (next_of view) (role.Data relation sequence) o ≡ false
    go (Some (kind.Data d)) is = none_late (next_of view) d.cells (λ cell version e holds. sound.numbers relation sequence page cell version reached (ap (λ o. cell_in o cell) is ∙ e) holds)
    go None is = refl
    go (Some (kind.Header h)) is = refl
    go (Some (kind.Inventory i)) is = refl
    go (Some (kind.Tip t)) is = refl
    go (Some (kind.Pointer p)) is = refl
    go (Some kind.Blank) is = refl
not_late view sound (role.Tip sequence) page reached = go (view page) refl
  where
    go : (o : Option Page) → view page ≡ o → is_late_in (size_of view) (next_of view) (role.Tip sequence) o ≡ false
    go (Some (kind.Tip t)) is = no_late_state (next_of view) (sequence * tip_numbers (size_of view)) t.states (λ place state e changed. sound.states sequence page place state reached (ap (λ o. state_in o place) is ∙ e) changed)
    go None is = refl
    go (Some (kind.Header h)) is = refl
    go (Some (kind.Inventory i)) is = refl
    go (Some (kind.Pointer p)) is = refl
    go (Some (kind.Data d)) is = refl
    go (Some kind.Blank) is = refl
not_late view sound role.Header page reached = refl
not_late view sound (role.Inventory sequence) page reached = refl
not_late view sound (role.Pointer relation sequence) page reached = refl

shown_in : (named : Role) (number : ℕ) (o : Option Page) → reach.shows_role (reached_as named) number o ≡ true → (page : Page) × (o ≡ Some page) × Fits named page
shown_in named number None e = cc
shown_in named number (Some page) e = (page, refl, fits_from named number page e)

module _ (shape : Shape) (bytes : List ℕ) (view : View) (size : IsPageSize shape.size) (shown : IsViewOf shape bytes view) (sound : IsSound view) where
  reached : (n : Naming) → In (namings view) n → reach.page_for view (reached_as n.role) ≡ Some n.page
  reached n i = naming_reached view (all_slots shape bytes view shown) n i

  pub one : AreSingle view
  one n m i j same =
      sym (as_named_reached n.role)
      ∙ ap as_named (sound.once (reached_as n.role) (reached_as m.role) n.page (reached n i) (reached m j ∙ ap Some (sym same)))
      ∙ as_named_reached m.role

  -- What stands in the place of a page that is named.
  known : (n : Naming) → In (namings view) n → (p : ℕ) → n.page ≡ p → (stands : Page) × (view p ≡ Some stands) × Fits n.role stands
  known n i p same =
      let found = shown_in n.role n.page (view n.page) (sound.fitting (reached_as n.role) n.page (reached n i)) in
      (found.0, ap view (sym same) ∙ found.1, found.2)

  role_fails : (p : ℕ) (test : Role → Bool) → ((n : Naming) → In (namings view) n → n.page ≡ p → test n.role ≡ false) → in_some_role view p test ≡ false
  role_fails p test each =
      any_none (λ (n : Naming). (n.page == p) && test n.role) (namings view)
      (λ n i. and_fails (n.page == p) (test n.role) (λ is. each n i (same_from_test n.page p is)))

  own_kind : (p : ℕ) → has_other_kind view p (page_bytes shape.size bytes p) ≡ false
  own_kind p =
      role_fails p (λ named. not (slice_index (page_bytes shape.size bytes p) 0 == kind_code named))
      (λ n i same.
      let found = known n i p same in
      let s = shows shape bytes view shown p found.0 found.1 in
      not_of_true _ (test_of_same _ _ (shown_code shape p (page_bytes shape.size bytes p) found.0 s ∙ found.2.code)))

  unbroken : (n : Naming) → In (namings view) n → (p : ℕ) → n.page ≡ p → first_broken_rule shape p (page_bytes shape.size bytes p) ≡ None
  unbroken n i p same =
      let found = known n i p same in
      unbroken_shown shape p (page_bytes shape.size bytes p) found.0 size (shows shape bytes view shown p found.0 found.1)

  own_relation : (p : ℕ) → in_some_role view p (λ named. has_other_relation named (view p)) ≡ false
  own_relation p =
      role_fails p (λ named. has_other_relation named (view p))
      (λ n i same. let found = known n i p same in ap (has_other_relation n.role) found.1 ∙ found.2.relation)

  own_sequence : (p : ℕ) → in_some_role view p (λ named. has_other_sequence named (view p)) ≡ false
  own_sequence p =
      role_fails p (λ named. has_other_sequence named (view p))
      (λ n i same. let found = known n i p same in ap (has_other_sequence n.role) found.1 ∙ found.2.sequence)

  not_twice : (p : ℕ) → is_named_twice view p ≡ false
  not_twice p =
      role_fails p (λ named. not (is_in_role named (find (is_of_page p) (namings view))))
      (λ n i same.
      let found = find_some (is_of_page p) (namings view) n i (test_of_same n.page p same) in
      let member = find_in (is_of_page p) (namings view) found.0 found.1 in
      let also : n.page ≡ found.0.page = same ∙ sym (same_from_test _ _ member.1) in
      not_of_true _ (ap (is_in_role n.role) found.1 ∙ ap (is_same_role n.role) (sym (one n found.0 i member.0 also)) ∙ own_role n.role))

  not_in_future : (p : ℕ) → breaks_future view p ≡ false
  not_in_future p =
      role_fails p (λ named. is_late_in (size_of view) (next_of view) named (view p))
      (λ n i same. not_late view sound n.role p (reached n i ∙ ap Some same))

  -- A back version stands where the walk looks for it.
  good_link : (relation number page cell : ℕ) → IsBackValue view relation page cell number → is_back_value view relation number page cell ≡ true
  good_link relation number page cell value =
      let n : Naming = naming page (role.Data relation value.sequence) in
      let i = data_walked view one relation value.sequence page value.named in
      let found = find_some (is_of_page page) (data_namings view) n i (test_of_same page page refl) in
      let member = find_in (is_of_page page) (data_namings view) found.0 found.1 in
      let same : n.role ≡ found.0.role = one n found.0 (from_data view n i) (from_data view found.0 member.0) (sym (same_from_test _ _ member.1)) in
      both_true _ _
      (ap (λ o. is_relation relation (relation_of_naming o)) found.1
      ∙ ap (λ r. is_relation relation (relation_of_role r)) (sym same)
      ∙ test_of_same relation relation refl)
      (ap (is_smaller_back number) value.stands ∙ both_true _ _ value.is_value (lt-ltb _ _ value.smaller))

  link_good : (l : Link) → IsLinkOf view l → l.good ≡ true
  link_good l of =
      ap (λ (k : Link). k.good) (sym of.is)
      ∙ good_link of.relation of.version.number of.version.back_page of.version.back_cell
      (sound.back of.relation of.place of.at of.version.back_page of.version.back_cell of.version of.to)

  is_first_link : (l : Link) → In (links view) l → IsLinkOf view l → is_from_same l (find (is_to_same l) (links view)) ≡ true
  is_first_link l i of =
      let itself : is_to_same l l ≡ true = both_true _ _ (both_true _ _ (link_good l of) (test_of_same _ _ refl)) (test_of_same _ _ refl) in
      let found = find_some (is_to_same l) (links view) l i itself in
      let member = find_in (is_to_same l) (links view) found.0 found.1 in
      let f : Link = found.0 in
      let outer = both_pass (f.good && (f.back_page == l.back_page)) (f.back_cell == l.back_cell) member.1 in
      let inner = both_pass f.good (f.back_page == l.back_page) outer.0 in
      let from = link_from view (all_slots shape bytes view shown) f member.0 in
      let page_same : from.version.back_page ≡ of.version.back_page =
      ap (λ (k : Link). k.back_page) from.is ∙ same_from_test _ _ inner.1 ∙ sym (ap (λ (k : Link). k.back_page) of.is) in
      let cell_same : from.version.back_cell ≡ of.version.back_cell =
      ap (λ (k : Link). k.back_cell) from.is ∙ same_from_test _ _ outer.1 ∙ sym (ap (λ (k : Link). k.back_cell) of.is) in
      let P : ℕ → Type 0 = λ p. reach.LinksTo view from.relation from.place from.at from.version p from.version.back_cell in
      let Q : ℕ → Type 0 = λ c. reach.LinksTo view from.relation from.place from.at from.version of.version.back_page c in
      let same = sound.back_once from.relation from.place from.at of.relation of.place of.at of.version.back_page of.version.back_cell from.version of.version
      (subst Q cell_same (subst P page_same from.to)) of.to in
      ap (is_from_same l) found.1
      ∙ both_true _ _
      (test_of_same _ _ (sym (ap (λ (k : Link). k.page) from.is) ∙ same.0 ∙ ap (λ (k : Link). k.page) of.is))
      (test_of_same _ _ (sym (ap (λ (k : Link). k.cell) from.is) ∙ same.1 ∙ ap (λ (k : Link). k.cell) of.is))

  pub faultless : (l : Link) → In (links view) l → is_faulty (links view) l ≡ false
  faultless l i =
      let of = link_from view (all_slots shape bytes view shown) l i in
      neither _ _ (not_of_true _ (link_good l of)) (not_of_true _ (is_first_link l i of))

  chained : (p : ℕ) → breaks_chain view p ≡ false
  chained p =
      any_none (λ (link : Link). (link.page == p) && is_faulty (links view) link) (links view)
      (λ l i. and_fails_right (l.page == p) _ (faultless l i))

  all_committed : (l : Link) → IsLinkOf view l → is_uncommitted view (cell_at view l.back_page l.back_cell) ≡ false
  all_committed l of = go (cell_at view l.back_page l.back_cell) refl
    where
      go : (o : Option Cell) → cell_at view l.back_page l.back_cell ≡ o → is_uncommitted view o ≡ false
      go None here = refl
      go (Some back) here =
          let there : cell_at view of.version.back_page of.version.back_cell ≡ Some back = ap (λ (k : Link). cell_at view k.back_page k.back_cell) of.is ∙ here in
          not_of_true _ (sound.below of.relation of.place of.at of.version.back_page of.version.back_cell of.version back of.to there)

  committed : (p : ℕ) → breaks_below view p ≡ false
  committed p =
      any_none (λ (link : Link). link.good && (link.back_page == p) && is_uncommitted view (cell_at view link.back_page link.back_cell)) (links view)
      (λ l i. and_fails_right (l.good && (l.back_page == p)) _ (all_committed l (link_from view (all_slots shape bytes view shown) l i)))

  pub no_damage_in_sound : AreUnbroken shape bytes view
  no_damage_in_sound p named =
      let found = any_some (is_of_page p) (namings view) named in
      let n : Naming = found.0 in
      let same : n.page ≡ p = same_from_test n.page p found.2 in
      no_rule_broken shape view p (page_bytes shape.size bytes p) (record {
        own_kind = own_kind p;
        unbroken = unbroken n found.1 p same;
        own_relation = own_relation p;
        own_sequence = own_sequence p;
        taken = not_of_true _ (sound.taken (reached_as n.role) p (reached n found.1 ∙ ap Some same));
        once = not_twice p;
        chained = chained p;
        past = not_in_future p;
        committed = committed p;
      })
