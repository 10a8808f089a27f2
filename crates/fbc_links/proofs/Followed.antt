-- A chain that is followed: where it stops, and where it goes on.
use Rattle.std.proofs.Common.{◌≡◌, ℕ, ◌<◌, ◌==◌, ◌||◌, Bool, true, false, if◌then◌else◌, List, [], ◌∷◌, ◌++◌, Option, Some, None, ◌⊎◌, inl, inr, refl, sym, subst, ap, ◌∙◌, arith, append_assoc, append-nil}
use Rattle.std.specs.List.{list_any}
use Rattle.std.specs.Option.{option_map}
use Rattle.std.proofs.lemmas.Bool.{ltb-true}
use Rattle.fbc_kinds.specs.declared.pages.Cell.{Cell}
use Rattle.fbc_kinds.specs.View.{View, cell_at, is_back}
use Rattle.fbc_kinds.proofs.Heads.{both_pass}
use Rattle.fbc_links.specs.Chains.{is_to}
use Rattle.fbc_links.specs.Following.{AreFollowed, AreMarks, IsClosed, first_link, links_below, next_version}
use Rattle.fbc_reach.specs.Content.{version_kept}
use Rattle.fbc_links.specs.Links.{Link, is_relation, is_smaller_back}
use Rattle.fbc_links.specs.Versions.{back_value}
use Rattle.fbc_reach.specs.Walk.{relation_walked}
use Rattle.fbc_links.specs.declared.chains.Chains.{Chains}
use Rattle.fbc_links.specs.declared.namers.Place.{Place}
use Rattle.fbc_reach.specs.declared.content.Version.{Version}
use Rattle.fbc_links.proofs.ChainClosed.{IsClosedBelow, chain_self_closed, closed_below, closed_more}
use Rattle.fbc_links.proofs.ChainLinks.{bad_link, good_link_below, no_link, value_relation}
use Rattle.fbc_links.proofs.LinkSteps.{IsGood, good_back, its_link, no_back, one_link}
use Rattle.fbc_links.proofs.Marking.{marks_kept, leads_to}
use Rattle.fbc_reach.proofs.Members.{In, any_some, in_either, in_left}

-- From the start of a chain so far down.
pub record IsHalfWay (view : View) (all : List Link) (relation : ℕ) (start : Place) (first : Version) (place : Place) (version : Version) (chains : Chains) : Type 0 where
  pub before : List Link
  pub whole : links_below view relation start.page start.cell first ≡ before ++ links_below view relation place.page place.cell version
  pub marks : AreMarks view (all ++ before) chains
  pub closed : IsClosedBelow view version.number (all ++ before)

-- The test of a version to go on with.
pub record GoesOn (view : View) (relation : ℕ) (version back : Version) : Type 0 where
  pub some : (version.back_page == 0) ≡ false
  pub value : back_value view relation version.number version.back_page version.back_cell ≡ Some back

goes_on : (view : View) (relation : ℕ) (all : List Link) (version back : Version) → next_version view relation all version ≡ Some back → GoesOn view relation version back
goes_on view relation all version back is = go (version.back_page == 0) refl (list_any (is_to version.back_page version.back_cell) all) is
  where
    go : (none : Bool) → (version.back_page == 0) ≡ none → (linked : Bool)
        → (if none || linked then None else back_value view relation version.number version.back_page version.back_cell) ≡ Some back → GoesOn view relation version back
    go true some linked is = cc
    go false some true is = cc
    go false some false is = record { some = some; value = is }

smaller_value : (number : ℕ) (o : Option Cell) (back : Version) → is_smaller_back number o ≡ true → option_map version_kept o ≡ Some back → back.number < number
smaller_value number None back is stands = cc
smaller_value number (Some w) back is stands =
    let same : version_kept w ≡ back = cc in
    let P : Version → Type 0 = λ v. v.number < number in
    subst P same (ltb-true w.number number (both_pass (is_back w.flag) _ is).1)

falls : (view : View) (relation number page cell : ℕ) (back : Version) → IsGood view relation number page cell back → back.number < number
falls view relation number page cell back good =
    smaller_value number (cell_at view page cell) back (both_pass (is_relation relation (relation_walked view page)) _ good.good).1 good.stands

module _ (view : View) (relation : ℕ) (links : List Link) (place : Place) (version : Version) (chains : Chains)
    (marks : AreMarks view (links ++ first_link view relation place.page place.cell version) chains) (closed : IsClosedBelow view version.number links) where
  abbrev own : Link
  own = its_link view relation place.page place.cell version

  abbrev Marked : List Link → Type 0
  Marked more = AreMarks view (links ++ more) chains

  -- Below a version that is linked already all links are known.
  known_below : (version.back_page == 0) ≡ false → list_any (is_to version.back_page version.back_cell) links ≡ true
      → (back : Version) → IsGood view relation version.number version.back_page version.back_cell back
      → (lower : Link) → In (links_below view relation version.back_page version.back_cell back) lower → In links lower
  known_below some linked back good lower i =
      let found = any_some (is_to version.back_page version.back_cell) links linked in
      let other : Link = found.0 in
      let leads = leads_to version.back_page version.back_cell other found.2 in
      let P : ℕ → ℕ → Type 0 = λ p k. In (links_below view relation p k back) lower in
      let at_page : In (links_below view relation other.back_page version.back_cell back) lower =
      subst (λ (p : ℕ). P p version.back_cell) (sym leads.page_is) i
      in
      closed other relation back lower found.1
      (falls view relation version.number version.back_page version.back_cell back good)
      (record {
        good = leads.good;
        relation_is = ap (relation_walked view) leads.page_is ∙ value_relation view relation version.number version.back_page version.back_cell good.good;
        stands = ap (λ p. option_map version_kept (cell_at view p other.back_cell)) leads.page_is
            ∙ ap (λ k. option_map version_kept (cell_at view version.back_page k)) leads.cell_is
            ∙ good.stands;
        below = subst (P other.back_page) (sym leads.cell_is) at_page;
      })

  pub stops : None ≡ next_version view relation links version → Marked (links_below view relation place.page place.cell version)
  stops is = go (version.back_page == 0) refl (list_any (is_to version.back_page version.back_cell) links) refl (back_value view relation version.number version.back_page version.back_cell) refl is
    where
      go : (none : Bool) → (version.back_page == 0) ≡ none
          → (linked : Bool) → list_any (is_to version.back_page version.back_cell) links ≡ linked
          → (o : Option Version) → back_value view relation version.number version.back_page version.back_cell ≡ o
          → None ≡ (if none || linked then None else o)
          → Marked (links_below view relation place.page place.cell version)
      go true none linked at o value is =
          let nothing : first_link view relation place.page place.cell version ≡ [] = rw none refl in
          subst Marked (nothing ∙ sym (no_link view relation place.page place.cell version none)) marks
      go false some linked at None value is =
          subst Marked
          (one_link view relation place.page place.cell version some
          ∙ sym (bad_link view relation place.page place.cell version some (no_back view relation version.number version.back_page version.back_cell value)))
          marks
      go false some false at (Some back) value is = cc
      go false some true at (Some back) value is =
          let good = good_back view relation version.number version.back_page version.back_cell back value in
          let rest : List Link = links_below view relation version.back_page version.back_cell back in
          let first = subst Marked (one_link view relation place.page place.cell version some) marks in
          let all = marks_kept view (links ++ own ∷ []) chains first rest (λ lower i. in_left links (own ∷ []) lower (known_below some at back good lower i)) in
          let P : List Link → Type 0 = λ l. AreMarks view l chains in
          subst Marked (sym (good_link_below view relation place.page place.cell version back some value)) (subst P (append_assoc links (own ∷ []) rest) all)

  closed_on : (back : Version) → IsGood view relation version.number version.back_page version.back_cell back → IsClosedBelow view back.number (links ++ own ∷ [])
  closed_on back good link other lower_back lower member number is = go (in_either links (own ∷ []) link member)
    where
      go : In links link ⊎ In (own ∷ []) link → In (links ++ own ∷ []) lower
      go (inl i) =
          let fall = falls view relation version.number version.back_page version.back_cell back good in
          in_left links (own ∷ []) lower (closed link other lower_back lower i (omega (arith, number, fall)) is)
      go (inr (inl e)) =
          let P : Link → Type 0 = λ l. option_map version_kept (cell_at view l.back_page l.back_cell) ≡ Some lower_back in
          let both : Some lower_back ≡ Some back = sym (subst P (sym e) is.stands) ∙ good.stands in
          let same : lower_back ≡ back = cc in
          let numbers : lower_back.number ≡ back.number = ap (λ (v : Version). v.number) same in
          absurd (omega (arith, number, numbers))
      go (inr (inr none)) = absurd none

module _ (view : View) (all : List Link) (relation : ℕ) (start : Place) (first : Version) where
  pub begins : (chains : Chains) → AreFollowed view all chains → IsHalfWay view all relation start first start first chains
  begins chains followed = record {
    before = [];
    whole = refl;
    marks = (let P : List Link → Type 0 = λ links. AreMarks view links chains in subst P (sym (append-nil all)) followed.marks);
    closed = subst (IsClosedBelow view first.number) (sym (append-nil all)) (closed_below view all followed.closed first.number);
  }

  module _ (place : Place) (version : Version) (old new : Chains) (half : IsHalfWay view all relation start first place version old)
      (marks : AreMarks view (all ++ half.before ++ first_link view relation place.page place.cell version) new) where
    pub goes : (back : Version) (to : Place) → to.page ≡ version.back_page → to.cell ≡ version.back_cell
        → Some back ≡ next_version view relation (all ++ half.before) version → IsHalfWay view all relation start first to back new
    goes back to page cell is =
        let on = goes_on view relation (all ++ half.before) version back (sym is) in
        let good = good_back view relation version.number version.back_page version.back_cell back on.value in
        let link : Link = its_link view relation place.page place.cell version in
        let M : List Link → Type 0 = λ links. AreMarks view links new in
        record {
          before = half.before ++ link ∷ [];
          whole =
              half.whole
              ∙ ap (λ links. half.before ++ links) (good_link_below view relation place.page place.cell version back on.some on.value)
              ∙ sym (append_assoc half.before (link ∷ []) (links_below view relation version.back_page version.back_cell back))
              ∙ ap (λ p. half.before ++ link ∷ [] ++ links_below view relation p version.back_cell back) (sym page)
              ∙ ap (λ k. half.before ++ link ∷ [] ++ links_below view relation to.page k back) (sym cell);
          marks =
              subst M
              (ap (λ links. all ++ half.before ++ links) (one_link view relation place.page place.cell version on.some) ∙ append_assoc all half.before (link ∷ []))
              marks;
          closed =
              subst (IsClosedBelow view back.number) (append_assoc all half.before (link ∷ []))
              (closed_on view relation (all ++ half.before) place version new marks half.closed back good);
        }

    pub ends : IsClosed view all → None ≡ next_version view relation (all ++ half.before) version
        → AreFollowed view (all ++ links_below view relation start.page start.cell first) new
    ends closed is =
        let M : List Link → Type 0 = λ links. AreMarks view links new in
        record {
          marks =
              subst M
              (append_assoc all half.before (links_below view relation place.page place.cell version) ∙ ap (λ links. all ++ links) (sym half.whole))
              (stops view relation (all ++ half.before) place version new marks half.closed is);
          closed = closed_more view all (links_below view relation start.page start.cell first) closed (chain_self_closed view relation start.page start.cell first);
        }
