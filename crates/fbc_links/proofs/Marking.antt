-- What is kept of links, with one link more, and with links that are among them already.
use Rattle.std.proofs.Common.{◌≡◌, ℕ, ◌==◌, ◌&&◌, ◌||◌, Bool, true, false, not, cond, if◌then◌else◌, List, [], ◌∷◌, ◌++◌, find, Option, Some, None, inl, inr, refl, sym, subst, ap, ◌∙◌, true≢false}
use Rattle.std.specs.List.{list_any}
use Rattle.std.specs.Option.{option_map, option_or}
use Rattle.std.proofs.lemmas.List.Folds.{find-append}
use Rattle.fbc_kinds.specs.View.{View, cell_at}
use Rattle.fbc_kinds.proofs.Heads.{both_pass}
use Rattle.fbc_kinds.proofs.Tests.{and_fails_right, same_from_test, test_of_same}
use Rattle.fbc_links.specs.Chains.{has_below, has_fault, is_to, namer}
use Rattle.fbc_links.specs.Following.{AreMarks, is_below_in, is_fault_of, source}
use Rattle.fbc_links.specs.Links.{is_uncommitted, Link, is_from_same}
use Rattle.fbc_links.specs.declared.chains.Chains.{Chains}
use Rattle.fbc_reach.proofs.Members.{In, any_here, find_in, find_some}
use Rattle.fbc_reach.proofs.Searches.{any_kept, any_more, any_same, find_kept}
use Rattle.fbc_reach.proofs.Tallied.{or_false}

-- What passes as a link to a cell.
pub record LeadsTo (page cell : ℕ) (link : Link) : Type 0 where
  pub good : link.good ≡ true
  pub page_is : link.back_page ≡ page
  pub cell_is : link.back_cell ≡ cell

pub leads_to : (page cell : ℕ) (link : Link) → is_to page cell link ≡ true → LeadsTo page cell link
leads_to page cell link passes =
    let both = both_pass (link.good && (link.back_page == page)) (link.back_cell == cell) passes in
    let front = both_pass link.good (link.back_page == page) both.0 in
    record { good = front.0; page_is = same_from_test _ _ front.1; cell_is = same_from_test _ _ both.1 }

pub to_own : (link : Link) → link.good ≡ true → is_to link.back_page link.back_cell link ≡ true
to_own link good = rw (good, test_of_same link.back_page link.back_page refl, test_of_same link.back_cell link.back_cell refl) refl

to_other : (page cell : ℕ) (link other : Link) → is_to page cell link ≡ true → is_to link.back_page link.back_cell other ≡ true → is_to page cell other ≡ true
to_other page cell link other to same =
    let one = leads_to page cell link to in
    let two = leads_to link.back_page link.back_cell other same in
    rw (two.good, test_of_same other.back_page page (two.page_is ∙ one.page_is), test_of_same other.back_cell cell (two.cell_is ∙ one.cell_is)) refl

module _ (view : View) (all : List Link) (old : Chains) (marks : AreMarks view all old) where
  -- Each good one of these links names a cell that one of all names already.
  abbrev AreKnown : List Link → Type 0
  AreKnown more = (link : Link) → In more link → link.good ≡ true → (first : Link) × (find (is_to link.back_page link.back_cell) all ≡ Some first)

  target_kept : (more : List Link) → AreKnown more → (page cell : ℕ) → find (is_to page cell) (all ++ more) ≡ find (is_to page cell) all
  target_kept more known page cell =
      find_kept (is_to page cell) all more
      (λ link i to.
      let first = known link i (leads_to page cell link to).good in
      let member = find_in (is_to link.back_page link.back_cell) all first.0 first.1 in
      find_some (is_to page cell) all first.0 member.0 (to_other page cell link first.0 to member.1))

  fault_kept : (more : List Link) → AreKnown more → (page : ℕ) (link : Link) → is_fault_of (all ++ more) page link ≡ is_fault_of all page link
  fault_kept more known page link =
      ap (λ o. (link.page == page) && (not link.good || not (is_from_same link o))) (target_kept more known link.back_page link.back_cell)

  good_below : (page : ℕ) (link : Link) → is_below_in view page link ≡ true → link.good ≡ true
  good_below page link below =
      (both_pass link.good (link.back_page == page)
      (both_pass (link.good && (link.back_page == page)) (is_uncommitted view (cell_at view link.back_page link.back_cell)) below).0).0

  below_again : (page : ℕ) (link first : Link) → is_below_in view page link ≡ true → is_to link.back_page link.back_cell first ≡ true → is_below_in view page first ≡ true
  below_again page link first below same =
      let two = leads_to link.back_page link.back_cell first same in
      let P : Bool → Type 0 = λ fine. (fine && (link.back_page == page) && is_uncommitted view (cell_at view link.back_page link.back_cell)) ≡ true in
      rw (two.good, two.page_is, two.cell_is) (subst P (good_below page link below) below)

  belows_kept : (more : List Link) → AreKnown more → (page : ℕ) → list_any (is_below_in view page) (all ++ more) ≡ list_any (is_below_in view page) all
  belows_kept more known page =
      any_kept (is_below_in view page) all more
      (λ link i below.
      let first = known link i (good_below page link below) in
      let member = find_in (is_to link.back_page link.back_cell) all first.0 first.1 in
      any_here (is_below_in view page) all first.0 member.0 (below_again page link first.0 below member.1))

  -- Links that are among them change nothing.
  pub marks_kept : (more : List Link) → ((link : Link) → In more link → In all link) → AreMarks view (all ++ more) old
  marks_kept more within =
      let known : AreKnown more = λ link i good. find_some (is_to link.back_page link.back_cell) all link (within link i) (to_own link good) in
      record {
        namers = λ page cell. marks.namers page cell ∙ ap (option_map source) (sym (target_kept more known page cell));
        faults = λ page.
            marks.faults page
            ∙ sym (any_same (is_fault_of (all ++ more) page) (is_fault_of all page) (all ++ more) (λ link i. fault_kept more known page link)
            ∙ any_kept (is_fault_of all page) all more (λ link i fault. any_here (is_fault_of all page) all link (within link i) fault));
        belows = λ page. marks.belows page ∙ sym (belows_kept more known page);
      }

  module _ (link : Link) (new : Chains) where
    -- A link that is not good, or that names a cell that is named already, may be at fault.
    pub marks_again : (link.good ≡ true → (first : Link) × (find (is_to link.back_page link.back_cell) all ≡ Some first))
        → ((page cell : ℕ) → namer new page cell ≡ namer old page cell)
        → ((page : ℕ) → has_fault new page ≡ (has_fault old page || is_fault_of all page link))
        → ((page : ℕ) → has_below new page ≡ has_below old page)
        → AreMarks view (all ++ link ∷ []) new
    marks_again first namers faults belows =
        let known : AreKnown (link ∷ []) = λ other i good. known_one other i good in
        record {
          namers = λ page cell. namers page cell ∙ marks.namers page cell ∙ ap (option_map source) (sym (target_kept (link ∷ []) known page cell));
          faults = λ page.
              faults page
              ∙ ap (λ b. b || is_fault_of all page link) (marks.faults page)
              ∙ sym (any_same (is_fault_of (all ++ link ∷ []) page) (is_fault_of all page) (all ++ link ∷ []) (λ other i. fault_kept (link ∷ []) known page other)
              ∙ any_more (is_fault_of all page) all link);
          belows = λ page. belows page ∙ marks.belows page ∙ sym (belows_kept (link ∷ []) known page);
        }
      where
        known_one : AreKnown (link ∷ [])
        known_one other (inl e) good = rw (sym e) (first (ap (λ (l : Link). l.good) e ∙ good))
        known_one other (inr none) good = absurd none

    -- A good link that names a cell first is at no fault.
    pub marks_first : link.good ≡ true
        → find (is_to link.back_page link.back_cell) all ≡ None
        → ((page cell : ℕ) → namer new page cell ≡ (if is_to page cell link then Some (source link) else namer old page cell))
        → ((page : ℕ) → has_fault new page ≡ has_fault old page)
        → ((page : ℕ) → has_below new page ≡ (has_below old page || is_below_in view page link))
        → AreMarks view (all ++ link ∷ []) new
    marks_first good none namers faults belows = record {
      namers = λ page cell. namers page cell ∙ ap (λ o. if is_to page cell link then Some (source link) else o) (marks.namers page cell) ∙ named page cell;
      faults = λ page.
          faults page
          ∙ marks.faults page
          ∙ sym (any_more (is_fault_of (all ++ link ∷ []) page) all link
          ∙ ap (λ b. list_any (is_fault_of (all ++ link ∷ []) page) all || b) (own_fault page)
          ∙ or_false _
          ∙ any_same (is_fault_of (all ++ link ∷ []) page) (is_fault_of all page) all (λ other i. other_fault page other i other.good refl));
      belows = λ page. belows page ∙ ap (λ b. b || is_below_in view page link) (marks.belows page) ∙ sym (any_more (is_below_in view page) all link);
    }
      where
        named : (page cell : ℕ)
            → (if is_to page cell link then Some (source link) else option_map source (find (is_to page cell) all)) ≡ option_map source (find (is_to page cell) (all ++ link ∷ []))
        named page cell = go (is_to page cell link) refl (find (is_to page cell) all) refl
          where
            go : (b : Bool) → is_to page cell link ≡ b → (o : Option Link) → find (is_to page cell) all ≡ o
                → (if b then Some (source link) else option_map source o) ≡ option_map source (find (is_to page cell) (all ++ link ∷ []))
            go true to (Some other) found =
                let member = find_in (is_to page cell) all other found in
                let one = leads_to page cell link to in
                let two = leads_to page cell other member.1 in
                let same : is_to link.back_page link.back_cell other ≡ true =
                rw (two.good, test_of_same other.back_page link.back_page (two.page_is ∙ sym one.page_is), test_of_same other.back_cell link.back_cell (two.cell_is ∙ sym one.cell_is)) refl
                in
                let some = find_some (is_to link.back_page link.back_cell) all other member.0 same in
                let no : None ≡ Some some.0 = sym none ∙ some.1 in
                cc
            go true to None found =
                sym (ap (option_map source) (find-append (is_to page cell) all (link ∷ []) ∙ ap (λ o. option_or o (find (is_to page cell) (link ∷ []))) found ∙ ap (λ b. cond b (Some link) None) to))
            go false to o found =
                sym (ap (option_map source) (find_kept (is_to page cell) all (link ∷ []) (λ other i passes. absurd (other_passes other i passes)) ∙ found))
              where
                other_passes : (other : Link) → In (link ∷ []) other → is_to page cell other ≡ true → ⊥
                other_passes other (inl e) passes = true≢false (sym passes ∙ ap (is_to page cell) (sym e) ∙ to)
                other_passes other (inr none) passes = none

        own_first : find (is_to link.back_page link.back_cell) (all ++ link ∷ []) ≡ Some link
        own_first =
            find-append (is_to link.back_page link.back_cell) all (link ∷ [])
            ∙ ap (λ o. option_or o (find (is_to link.back_page link.back_cell) (link ∷ []))) none
            ∙ ap (λ b. cond b (Some link) None) (to_own link good)

        own_fault : (page : ℕ) → is_fault_of (all ++ link ∷ []) page link ≡ false
        own_fault page =
            ap (λ o. (link.page == page) && (not link.good || not (is_from_same link o))) own_first
            ∙ rw (good, test_of_same link.page link.page refl, test_of_same link.cell link.cell refl) (and_fails_right (link.page == page) false refl)

        other_fault : (page : ℕ) (other : Link) → In all other → (b : Bool) → other.good ≡ b → is_fault_of (all ++ link ∷ []) page other ≡ is_fault_of all page other
        other_fault page other i false bad = rw bad refl
        other_fault page other i true fine =
            let first = find_some (is_to other.back_page other.back_cell) all other i (to_own other fine) in
            ap (λ o. (other.page == page) && (not other.good || not (is_from_same other o)))
            (find-append (is_to other.back_page other.back_cell) all (link ∷ [])
            ∙ ap (λ o. option_or o (find (is_to other.back_page other.back_cell) (link ∷ []))) first.1
            ∙ sym first.1)
