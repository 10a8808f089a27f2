-- A good link that is noted: whether its cell was named already, and what is kept then.
use Rattle.std.proofs.Common.{◌≡◌, ℕ, ◌==◌, ◌&&◌, ◌||◌, Bool, true, false, not, cond, if◌then◌else◌, List, [], ◌∷◌, ◌++◌, find, Option, Some, None, refl, sym, ap, ◌∙◌}
use Rattle.std.specs.List.{list_any}
use Rattle.std.specs.Option.{option_map}
use Rattle.fbc_kinds.specs.View.{View, cell_at, is_committed_state}
use Rattle.fbc_kinds.specs.Chain.{state_of}
use Rattle.fbc_kinds.specs.declared.pages.Cell.{Cell}
use Rattle.fbc_links.specs.Chains.{has_below, has_fault, is_same_place, is_to, namer, place_of}
use Rattle.fbc_links.specs.Following.{AreMarks, good_link, source}
use Rattle.fbc_reach.specs.Content.{version_kept}
use Rattle.fbc_links.specs.Links.{is_uncommitted, Link, is_from_same}
use Rattle.fbc_links.specs.declared.chains.Chains.{Chains}
use Rattle.fbc_links.specs.declared.namers.Place.{Place}
use Rattle.fbc_reach.specs.declared.content.Version.{Version}
use Rattle.fbc_links.proofs.Marking.{marks_again, marks_first}
use Rattle.fbc_reach.proofs.Members.{any_here, any_some, find_in, find_some}

-- Where the first link to a cell stands.
found_source : (o : Option Link) (first : Place) → option_map source o ≡ Some first → (link : Link) × (o ≡ Some link) × (source link ≡ first)
found_source None first e = cc
found_source (Some link) first e = (link, refl, (let same : source link ≡ first = cc in same))

no_source : (o : Option Link) → option_map source o ≡ None → o ≡ None
no_source None e = refl
no_source (Some link) e = cc

-- After one number more is put into a set.
pub put : (before here : Bool) → cond here true before ≡ (before || (here && true))
put true true = refl
put true false = refl
put false true = refl
put false false = refl

pub not_put : (before here : Bool) → before ≡ (before || (here && false))
not_put true here = refl
not_put false true = refl
not_put false false = refl

-- Whether a version that stands in a cell is committed.
uncommitted : (view : View) (back : Version) (o : Option Cell) → option_map version_kept o ≡ Some back → is_uncommitted view o ≡ not (is_committed_state (state_of view back.number))
uncommitted view back None stands = cc
uncommitted view back (Some version) stands = let same : version_kept version ≡ back = cc in ap (λ (v : Version). not (is_committed_state (state_of view v.number))) same

module _ (view : View) (all : List Link) (old : Chains) (marks : AreMarks view all old) (from to : Place) where
  named_first : (first : Place) → namer old to.page to.cell ≡ Some first → (link : Link) × (find (is_to to.page to.cell) all ≡ Some link) × (source link ≡ first)
  named_first first is = found_source (find (is_to to.page to.cell) all) first (sym (marks.namers to.page to.cell) ∙ is)

  named_by_none : namer old to.page to.cell ≡ None → find (is_to to.page to.cell) all ≡ None
  named_by_none is = no_source (find (is_to to.page to.cell) all) (sym (marks.namers to.page to.cell) ∙ is)

  pub next_again : (first : Place) → namer old to.page to.cell ≡ Some first → (back : Version) → None ≡ (if list_any (is_to to.page to.cell) all then None else Some back)
  next_again first is back =
      let named = named_first first is in
      let member = find_in (is_to to.page to.cell) all named.0 named.1 in
      rw (any_here (is_to to.page to.cell) all named.0 member.0 member.1) refl

  pub next_first : namer old to.page to.cell ≡ None → (back : Version) → Some back ≡ (if list_any (is_to to.page to.cell) all then None else Some back)
  next_first is back = go (list_any (is_to to.page to.cell) all) refl
    where
      go : (b : Bool) → list_any (is_to to.page to.cell) all ≡ b → Some back ≡ (if b then None else Some back)
      go false fails = refl
      go true passes =
          let named = any_some (is_to to.page to.cell) all passes in
          let some = find_some (is_to to.page to.cell) all named.0 named.1 named.2 in
          let none : None ≡ Some some.0 = sym (named_by_none is) ∙ some.1 in
          cc

  pub noted_again : (first : Place) → namer old to.page to.cell ≡ Some first → (same : Bool) → is_same_place first from ≡ same → (new : Chains)
      → ((page cell : ℕ) → namer new page cell ≡ namer old page cell)
      → ((page : ℕ) → has_fault new page ≡ (has_fault old page || ((from.page == page) && not same)))
      → ((page : ℕ) → has_below new page ≡ has_below old page)
      → AreMarks view (all ++ good_link from to ∷ []) new
  noted_again first is same same_is new namers faults belows =
      let named = named_first first is in
      let fault : is_same_place (source named.0) from ≡ same = ap (λ p. is_same_place p from) named.2 ∙ same_is in
      marks_again view all old marks (good_link from to) new (λ good. (named.0, named.1)) namers
      (λ page.
      faults page
      ∙ ap (λ b. has_fault old page || ((from.page == page) && not b)) (sym fault)
      ∙ ap (λ o. has_fault old page || ((from.page == page) && not (is_from_same (good_link from to) o))) (sym named.1))
      belows

  pub noted_first : namer old to.page to.cell ≡ None
      → (back : Version) (committed : Bool) → option_map version_kept (cell_at view to.page to.cell) ≡ Some back → committed ≡ is_committed_state (state_of view back.number)
      → (new : Chains)
      → ((page cell : ℕ) → namer new page cell ≡ cond (is_same_place to (place_of page cell)) (Some from) (namer old page cell))
      → ((page : ℕ) → has_fault new page ≡ has_fault old page)
      → ((page : ℕ) → has_below new page ≡ (has_below old page || ((to.page == page) && not committed)))
      → AreMarks view (all ++ good_link from to ∷ []) new
  noted_first is back committed stands state new namers faults belows =
      marks_first view all old marks (good_link from to) new refl (named_by_none is)
      namers
      faults
      (λ page.
      belows page
      ∙ ap (λ b. has_below old page || ((to.page == page) && not b)) state
      ∙ ap (λ b. has_below old page || ((to.page == page) && b)) (sym (uncommitted view back (cell_at view to.page to.cell) stands)))
