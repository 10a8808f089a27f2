-- The link of a version, and the version that it goes on with.
use Rattle.std.proofs.Common.{◌≡◌, ℕ, ◌==◌, ◌&&◌, ◌||◌, Bool, true, false, not, if◌then◌else◌, List, [], ◌∷◌, ◌++◌, find, Option, Some, None, refl, sym, subst, ap, ◌∙◌, true≢false}
use Rattle.std.specs.List.{list_any}
use Rattle.std.specs.Option.{option_map}
use Rattle.fbc_kinds.specs.declared.pages.Cell.{Cell}
use Rattle.fbc_kinds.specs.View.{View, cell_at}
use Rattle.fbc_kinds.proofs.Heads.{both_pass}
use Rattle.fbc_links.specs.Chains.{has_below, has_fault, is_to, namer}
use Rattle.fbc_links.specs.Following.{AreMarks, bare, first_link, good_link, next_version}
use Rattle.fbc_reach.specs.Content.{version_kept}
use Rattle.fbc_links.specs.Links.{Link, is_back_value, is_from_same, is_to_same, is_relation, is_smaller_back, link_of}
use Rattle.fbc_links.specs.Versions.{back_value}
use Rattle.fbc_reach.specs.Walk.{relation_walked}
use Rattle.fbc_links.specs.declared.chains.Chains.{Chains}
use Rattle.fbc_links.specs.declared.namers.Place.{Place}
use Rattle.fbc_reach.specs.declared.content.Version.{Version}
use Rattle.fbc_links.proofs.Marking.{marks_again}

-- What a back value tells, and that there is none.
pub record IsGood (view : View) (relation number page cell : ℕ) (back : Version) : Type 0 where
  pub good : is_back_value view relation number page cell ≡ true
  pub stands : option_map version_kept (cell_at view page cell) ≡ Some back

pub good_back : (view : View) (relation number page cell : ℕ) (back : Version) → back_value view relation number page cell ≡ Some back → IsGood view relation number page cell back
good_back view relation number page cell back e = go (is_back_value view relation number page cell) refl e
  where
    go : (b : Bool) → is_back_value view relation number page cell ≡ b → (if b then option_map version_kept (cell_at view page cell) else None) ≡ Some back → IsGood view relation number page cell back
    go true is e = record { good = is; stands = e }
    go false is e = cc

none_smaller : (number : ℕ) (o : Option Cell) → option_map version_kept o ≡ None → is_smaller_back number o ≡ false
none_smaller number None e = refl
none_smaller number (Some cell) e = cc

pub no_back : (view : View) (relation number page cell : ℕ) → back_value view relation number page cell ≡ None → is_back_value view relation number page cell ≡ false
no_back view relation number page cell e = go (is_back_value view relation number page cell) refl e
  where
    go : (b : Bool) → is_back_value view relation number page cell ≡ b → (if b then option_map version_kept (cell_at view page cell) else None) ≡ None → is_back_value view relation number page cell ≡ false
    go false is e = is
    go true is e =
        let both = both_pass (is_relation relation (relation_walked view page)) (is_smaller_back number (cell_at view page cell)) is in
        absurd (true≢false (sym both.1 ∙ none_smaller number (cell_at view page cell) e))

pub none_back : (view : View) (relation number : ℕ) (to : Place) (version : Version) → to.page ≡ version.back_page → to.cell ≡ version.back_cell
    → None ≡ back_value view relation number to.page to.cell → back_value view relation number version.back_page version.back_cell ≡ None
none_back view relation number to version page cell none =
    ap (λ p. back_value view relation number p version.back_cell) (sym page) ∙ ap (back_value view relation number to.page) (sym cell) ∙ sym none

pub no_next : (view : View) (relation : ℕ) (all : List Link) (version : Version) → back_value view relation version.number version.back_page version.back_cell ≡ None
    → None ≡ next_version view relation all version
no_next view relation all version none = go ((version.back_page == 0) || list_any (is_to version.back_page version.back_cell) all)
  where
    go : (b : Bool) → None ≡ (if b then None else back_value view relation version.number version.back_page version.back_cell)
    go true = refl
    go false = sym none

-- The link of a version that names a back version.
abbrev pub its_link : View → ℕ → ℕ → ℕ → Version → Link
its_link view relation page cell version = link_of view relation page cell (bare version)

pub one_link : (view : View) (relation page cell : ℕ) (version : Version) → (version.back_page == 0) ≡ false
    → first_link view relation page cell version ≡ its_link view relation page cell version ∷ []
one_link view relation page cell version some = rw some refl

its_good : (view : View) (relation : ℕ) (from to : Place) (version : Version) → version.back_page ≡ to.page → version.back_cell ≡ to.cell
    → is_back_value view relation version.number to.page to.cell ≡ true → its_link view relation from.page from.cell version ≡ good_link from to
its_good view relation from to version page cell good =
    let link : ℕ → ℕ → Bool → Link = λ p k g. record { page = from.page; cell = from.cell; back_page = p; back_cell = k; good = g } in
    ap (λ p. link p version.back_cell (is_back_value view relation version.number p version.back_cell)) page
    ∙ ap (λ k. link to.page k (is_back_value view relation version.number to.page k)) cell
    ∙ ap (link to.page to.cell) good

module _ (view : View) (all : List Link) (old : Chains) (marks : AreMarks view all old) (relation : ℕ) (from : Place) (version : Version)
    (some : (version.back_page == 0) ≡ false) (new : Chains) where
  pub marked_good : (to : Place) → version.back_page ≡ to.page → version.back_cell ≡ to.cell
      → is_back_value view relation version.number to.page to.cell ≡ true
      → AreMarks view (all ++ good_link from to ∷ []) new → AreMarks view (all ++ first_link view relation from.page from.cell version) new
  marked_good to page cell good now =
      let P : List Link → Type 0 = λ more. AreMarks view (all ++ more) new in
      subst P (sym (one_link view relation from.page from.cell version some ∙ ap (λ l. l ∷ []) (its_good view relation from to version page cell good))) now

  pub marked_bad : is_back_value view relation version.number version.back_page version.back_cell ≡ false
      → ((page cell : ℕ) → namer new page cell ≡ namer old page cell)
      → ((page : ℕ) → has_fault new page ≡ (has_fault old page || ((from.page == page) && true)))
      → ((page : ℕ) → has_below new page ≡ has_below old page)
      → AreMarks view (all ++ first_link view relation from.page from.cell version) new
  marked_bad bad namers faults belows =
      let P : List Link → Type 0 = λ more. AreMarks view (all ++ more) new in
      let link : Link = its_link view relation from.page from.cell version in
      subst P (sym (one_link view relation from.page from.cell version some))
      (marks_again view all old marks link new (λ good. absurd (true≢false (sym good ∙ bad))) namers
      (λ page. faults page ∙ ap (λ b. has_fault old page || ((from.page == page) && (not b || not (is_from_same link (find (is_to_same link) all))))) (sym bad))
      belows)
