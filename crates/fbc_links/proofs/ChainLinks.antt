-- The links from a version down: its own link, and then those of the back value that it names.
use Rattle.std.proofs.Common.{◌≡◌, ℕ, zero, suc, ◌<◌, ◌==◌, Bool, true, false, if◌then◌else◌, [], ◌∷◌, Option, Some, None, refl, ap, ◌∙◌, arith}
use Rattle.std.specs.Option.{option_map}
use Rattle.std.proofs.lemmas.Bool.{ltb-true}
use Rattle.fbc_kinds.specs.declared.pages.Cell.{Cell}
use Rattle.fbc_kinds.specs.View.{View, cell_at, is_back}
use Rattle.fbc_kinds.proofs.Heads.{both_pass}
use Rattle.fbc_kinds.proofs.Tests.{same_from_test}
use Rattle.fbc_links.specs.Following.{links_below}
use Rattle.fbc_reach.specs.Content.{version_kept}
use Rattle.fbc_links.specs.Links.{is_back_value, is_relation, is_smaller_back, link_of, links_from}
use Rattle.fbc_links.specs.Versions.{back_value}
use Rattle.fbc_reach.specs.Walk.{relation_walked}
use Rattle.fbc_reach.specs.declared.content.Version.{Version}
use Rattle.fbc_links.proofs.LinkSteps.{good_back, its_link}

-- A count is above a version's number.
abbrev pub IsAbove : ℕ → Option Cell → Type 0
IsAbove count None = Unit {0}
IsAbove count (Some version) = version.number < count

pub smaller_cell : (count number : ℕ) (o : Option Cell) → number < suc count → is_smaller_back number o ≡ true → IsAbove count o
smaller_cell count number None enough is = cc
smaller_cell count number (Some version) enough is =
    let below = ltb-true version.number number (both_pass (is_back version.flag) _ is).1 in omega (arith, below)

pub value_cell : (view : View) (relation count number page cell : ℕ) → number < suc count → is_back_value view relation number page cell ≡ true → IsAbove count (cell_at view page cell)
value_cell view relation count number page cell enough is =
    smaller_cell count number (cell_at view page cell) enough (both_pass (is_relation relation (relation_walked view page)) _ is).1

pub value_relation : (view : View) (relation number page cell : ℕ) → is_back_value view relation number page cell ≡ true → relation_walked view page ≡ Some relation
value_relation view relation number page cell is = go (relation_walked view page) refl (both_pass (is_relation relation (relation_walked view page)) _ is).0
  where
    go : (o : Option ℕ) → relation_walked view page ≡ o → is_relation relation o ≡ true → relation_walked view page ≡ Some relation
    go None at is = cc
    go (Some other) at is = at ∙ ap Some (same_from_test other relation is)

module _ (view : View) (relation : ℕ) where
  -- A count above the number of a version does not matter.
  pub same_links : (a b page cell : ℕ) (o : Option Cell) → IsAbove a o → IsAbove b o → links_from view relation a page cell o ≡ links_from view relation b page cell o
  same_links zero zero page cell o above also = refl
  same_links zero (suc b) page cell None above also = refl
  same_links zero (suc b) page cell (Some version) above also = absurd (omega arith)
  same_links (suc a) zero page cell None above also = refl
  same_links (suc a) zero page cell (Some version) above also = absurd (omega arith)
  same_links (suc a) (suc b) page cell None above also = refl
  same_links (suc a) (suc b) page cell (Some version) above also =
      go (is_back_value view relation version.number version.back_page version.back_cell) refl
      (same_links a b version.back_page version.back_cell (cell_at view version.back_page version.back_cell))
    where
      go : (good : Bool) → is_back_value view relation version.number version.back_page version.back_cell ≡ good
          → (IsAbove a (cell_at view version.back_page version.back_cell) → IsAbove b (cell_at view version.back_page version.back_cell)
          → links_from view relation a version.back_page version.back_cell (cell_at view version.back_page version.back_cell)
          ≡ links_from view relation b version.back_page version.back_cell (cell_at view version.back_page version.back_cell))
          → links_from view relation (suc a) page cell (Some version) ≡ links_from view relation (suc b) page cell (Some version)
      go true good later =
          let rest = later
          (value_cell view relation a version.number version.back_page version.back_cell above good)
          (value_cell view relation b version.number version.back_page version.back_cell also good)
          in
          ap
          (λ links. if version.back_page == 0 then [] else link_of view relation page cell version ∷ (if is_back_value view relation version.number version.back_page version.back_cell then links else []))
          rest
      go false bad later = rw bad refl

  module _ (page cell : ℕ) (version : Version) where
    pub no_link : (version.back_page == 0) ≡ true → links_below view relation page cell version ≡ []
    no_link none = rw none refl

    pub bad_link : (version.back_page == 0) ≡ false → is_back_value view relation version.number version.back_page version.back_cell ≡ false
        → links_below view relation page cell version ≡ its_link view relation page cell version ∷ []
    bad_link some bad = rw some (rw bad refl)

    pub good_link_below : (back : Version) → (version.back_page == 0) ≡ false → back_value view relation version.number version.back_page version.back_cell ≡ Some back
        → links_below view relation page cell version ≡ its_link view relation page cell version ∷ links_below view relation version.back_page version.back_cell back
    good_link_below back some is =
        let good = good_back view relation version.number version.back_page version.back_cell back is in
        ap
        (λ b. if b then [] else its_link view relation page cell version ∷ (if is_back_value view relation version.number version.back_page version.back_cell then links_from view relation version.number version.back_page version.back_cell (cell_at view version.back_page version.back_cell) else []))
        some
        ∙ ap
        (λ b. its_link view relation page cell version ∷ (if b then links_from view relation version.number version.back_page version.back_cell (cell_at view version.back_page version.back_cell) else []))
        good.good
        ∙ ap (λ links. its_link view relation page cell version ∷ links)
        (below (cell_at view version.back_page version.back_cell) good.stands
        (smaller_cell version.number version.number (cell_at view version.back_page version.back_cell) (omega arith)
        (both_pass (is_relation relation (relation_walked view version.back_page)) _ good.good).1))
      where
        below : (o : Option Cell) → option_map version_kept o ≡ Some back → IsAbove version.number o
            → links_from view relation version.number version.back_page version.back_cell o ≡ links_below view relation version.back_page version.back_cell back
        below None stands above = cc
        below (Some w) stands above =
            let same : version_kept w ≡ back = cc in
            let enough : w.number < suc w.number = omega arith in
            same_links version.number (suc w.number) version.back_page version.back_cell (Some w) above enough
            ∙ ap (links_below view relation version.back_page version.back_cell) same
