-- In a sound view a cell below a top is reached exactly where a good link names it.
use Rattle.std.proofs.Common.{◌≡◌, ℕ, true, false, List, Some, sym, subst, ap, ◌∙◌}
use Rattle.std.specs.List.{list_any}
use Rattle.fbc_kinds.specs.declared.pages.Cell.{Cell}
use Rattle.fbc_kinds.specs.declared.shapes.Shape.{Shape}
use Rattle.fbc_kinds.specs.File.{IsViewOf}
use Rattle.fbc_kinds.specs.Limits.{IsPageSize}
use Rattle.fbc_kinds.specs.Reach.{ReachesCell, top, along, LinksTo}
use Rattle.fbc_kinds.specs.Sound.{IsSound}
use Rattle.fbc_kinds.specs.View.{View, cell_at, is_top}
use Rattle.fbc_kinds.proofs.Heads.{both_pass}
use Rattle.fbc_kinds.proofs.Tests.{same_from_test, test_of_same}
use Rattle.fbc_links.specs.Chains.{is_to, is_target}
use Rattle.fbc_links.specs.Links.{Link, link_of, links, is_faulty}
use Rattle.fbc_reach.specs.Walk.{is_of_page, namings}
use Rattle.fbc_links.proofs.Chained.{sound_link, on_walk}
use Rattle.fbc_reach.proofs.Members.{In, any_here, any_some}
use Rattle.fbc_reach.proofs.SameRoles.{both_true}
use Rattle.fbc_links.proofs.SoundLinks.{link_from}
use Rattle.fbc_validator.proofs.SoundPages.{one, faultless}
use Rattle.fbc_reach.proofs.ShownPages.{all_slots}

module _ (shape : Shape) (bytes : List ℕ) (view : View) (size : IsPageSize shape.size) (shown : IsViewOf shape bytes view) (sound : IsSound view) where
  to_target : (relation page cell back_page back_cell : ℕ) (version : Cell) → LinksTo view relation page cell version back_page back_cell → is_target view back_page back_cell ≡ true
  to_target relation page cell back_page back_cell version to =
      let single = one shape bytes view size shown sound in
      let faulty : (l : Link) → In (links view) l → list_any (is_of_page l.page) (namings view) ≡ true → is_faulty (links view) l ≡ false = λ l i named. faultless shape bytes view size shown sound l i in
      let link = sound_link view single faulty relation page cell version (on_walk view single faulty relation page cell to.reached version to.stands) to.names.some in
      any_here (is_to back_page back_cell) (links view) (link_of view relation page cell version) link.member
      (both_true _ _ (both_true _ _ link.good (test_of_same _ _ to.names.page_is)) (test_of_same _ _ to.names.cell_is))

  pub target_of_reached : (relation page cell : ℕ) (version : Cell) → ReachesCell view relation page cell → cell_at view page cell ≡ Some version → is_top version.flag ≡ false
      → is_target view page cell ≡ true
  target_of_reached relation _ _ version (top sequence page cell first reached stands is) here below =
      let same : Some first ≡ Some version = sym stands ∙ here in
      let flags : is_top first.flag ≡ is_top version.flag = (let one_cell : first ≡ version = cc in ap (λ (v : Cell). is_top v.flag) one_cell) in
      let both : true ≡ false = sym is ∙ flags ∙ below in
      cc
  target_of_reached relation _ _ version (along page cell back_page back_cell above reached stands names) here below =
      to_target relation page cell back_page back_cell above (record { reached = reached; stands = stands; names = names })

  pub reached_target : (page cell : ℕ) → is_target view page cell ≡ true → (relation : ℕ) × ReachesCell view relation page cell
  reached_target page cell target =
      let found = any_some (is_to page cell) (links view) target in
      let l : Link = found.0 in
      let outer = both_pass _ _ found.2 in
      let inner = both_pass _ _ outer.0 in
      let from = link_from view (all_slots shape bytes view shown) l found.1 in
      let page_is : from.version.back_page ≡ page = ap (λ (k : Link). k.back_page) from.is ∙ same_from_test l.back_page page inner.1 in
      let cell_is : from.version.back_cell ≡ cell = ap (λ (k : Link). k.back_cell) from.is ∙ same_from_test l.back_cell cell outer.1 in
      let P : ℕ → Type 0 = λ p. ReachesCell view from.relation p from.version.back_cell in
      let Q : ℕ → Type 0 = λ c. ReachesCell view from.relation page c in
      let there = along from.place from.at from.version.back_page from.version.back_cell from.version from.to.reached from.to.stands from.to.names in
      (from.relation, subst Q cell_is (subst P page_is there))
