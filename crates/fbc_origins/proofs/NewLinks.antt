-- A put that makes a link, or takes a version back, leaves each link of a view meant by its stamps.
use Rattle.std.proofs.Common.{◌≡◌, ◌∙◌, ◌==◌, ◌⊎◌, inl, inr, ℕ, true, Some, refl, sym, ap, subst, arith}
use Rattle.fbc_kinds.specs.declared.edits.Edit.TheVariants.{PutCell}
use Rattle.fbc_kinds.specs.declared.pages.Cell.{Cell}
use Rattle.fbc_kinds.specs.declared.pages.Page.{Page}
use Rattle.fbc_kinds.specs.Reach.{DataRole, LinksTo, NamesBack, Reaches, ReachesCell}
use Rattle.fbc_kinds.specs.Sound.{IsSound}
use Rattle.fbc_kinds.specs.View.{View, cell_at, is_top}
use Rattle.fbc_kinds.proofs.Tests.{differ_from_test}
use Rattle.fbc_version_edits.specs.Forms.{IsBackout, IsMove, IsOver}
use Rattle.fbc_page_edits.specs.Edited.{with_page}
use Rattle.fbc_page_edits.specs.Facing.{IsLinked}
use Rattle.fbc_legal.specs.Guards.{GuardOfEdit}
use Rattle.fbc_legal.specs.Rows.{IsBackout as IsBackoutAt, IsNewVersion, IsPut, as_back}
use Rattle.fbc_legal.specs.Scene.{Scene, born_at, newest_at}
use Rattle.fbc_legal.specs.Stamps.{Stamps}
use Rattle.fbc_version_edits.specs.Differences.{IsPlace}
use Rattle.fbc_version_edits.specs.Puts.{IsPutIn}
use Rattle.fbc_version_edits.proofs.Flags.{top_of_back, top_of_empty, unreached}
use Rattle.fbc_version_edits.proofs.NoLinkForms.{move_unlinked, no_link_move}
use Rattle.fbc_version_edits.proofs.NoNewLinks.{BeginsRow, was_reached}
use Rattle.fbc_version_edits.proofs.OneCell.{IsOneCell, one_cell_put}
use Rattle.fbc_version_edits.proofs.Over.{FromOver, elsewhere as moved_elsewhere, from_over, kept, made, over_unlinked, own_relation, taken_along}
use Rattle.fbc_version_edits.proofs.TakenBack.{FromBelow, from_below, kept as was_kept, raised, raised_here, taken_unlinked}
use Rattle.fbc_origins.specs.Owed.{IsInOrder}
use Rattle.fbc_origins.proofs.LinkTaken.{IsTaken, below-smaller}
use Rattle.fbc_origins.proofs.Meant.{meant-newest}
use Rattle.fbc_origins.proofs.PutLinks.{StayMeant, agree, at_place, before, cut_meant, elsewhere, first_meant, kept_link, move_meant, names_it, not_to, one_meaning, own_meant}
use Rattle.fbc_origins.proofs.PutPages.{put-page, put-reached}
use Rattle.fbc_origins.proofs.PutsAllowed.{allows-backout, allows-cut, allows-first, allows-move, allows-over, allows-own, holds_seen}
use Rattle.fbc_origins.proofs.ViewsNext.{IsEditedView}

-- A back value that is put into an empty cell is not reached.
pub moved_unreached : {view after : View} {number cell : ℕ} {new : Cell} (sound : IsSound view) (move : IsMove view number cell new) → IsOneCell view after number cell move.old new
    → (relation : ℕ) → ¬ ReachesCell after relation number cell
moved_unreached {view = view} {number = number} {cell = cell} {new = new} sound move one relation reached = go (was_reached sound one (no_link_move sound number cell new move) relation number cell reached) where
  go : ReachesCell view relation number cell ⊎ (IsPlace number cell number cell × BeginsRow move.old new) → ⊥
  go (inl was) = unreached sound relation number cell move.old move.stands (top_of_empty move.old.flag move.over) (move_unlinked sound number cell new move) was
  go (inr begins) = let not_top = top_of_back new.flag move.value in let is = begins.1.begins in cc

module _ (at : Scene) (order : IsInOrder at) (owner page cell : ℕ) (content : Cell) (made_page : Page) (g : GuardOfEdit at owner page (PutCell cell content))
    (seen : View) (stamps : ℕ → Stamps) (after : View) (later : ℕ → Stamps) (v : IsEditedView at owner page (PutCell cell content) made_page seen stamps after later)
    (put : IsPutIn at.shape seen page cell content made_page) where
  abbrev next : View
  next = with_page seen page made_page

  abbrev Stay : Type 0
  Stay = StayMeant at order owner page cell content made_page g seen stamps after later v put

  abbrev relation_is : ℕ
  relation_is = (put-page at owner page cell content g).data_page.relation

  -- A top of the page is reached in the newest pages.
  top_reached : (old : Cell) → cell_at (newest_at at) page cell ≡ Some old → is_top old.flag ≡ true → ReachesCell (newest_at at) relation_is page cell
  top_reached old stands is = ReachesCell.top (put-page at owner page cell content g).data_page.sequence page cell old (put-reached at owner page cell content g order.upheld) stands is

  over_meant : (f : IsNewVersion at owner page cell content) → put.page.relation ≡ relation_is → Stay
  over_meant f same_relation relation from_page from_cell back_page back_cell version link =
      go (from_over put.sound form one own relation from_page from_cell back_page back_cell version link) where
        form : IsOver seen relation_is page cell content
        form = allows-over at order.upheld order.numbered order.original owner page cell content g seen stamps v.sees f

        one : IsOneCell seen next page cell form.old content
        one = one_cell_put put form.stands

        own : (other sequence : ℕ) → Reaches seen (DataRole other sequence) page → other ≡ relation_is
        own other sequence reached = own_relation put other sequence reached ∙ same_relation

        unlinked_here : ¬ IsLinked seen page cell
        unlinked_here = over_unlinked put.sound form one own

        apart : IsTaken f.old content → ⊥
        apart t = f.over_other (t.number ∙ f.own)

        moved_place : ¬ IsPlace page cell content.back_page content.back_cell
        moved_place = moved_elsewhere put.sound form one own

        go : FromOver put.sound form one own relation from_page from_cell version back_page back_cell → (later from_page).meant from_cell ≡ (later back_page).born back_cell
        go (kept differ was) =
            kept_link at order owner page cell content made_page g seen stamps after later v put relation from_page from_cell back_page back_cell version was differ
            (not_to at order owner page cell content made_page g seen stamps after later v put unlinked_here relation from_page from_cell back_page back_cell version was)
        go (made place same to reached) =
            let names : NamesBack content back_page back_cell = subst (λ (w : Cell). NamesBack w back_page back_cell) same link.names in
            let stamp_seen : (stamps content.back_page).born content.back_cell ≡ born_at at content.back_page content.back_cell = (holds_seen at order.upheld order.numbered order.original owner page cell content g seen stamps v.sees f).same in
            at_place at order owner page cell content made_page g seen stamps after later v put from_page from_cell back_page back_cell place
            (names_it at order owner page cell content made_page g seen stamps after later v put f.old f.stands apart back_page back_cell names
            ∙ subst (λ q. born_at at q back_cell ≡ (later q).born back_cell) names.page_is
            (subst (λ c. born_at at content.back_page c ≡ (later content.back_page).born c) names.cell_is
            (sym stamp_seen ∙ sym (elsewhere at order owner page cell content made_page g seen stamps after later v put content.back_page content.back_cell moved_place).born)))
        go (taken_along place same was) =
            let stamp_seen : (stamps content.back_page).born content.back_cell ≡ born_at at content.back_page content.back_cell = (holds_seen at order.upheld order.numbered order.original owner page cell content g seen stamps v.sees f).same in
            at_moved place
            ((elsewhere at order owner page cell content made_page g seen stamps after later v put content.back_page content.back_cell moved_place).meant
            ∙ one_meaning at order owner page cell content made_page g seen stamps after later v put content.back_page content.back_cell (as_back f.old) (as_back f.old) form.below f.back stamp_seen
            ∙ f.same_meant (differ_from_test f.old.back_page 0 was.names.some)
            ∙ sym (ap (λ (s : Stamps). s.meant cell) v.sees.edited_page.stamps)
            ∙ before at order owner page cell content made_page g seen stamps after later v put relation page cell back_page back_cell form.old was
            ∙ sym (elsewhere at order owner page cell content made_page g seen stamps after later v put back_page back_cell
            (not_to at order owner page cell content made_page g seen stamps after later v put unlinked_here relation page cell back_page back_cell form.old was)).born)
          where
            at_moved : IsPlace content.back_page content.back_cell from_page from_cell → (later content.back_page).meant content.back_cell ≡ (later back_page).born back_cell → (later from_page).meant from_cell ≡ (later back_page).born back_cell
            at_moved where_it is = ap (λ q. (later q).meant from_cell) where_it.0 ∙ ap (λ c. (later content.back_page).meant c) where_it.1 ∙ is

  backout_meant : (f : IsBackoutAt at page cell content) → Stay
  backout_meant f relation from_page from_cell back_page back_cell version link = go (from_below put.sound form one relation from_page from_cell back_page back_cell version link) where
    form : IsBackout seen page cell content
    form = allows-backout at order.upheld order.numbered order.original owner page cell content g seen stamps v.sees f

    one : IsOneCell seen next page cell form.old content
    one = one_cell_put put form.stands

    unlinked_here : ¬ IsLinked seen page cell
    unlinked_here = taken_unlinked put.sound form one

    -- The version below has a smaller number.
    apart : IsTaken f.old content → ⊥
    apart t =
        let smaller = below-smaller at order.upheld owner page cell content g f.old f.back f.stands f.over form.linked f.below in
        let same : f.old.number ≡ f.back.number = t.number ∙ ap (λ (w : Cell). w.number) f.same in
        absurd (grind (arith, smaller, same))

    newest_reached : ReachesCell (newest_at at) relation_is page cell
    newest_reached = top_reached f.old f.stands f.over

    top_names : NamesBack f.old f.old.back_page f.old.back_cell
    top_names = record { some = form.linked; page_is = refl; cell_is = refl }

    below_names : NamesBack content back_page back_cell → NamesBack f.back back_page back_cell
    below_names names = record {
      some = ap (λ (w : Cell). w.back_page == 0) (sym f.same) ∙ names.some;
      page_is = ap (λ (w : Cell). w.back_page) (sym f.same) ∙ names.page_is;
      cell_is = ap (λ (w : Cell). w.back_cell) (sym f.same) ∙ names.cell_is;
    }

    newest_below : NamesBack content back_page back_cell → LinksTo (newest_at at) relation_is f.old.back_page f.old.back_cell f.back back_page back_cell
    newest_below names = record {
      reached = ReachesCell.along page cell f.old.back_page f.old.back_cell f.old newest_reached f.stands top_names;
      stands = f.below;
      names = below_names names;
    }

    go : FromBelow put.sound form one relation from_page from_cell version back_page back_cell → (later from_page).meant from_cell ≡ (later back_page).born back_cell
    go (was_kept differ others was) =
        kept_link at order owner page cell content made_page g seen stamps after later v put relation from_page from_cell back_page back_cell version was differ
        (not_to at order owner page cell content made_page g seen stamps after later v put unlinked_here relation from_page from_cell back_page back_cell version was)
    go (raised place reached same was) =
        let names : NamesBack content back_page back_cell = subst (λ (w : Cell). NamesBack w back_page back_cell) same link.names in
        let top_seen : LinksTo seen relation page cell form.old form.old.back_page form.old.back_cell = record { reached = reached; stands = form.stands; names = top_names } in
        let one_stamp : (stamps f.old.back_page).born f.old.back_cell ≡ born_at at f.old.back_page f.old.back_cell =
        sym (agree at order owner page cell content made_page g seen stamps after later v put f.old f.stands newest_reached relation f.old.back_page f.old.back_cell top_seen) in
        at_place at order owner page cell content made_page g seen stamps after later v put from_page from_cell back_page back_cell place
        (names_it at order owner page cell content made_page g seen stamps after later v put f.old f.stands apart back_page back_cell names
        ∙ sym (meant-newest at order.original.meant relation_is f.old.back_page f.old.back_cell back_page back_cell f.back (newest_below names))
        ∙ sym (one_meaning at order owner page cell content made_page g seen stamps after later v put f.old.back_page f.old.back_cell (raised_here put.sound form one relation reached).below f.back was.stands f.below one_stamp)
        ∙ before at order owner page cell content made_page g seen stamps after later v put relation f.old.back_page f.old.back_cell back_page back_cell (raised_here put.sound form one relation reached).below was
        ∙ sym (elsewhere at order owner page cell content made_page g seen stamps after later v put back_page back_cell
        (not_to at order owner page cell content made_page g seen stamps after later v put unlinked_here relation f.old.back_page f.old.back_cell back_page back_cell (raised_here put.sound form one relation reached).below was)).born)

  -- Whatever is put.
  pub puts-meant : put.page.relation ≡ relation_is → IsPut at owner page cell content → Stay
  puts-meant same (IsPut.first f) =
      first_meant at order owner page cell content made_page g seen stamps after later v put (allows-first at order.upheld order.numbered order.original owner page cell content g seen stamps v.sees f)
  puts-meant same (IsPut.over_own f) =
      own_meant at order owner page cell content made_page g seen stamps after later v put (allows-own at order.upheld order.numbered order.original owner page cell content g seen stamps v.sees f) f.stands
      (top_reached f.old f.stands (ap is_top f.over))
  puts-meant same (IsPut.over f) = over_meant f same
  puts-meant same (IsPut.move f) =
      let form = allows-move at order.upheld order.numbered order.original owner page cell content g seen stamps v.sees f in
      move_meant at order owner page cell content made_page g seen stamps after later v put form (moved_unreached put.sound form (one_cell_put put form.stands))
  puts-meant same (IsPut.backout f) = backout_meant f
  puts-meant same (IsPut.cut f) =
      cut_meant at order owner page cell content made_page g seen stamps after later v put (allows-cut at order.upheld order.numbered order.original owner page cell content g seen stamps v.sees f) f.stands
