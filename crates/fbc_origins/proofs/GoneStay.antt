-- What no version names, in a view and in the newest pages after an edit of a cell, none names in that view after it.
use Rattle.std.proofs.Common.{◌≡◌, ◌⊎◌, inl, inr, ℕ, Some, refl, sym, subst}
use Rattle.fbc_kinds.specs.declared.edits.Edit.TheVariants.{ClearCell, PutCell}
use Rattle.fbc_kinds.specs.declared.pages.Cell.{Cell}
use Rattle.fbc_kinds.specs.declared.pages.Page.{Page}
use Rattle.fbc_kinds.specs.Reach.{DataRole, LinksTo, top}
use Rattle.fbc_kinds.specs.Sound.{IsSound}
use Rattle.fbc_kinds.specs.View.{View}
use Rattle.fbc_version_edits.specs.Forms.{IsBackout as IsBackoutIn, IsOver as IsOverIn}
use Rattle.fbc_page_edits.specs.Edited.{with_page}
use Rattle.fbc_page_edits.specs.Facing.{IsLinked}
use Rattle.fbc_world.specs.World.{page_after}
use Rattle.fbc_legal.specs.Guards.{GuardOfEdit}
use Rattle.fbc_legal.specs.Rows.{IsNewVersion, IsPut}
use Rattle.fbc_legal.specs.Scene.{Scene, newest_at}
use Rattle.fbc_legal.specs.Stamps.{Stamps}
use Rattle.fbc_closed_cuts.specs.Cut.{Cut, IsClosedCut, view}
use Rattle.fbc_closed_cuts.specs.Owed.{SeesEdit}
use Rattle.fbc_closed_cuts.specs.Views.{view_stamps}
use Rattle.fbc_version_edits.specs.Differences.{IsPlace, LinksBelow}
use Rattle.fbc_version_edits.specs.Puts.{IsPutIn}
use Rattle.fbc_version_edits.proofs.NoLinkForms.{no_link_clear, no_link_cut, no_link_first, no_link_move, no_link_own}
use Rattle.fbc_version_edits.proofs.NoNewLinks.{MakesNoLink, was_link}
use Rattle.fbc_version_edits.proofs.OneCell.{IsOneCell, here_or_not, is_new, one_cell_cleared, one_cell_put, reached_after}
use Rattle.fbc_version_edits.proofs.Over.{FromOver, from_over, own_relation}
use Rattle.fbc_version_edits.proofs.TakenBack.{taken_other_links, taken_own_link}
use Rattle.fbc_origins.specs.Owed.{IsInOrder}
use Rattle.fbc_origins.proofs.ClearsAllowed.{clears-unnamed}
use Rattle.fbc_origins.proofs.PutPages.{IsPutPage, put-page, put-reached}
use Rattle.fbc_origins.proofs.PutsAllowed.{allows-backout, allows-cut, allows-first, allows-move, allows-over, allows-own}
use Rattle.fbc_origins.specs.Rows.{SettledRowsAreNamed}
use Rattle.fbc_origins.proofs.ClearsLost.{clear-seen}
use Rattle.fbc_origins.proofs.PutsLost.{put-newest, put-seen}

-- An edit that makes no link links what was linked.
came : {before after : View} {page cell : ℕ} {old new : Cell} (sound : IsSound before) (one : IsOneCell before after page cell old new) → MakesNoLink before page cell old new → (back_page back_cell : ℕ) → IsLinked after back_page back_cell
    → IsLinked before back_page back_cell
came sound one no_link back_page back_cell l =
    let was = was_link sound one no_link l.relation l.from_page l.from_cell back_page back_cell l.version l.links in
    record { relation = l.relation; from_page = l.from_page; from_cell = l.from_cell; version = was.before_it; links = was.links }

-- So does one that takes a top back.
came_back : {before after : View} {page cell : ℕ} {new : Cell} (sound : IsSound before) (backout : IsBackoutIn before page cell new) (one : IsOneCell before after page cell backout.old new) → (back_page back_cell : ℕ) → IsLinked after back_page back_cell
    → IsLinked before back_page back_cell
came_back {before = before} {after = after} {page = page} {cell = cell} {new = new} sound backout one back_page back_cell l = go (here_or_not page cell l.from_page l.from_cell) where
  go : IsPlace page cell l.from_page l.from_cell ⊎ ¬ IsPlace page cell l.from_page l.from_cell → IsLinked before back_page back_cell
  go (inr differ) =
      record { relation = l.relation; from_page = l.from_page; from_cell = l.from_cell; version = l.version; links = taken_other_links sound backout one l.relation l.from_page l.from_cell back_page back_cell l.version differ l.links }
  go (inl at_it) =
      let here : LinksTo after l.relation page cell l.version back_page back_cell = subst (λ q. LinksTo after l.relation q cell l.version back_page back_cell) at_it.0
      (subst (λ c. LinksTo after l.relation l.from_page c l.version back_page back_cell) at_it.1 l.links) in
      let new_here = subst (λ (v : Cell). LinksTo after l.relation page cell v back_page back_cell) (is_new one page cell l.version (refl, refl) here.stands) here in
      let below : LinksBelow before l.relation backout.old back_page back_cell = taken_own_link sound backout one l.relation back_page back_cell new_here in
      record { relation = l.relation; from_page = backout.old.back_page; from_cell = backout.old.back_cell; version = below.below; links = below.links }

module _ (at : Scene) (order : IsInOrder at) (named : SettledRowsAreNamed at) (owner page cell : ℕ) (made : Page) (cut : Cut) (closed : IsClosedCut at.world cut)
    (back_page back_cell : ℕ) (none : ¬ IsLinked (view at.world cut) back_page back_cell) (none_newest : ¬ IsLinked (with_page (newest_at at) page made) back_page back_cell) where
  abbrev seen : View
  seen = view at.world cut

  abbrev seen_now : View
  seen_now = with_page seen page made

  module _ (content : Cell) (g : GuardOfEdit at owner page (PutCell cell content)) (is : page_after at.shape at.world owner page (PutCell cell content) ≡ Some made)
      (sees : SeesEdit at owner page (view at.world cut) (view_stamps at.world at.stamps cut)) where
    abbrev put : IsPutIn at.shape seen page cell content made
    put = put-seen at order.upheld order.numbered order.original named owner page cell content g made is cut closed sees

    -- A new version is named in the newest pages where it is in the view.
    module _ (f : IsNewVersion at owner page cell content) where
      over : IsOverIn seen put.page.relation page cell content
      over = allows-over at order.upheld order.numbered order.original owner page cell content g seen (view_stamps at.world at.stamps cut) sees f

      new_link : IsPlace content.back_page content.back_cell back_page back_cell → IsLinked (with_page (newest_at at) page made) back_page back_cell
      new_link at_it =
          let p : IsPutPage at owner page cell content = put-page at owner page cell content g in
          let one = one_cell_put (put-newest at order.upheld order.numbered order.original named owner page cell content g made is cut closed sees) f.stands in
          record {
            relation = p.data_page.relation;
            from_page = page;
            from_cell = cell;
            version = content;
            links = record {
              reached = top p.data_page.sequence page cell content (reached_after one (DataRole p.data_page.relation p.data_page.sequence) page (put-reached at owner page cell content g order.upheld)) one.is f.top;
              stands = one.is;
              names = record { some = over.linked; page_is = sym at_it.0; cell_is = sym at_it.1 };
            };
          }

      over-stays : ¬ IsLinked seen_now back_page back_cell
      over-stays l = go (from_over put.sound over (one_cell_put put over.stands) (own_relation put) l.relation l.from_page l.from_cell back_page back_cell l.version l.links) where
        go : FromOver put.sound over (one_cell_put put over.stands) (own_relation put) l.relation l.from_page l.from_cell l.version back_page back_cell → ⊥
        go (FromOver.kept differ was) = none (record { relation = l.relation; from_page = l.from_page; from_cell = l.from_cell; version = l.version; links = was })
        go (FromOver.made at_it same to reached) = none_newest (new_link to)
        go (FromOver.taken_along at_it same was) = none (record { relation = l.relation; from_page = page; from_cell = cell; version = over.old; links = was })

    abbrev stamps_of : ℕ → Stamps
    stamps_of = view_stamps at.world at.stamps cut

    gone_back : (backout : IsBackoutIn seen page cell content) → ¬ IsLinked seen_now back_page back_cell
    gone_back backout l = none (came_back put.sound backout (one_cell_put put backout.stands) back_page back_cell l)

    pub puts-stay : IsPut at owner page cell content → ¬ IsLinked seen_now back_page back_cell
    puts-stay (IsPut.first f) l =
        let form = allows-first at order.upheld order.numbered order.original owner page cell content g seen stamps_of sees f in
        none (came put.sound (one_cell_put put form.stands) (no_link_first put.sound page cell content form) back_page back_cell l)
    puts-stay (IsPut.over_own f) l =
        let form = allows-own at order.upheld order.numbered order.original owner page cell content g seen stamps_of sees f in
        none (came put.sound (one_cell_put put form.stands) (no_link_own put.sound page cell content form) back_page back_cell l)
    puts-stay (IsPut.over f) l = over-stays f l
    puts-stay (IsPut.move f) l =
        let form = allows-move at order.upheld order.numbered order.original owner page cell content g seen stamps_of sees f in
        none (came put.sound (one_cell_put put form.stands) (no_link_move put.sound page cell content form) back_page back_cell l)
    puts-stay (IsPut.backout f) l = gone_back (allows-backout at order.upheld order.numbered order.original owner page cell content g seen stamps_of sees f) l
    puts-stay (IsPut.cut f) l =
        let form = allows-cut at order.upheld order.numbered order.original owner page cell content g seen stamps_of sees f in
        none (came put.sound (one_cell_put put form.stands) (no_link_cut put.sound page cell content form) back_page back_cell l)

  module _ (g : GuardOfEdit at owner page (ClearCell cell)) (is : page_after at.shape at.world owner page (ClearCell cell) ≡ Some made)
      (sees : SeesEdit at owner page (view at.world cut) (view_stamps at.world at.stamps cut)) where
    pub clears-stay : ¬ IsLinked seen_now back_page back_cell
    clears-stay l =
        let clear = clear-seen at order.upheld order.original named owner page cell g made is cut closed sees in
        let unnamed = clears-unnamed at order owner page cell g seen (view_stamps at.world at.stamps cut) sees in
        none (came clear.sound (one_cell_cleared clear unnamed.stands) (no_link_clear clear.sound page cell unnamed.old unnamed.unnamed) back_page back_cell l)
