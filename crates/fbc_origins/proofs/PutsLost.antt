-- What a put makes unreached in the newest pages it makes unreached in each view that sees it.
use Rattle.std.proofs.Common.{◌≡◌, ◌≢◌, ◌∙◌, ◌==◌, ◌&&◌, ◌⊎◌, inl, inr, ℕ, Bool, true, false, not, Option, Some, refl, sym, ap, subst, arith}
use Rattle.std.proofs.lemmas.Bool.Decides.{nat_tests}
use Rattle.std.proofs.lemmas.Option.{same_Some}
use Rattle.fbc_kinds.specs.declared.edits.Edit.TheVariants.{PutCell}
use Rattle.fbc_kinds.specs.declared.pages.Cell.{Cell}
use Rattle.fbc_kinds.specs.declared.pages.Flag.TheVariants as flag
use Rattle.fbc_kinds.specs.declared.pages.Page.{Page}
use Rattle.fbc_kinds.specs.declared.pages.Page.TheVariants as kind
use Rattle.fbc_kinds.specs.Reach.{DataRole, NamesBack, Reaches, ReachesCell, along, top}
use Rattle.fbc_kinds.specs.Sound.{IsBackValue, IsSound}
use Rattle.fbc_kinds.specs.View.{View, cell_at, is_back, is_empty, is_top}
use Rattle.fbc_page_edits.specs.Alike.{HasNoMoreLinks}
use Rattle.fbc_version_edits.specs.Forms.{IsBackout as IsBackoutIn, IsCut as IsCutIn}
use Rattle.fbc_page_edits.specs.Allowed.{Fits}
use Rattle.fbc_page_edits.specs.Edited.{with_page}
use Rattle.fbc_page_edits.specs.Facing.{IsLinked}
use Rattle.fbc_world.specs.World.{page_after}
use Rattle.fbc_legal.specs.Facts.{HoldsCell}
use Rattle.fbc_legal.specs.Guards.{GuardOfEdit}
use Rattle.fbc_legal.specs.Leans.{CutLeans, LeadsTo, MayCut}
use Rattle.fbc_legal.specs.Rows.{IsBackout, IsCut, IsNewVersion, IsOwnChange, IsPut, as_back, without_link}
use Rattle.fbc_legal.specs.Scene.{Scene, born_at, newest_at}
use Rattle.fbc_legal.specs.Stamps.{Stamps, takes_link}
use Rattle.fbc_closed_cuts.specs.Cut.{Cut, IsClosedCut, view}
use Rattle.fbc_closed_cuts.specs.Owed.{SeesEdit}
use Rattle.fbc_closed_cuts.specs.Upheld.{IsUpheld}
use Rattle.fbc_closed_cuts.specs.Views.{view_stamps}
use Rattle.fbc_numbers.specs.Numbers.{IsNumbered}
use Rattle.fbc_version_edits.specs.Differences.{IsPlace}
use Rattle.fbc_version_edits.specs.Puts.{IsPutIn}
use Rattle.fbc_version_edits.proofs.Flags.{back_of_empty, back_of_top, linked_back, reached_how, top_of_empty, unlinked, unreached}
use Rattle.fbc_version_edits.proofs.NoLinkForms.{no_link_cut}
use Rattle.fbc_version_edits.proofs.NoNewLinks.{names_none, no_more_links}
use Rattle.fbc_version_edits.proofs.OneCell.{IsOneCell, is_old, old_stands, one_cell_put, reached_after}
use Rattle.fbc_origins.specs.Origins.{IsOriginal}
use Rattle.fbc_origins.proofs.NewestFits.{newest-fits}
use Rattle.fbc_origins.proofs.PutPages.{IsPutPage, newest-shape, newest-sound, put-page, put-reached}
use Rattle.fbc_origins.proofs.PutsAllowed.{allows-backout, allows-over, page-seen}
use Rattle.fbc_closed_cuts.proofs.LeansSeen.{lean-seen}
use Rattle.fbc_origins.proofs.Seeing.{stands-seen}
use Rattle.fbc_origins.specs.Rows.{SettledRowsAreNamed}
use Rattle.fbc_origins.proofs.GoneBelow.{gone-below}
use Rattle.fbc_origins.proofs.Links.{IsLinkedFor, leads-linked}
use Rattle.fbc_origins.proofs.LostLinks.{IsNamedAfter, lost-below, nothing-lost}
use Rattle.fbc_origins.proofs.PutLinks.{one_flag}
use Rattle.fbc_origins.proofs.SharedChains.{IsSharedCell, one-stamp, shared-chain, shared-leads}
use Rattle.fbc_origins.proofs.TakenGone.{taken-gone}

-- A chain starts with a version that names a cell.
pub leads-head : (view : View) (page cell back_page back_cell : ℕ) (version : Cell) → LeadsTo view page cell back_page back_cell → cell_at view page cell ≡ Some version → (version.back_page == 0) ≡ false
leads-head view page cell _ _ version (LeadsTo.straight back_page back_cell found stands names) here = ap (λ (v : Cell). v.back_page == 0) (same_Some version found (sym here ∙ stands)) ∙ names.some
leads-head view page cell _ _ version (LeadsTo.along between_page between_cell back_page back_cell found leads stands names) here = leads-head view page cell between_page between_cell version leads here

pub not_zero : (n : ℕ) → (n == 0) ≡ false → n ≢ 0
not_zero n is same = absurd (grind (arith, nat_tests, is, same))

is_zero_not : (n : ℕ) → n ≢ 0 → (n == 0) ≡ false
is_zero_not n apart = go (n == 0) refl where
  go : (b : Bool) → n == 0 ≡ b → b ≡ false
  go true is = absurd (apart (grind (arith, nat_tests, is)))
  go false is = refl

-- A version without its link has lost it.
link_taken : (old : Cell) → old.back_page ≢ 0 → takes_link old (without_link old) ≡ true
link_taken old linked = rw (one_flag old.flag, is_zero_not old.back_page linked) (number_itself (old.number == old.number) (grind (arith, nat_tests))) where
  number_itself : (b : Bool) → b ≡ true → (true && b && not false && (0 == 0)) ≡ true
  number_itself true is = refl
  number_itself false is = cc

module _ (at : Scene) (u : IsUpheld at) (n : IsNumbered at) (origin : IsOriginal at) (named : SettledRowsAreNamed at)
    (owner page cell : ℕ) (content : Cell) (g : GuardOfEdit at owner page (PutCell cell content)) (made : Page) (is : page_after at.shape at.world owner page (PutCell cell content) ≡ Some made)
    (cut : Cut) (closed : IsClosedCut at.world cut) (sees : SeesEdit at owner page (view at.world cut) (view_stamps at.world at.stamps cut)) where
  abbrev p : IsPutPage at owner page cell content
  p = put-page at owner page cell content g

  abbrev newest : View
  newest = newest_at at

  abbrev seen : View
  seen = view at.world cut

  pub sound : IsSound newest
  sound = newest-sound at u

  abbrev newest_now : View
  newest_now = with_page newest page made

  abbrev seen_now : View
  seen_now = with_page seen page made

  pub fits_newest : Fits at.shape (PutCell cell content) (Some (kind.Data p.data_page)) made
  fits_newest = subst (λ (o : Option Page). Fits at.shape (PutCell cell content) o made) p.stands (newest-fits at u.coherent owner page (PutCell cell content) made g is)

  abbrev pub put-newest : IsPutIn at.shape newest page cell content made
  put-newest = record { of_shape = newest-shape at u; sound = sound; page = p.data_page; stands = p.stands; fits = fits_newest }

  abbrev pub put-seen : IsPutIn at.shape seen page cell content made
  put-seen = record {
    of_shape = u.of_shape cut closed;
    sound = u.sound cut closed;
    page = p.data_page;
    stands = page-seen at u n origin owner page cell content g seen (view_stamps at.world at.stamps cut) sees;
    fits = fits_newest;
  }

  reached_page : Reaches newest (DataRole p.data_page.relation p.data_page.sequence) page
  reached_page = put-reached at owner page cell content g u

  module _ (back_page back_cell : ℕ) (linked : IsLinked newest back_page back_cell) (lost : ¬ IsLinked newest_now back_page back_cell) where
    -- Nothing was reached through a cell that is empty.
    over-empty : (old : Cell) → cell_at newest page cell ≡ Some old → is_empty old.flag ≡ true → ⊥
    over-empty old stands empty =
        let one : IsOneCell newest newest_now page cell old content = one_cell_put put-newest stands in
        let way = lost-below one back_page back_cell linked lost in
        unreached sound way.relation page cell old stands (top_of_empty old.flag empty) (unlinked sound page cell old stands (back_of_empty old.flag empty)) way.reached

    -- A new top with the link of the old one loses nothing.
    over-own : IsOwnChange at owner page cell content → ⊥
    over-own f =
        let one : IsOneCell newest newest_now page cell f.old content = one_cell_put put-newest f.stands in
        lost (nothing-lost one f.top (λ relation to_page to_cell reached names. record {
          from_page = page;
          from_cell = cell;
          version = content;
          links = record { reached = reached; stands = one.is; names = record { some = ap (λ n. n == 0) f.link.page ∙ names.some; page_is = f.link.page ∙ names.page_is; cell_is = f.link.cell ∙ names.cell_is } };
        }) back_page back_cell linked)

    -- Nor does one that names the moved version.
    module _ (f : IsNewVersion at owner page cell content) where
      one_over : IsOneCell newest newest_now page cell f.old content
      one_over = one_cell_put put-newest f.stands

      apart : ¬ IsPlace page cell content.back_page content.back_cell
      apart at_it =
          let same : as_back f.old ≡ f.old = same_Some (as_back f.old) f.old (sym f.back ∙ old_stands one_over content.back_page content.back_cell at_it) in
          let flags : flag.Back ≡ flag.Primary = ap (λ (v : Cell). v.flag) same ∙ f.over in
          cc

      moved_there : cell_at newest_now content.back_page content.back_cell ≡ Some (as_back f.old)
      moved_there = one_over.others content.back_page content.back_cell apart ∙ f.back

      over-other : (content.back_page == 0) ≡ false → ⊥
      over-other some =
          lost (nothing-lost one_over f.top (λ relation to_page to_cell reached names. record {
            from_page = content.back_page;
            from_cell = content.back_cell;
            version = as_back f.old;
            links = record {
              reached = along page cell content.back_page content.back_cell content reached one_over.is (record { some = some; page_is = refl; cell_is = refl });
              stands = moved_there;
              names = record { some = names.some; page_is = names.page_is; cell_is = names.cell_is };
            };
          }) back_page back_cell linked)

    -- A version is taken back: only the link to the one below it is lost.
    module _ (f : IsBackout at page cell content) where
      one_back : IsOneCell newest newest_now page cell f.old content
      one_back = one_cell_put put-newest f.stands

      raised_top : is_top content.flag ≡ true
      raised_top = ap (λ (v : Cell). is_top v.flag) f.same

      newest_top : ReachesCell newest_now p.data_page.relation page cell
      newest_top = top p.data_page.sequence page cell content (reached_after one_back (DataRole p.data_page.relation p.data_page.sequence) page reached_page) one_back.is raised_top

      -- The version below the top is another cell.
      no_value_here : (relation other place : ℕ) → IsLinkedFor newest relation other place → ¬ IsPlace page cell other place
      no_value_here relation other place l at_it =
          let value : IsBackValue newest relation other place l.version.number = sound.back relation l.from_page l.from_cell other place l.version l.links in
          let same : value.back ≡ f.old = is_old one_back other place value.back at_it value.stands in
          let no = back_of_top f.old.flag f.over in
          let yes : is_back f.old.flag ≡ true = ap (λ (v : Cell). is_back v.flag) (sym same) ∙ value.is_value in
          cc

      -- What was below the top is the version that was raised, or linked still.
      still_below : (other place : ℕ) → LeadsTo newest page cell other place → IsPlace f.old.back_page f.old.back_cell other place ⊎ IsNamedAfter one_back p.data_page.relation other place
      still_below _ _ (LeadsTo.straight other place version stands names) =
          let same : version ≡ f.old = is_old one_back page cell version (refl, refl) stands in
          inl (sym names.page_is ∙ ap (λ (v : Cell). v.back_page) same, sym names.cell_is ∙ ap (λ (v : Cell). v.back_cell) same)
      still_below _ _ (LeadsTo.along between_page between_cell other place version leads stands names) = go (still_below between_page between_cell leads) where
        go : IsPlace f.old.back_page f.old.back_cell between_page between_cell ⊎ IsNamedAfter one_back p.data_page.relation between_page between_cell
            → IsPlace f.old.back_page f.old.back_cell other place ⊎ IsNamedAfter one_back p.data_page.relation other place
        go (inl at_it) =
            let same : version ≡ f.back = same_Some version f.back (sym stands ∙ ap (λ q. cell_at newest q between_cell) at_it.0 ∙ ap (cell_at newest f.old.back_page) at_it.1 ∙ f.below) in
            inr (record {
              from_page = page;
              from_cell = cell;
              version = content;
              links = record {
                reached = newest_top;
                stands = one_back.is;
                names = subst (λ (v : Cell). NamesBack v other place) (sym f.same)
                    (record {
                      some = ap (λ (v : Cell). v.back_page == 0) (sym same) ∙ names.some;
                      page_is = ap (λ (v : Cell). v.back_page) (sym same) ∙ names.page_is;
                      cell_is = ap (λ (v : Cell). v.back_cell) (sym same) ∙ names.cell_is;
                    });
              };
            })
        go (inr named_now) =
            let first : ReachesCell newest p.data_page.relation page cell = top p.data_page.sequence page cell f.old reached_page f.stands f.over in
            let differ : ¬ IsPlace page cell between_page between_cell = no_value_here p.data_page.relation between_page between_cell (leads-linked newest p.data_page.relation page cell between_page between_cell first leads) in
            inr (record {
              from_page = between_page;
              from_cell = between_cell;
              version = version;
              links = record {
                reached = along named_now.from_page named_now.from_cell between_page between_cell named_now.version named_now.links.reached named_now.links.stands named_now.links.names;
                stands = one_back.others between_page between_cell differ ∙ stands;
                names = names;
              };
            })

      lost_is_below : IsPlace f.old.back_page f.old.back_cell back_page back_cell
      lost_is_below = go (still_below back_page back_cell (lost-below one_back back_page back_cell linked lost).leads) where
        go : IsPlace f.old.back_page f.old.back_cell back_page back_cell ⊎ IsNamedAfter one_back p.data_page.relation back_page back_cell → IsPlace f.old.back_page f.old.back_cell back_page back_cell
        go (inl at_it) = at_it
        go (inr l) = absurd (lost (record { relation = p.data_page.relation; from_page = l.from_page; from_cell = l.from_cell; version = l.version; links = l.links }))

      -- And it is lost in the view, which has the row.
      seen_page : Reaches seen (DataRole p.data_page.relation p.data_page.sequence) page
      seen_page = named p.data_page.relation p.data_page.sequence page cell f.old reached_page f.stands (f.over, inl f.linked) cut closed

      abbrev in_view : IsBackoutIn seen page cell content
      in_view = allows-backout at u n origin owner page cell content g seen (view_stamps at.world at.stamps cut) sees f

      -- The view shows the same top.
      same_top : in_view.old ≡ f.old
      same_top = same_Some in_view.old f.old (sym in_view.stands ∙ stands-seen at owner page seen (view_stamps at.world at.stamps cut) sees cell f.old f.stands)

      in_view_gone : ¬ IsLinked seen_now in_view.old.back_page in_view.old.back_cell
      in_view_gone =
          taken-gone put-seen.sound in_view (one_cell_put put-seen in_view.stands) p.data_page.relation
          (top p.data_page.sequence page cell in_view.old seen_page in_view.stands in_view.over)

      over-dead : ¬ IsLinked seen_now back_page back_cell
      over-dead l =
          subst (λ (v : Cell). ¬ IsLinked seen_now v.back_page v.back_cell) same_top in_view_gone
          (subst (λ q. IsLinked seen_now q f.old.back_cell) lost_is_below.0 (subst (λ c. IsLinked seen_now back_page c) lost_is_below.1 l))

    -- A version loses its link.
    module _ (f : IsCut at page cell content) where
      one_cut : IsOneCell newest newest_now page cell f.old content
      one_cut = one_cell_put put-newest f.stands

      stands_there : cell_at seen page cell ≡ Some f.old
      stands_there = stands-seen at owner page seen (view_stamps at.world at.stamps cut) sees cell f.old f.stands

      one_cut_seen : IsOneCell seen seen_now page cell f.old content
      one_cut_seen = one_cell_put put-seen stands_there

      abbrev cut_in : IsCutIn seen page cell content
      cut_in = record { old = f.old; stands = stands_there; linked = is_zero_not f.old.back_page f.linked; same = f.same }

      no_more : HasNoMoreLinks seen seen_now
      no_more =
          no_more_links put-seen.sound one_cut_seen (no_link_cut put-seen.sound page cell content cut_in)
          (λ relation to_page to_cell reached names. names_none content to_page to_cell (ap (λ (v : Cell). v.back_page) f.same) names)

      -- Both views reach the version, which they share.
      abbrev Shared : ℕ → Type 0
      Shared relation = IsSharedCell at u origin.versions origin.meant cut closed relation page cell

      top_shared : is_top f.old.flag ≡ true → Shared p.data_page.relation
      top_shared first =
          one-stamp at u origin.versions origin.meant cut closed p.data_page.relation page cell f.old f.old
          (top p.data_page.sequence page cell f.old reached_page f.stands first)
          (top p.data_page.sequence page cell f.old (named p.data_page.relation p.data_page.sequence page cell f.old reached_page f.stands (first, inl f.linked) cut closed) stands_there first)
          stands_there f.stands (ap (λ (s : Stamps). s.born cell) sees.edited_page.stamps)

      cut_leans : is_back f.old.flag ≡ true → CutLeans at owner page cell
      cut_leans back = subst (λ o. MayCut at owner page cell content o) f.stands p.leans.cut (both_hold (is_back f.old.flag) (takes_link f.old content) back (subst (λ (v : Cell). takes_link f.old v ≡ true) (sym f.same) (link_taken f.old f.linked))) where
        both_hold : (a b : Bool) → a ≡ true → b ≡ true → (a && b) ≡ true
        both_hold true true one two = refl
        both_hold true false one two = cc
        both_hold false b one two = cc

      value_shared : (c : CutLeans at owner page cell) → Shared c.relation
      value_shared c =
          let linked_top : c.top.back_page ≢ 0 = not_zero c.top.back_page (leads-head newest c.page c.place page cell c.top c.leads c.stands) in
          let there : HoldsCell c.place c.top (born_at at c.page c.place) (seen c.page) (view_stamps at.world at.stamps cut c.page) =
          lean-seen at owner page seen (view_stamps at.world at.stamps cut) sees (HoldsCell c.place c.top (born_at at c.page c.place)) c.page c.shown in
          shared-chain at u origin.versions origin.meant cut closed c.relation c.page c.place page cell
          (one-stamp at u origin.versions origin.meant cut closed c.relation c.page c.place c.top c.top
          (top c.sequence c.page c.place c.top c.named c.stands c.is_first)
          (top c.sequence c.page c.place c.top (named c.relation c.sequence c.page c.place c.top c.named c.stands (c.is_first, inl linked_top) cut closed) there.0 c.is_first)
          there.0 c.stands there.1)
          c.leads

      gone_by : (relation : ℕ) → Shared relation → ¬ IsLinked seen_now back_page back_cell
      gone_by relation shared =
          gone-below put-seen.sound one_cut_seen (ap (λ (v : Cell). v.back_page) f.same) no_more relation back_page back_cell shared.seen_too
          (shared-leads at u origin.versions origin.meant cut closed relation page cell back_page back_cell shared (lost-below one_cut back_page back_cell linked lost).leads)

      over-cut : ¬ IsLinked seen_now back_page back_cell
      over-cut = go (reached_how sound f.relation page cell f.reached f.old f.stands) where
        go : (is_top f.old.flag ≡ true) ⊎ IsLinked newest page cell → ¬ IsLinked seen_now back_page back_cell
        go (inl first) = gone_by p.data_page.relation (top_shared first)
        go (inr linked_value) = let c = cut_leans (linked_back sound page cell f.old linked_value f.stands) in gone_by c.relation (value_shared c)

    -- Whatever is put.
    pub puts-lose : IsPut at owner page cell content → ¬ IsLinked seen_now back_page back_cell
    puts-lose (IsPut.first f) = absurd (over-empty f.old f.stands f.over)
    puts-lose (IsPut.over_own f) = absurd (over-own f)
    puts-lose (IsPut.over f) = absurd (over-other f (allows-over at u n origin owner page cell content g seen (view_stamps at.world at.stamps cut) sees f).linked)
    puts-lose (IsPut.move f) = absurd (over-empty f.old f.stands f.over)
    puts-lose (IsPut.backout f) = over-dead f
    puts-lose (IsPut.cut f) = over-cut f
