-- What a backout takes back, in a view that sees it: the row is there, and so is the version below.
use Rattle.std.proofs.Common.{◌≡◌, ◌≢◌, ◌∙◌, ◌==◌, ℕ, Bool, List, true, false, if◌then◌else◌, Some, inl, refl, sym, ap, subst}
use Rattle.std.proofs.lemmas.Option.{same_Some}
use Rattle.fbc_kinds.specs.declared.edits.Edit.TheVariants.{PutCell}
use Rattle.fbc_kinds.specs.declared.pages.Cell.{Cell}
use Rattle.fbc_kinds.specs.declared.pages.Page.{Page}
use Rattle.fbc_kinds.specs.declared.shapes.Shape.{Shape}
use Rattle.fbc_kinds.specs.declared.snapshots.Transaction.{Transaction}
use Rattle.fbc_kinds.specs.Reach.{DataRole, LinksTo, ReachesCell, Reaches}
use Rattle.fbc_kinds.specs.Sound.{IsBackValue}
use Rattle.fbc_kinds.specs.View.{View, cell_at, cell_in, is_back}
use Rattle.fbc_version_edits.specs.Forms.{IsRaised, NamesNone}
use Rattle.fbc_page_edits.specs.Facing.{NameTheSame}
use Rattle.fbc_version_edits.specs.Open.{IsSettled}
use Rattle.fbc_world.specs.History.{History}
use Rattle.fbc_legal.specs.Guards.{GuardOfEdit}
use Rattle.fbc_legal.specs.Rows.{IsBackout}
use Rattle.fbc_legal.specs.Scene.{Scene, born_at, newest_at, scene_of}
use Rattle.fbc_legal.specs.Stamps.{Stamps, newest_stamps}
use Rattle.fbc_closed_cuts.specs.Cut.{Cut, view}
use Rattle.fbc_closed_cuts.specs.Views.{view_stamps}
use Rattle.fbc_numbers.specs.Numbers.{is_committed_in}
use Rattle.fbc_numbers.proofs.CutFacts.{clash}
use Rattle.fbc_origins.proofs.PutPages.{IsPutPage, every_draft, newest-closed, newest-shape, newest-sound, newest-view, put-page, put-reached}
use Rattle.fbc_origins.proofs.PutsAllowed.{allows-backout, linked}
use Rattle.fbc_origins.proofs.NamedEverywhere.{named-everywhere}
use Rattle.fbc_origins.proofs.CutsNext.{cuts-in-views}
use Rattle.fbc_simulation.specs.EditIn.{IsEditIn}
use Rattle.fbc_simulation.proofs.NoLinks.{no-link}
use Rattle.fbc_simulation.proofs.OpenNumbers.{settled-in}

module _ (shape : Shape) (file : View) (past : History) (owner page cell : ℕ) (new : Cell) (content : Page) (cut : Cut) (living : List Transaction)
    (is : IsEditIn shape file past owner page (PutCell cell new) content cut living) (f : IsBackout (scene_of shape file past) page cell new) where
  abbrev at : Scene
  at = scene_of shape file past

  abbrev seen : View
  seen = view at.world cut

  abbrev origin : ℕ → Stamps
  origin = view_stamps at.world at.stamps cut

  abbrev g : GuardOfEdit at owner page (PutCell cell new)
  g = is.sees.guard

  abbrev p : IsPutPage at owner page cell new
  p = put-page at owner page cell new g

  some_link : (f.old.back_page == 0) ≡ false
  some_link = linked at is.whole.order.upheld is.whole.order.numbered is.whole.order.original owner page cell new g seen origin is.sees.sees f

  -- The newest pages have the row.
  newest_page : Reaches (newest_at at) (DataRole p.data_page.relation p.data_page.sequence) page
  newest_page = put-reached at owner page cell new g is.whole.order.upheld

  newest_link : LinksTo (newest_at at) p.data_page.relation page cell f.old f.old.back_page f.old.back_cell
  newest_link = record {
    reached = ReachesCell.top p.data_page.sequence page cell f.old newest_page f.stands f.over;
    stands = f.stands;
    names = record { some = some_link; page_is = refl; cell_is = refl };
  }

  -- So has the view, since its top is settled.
  seen_link : LinksTo seen p.data_page.relation page cell f.old f.old.back_page f.old.back_cell
  seen_link = record {
    reached = ReachesCell.top p.data_page.sequence page cell f.old
        (named-everywhere at is.whole.order.upheld is.whole.rows.rows p.data_page.relation p.data_page.sequence page cell f.old newest_page f.stands (f.over, inl f.linked) cut is.closed) there f.over;
    stands = there;
    names = record { some = some_link; page_is = refl; cell_is = refl };
  } where
    there : cell_at seen page cell ≡ Some f.old
    there = ap (λ o. cell_in o cell) is.sees.sees.edited_page.page ∙ f.stands

  pub raised : IsRaised seen new f.old.back_page f.old.back_cell
  raised = (allows-backout at is.whole.order.upheld is.whole.order.numbered is.whole.order.original owner page cell new g seen origin is.sees.sees f).raised p.data_page.relation seen_link

  -- The version below is the same one in both, by its stamp.
  newest_meant : (newest_stamps at.world at.stamps page).meant cell ≡ born_at at f.old.back_page f.old.back_cell
  newest_meant = ap (λ (s : Stamps). s.meant cell) (sym (same_stamps page)) ∙ meant_in ∙ ap (λ (s : Stamps). s.born f.old.back_cell) (same_stamps f.old.back_page) where
    meant_in : (view_stamps at.world at.stamps (every_draft at.world) page).meant cell ≡ (view_stamps at.world at.stamps (every_draft at.world) f.old.back_page).born f.old.back_cell
    meant_in = is.whole.order.original.meant (every_draft at.world) (newest-closed at.world) p.data_page.relation page cell f.old.back_page f.old.back_cell f.old
        (subst (λ (v : View). LinksTo v p.data_page.relation page cell f.old f.old.back_page f.old.back_cell) (sym (newest-view at.world)) newest_link)

    same_stamps : (q : ℕ) → view_stamps at.world at.stamps (every_draft at.world) q ≡ newest_stamps at.world at.stamps q
    same_stamps q = pick (every_draft at.world q) (at.stamps.draft q) (at.stamps.kept q) where
      pick : (c : Bool) (x y : Stamps) → (if c then (if c then x else y) else y) ≡ (if c then x else y)
      pick true x y = refl
      pick false x y = refl

  one_born : (origin f.old.back_page).born f.old.back_cell ≡ born_at at f.old.back_page f.old.back_cell
  one_born =
      sym (is.whole.order.original.meant cut is.closed p.data_page.relation page cell f.old.back_page f.old.back_cell f.old seen_link)
      ∙ ap (λ (s : Stamps). s.meant cell) is.sees.sees.edited_page.stamps
      ∙ newest_meant

  one_number : new.number ≡ f.back.number
  one_number = ap (λ (v : Cell). v.number) f.same

  -- Where the view's version has a link, and the new one none, its number is settled.
  pub alone-settled : raised.below.back_page ≢ 0 → NamesNone new → IsSettled seen living new.number
  alone-settled some none =
      subst (IsSettled seen living) (sym one_number)
      (settled-in at is.whole cut is.closed living is.opens f.back.number
      (cuts-in-views at is.whole.cuts cut f.old.back_page f.old.back_cell raised.below f.back raised.stands f.below one_born some (sym (ap (λ (v : Cell). v.back_page) f.same) ∙ none)))

  -- Where neither has one, both name the same.
  pub both-none : raised.below.back_page ≡ 0 → NamesNone new → NameTheSame raised.below new
  both-none none also = record { page = also ∙ sym none; cell = new_cell ∙ sym old_cell } where
    old_value : IsBackValue seen p.data_page.relation f.old.back_page f.old.back_cell f.old.number
    old_value = is.sees.sound.back p.data_page.relation page cell f.old.back_page f.old.back_cell f.old seen_link

    new_value : IsBackValue (newest_at at) p.data_page.relation f.old.back_page f.old.back_cell f.old.number
    new_value = (newest-sound at is.whole.order.upheld).back p.data_page.relation page cell f.old.back_page f.old.back_cell f.old newest_link

    is_old : is_back raised.below.flag ≡ true
    is_old = subst (λ (v : Cell). is_back v.flag ≡ true) (same_Some old_value.back raised.below (sym old_value.stands ∙ raised.stands)) old_value.is_value

    is_new : is_back f.back.flag ≡ true
    is_new = subst (λ (v : Cell). is_back v.flag ≡ true) (same_Some new_value.back f.back (sym new_value.stands ∙ f.below)) new_value.is_value

    old_cell : raised.below.back_cell ≡ 0
    old_cell = no-link shape seen f.old.back_page f.old.back_cell raised.below is.sees.of_shape raised.stands is_old none

    new_cell : new.back_cell ≡ 0
    new_cell = ap (λ (v : Cell). v.back_cell) f.same
        ∙ no-link shape (newest_at at) f.old.back_page f.old.back_cell f.back (newest-shape at is.whole.order.upheld) f.below is_new (sym (ap (λ (v : Cell). v.back_page) f.same) ∙ also)

  -- The number below is committed in the newest pages, so it is not the owner's.
  pub backout-apart : (t : Transaction) → at.world.transaction owner ≡ Some t → ¬ (t.number ≡ new.number)
  backout-apart t open_is one =
      absurd
      (clash (is_committed_in (newest_at at) new.number)
      (ap (is_committed_in (newest_at at)) one_number ∙ (newest-sound at is.whole.order.upheld).below p.data_page.relation page cell f.old.back_page f.old.back_cell f.old f.back newest_link f.below)
      (ap (is_committed_in (newest_at at)) (sym one) ∙ is.whole.order.numbered.uncommitted owner t open_is g.unmarked))
