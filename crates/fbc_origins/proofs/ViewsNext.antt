-- What holds of every view before an event holds of every view after it: where no edit was made, and where each view that
-- comes to hold an edited page keeps it.
use Rattle.std.proofs.Common.{◌≡◌, ◌∙◌, ◌==◌, ◌⊎◌, inl, inr, ℕ, Bool, true, false, ◌∷◌, Option, Some, is_some, if◌then◌else◌, refl, sym, ap, subst, arith}
use Rattle.std.proofs.Math.Path.{fun_ext}
use Rattle.std.proofs.lemmas.Bool.Decides.{nat_tests}
use Rattle.fbc_kinds.specs.declared.edits.Edit.{Edit}
use Rattle.fbc_kinds.specs.declared.pages.Page.{Page}
use Rattle.fbc_kinds.specs.declared.shapes.Shape.{Shape}
use Rattle.fbc_kinds.specs.View.{View}
use Rattle.fbc_page_edits.specs.Edited.{with_page}
use Rattle.fbc_world.specs.declared.events.Act.TheVariants.{Local}
use Rattle.fbc_world.specs.declared.events.LocalEvent.TheVariants as local
use Rattle.fbc_world.specs.History.{History, Moment, happens}
use Rattle.fbc_world.specs.PageCell.{page_for}
use Rattle.fbc_world.specs.World.{World, page_after, world_of}
use Rattle.fbc_legal.specs.Guards.{GuardOfEdit}
use Rattle.fbc_legal.specs.Legal.{IsLegal}
use Rattle.fbc_legal.specs.Scene.{Scene, HasDraft, IsBefore, newest_at, scene_of}
use Rattle.fbc_legal.specs.Stamps.{PageStamps, Stamps, born_in_newest, newest_stamps, stamp_after, stamped, stamps_for, stamps_of}
use Rattle.fbc_legal.proofs.Exclusion.{IsOwnDraft}
use Rattle.fbc_legal.proofs.HeaderGrowth.{exclusive-own, newest-own}
use Rattle.fbc_legal.proofs.Induction.{IsCoherent-legal}
use Rattle.fbc_closed_cuts.specs.Cut.{Cut, IsClosedCut, view}
use Rattle.fbc_closed_cuts.specs.Owed.{IsSeenKept, IsSeenNewest, SeesEdit}
use Rattle.fbc_closed_cuts.specs.Views.{IsSameView, IsViewOfEdit, cut_before, drafted_in, is_edit, view_stamps}
use Rattle.fbc_closed_cuts.proofs.CutLaws.{edit-spares, edit-views, named_nowhere-unreached, no-new-views, takes}
use Rattle.fbc_closed_cuts.proofs.WriteViews.{draft_there}
use Rattle.fbc_origins.specs.Origins.{EveryView}
use Rattle.fbc_origins.proofs.StampLineage.{stamps-own}

-- A view after an edit that holds the edited page: the view before it sees the edit, and the page has its new content and
-- stamps.
pub record IsEditedView (at : Scene) (owner page : ℕ) (e : Edit) (content : Page) (seen : View) (stamps : ℕ → Stamps) (after : View) (later : ℕ → Stamps) : Type 0 where
  pub sees : SeesEdit at owner page seen stamps
  pub pages : with_page seen page content ≡ after
  pub now : later page ≡ stamped (stamp_after at.past) (born_in_newest at.world at.stamps) (newest_at at page) e (newest_stamps at.world at.stamps page)
  pub others : (other : ℕ) → ¬ (other ≡ page) → later other ≡ stamps other

module _ (shape : Shape) (file : View) (before : History) (Holds : View → (ℕ → Stamps) → Type 0) where
  abbrev at : Scene
  at = scene_of shape file before

  abbrev w : World
  w = at.world

  same-view : (after : World) (after_stamps : PageStamps) (cut earlier : Cut) → IsSameView w at.stamps after after_stamps cut earlier → Holds (view w earlier) (view_stamps w at.stamps earlier)
      → Holds (view after cut) (view_stamps after after_stamps cut)
  same-view after after_stamps cut earlier same is =
      subst (λ (v : View). Holds v (view_stamps after after_stamps cut)) (sym (fun_ext same.pages)) (subst (λ (s : ℕ → Stamps). Holds (view w earlier) s) (sym (fun_ext same.stamps)) is)

  -- No other act than an edit makes a view.
  pub views-acted : (moment : Moment) → IsLegal shape file (moment ∷ before) → is_edit moment.event.act ≡ false → EveryView at Holds → EveryView (scene_of shape file (moment ∷ before)) Holds
  views-acted moment legal plain each cut closed =
      let same = no-new-views shape file before moment cut legal plain closed in
      same-view (world_of shape file (moment ∷ before)) (stamps_of shape file (moment ∷ before)) cut (cut_before moment.event.act moment.landed cut) same (each (cut_before moment.event.act moment.landed cut) same.closed)

  module _ (owner page : ℕ) (e : Edit) (landed : Bool) (legal : IsLegal shape file (happens owner (Local (local.Edit page e)) landed ∷ before)) (content : Page) (is : page_after shape w owner page e ≡ Some content) where
    abbrev edits : Moment
    edits = happens owner (Local (local.Edit page e)) landed

    abbrev after : World
    after = world_of shape file (edits ∷ before)

    abbrev after_stamps : PageStamps
    after_stamps = stamps_of shape file (edits ∷ before)

    g : GuardOfEdit at owner page e
    g = legal.1.guard

    own : IsOwnDraft owner (w.draft page)
    own = exclusive-own w (IsCoherent-legal shape file before legal.0) owner page g.exclusive

    abbrev restamped : Option Page → Stamps → Stamps
    restamped old s = stamped (stamp_after before) (born_in_newest w at.stamps) old e s

    pub draft-stamps : after_stamps.draft page ≡ restamped (newest_at at page) (newest_stamps w at.stamps page)
    draft-stamps = made (page_after shape w owner page e) is (page == page) (grind (arith, nat_tests)) where
      made : (found : Option Page) → found ≡ Some content → (b : Bool) → b ≡ true
          → (if is_some found then record at.stamps { draft = λ p. if p == page then restamped (page_for owner (w.kept page) (w.draft page)) (stamps_for owner w at.stamps page) else at.stamps.draft p } else at.stamps).draft page
          ≡ restamped (newest_at at page) (newest_stamps w at.stamps page)
      made found found_is b sure = rw found_is (here (page == page) (grind (arith, nat_tests))) where
        here : (c : Bool) → c ≡ true → (if c then restamped (page_for owner (w.kept page) (w.draft page)) (stamps_for owner w at.stamps page) else at.stamps.draft page) ≡ restamped (newest_at at page) (newest_stamps w at.stamps page)
        here true so =
            ap (λ (o : Option Page). restamped o (stamps_for owner w at.stamps page)) (sym (newest-own owner (w.kept page) (w.draft page) own))
            ∙ ap (restamped (newest_at at page)) (stamps-own owner (w.draft page) (at.stamps.draft page) (at.stamps.kept page) own)
        here false so = cc

    module _ (cut : Cut) (closed : IsClosedCut after cut) (in_cut : cut page ≡ true) where
      abbrev seen : View
      seen = view w (drafted_in w cut)

      abbrev stamps : ℕ → Stamps
      stamps = view_stamps w at.stamps (drafted_in w cut)

      changed : IsViewOfEdit w at.stamps after after_stamps page content cut
      changed = edit-views shape file before owner page e landed content cut is closed in_cut

      one_of : (other : ℕ) (b : Bool) → drafted_in w cut other ≡ b → IsSeenNewest at other (seen other) (stamps other) ⊎ IsSeenKept at other (seen other) (stamps other)
      one_of other true there = inl (record { page = rw there refl; stamps = rw there refl })
      one_of other false there = inr (record { page = rw there refl; stamps = rw there refl })

      newest_before : (other : ℕ) → HasDraft at owner other → IsBefore at other page → IsSeenNewest at other (seen other) (stamps other)
      newest_before other its path =
          let there : drafted_in w cut other ≡ true = rw ((takes shape file before owner page e landed content cut is closed in_cut).before_in other its path, draft_there owner (w.draft other) its) refl in
          record { page = rw there refl; stamps = rw there refl }

      sees : SeesEdit at owner page seen stamps
      sees = record {
        cut = drafted_in w cut;
        closed = changed.closed;
        pages = λ other. refl;
        origins = λ other. refl;
        edited_page = record { page = changed.was; stamps = changed.stamps_were };
        before = newest_before;
        each = λ other. one_of other (drafted_in w cut other) refl;
        unreached = λ other nowhere apart none. named_nowhere-unreached shape file before owner page e landed content cut is other legal.0 closed in_cut nowhere apart none;
      }

      pub edited-view : IsEditedView at owner page e content seen stamps (view after cut) (view_stamps after after_stamps cut)
      edited-view = record { sees = sees; pages = sym (fun_ext changed.pages); now = changed.now ∙ draft-stamps; others = changed.others }

    pub views-edited : EveryView at Holds → ((seen : View) (stamps : ℕ → Stamps) (later : View) (later_stamps : ℕ → Stamps) → IsEditedView at owner page e content seen stamps later later_stamps → Holds seen stamps → Holds later later_stamps)
        → EveryView (scene_of shape file (edits ∷ before)) Holds
    views-edited each keeps cut closed = go (cut page) refl where
      go : (b : Bool) → cut page ≡ b → Holds (view after cut) (view_stamps after after_stamps cut)
      go true in_cut =
          keeps (seen cut closed in_cut) (stamps cut closed in_cut) (view after cut) (view_stamps after after_stamps cut) (edited-view cut closed in_cut) (each (drafted_in w cut) (changed cut closed in_cut).closed)
      go false out =
          let same = edit-spares shape file before owner page e landed content cut is closed out in
          same-view after after_stamps cut (drafted_in w cut) same (each (drafted_in w cut) same.closed)
