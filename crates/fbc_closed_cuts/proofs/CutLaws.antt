-- The laws of views for whole legal histories.
use Rattle.std.proofs.Common.{◌≡◌, ◌≢◌, ℕ, Bool, true, false, ◌∷◌, Option, Some, is_some, sym, subst, ◌⊎◌, inl, inr, refl}
use Rattle.std.specs.Prelude.{if◌then◌else◌, ◌==◌}
use Rattle.fbc_kinds.specs.declared.edits.Edit.{Edit}
use Rattle.fbc_kinds.specs.declared.pages.Page.{Page}
use Rattle.fbc_kinds.specs.declared.shapes.Shape.{Shape}
use Rattle.fbc_kinds.specs.Reach.{ReachesPage}
use Rattle.fbc_kinds.specs.View.{View}
use Rattle.fbc_world.specs.declared.events.Act.TheVariants.{Local}
use Rattle.fbc_world.specs.declared.events.LocalEvent.TheVariants as local
use Rattle.fbc_world.specs.History.{History, Moment, happens}
use Rattle.fbc_world.specs.Holdings.{is_draft_of}
use Rattle.fbc_world.specs.PageCell.{page_for}
use Rattle.fbc_world.specs.World.{World, page_after, with_edit, world_of}
use Rattle.fbc_legal.specs.Facts.{Fact}
use Rattle.fbc_legal.specs.Leans.{IsNamedNowhere, IsShown}
use Rattle.fbc_legal.specs.Legal.{IsLegal}
use Rattle.fbc_legal.specs.Rows.{IsNoInventory}
use Rattle.fbc_legal.specs.Scene.{HasDraft, IsBefore, scene_of}
use Rattle.fbc_legal.specs.Stamps.{PageStamps, Stamps, born_in_newest, stamp_after, stamped, stamps_for, stamps_of}
use Rattle.fbc_legal.proofs.Induction.{IsCoherent-legal, requests_true}
use Rattle.fbc_closed_cuts.specs.Cut.{Cut, IsClosedCut, view}
use Rattle.fbc_closed_cuts.specs.Owed.{IsSeenKept, IsSeenNewest, SeesEdit}
use Rattle.fbc_closed_cuts.specs.Views.{IsSameView, IsViewOfEdit, cut_before, drafted_in, is_edit, view_stamps}
use Rattle.fbc_closed_cuts.proofs.ActViews.{act-views}
use Rattle.fbc_closed_cuts.proofs.EditViews.{edit-changes, edit-leaves, still_drafted}
use Rattle.fbc_closed_cuts.proofs.HeadersGrow.{headers-grow}
use Rattle.fbc_closed_cuts.proofs.LeanViews.{TakesBefore, lean-shown}
use Rattle.fbc_closed_cuts.proofs.Unnamed.{unreached-view}
use Rattle.fbc_closed_cuts.proofs.WriteViews.{draft_there}

pub no-new-views : (shape : Shape) (file : View) (before : History) (moment : Moment) (cut : Cut) → IsLegal shape file (moment ∷ before) → is_edit moment.event.act ≡ false
    → IsClosedCut (world_of shape file (moment ∷ before)) cut
    → IsSameView (world_of shape file before) (stamps_of shape file before) (world_of shape file (moment ∷ before)) (stamps_of shape file (moment ∷ before)) cut (cut_before moment.event.act moment.landed cut)
no-new-views shape file before moment cut legal plain closed =
    act-views (scene_of shape file before) (IsCoherent-legal shape file before legal.0) (requests_true shape file before) moment.event.actor (stamp_after before) moment.event.act moment.landed
    legal.1.alive legal.1.guard plain cut closed

module _ (shape : Shape) (file : View) (before : History) (owner page : ℕ) (e : Edit) (landed : Bool) (content : Page) (cut : Cut) where
  abbrev w : World
  w = world_of shape file before

  abbrev s : PageStamps
  s = stamps_of shape file before

  abbrev edits : Moment
  edits = happens owner (Local (local.Edit page e)) landed

  abbrev restamped : Stamps
  restamped = stamped (stamp_after before) (born_in_newest w s) (page_for owner (w.kept page) (w.draft page)) e (stamps_for owner w s page)

  abbrev stamps_to : Option Page → PageStamps
  stamps_to after = if is_some after then record s { draft = λ p. if p == page then restamped else s.draft p } else s

  module _ (is : page_after shape w owner page e ≡ Some content) where
    pub edit-views : IsClosedCut (world_of shape file (edits ∷ before)) cut → cut page ≡ true
        → IsViewOfEdit w s (world_of shape file (edits ∷ before)) (stamps_of shape file (edits ∷ before)) page content cut
    edit-views closed in_cut =
        subst (λ o. IsClosedCut (with_edit w owner page e o) cut → IsViewOfEdit w s (with_edit w owner page e o) (stamps_to o) page content cut) (sym is)
        (λ c. edit-changes w s owner page e content restamped cut c in_cut) (record { drafted = closed.drafted; closed = closed.closed })

    pub edit-spares : IsClosedCut (world_of shape file (edits ∷ before)) cut → cut page ≡ false
        → IsSameView w s (world_of shape file (edits ∷ before)) (stamps_of shape file (edits ∷ before)) cut (drafted_in w cut)
    edit-spares closed out =
        subst (λ o. IsClosedCut (with_edit w owner page e o) cut → IsSameView w s (with_edit w owner page e o) (stamps_to o) cut (drafted_in w cut)) (sym is)
        (λ c. edit-leaves w s owner page e content restamped cut c out) (record { drafted = closed.drafted; closed = closed.closed })

    pub takes : IsClosedCut (world_of shape file (edits ∷ before)) cut → cut page ≡ true → TakesBefore (scene_of shape file before) owner page cut
    takes closed in_cut = record {
      edited_in = in_cut;
      before_in = λ high own path. closed.closed high page path (there high own) in_cut;
    } where
      there : (high : ℕ) → is_draft_of owner (w.draft high) ≡ true → is_some ((world_of shape file (edits ∷ before)).draft high) ≡ true
      there high own =
          subst (λ o. is_some ((with_edit w owner page e o).draft high) ≡ true) (sym is) (still_drafted w s owner page e content restamped high (draft_there owner (w.draft high) own))

    pub leans-shown : (fact : Fact) (other : ℕ) → IsClosedCut (world_of shape file (edits ∷ before)) cut → cut page ≡ true → IsShown (scene_of shape file before) owner page other fact
        → fact (view w (drafted_in w cut) other) (view_stamps w s (drafted_in w cut) other)
    leans-shown fact other closed in_cut shown = lean-shown (scene_of shape file before) owner page cut (takes closed in_cut) fact other shown

    pub named_nowhere-unreached : (other : ℕ) → IsLegal shape file before → IsClosedCut (world_of shape file (edits ∷ before)) cut → cut page ≡ true
        → IsNamedNowhere (scene_of shape file before) owner page other → other ≢ 0 → IsNoInventory (scene_of shape file before) other
        → ¬ ReachesPage (view w (drafted_in w cut)) other
    named_nowhere-unreached other legal closed in_cut nowhere apart none =
        unreached-view (scene_of shape file before) (IsCoherent-legal shape file before legal) owner page cut (takes closed in_cut) (edit-views closed in_cut).closed
        (headers-grow shape file before legal) other nowhere apart none

    newest_or_kept : (other : ℕ) (b : Bool) → drafted_in w cut other ≡ b
        → IsSeenNewest (scene_of shape file before) other (view w (drafted_in w cut) other) (view_stamps w s (drafted_in w cut) other)
        ⊎ IsSeenKept (scene_of shape file before) other (view w (drafted_in w cut) other) (view_stamps w s (drafted_in w cut) other)
    newest_or_kept other true at = inl (record { page = rw at refl; stamps = rw at refl })
    newest_or_kept other false at = inr (record { page = rw at refl; stamps = rw at refl })

    -- A view that comes to hold the page sees the edit.
    pub edit-sees : IsLegal shape file before → IsClosedCut (world_of shape file (edits ∷ before)) cut → cut page ≡ true
        → SeesEdit (scene_of shape file before) owner page (view w (drafted_in w cut)) (view_stamps w s (drafted_in w cut))
    edit-sees legal closed in_cut = record {
      cut = drafted_in w cut;
      closed = changed.closed;
      pages = λ other. refl;
      origins = λ other. refl;
      edited_page = record { page = changed.was; stamps = changed.stamps_were };
      before = newest_before;
      each = λ other. newest_or_kept other (drafted_in w cut other) refl;
      unreached = λ other nowhere apart none. named_nowhere-unreached other legal closed in_cut nowhere apart none;
    } where
      changed : IsViewOfEdit w s (world_of shape file (edits ∷ before)) (stamps_of shape file (edits ∷ before)) page content cut
      changed = edit-views closed in_cut

      newest_before : (other : ℕ) → HasDraft (scene_of shape file before) owner other → IsBefore (scene_of shape file before) other page
          → IsSeenNewest (scene_of shape file before) other (view w (drafted_in w cut) other) (view_stamps w s (drafted_in w cut) other)
      newest_before other own path =
          let at : drafted_in w cut other ≡ true = rw ((takes closed in_cut).before_in other own path, draft_there owner (w.draft other) own) refl in
          record { page = rw at refl; stamps = rw at refl }
