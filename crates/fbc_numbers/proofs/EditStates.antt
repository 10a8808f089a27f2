-- The state of a number in each view after an edit: that of a view before, unless the edit marks the number.
use Rattle.std.proofs.Common.{◌≡◌, ◌∙◌, ◌∷◌, ◌⊎◌, ℕ, Bool, true, false, length, Option, Some, None, inl, inr, refl, sym, ap, subst}
use Rattle.std.specs.Option.{unwrap_or}
use Rattle.std.proofs.Math.Path.{fun_ext}
use Rattle.fbc_kinds.specs.declared.edits.Edit.{Edit}
use Rattle.fbc_kinds.specs.declared.edits.Edit.TheVariants as edit
use Rattle.fbc_kinds.specs.declared.pages.Header.{Header}
use Rattle.fbc_kinds.specs.declared.pages.Page.{Page}
use Rattle.fbc_kinds.specs.declared.pages.State.{State}
use Rattle.fbc_kinds.specs.declared.pages.State.TheVariants.{Active}
use Rattle.fbc_kinds.specs.declared.shapes.Shape.{Shape}
use Rattle.fbc_kinds.specs.Chain.{state_of}
use Rattle.fbc_kinds.specs.Limits.{tip_numbers}
use Rattle.fbc_kinds.specs.Reach.{ReachesPage, TipRole}
use Rattle.fbc_kinds.specs.View.{View, header_in, state_in}
use Rattle.fbc_page_edits.specs.Alike.{HaveSameStates}
use Rattle.fbc_page_edits.specs.Allowed.{Fits}
use Rattle.fbc_page_edits.specs.Edited.{with_page}
use Rattle.fbc_version_edits.proofs.Marked.{IsMarked, marked_view}
use Rattle.fbc_world.specs.declared.events.Act.TheVariants.{Local}
use Rattle.fbc_world.specs.declared.events.LocalEvent.TheVariants as local
use Rattle.fbc_world.specs.History.{History, Moment, happens}
use Rattle.fbc_world.specs.World.{World, page_after, world_of}
use Rattle.fbc_legal.specs.Facts.{HasNextAbove, IsEmptyPage}
use Rattle.fbc_legal.specs.Guards.{GuardOfEdit}
use Rattle.fbc_legal.specs.Leans.{IsShown, LeansOn, TipLeans}
use Rattle.fbc_legal.specs.Legal.{IsLegal}
use Rattle.fbc_legal.specs.Rows.{IsEditOfRow, IsMark}
use Rattle.fbc_legal.specs.Scene.{Scene, newest_at, scene_of}
use Rattle.fbc_legal.specs.Stamps.{stamps_of}
use Rattle.fbc_closed_cuts.specs.Cut.{Cut, IsClosedCut, view}
use Rattle.fbc_closed_cuts.specs.Upheld.{IsUpheld}
use Rattle.fbc_closed_cuts.specs.Views.{IsSameView, IsViewOfEdit, drafted_in}
use Rattle.fbc_closed_cuts.proofs.CutLaws.{edit-spares, edit-views, leans-shown, named_nowhere-unreached}
use Rattle.fbc_closed_cuts.proofs.UpheldEdits.{newest_fits}
use Rattle.fbc_numbers.specs.Numbers.{CommitsGrow, OpensAreUncommitted}
use Rattle.fbc_numbers.proofs.EditCommits.{allows-mark, active_at}
use Rattle.fbc_numbers.proofs.PageStates.{off_states, still_states, tip_states}

-- The state is as before, or the edit marks the number so.
abbrev pub StateComes : Edit → ℕ → State → State → Type 0
StateComes e number before now = (now ≡ before) ⊎ (e ≡ edit.Mark number now)

same_state : (e : Edit) (before after : View) → HaveSameStates before after → (number : ℕ) → StateComes e number (state_of before number) (state_of after number)
same_state e before after same number = inl (same number)

marked_state : (before after : View) (page marks number : ℕ) (now : State) → IsMarked before after page marks now → StateComes (edit.Mark marks now) number (state_of before number) (state_of after number)
marked_state before after page marks number now is = elim (is.either number) [
  | inl same ↦ inl same
  | inr own ↦ inr (ap (λ n. edit.Mark n now) (sym own.0) ∙ ap (edit.Mark number) (sym own.1))
]

module _ (shape : Shape) (file : View) (before : History) (owner page : ℕ) (e : Edit) (landed : Bool) (legal : IsLegal shape file (happens owner (Local (local.Edit page e)) landed ∷ before)) (u : IsUpheld (scene_of shape file before))
    (grow : CommitsGrow (world_of shape file before)) (uncommitted : OpensAreUncommitted (world_of shape file before)) (content : Page) (is : page_after shape (world_of shape file before) owner page e ≡ Some content) where
  abbrev w : World
  w = world_of shape file before

  abbrev at : Scene
  at = scene_of shape file before

  abbrev edits : Moment
  edits = happens owner (Local (local.Edit page e)) landed

  abbrev after : World
  after = world_of shape file (edits ∷ before)

  g : GuardOfEdit at owner page e
  g = legal.1.guard

  module _ (cut : Cut) (closed : IsClosedCut after cut) where
    abbrev seen : View
    seen = view w (drafted_in w cut)

    -- A view without the page is a view before.
    module _ (out : cut page ≡ false) where
      spared : IsSameView w (stamps_of shape file before) after (stamps_of shape file (edits ∷ before)) cut (drafted_in w cut)
      spared = edit-spares shape file before owner page e landed content cut is closed out

      without-page : (number : ℕ) → StateComes e number (state_of seen number) (state_of (view after cut) number)
      without-page number = inl (ap (λ (v : View). state_of v number) (fun_ext (λ p. spared.pages p)))

    -- A view with the page.
    module _ (in_cut : cut page ≡ true) where
      changed : IsViewOfEdit w (stamps_of shape file before) after (stamps_of shape file (edits ∷ before)) page content cut
      changed = edit-views shape file before owner page e landed content cut is closed in_cut

      fits-seen : Fits shape e (seen page) content
      fits-seen = rw changed.was (newest_fits shape file before owner page e content legal.0 g.exclusive is)

      marked : (number : ℕ) (state : State) → IsMark at owner page number state → IsShown at owner page 0 (HasNextAbove number) → Fits shape (edit.Mark number state) (seen page) content
          → IsMarked seen (with_page seen page content) page number state
      marked number state row leans fits =
          marked_view shape seen page number state content
          (record {
            of_shape = u.of_shape (drafted_in w cut) changed.closed;
            sound = u.sound (drafted_in w cut) changed.closed;
            own = tt;
            fits = fits;
            allowed = allows-mark shape file before owner page e landed legal u grow uncommitted content is cut closed in_cut number state row leans fits;
          })

      by : (x : Edit) → IsEditOfRow at owner page x → LeansOn at owner page x → Fits shape x (seen page) content → (number : ℕ) → StateComes x number (state_of seen number) (state_of (with_page seen page content) number)
      by (edit.Mark marks state) row leans fits number = marked_state seen (with_page seen page content) page marks number state (marked marks state row leans fits)
      by (edit.AddTip tip) row leans fits number = same_state (edit.AddTip tip) seen (with_page seen page content) (tip_states shape seen page tip content fits (active (header_in (newest_at at page)) leans)) number where
        active : (o : Option Header) → TipLeans at owner page tip o → (place : ℕ) → unwrap_or (state_in (seen tip) place) Active ≡ Active
        active None none place = absurd none
        active (Some header) ready place =
            let empty = leans-shown shape file before owner page e landed content cut is (IsEmptyPage shape 3 tip 0 (length header.tips)) tip closed in_cut ready.0.empty in
            ap (λ o. unwrap_or (state_in o place) Active) (empty.1 ∙ sym empty.2) ∙ active_at (tip_numbers shape.size) place
      by (edit.Format page_kind carried relation sequence) row leans fits number =
          same_state (edit.Format page_kind carried relation sequence) seen (with_page seen page content) (off_states seen page content row.no_header (λ sequence reached. unreached (TipRole sequence, reached))) number where
            unreached : ¬ ReachesPage seen page
            unreached = named_nowhere-unreached shape file before owner page e landed content cut is page legal.0 closed in_cut leans.nowhere row.no_header row.no_inventory
      by x row leans fits number = same_state x seen (with_page seen page content) (still_states shape seen page x content refl fits) number

      with-page : (number : ℕ) → StateComes e number (state_of seen number) (state_of (view after cut) number)
      with-page number = subst (λ (v : View). StateComes e number (state_of seen number) (state_of v number)) (sym (fun_ext (λ p. changed.pages p))) (by e g.row g.leans fits-seen number)

    -- The cut before.
    pub edited-closed : IsClosedCut w (drafted_in w cut)
    edited-closed = go (cut page) refl where
      go : (b : Bool) → cut page ≡ b → IsClosedCut w (drafted_in w cut)
      go true in_cut = (changed in_cut).closed
      go false out = (spared out).closed

    pub edited-state : (number : ℕ) → StateComes e number (state_of (view w (drafted_in w cut)) number) (state_of (view after cut) number)
    edited-state number = go (cut page) refl where
      go : (b : Bool) → cut page ≡ b → StateComes e number (state_of seen number) (state_of (view after cut) number)
      go true in_cut = with-page in_cut number
      go false out = without-page out number
