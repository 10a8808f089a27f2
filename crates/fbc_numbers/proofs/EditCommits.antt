-- What is committed in each view before and after an edit.
use Rattle.std.proofs.Common.{◌≡◌, ◌∙◌, ◌==◌, ◌<◌, ◌/◌, ◌∷◌, ◌⊎◌, ℕ, zero, suc, replicate, length, slice_get, Bool, true, false, if◌then◌else◌, Option, Some, None, is_some, inl, inr, refl, sym, ap, subst, arith}
use Rattle.std.specs.Option.{unwrap_or}
use Rattle.std.proofs.Math.Path.{fun_ext}
use Rattle.std.proofs.lemmas.Bool.Decides.{nat_tests}
use Rattle.fbc_kinds.specs.declared.edits.Edit.{Edit}
use Rattle.fbc_kinds.specs.declared.edits.Edit.TheVariants as edit
use Rattle.fbc_kinds.specs.declared.pages.Header.{Header}
use Rattle.fbc_kinds.specs.declared.pages.Page.{Page}
use Rattle.fbc_kinds.specs.declared.pages.State.{State}
use Rattle.fbc_kinds.specs.declared.pages.State.TheVariants.{Active, Committed, Dead, Limbo}
use Rattle.fbc_kinds.specs.declared.shapes.Shape.{Shape}
use Rattle.fbc_kinds.specs.Limits.{tip_numbers}
use Rattle.fbc_kinds.specs.Reach.{ReachesPage, TipRole}
use Rattle.fbc_kinds.specs.View.{View, header_in, is_committed_state, next_of, state_in, tip_of}
use Rattle.fbc_version_edits.specs.Forms.{AllowsMark}
use Rattle.fbc_page_edits.specs.Allowed.{Fits}
use Rattle.fbc_page_edits.specs.Edited.{with_page}
use Rattle.fbc_version_edits.proofs.Marked.{IsMarked, marked_view}
use Rattle.fbc_world.specs.declared.events.Act.TheVariants.{Local}
use Rattle.fbc_world.specs.declared.events.LocalEvent.TheVariants as local
use Rattle.fbc_world.specs.History.{History, Moment, happens}
use Rattle.fbc_world.specs.World.{World, newest_of, page_after, with_edit, world_of}
use Rattle.fbc_legal.specs.Facts.{HasNextAbove, IsEmptyPage}
use Rattle.fbc_legal.specs.Guards.{GuardOfEdit}
use Rattle.fbc_legal.specs.Leans.{IsShown, LeansOn, TipLeans}
use Rattle.fbc_legal.specs.Legal.{IsLegal}
use Rattle.fbc_legal.specs.Naming.{IsNamedFor, IsNamedWhereEdited}
use Rattle.fbc_legal.specs.Rows.{IsDeadMark, IsEditOfRow, IsMark}
use Rattle.fbc_legal.proofs.Exclusion.{same_number}
use Rattle.fbc_legal.specs.Scene.{Scene, newest_at, scene_of}
use Rattle.fbc_legal.specs.Stamps.{PageStamps, stamps_of}
use Rattle.fbc_closed_cuts.specs.Cut.{Cut, IsClosedCut, view}
use Rattle.fbc_closed_cuts.specs.Upheld.{IsUpheld}
use Rattle.fbc_closed_cuts.specs.Views.{IsSameView, IsViewOfEdit, drafted_in, view_stamps}
use Rattle.fbc_closed_cuts.proofs.CutLaws.{edit-spares, edit-views, leans-shown, named_nowhere-unreached}
use Rattle.fbc_closed_cuts.proofs.EditViews.{still_drafted}
use Rattle.fbc_closed_cuts.proofs.UpheldEdits.{newest_fits}
use Rattle.fbc_numbers.specs.Numbers.{CommitsGrow, OpensAreUncommitted, is_committed_in}
use Rattle.fbc_numbers.proofs.CutFacts.{all-closed, all-view, all_drafts, clash, never-committed, wide-view}
use Rattle.fbc_numbers.proofs.NamedTips.{commit-named, tip_seen}
use Rattle.fbc_numbers.proofs.PageStates.{off_states, still_states, tip_states}

-- The state that an edit marks a number with.
abbrev pub mark_of : Edit → ℕ → Option State
mark_of (edit.Mark marked state) number = if number == marked then Some state else None
mark_of _ number = None

abbrev pub committed_by : Option State → Bool → Bool
committed_by None was = was
committed_by (Some state) was = is_committed_state state

-- Whether a number that is committed stays so.
abbrev pub Stays : Edit → ℕ → Type 0
Stays e number = committed_by (mark_of e number) true ≡ true

-- On an empty transaction inventory page every number is active.
pub active_at : (count place : ℕ) → unwrap_or (slice_get (replicate count Active) place) Active ≡ Active
active_at zero place = refl
active_at (suc count) zero = refl
active_at (suc count) (suc place) = active_at count place

-- A number that may be marked dead is not committed in the newest pages.
pub dead-number : (at : Scene) (owner number : ℕ) → OpensAreUncommitted at.world → at.world.marked owner ≡ None → IsDeadMark at owner number → is_committed_in (newest_of at.world) number ≡ false
dead-number at owner number uncommitted unmarked (inl own) = rw own.2 (uncommitted owner own.0 own.1 unmarked)
dead-number at owner number uncommitted unmarked (inr shared) = rw shared.1 refl

module _ (shape : Shape) (file : View) (before : History) (owner page : ℕ) (e : Edit) (landed : Bool) (legal : IsLegal shape file (happens owner (Local (local.Edit page e)) landed ∷ before)) (u : IsUpheld (scene_of shape file before))
    (grow : CommitsGrow (world_of shape file before)) (uncommitted : OpensAreUncommitted (world_of shape file before)) (content : Page) (is : page_after shape (world_of shape file before) owner page e ≡ Some content) where
  abbrev w : World
  w = world_of shape file before

  abbrev at : Scene
  at = scene_of shape file before

  abbrev s : PageStamps
  s = stamps_of shape file before

  abbrev edits : Moment
  edits = happens owner (Local (local.Edit page e)) landed

  abbrev after : World
  after = world_of shape file (edits ∷ before)

  g : GuardOfEdit at owner page e
  g = legal.1.guard

  dead_number : (number : ℕ) → IsDeadMark at owner number → is_committed_in (newest_of w) number ≡ false
  dead_number number row = dead-number at owner number uncommitted g.unmarked row

  module _ (cut : Cut) (closed : IsClosedCut after cut) (in_cut : cut page ≡ true) where
    abbrev seen : View
    seen = view w (drafted_in w cut)

    changed : IsViewOfEdit w s after (stamps_of shape file (edits ∷ before)) page content cut
    changed = edit-views shape file before owner page e landed content cut is closed in_cut

    one_view : view after cut ≡ with_page seen page content
    one_view = fun_ext (λ p. changed.pages p)

    fits-seen : Fits shape e (seen page) content
    fits-seen = rw changed.was (newest_fits shape file before owner page e content legal.0 g.exclusive is)

    next_above : (number : ℕ) → HasNextAbove number (seen 0) (view_stamps w s (drafted_in w cut) 0) → number < next_of seen
    next_above number has = rw has.1 has.2

    -- What a mark may do in the view.
    stays : (number : ℕ) (state : State) → IsMark at owner page number state → (state ≡ Committed) ⊎ (is_committed_in seen number ≡ false)
    stays number Committed row = inl refl
    stays number Dead row = inr (never-committed w grow number (dead_number number row) (drafted_in w cut) changed.closed)
    stays number Active row = absurd row
    stays number Limbo row = absurd row

    module _ (number : ℕ) (state : State) (row : IsMark at owner page number state) (leans : IsShown at owner page 0 (HasNextAbove number)) (fits : Fits shape (edit.Mark number state) (seen page) content) where
      pub allows-mark : AllowsMark seen number state
      allows-mark = record { begun = next_above number (leans-shown shape file before owner page e landed content cut is (HasNextAbove number) 0 closed in_cut leans); stays = stays number state row }

      marked : IsMarked seen (with_page seen page content) page number state
      marked =
          marked_view shape seen page number state content
          (record { of_shape = u.of_shape (drafted_in w cut) changed.closed; sound = u.sound (drafted_in w cut) changed.closed; own = tt; fits = fits; allowed = allows-mark })

      others : (other : ℕ) → ¬ (other ≡ number) → is_committed_in (with_page seen page content) other ≡ is_committed_in seen other
      others other apart = ap is_committed_state (marked.others other apart)

    itself : (number : ℕ) (state : State) → IsMark at owner page number state → IsShown at owner page 0 (HasNextAbove number) → Fits shape (edit.Mark number state) (seen page) content → IsNamedFor at owner page (newest_of w page)
        → is_committed_in (with_page seen page content) number ≡ is_committed_state state
    itself number Committed row leans fits named = ap is_committed_state ((marked number Committed row leans fits).marked (number / tip_numbers shape.size) reached) where
      reached : tip_of seen (number / tip_numbers shape.size) ≡ Some page
      reached = tip_seen w u.headers (drafted_in w cut) (number / tip_numbers shape.size) page (commit-named at owner page number content named row (subst (λ o. Fits shape (edit.Mark number Committed) o content) changed.was fits))
    itself number Dead row leans fits named = elim ((marked number Dead row leans fits).either number) [
      | inl same ↦ ap is_committed_state same ∙ never-committed w grow number (dead_number number row) (drafted_in w cut) changed.closed
      | inr is ↦ ap is_committed_state is.1
    ]
    itself number Active row leans fits named = absurd row
    itself number Limbo row leans fits named = absurd row

    by : (x : Edit) → IsEditOfRow at owner page x → LeansOn at owner page x → Fits shape x (seen page) content → IsNamedWhereEdited at owner page x → (number : ℕ)
        → is_committed_in (with_page seen page content) number ≡ committed_by (mark_of x number) (is_committed_in seen number)
    by (edit.Mark marks state) row leans fits named number = go (number == marks) refl where
      go : (b : Bool) → number == marks ≡ b → is_committed_in (with_page seen page content) number ≡ committed_by (if b then Some state else None) (is_committed_in seen number)
      go true same = subst (λ n. is_committed_in (with_page seen page content) n ≡ is_committed_state state) (sym (same_number number marks same)) (itself marks state row leans fits named)
      go false other = others marks state row leans fits number (λ same. clash (number == marks) (grind (arith, nat_tests, same)) other)
    by (edit.AddTip tip) row leans fits named number = ap is_committed_state (tip_states shape seen page tip content fits (active (header_in (newest_at at page)) leans) number) where
      active : (o : Option Header) → TipLeans at owner page tip o → (place : ℕ) → unwrap_or (state_in (seen tip) place) Active ≡ Active
      active None none place = absurd none
      active (Some header) ready place =
          let empty = leans-shown shape file before owner page e landed content cut is (IsEmptyPage shape 3 tip 0 (length header.tips)) tip closed in_cut ready.0.empty in
          ap (λ o. unwrap_or (state_in o place) Active) (empty.1 ∙ sym empty.2) ∙ active_at (tip_numbers shape.size) place
    by (edit.Format page_kind carried relation sequence) row leans fits named number =
        ap is_committed_state (off_states seen page content row.no_header (λ sequence reached. unreached (TipRole sequence, reached)) number) where
          unreached : ¬ ReachesPage seen page
          unreached = named_nowhere-unreached shape file before owner page e landed content cut is page legal.0 closed in_cut leans.nowhere row.no_header row.no_inventory
    by x row leans fits named number = ap is_committed_state (still_states shape seen page x content refl fits number)

    pub with-page : (number : ℕ) → is_committed_in (view after cut) number ≡ committed_by (mark_of e number) (is_committed_in seen number)
    with-page number = subst (λ (v : View). is_committed_in v number ≡ committed_by (mark_of e number) (is_committed_in seen number)) (sym one_view) (by e g.row g.leans fits-seen g.named number)

    pub with-closed : IsClosedCut w (drafted_in w cut)
    with-closed = changed.closed

  module _ (cut : Cut) (closed : IsClosedCut after cut) (out : cut page ≡ false) where
    spared : IsSameView w s after (stamps_of shape file (edits ∷ before)) cut (drafted_in w cut)
    spared = edit-spares shape file before owner page e landed content cut is closed out

    pub without-page : (number : ℕ) → is_committed_in (view after cut) number ≡ is_committed_in (view w (drafted_in w cut)) number
    without-page number = ap (λ (v : View). is_committed_in v number) (fun_ext (λ p. spared.pages p))

    pub without-closed : IsClosedCut w (drafted_in w cut)
    without-closed = spared.closed

  -- No mark takes back what is committed in some view.
  pub stays-committed : (cut : Cut) → IsClosedCut w cut → (number : ℕ) → is_committed_in (view w cut) number ≡ true → Stays e number
  stays-committed cut closed number committed = go e g.row where
    dead : (marks : ℕ) → IsDeadMark at owner marks → number ≡ marks → ⊥
    dead marks row same = clash _ committed (rw same (never-committed w grow marks (dead_number marks row) cut closed))

    marked_as : (marks : ℕ) (state : State) → IsMark at owner page marks state → number ≡ marks → is_committed_state state ≡ true
    marked_as marks Committed row same = refl
    marked_as marks Dead row same = absurd (dead marks row same)
    marked_as marks Active row same = absurd row
    marked_as marks Limbo row same = absurd row

    go : (x : Edit) → IsEditOfRow at owner page x → Stays x number
    go (edit.Mark marks state) row = at_mark (number == marks) refl where
      at_mark : (b : Bool) → number == marks ≡ b → committed_by (if b then Some state else None) true ≡ true
      at_mark true same = marked_as marks state row (same_number number marks same)
      at_mark false other = refl
    go x row = refl

  drafts_there : (p : ℕ) → is_some (w.draft p) ≡ true → is_some (after.draft p) ≡ true
  drafts_there p there = subst (λ o. is_some ((with_edit w owner page e o).draft p) ≡ true) (sym is) (still_drafted w s owner page e content (s.kept 0) p there)

  page_there : is_some (after.draft page) ≡ true
  page_there = subst (λ o. is_some ((with_edit w owner page e o).draft page) ≡ true) (sym is) (go (page == page) (grind (arith, nat_tests))) where
    go : (b : Bool) → b ≡ true → is_some (if b then Some (record { owner = owner; content = content }) else w.draft page) ≡ true
    go true same = refl
    go false never = absurd cc

  -- The newest pages.
  pub newest-edited : (number : ℕ) → is_committed_in (newest_of after) number ≡ committed_by (mark_of e number) (is_committed_in (newest_of w) number)
  newest-edited number =
      ap (λ (v : View). is_committed_in v number) (sym (all-view after)) ∙ with-page (all_drafts after) (all-closed after) page_there number
      ∙ ap (λ (v : View). committed_by (mark_of e number) (is_committed_in v number)) (wide-view w (all_drafts after) drafts_there)
