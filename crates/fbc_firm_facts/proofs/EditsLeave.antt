-- An edit that leaves what holds of the views that see it leaves what holds of each view with all drafts of an owner.
use Rattle.std.proofs.Common.{◌≡◌, ℕ, Bool, true, false, ◌==◌, if◌then◌else◌, ◌∷◌, Option, Some, None, is_some, refl, sym, ap, subst, arith, ◌∙◌}
use Rattle.std.proofs.Math.Path.{fun_ext}
use Rattle.std.proofs.lemmas.Bool.Decides.{nat_tests}
use Rattle.fbc_kinds.specs.declared.edits.Edit.{Edit}
use Rattle.fbc_kinds.specs.declared.pages.Page.{Page}
use Rattle.fbc_kinds.specs.declared.shapes.Shape.{Shape}
use Rattle.fbc_kinds.specs.View.{View}
use Rattle.fbc_page_edits.specs.Allowed.{Fits}
use Rattle.fbc_page_edits.specs.Edited.{with_page}
use Rattle.fbc_world.specs.declared.drafts.Draft.{Draft}
use Rattle.fbc_world.specs.declared.events.Act.TheVariants.{Local}
use Rattle.fbc_world.specs.declared.events.LocalEvent.TheVariants as local
use Rattle.fbc_world.specs.History.{History, Moment, happens}
use Rattle.fbc_world.specs.Holdings.{is_draft_of}
use Rattle.fbc_world.specs.PageCell.{drafted}
use Rattle.fbc_world.specs.World.{World, page_after, with_edit, world_of}
use Rattle.fbc_legal.specs.Guards.{GuardOfEdit}
use Rattle.fbc_legal.specs.Legal.{IsLegal}
use Rattle.fbc_legal.specs.Scene.{scene_of}
use Rattle.fbc_legal.specs.Stamps.{PageStamps, stamps_of}
use Rattle.fbc_legal.proofs.Exclusion.{IsOwnDraft, same_number}
use Rattle.fbc_legal.proofs.HeaderGrowth.{exclusive-own}
use Rattle.fbc_legal.proofs.Induction.{IsCoherent-legal}
use Rattle.fbc_closed_cuts.specs.Cut.{Cut, view}
use Rattle.fbc_closed_cuts.specs.Firm.{HasOwnDrafts}
use Rattle.fbc_closed_cuts.specs.Owed.{IsSeenEdit}
use Rattle.fbc_closed_cuts.specs.Upheld.{IsUpheld}
use Rattle.fbc_closed_cuts.specs.Views.{IsSameView, IsViewOfEdit, drafted_in, view_stamps}
use Rattle.fbc_closed_cuts.proofs.CutLaws.{edit-sees, edit-spares, edit-views}
use Rattle.fbc_closed_cuts.proofs.UpheldEdits.{newest_fits}
use Rattle.fbc_closed_cuts.proofs.WriteViews.{draft_there}
use Rattle.fbc_numbers.specs.Numbers.{CommitsGrow, OpensAreUncommitted, is_committed_in}
use Rattle.fbc_numbers.proofs.EditCommits.{committed_by, mark_of, stays-committed, with-page}
use Rattle.fbc_firm_facts.specs.EditLeaves.{IsOwnViewOfEdit}
use Rattle.fbc_firm_facts.proofs.OwnViews.{HoldsFirmly, LeavesIn}

-- A draft that its page's editor replaces was its own.
replaced : (actor owner : ℕ) (content : Page) (draft : Option Draft) → IsOwnDraft actor draft → is_draft_of owner draft ≡ true → is_draft_of owner (drafted actor draft (Some content)) ≡ true
replaced actor owner content None own its = absurd cc
replaced actor owner content (Some draft) own its = grind (arith, nat_tests, own, its)

module _ (shape : Shape) (file : View) (before : History) (actor page : ℕ) (e : Edit) (landed : Bool) (legal : IsLegal shape file (happens actor (Local (local.Edit page e)) landed ∷ before)) (u : IsUpheld (scene_of shape file before)) (owner : ℕ) where
  abbrev w : World
  w = world_of shape file before

  abbrev s : PageStamps
  s = stamps_of shape file before

  abbrev edits : Moment
  edits = happens actor (Local (local.Edit page e)) landed

  abbrev after : World
  after = world_of shape file (edits ∷ before)

  g : GuardOfEdit (scene_of shape file before) actor page e
  g = legal.1.guard

  module _ (content : Page) (is : page_after shape w actor page e ≡ Some content) where
    -- Each draft of the owner is one still.
    stays : (p : ℕ) → is_draft_of owner (w.draft p) ≡ true → is_draft_of owner (after.draft p) ≡ true
    stays p its = subst (λ o. is_draft_of owner ((with_edit w actor page e o).draft p) ≡ true) (sym is) (go (p == page) refl) where
      go : (b : Bool) → p == page ≡ b → is_draft_of owner (if b then drafted actor (w.draft p) (Some content) else w.draft p) ≡ true
      go true same = replaced actor owner content (w.draft p) (subst (λ q. IsOwnDraft actor (w.draft q)) (sym (same_number p page same)) (exclusive-own w (IsCoherent-legal shape file before legal.0) actor page g.exclusive)) its
      go false other = its

    module _ (cut : Cut) (own : HasOwnDrafts after owner cut) where
      earlier : (p : ℕ) → is_draft_of owner (w.draft p) ≡ true → drafted_in w cut p ≡ true
      earlier p its = rw (own.own p (stays p its), draft_there owner (w.draft p) its) refl

      module _ (in_cut : cut page ≡ true) where
        changed : IsViewOfEdit w s after (stamps_of shape file (edits ∷ before)) page content cut
        changed = edit-views shape file before actor page e landed content cut is own.closed in_cut

        fits_seen : Fits shape e (view w (drafted_in w cut) page) content
        fits_seen = rw changed.was (newest_fits shape file before actor page e content legal.0 g.exclusive is)

        pub seen-edit : IsSeenEdit shape file before actor page e content (view w (drafted_in w cut)) (view_stamps w s (drafted_in w cut))
        seen-edit = record {
          guard = g;
          sees = edit-sees shape file before actor page e landed content cut is legal.0 own.closed in_cut;
          of_shape = u.of_shape (drafted_in w cut) changed.closed;
          fits = fits_seen;
          sound = u.sound (drafted_in w cut) changed.closed;
        }

        own_view : IsOwnViewOfEdit shape file before actor page e owner content (drafted_in w cut)
        own_view = record { fits = is; own = record { closed = changed.closed; own = earlier }; sees = seen-edit }

        left_with : (Holds : View → Type 0) → LeavesIn shape file before actor page e owner Holds → HoldsFirmly w owner Holds → Holds (view after cut)
        left_with Holds leaves holds = subst Holds (sym (fun_ext (λ p. changed.pages p))) (leaves content (drafted_in w cut) own_view (holds (drafted_in w cut) own_view.own))

      left_without : (Holds : View → Type 0) → cut page ≡ false → HoldsFirmly w owner Holds → Holds (view after cut)
      left_without Holds out holds = subst Holds (sym (fun_ext (λ p. spared.pages p))) (holds (drafted_in w cut) (record { closed = spared.closed; own = earlier })) where
        spared : IsSameView w s after (stamps_of shape file (edits ∷ before)) cut (drafted_in w cut)
        spared = edit-spares shape file before actor page e landed content cut is own.closed out

  -- The cut before the edit.
  pub own-cut-before-edit : (cut : Cut) → HasOwnDrafts after owner cut → HasOwnDrafts w owner (drafted_in w cut)
  own-cut-before-edit cut own = found (page_after shape w actor page e) refl g.fits where
    within : (content : Page) → page_after shape w actor page e ≡ Some content → (b : Bool) → cut page ≡ b → HasOwnDrafts w owner (drafted_in w cut)
    within content is true in_cut = (own_view content is cut own in_cut).own
    within content is false out = record { closed = (edit-spares shape file before actor page e landed content cut is own.closed out).closed; own = earlier content is cut own }

    found : (o : Option Page) → page_after shape w actor page e ≡ o → is_some o ≡ true → HasOwnDrafts w owner (drafted_in w cut)
    found None is fits = absurd cc
    found (Some content) is fits = within content is (cut page) refl

  pub edits-leave : (Holds : View → Type 0) → LeavesIn shape file before actor page e owner Holds → HoldsFirmly w owner Holds → HoldsFirmly after owner Holds
  edits-leave Holds leaves holds cut own = go (page_after shape w actor page e) refl g.fits where
    within : (content : Page) → page_after shape w actor page e ≡ Some content → (b : Bool) → cut page ≡ b → Holds (view after cut)
    within content is true in_cut = left_with content is cut own in_cut Holds leaves holds
    within content is false out = left_without content is cut own Holds out holds

    go : (found : Option Page) → page_after shape w actor page e ≡ found → is_some found ≡ true → Holds (view after cut)
    go None is fits = absurd cc
    go (Some content) is fits = within content is (cut page) refl

  -- So it is where an edit leaves what holds of each view in which all that was committed stays so.
  abbrev pub KeepsCommits : View → View → Type 0
  KeepsCommits seen later = (n : ℕ) → is_committed_in seen n ≡ true → is_committed_in later n ≡ true

  pub edits-leave-commits : (Holds : View → Type 0) → CommitsGrow w → OpensAreUncommitted w
      → ((content : Page) (cut : Cut) → IsOwnViewOfEdit shape file before actor page e owner content cut → KeepsCommits (view w cut) (with_page (view w cut) page content) → Holds (view w cut) → Holds (with_page (view w cut) page content))
      → HoldsFirmly w owner Holds → HoldsFirmly after owner Holds
  edits-leave-commits Holds grow uncommitted leaves holds cut own = go (page_after shape w actor page e) refl g.fits where
    with_it : (content : Page) → page_after shape w actor page e ≡ Some content → cut page ≡ true → Holds (view after cut)
    with_it content is in_cut =
        let seen : View = view w (drafted_in w cut) in
        let same : view after cut ≡ with_page seen page content = fun_ext (λ p. (changed content is cut own in_cut).pages p) in
        let mine : IsOwnViewOfEdit shape file before actor page e owner content (drafted_in w cut) = own_view content is cut own in_cut in
        subst Holds (sym same)
        (leaves content (drafted_in w cut) mine
        (λ n committed.
        ap (λ (v : View). is_committed_in v n) (sym same)
        ∙ with-page shape file before actor page e landed legal u grow uncommitted content is cut own.closed in_cut n
        ∙ ap (committed_by (mark_of e n)) committed
        ∙ stays-committed shape file before actor page e landed legal u grow uncommitted content is (drafted_in w cut) mine.own.closed n committed)
        (holds (drafted_in w cut) mine.own))

    within : (content : Page) → page_after shape w actor page e ≡ Some content → (b : Bool) → cut page ≡ b → Holds (view after cut)
    within content is true in_cut = with_it content is in_cut
    within content is false out = left_without content is cut own Holds out holds

    go : (found : Option Page) → page_after shape w actor page e ≡ found → is_some found ≡ true → Holds (view after cut)
    go None is fits = absurd cc
    go (Some content) is fits = within content is (cut page) refl
