-- Versions that an edit made unreached are gone from every view with that edit, after each event.
use Rattle.std.proofs.Common.{◌≡◌, ◌∙◌, ◌==◌, ◌≤◌, ◌⊎◌, inl, inr, ℕ, Bool, true, false, List, [], ◌∷◌, length, if◌then◌else◌, Option, Some, is_some, refl, sym, ap, subst, arith}
use Rattle.std.specs.Prelude.{Contains}
use Rattle.std.proofs.Math.Path.{fun_ext}
use Rattle.fbc_kinds.specs.declared.edits.Edit.{Edit}
use Rattle.fbc_kinds.specs.declared.edits.Edit.TheVariants as edit
use Rattle.fbc_kinds.specs.declared.pages.Page.{Page}
use Rattle.fbc_kinds.specs.declared.shapes.Shape.{Shape}
use Rattle.fbc_kinds.specs.View.{View}
use Rattle.fbc_kinds.proofs.Tests.{differ_from_test}
use Rattle.fbc_legal.proofs.Exclusion.{same_number}
use Rattle.fbc_page_edits.specs.Edited.{with_page}
use Rattle.fbc_page_edits.specs.Facing.{IsLinked}
use Rattle.fbc_world.specs.declared.events.Act.TheVariants.{Local}
use Rattle.fbc_world.specs.declared.events.LocalEvent.TheVariants as local
use Rattle.fbc_world.specs.History.{History, Moment, happens}
use Rattle.fbc_world.specs.PageCell.{drafted, newest_in}
use Rattle.fbc_world.specs.World.{World, newest_of, page_after, with_edit, world_of}
use Rattle.fbc_legal.specs.Legal.{IsLegal}
use Rattle.fbc_legal.specs.Scene.{Scene, born_at, newest_after, newest_at, scene_of}
use Rattle.fbc_legal.specs.Stamps.{Stamps, born_in_newest, newest_stamps, stamp_after, stamped, stamps_of}
use Rattle.fbc_legal.specs.Traces.{IsEditOf, IsUnlinkedBy, born_after_all}
use Rattle.fbc_world.specs.declared.drafts.Draft.{Draft}
use Rattle.fbc_legal.specs.Guards.{GuardOfEdit}
use Rattle.fbc_closed_cuts.specs.Cut.{Cut, IsClosedCut, view}
use Rattle.fbc_closed_cuts.specs.Owed.{SeesEdit}
use Rattle.fbc_closed_cuts.specs.Views.{is_edit, view_stamps}
use Rattle.fbc_kinds.specs.Reach.{ReachesPage}
use Rattle.fbc_page_edits.specs.Alike.{HasNoMoreLinks}
use Rattle.fbc_page_edits.proofs.OffReach.{off_reach_alike}
use Rattle.fbc_origins.specs.Owed.{IsInOrder, LinksStay}
use Rattle.fbc_origins.proofs.FormatLinked.{format-link}
use Rattle.fbc_origins.proofs.OthersLinked.{others-link}
use Rattle.fbc_origins.proofs.Seeing.{one-stamps, one-view}
use Rattle.fbc_origins.specs.Rows.{SettledRowsAreNamed}
use Rattle.fbc_origins.proofs.ClearsLost.{clears-lose}
use Rattle.fbc_origins.proofs.GoneStay.{clears-stay, puts-stay}
use Rattle.fbc_origins.proofs.PutsLost.{puts-lose}
use Rattle.fbc_origins.specs.Origins.{EveryView, UnlinkedAreGone}
use Rattle.fbc_origins.proofs.PastStamps.{contains_front}
use Rattle.fbc_origins.proofs.ViewsNext.{IsEditedView, views-acted, views-edited}

-- An edit is by this moment what made the cell unreached.
pub record IsUnlinkedNow (shape : Shape) (file : View) (page cell owner edited stamp : ℕ) (before : History) (moment : Moment) : Type 0 where
  pub made_by : Edit
  pub is : IsEditOf owner edited made_by moment
  pub was : IsLinked (newest_after shape file before) page cell
  pub lost : ¬ IsLinked (newest_after shape file (moment ∷ before)) page cell
  pub stamp_is : stamp ≡ stamp_after before

-- It was unreached before, and stays so.
pub record IsUnlinkedStill (shape : Shape) (file : View) (page cell owner edited stamp : ℕ) (before : History) (moment : Moment) : Type 0 where
  pub by : IsUnlinkedBy shape file page cell owner edited stamp before
  pub none : ¬ IsLinked (newest_after shape file (moment ∷ before)) page cell
  pub same : born_after_all shape file (moment ∷ before) page cell ≡ born_after_all shape file before page cell

abbrev LastStep : Shape → View → ℕ → ℕ → ℕ → ℕ → ℕ → History → Type 0
LastStep shape file page cell owner edited stamp [] = ⊥
LastStep shape file page cell owner edited stamp (moment ∷ before) = IsUnlinkedNow shape file page cell owner edited stamp before moment ⊎ IsUnlinkedStill shape file page cell owner edited stamp before moment

last-step : (shape : Shape) (file : View) (page cell owner edited stamp : ℕ) (history : History) → IsUnlinkedBy shape file page cell owner edited stamp history → LastStep shape file page cell owner edited stamp history
last-step shape file page cell owner edited stamp _ (IsUnlinkedBy.unlinked before moment made_by is was lost same stamp_is) = inl (record { made_by = made_by; is = is; was = was; lost = lost; stamp_is = stamp_is })
last-step shape file page cell owner edited stamp _ (IsUnlinkedBy.still before moment by none same) = inr (record { by = by; none = none; same = same })

-- The edit is a past one.
unlinked-past : (shape : Shape) (file : View) (page cell owner edited stamp : ℕ) (history : History) → IsUnlinkedBy shape file page cell owner edited stamp history → stamp ≤ length history
unlinked-past shape file page cell owner edited stamp _ (IsUnlinkedBy.unlinked before moment made_by is was lost same stamp_is) = grind (arith, stamp_is)
unlinked-past shape file page cell owner edited stamp _ (IsUnlinkedBy.still before moment by none same) = grind (arith, unlinked-past shape file page cell owner edited stamp before by)

-- No act but an edit makes a cell unreached.
pub gone-acted : (shape : Shape) (file : View) (before : History) (moment : Moment) → IsLegal shape file (moment ∷ before) → is_edit moment.event.act ≡ false → UnlinkedAreGone (scene_of shape file before) → UnlinkedAreGone (scene_of shape file (moment ∷ before))
gone-acted shape file before moment legal plain held page cell owner edited stamp by = go (last-step shape file page cell owner edited stamp (moment ∷ before) by) where
  as_before : IsUnlinkedStill shape file page cell owner edited stamp before moment → EveryView (scene_of shape file (moment ∷ before))
      (λ seen stamps. Contains (stamps edited).edits stamp → (stamps page).born cell ≡ born_after_all shape file before page cell → ¬ IsLinked seen page cell)
  as_before s =
      views-acted shape file before (λ seen stamps. Contains (stamps edited).edits stamp → (stamps page).born cell ≡ born_after_all shape file before page cell → ¬ IsLinked seen page cell)
      moment legal plain (held page cell owner edited stamp s.by)

  go : LastStep shape file page cell owner edited stamp (moment ∷ before)
      → EveryView (scene_of shape file (moment ∷ before)) (λ seen stamps. Contains (stamps edited).edits stamp → (stamps page).born cell ≡ born_at (scene_of shape file (moment ∷ before)) page cell → ¬ IsLinked seen page cell)
  go (inl now) = absurd (let wrong : true ≡ false = ap is_edit (sym now.is.act) ∙ plain in cc)
  go (inr s) = λ cut closed has born. as_before s cut closed has (born ∙ s.same)

-- A view without new links links nothing new.
links-come : {before after : View} → HasNoMoreLinks before after → (page cell : ℕ) → IsLinked after page cell → IsLinked before page cell
links-come no_more page cell l =
    record { relation = l.relation; from_page = l.from_page; from_cell = l.from_cell; version = l.version; links = no_more l.relation l.from_page l.from_cell page cell l.version l.links }

-- The edits of a page with stamps are what they were, and the new one.
stamped-edits : (stamp : ℕ) (born : ℕ → ℕ → ℕ) (old : Option Page) (e : Edit) (s : Stamps) → (stamped stamp born old e s).edits ≡ stamp ∷ s.edits
stamped-edits stamp born old (edit.PutCell cell content) s = refl
stamped-edits stamp born old (edit.ClearCell cell) s = refl
stamped-edits stamp born old (edit.Format k page relation sequence) s = refl
stamped-edits stamp born old _ s = refl

-- The newest pages after an edit.
newest-edited : (w : World) (owner page : ℕ) (e : Edit) (content : Page) (after : Option Page) → after ≡ Some content → newest_of (with_edit w owner page e after) ≡ with_page (newest_of w) page content
newest-edited w owner page e content after is =
    subst (λ o. newest_of (with_edit w owner page e o) ≡ with_page (newest_of w) page content) (sym is) (fun_ext (λ p. go (w.kept p) (w.draft p) (p == page)))
  where
    go : (kept : Option Page) (draft : Option Draft) (b : Bool) → newest_in kept (if b then drafted owner draft (Some content) else draft) ≡ (if b then Some content else newest_in kept draft)
    go kept draft true = refl
    go kept draft false = refl

-- The page of an edit that is this one.
edit_page : {edited page : ℕ} {made_by e : Edit} → Local (local.Edit page e) ≡ Local (local.Edit edited made_by) → edited ≡ page
edit_page same = cc

module _ (shape : Shape) (file : View) (before : History) (owner page : ℕ) (e : Edit) (landed : Bool) (legal : IsLegal shape file (happens owner (Local (local.Edit page e)) landed ∷ before))
    (order : IsInOrder (scene_of shape file before)) (named : SettledRowsAreNamed (scene_of shape file before)) (content : Page) (is : page_after shape (world_of shape file before) owner page e ≡ Some content)
    (links : LinksStay (scene_of shape file before) owner page e content) where
  abbrev at : Scene
  at = scene_of shape file before

  abbrev edits : Moment
  edits = happens owner (Local (local.Edit page e)) landed

  abbrev newest : View
  newest = newest_at at

  abbrev newest_now : View
  newest_now = with_page newest page content

  g : GuardOfEdit at owner page e
  g = legal.1.guard

  now_is : newest_after shape file (edits ∷ before) ≡ newest_now
  now_is = newest-edited at.world owner page e content (page_after shape at.world owner page e) is

  module _ (other cell : ℕ) where
    -- By what holds of a view of a cut, with the edit.
    abbrev GoneIn : Cut → Type 0
    GoneIn cut = ¬ IsLinked (with_page (view at.world cut) page content) other cell

    in-later : (seen : View) (stamps : ℕ → Stamps) (later : View) (later_stamps : ℕ → Stamps) → IsEditedView at owner page e content seen stamps later later_stamps
        → ((cut : Cut) → IsClosedCut at.world cut → SeesEdit at owner page (view at.world cut) (view_stamps at.world at.stamps cut) → (view at.world cut ≡ seen) → GoneIn cut) → ¬ IsLinked later other cell
    in-later seen stamps later later_stamps v gone =
        let sees : SeesEdit at owner page (view at.world v.sees.cut) (view_stamps at.world at.stamps v.sees.cut) =
        subst (λ (s : ℕ → Stamps). SeesEdit at owner page (view at.world v.sees.cut) s) (sym (one-stamps at owner page seen stamps v.sees))
        (subst (λ (x : View). SeesEdit at owner page x stamps) (sym (one-view at owner page seen stamps v.sees)) v.sees) in
        subst (λ (x : View). ¬ IsLinked x other cell) v.pages
        (subst (λ (x : View). ¬ IsLinked (with_page x page content) other cell) (one-view at owner page seen stamps v.sees)
        (gone v.sees.cut v.sees.closed sees (one-view at owner page seen stamps v.sees)))

    -- What the edit made unreached.
    loses : (any : Edit) → e ≡ any → IsLinked newest other cell → ¬ IsLinked newest_now other cell → (cut : Cut) → IsClosedCut at.world cut
        → SeesEdit at owner page (view at.world cut) (view_stamps at.world at.stamps cut) → GoneIn cut
    loses (edit.PutCell place put) same was lost cut closed sees =
        let guard : GuardOfEdit at owner page (edit.PutCell place put) = subst (GuardOfEdit at owner page) same g in
        puts-lose at order.upheld order.numbered order.original named owner page place put guard content (ap (page_after shape at.world owner page) (sym same) ∙ is) cut closed sees other cell was lost guard.row
    loses (edit.ClearCell place) same was lost cut closed sees =
        let guard : GuardOfEdit at owner page (edit.ClearCell place) = subst (GuardOfEdit at owner page) same g in
        clears-lose at order.upheld order.original named owner page place guard content (ap (page_after shape at.world owner page) (sym same) ∙ is) cut closed sees other cell was lost guard.row
    loses (edit.Format page_kind number relation sequence) same was lost cut closed sees =
        let guard : GuardOfEdit at owner page (edit.Format page_kind number relation sequence) = subst (GuardOfEdit at owner page) same g in
        absurd (lost (format-link shape file before owner page e landed legal content is order.upheld page_kind guard.leans guard.row other cell was))
    loses any same was lost cut closed sees =
        let guard : GuardOfEdit at owner page any = subst (GuardOfEdit at owner page) same g in
        absurd (lost (others-link at order.upheld owner page content any guard (ap (page_after shape at.world owner page) (sym same) ∙ is) refl other cell was))

    -- What was unreached, and stays so in the newest pages.
    stays_gone : (any : Edit) → e ≡ any → ¬ IsLinked newest_now other cell → (cut : Cut) → IsClosedCut at.world cut
        → SeesEdit at owner page (view at.world cut) (view_stamps at.world at.stamps cut) → ¬ IsLinked (view at.world cut) other cell → GoneIn cut
    stays_gone (edit.PutCell place put) same none cut closed sees gone =
        let guard : GuardOfEdit at owner page (edit.PutCell place put) = subst (GuardOfEdit at owner page) same g in
        puts-stay at order named owner page place content cut closed other cell gone none put guard (ap (page_after shape at.world owner page) (sym same) ∙ is) sees guard.row
    stays_gone (edit.ClearCell place) same none cut closed sees gone =
        let guard : GuardOfEdit at owner page (edit.ClearCell place) = subst (GuardOfEdit at owner page) same g in
        clears-stay at order named owner page place content cut closed other cell gone none guard (ap (page_after shape at.world owner page) (sym same) ∙ is) sees
    stays_gone (edit.Format page_kind number relation sequence) same none cut closed sees gone =
        let guard : GuardOfEdit at owner page (edit.Format page_kind number relation sequence) = subst (GuardOfEdit at owner page) same g in
        let off : ¬ ReachesPage (view at.world cut) page = sees.unreached page guard.leans.nowhere guard.row.no_header guard.row.no_inventory in
        λ l. gone (links-come (off_reach_alike (view at.world cut) page content off (order.upheld.sound cut closed)).links other cell l)
    stays_gone any same none cut closed sees gone =
        λ l. gone (links-come (subst (λ x. LinksStay at owner page x content) same links refl (view at.world cut) (view_stamps at.world at.stamps cut) sees) other cell l)

  -- Stamps of every view are of events before.
  no_new : (cut : Cut) → ¬ Contains (view_stamps at.world at.stamps cut page).edits (stamp_after before)
  no_new cut there = either (cut page) (is_some (at.world.draft page)) there where
    either : (b c : Bool) → Contains (if b then (if c then at.stamps.draft page else at.stamps.kept page) else at.stamps.kept page).edits (stamp_after before) → ⊥
    either true true has = absurd (grind (arith, (order.original.past page).1.edits (stamp_after before) has))
    either true false has = absurd (grind (arith, (order.original.past page).0.edits (stamp_after before) has))
    either false c has = absurd (grind (arith, (order.original.past page).0.edits (stamp_after before) has))

  -- By the edit the cell came to be unreached.
  gone-now : (other cell : ℕ) → IsLinked newest other cell → ¬ IsLinked newest_now other cell
      → EveryView (scene_of shape file (edits ∷ before)) (λ seen stamps. Contains (stamps page).edits (stamp_after before) → ¬ IsLinked seen other cell)
  gone-now other cell was lost =
      views-edited shape file before (λ seen stamps. Contains (stamps page).edits (stamp_after before) → ¬ IsLinked seen other cell) owner page e landed legal content is
      (λ cut closed has. absurd (no_new cut has))
      (λ seen stamps later later_stamps v held has. in-later other cell seen stamps later later_stamps v (λ cut closed sees same. loses other cell e refl was lost cut closed sees))

  -- It was unreached before.
  module _ (other cell by edited stamp : ℕ) (unlinked : IsUnlinkedBy shape file other cell by edited stamp before) (none : ¬ IsLinked newest_now other cell) where
    abbrev Holds : View → (ℕ → Stamps) → Type 0
    Holds seen stamps = Contains (stamps edited).edits stamp → (stamps other).born cell ≡ born_after_all shape file before other cell → ¬ IsLinked seen other cell

    module _ (seen : View) (stamps : ℕ → Stamps) (later : View) (later_stamps : ℕ → Stamps) (v : IsEditedView at owner page e content seen stamps later later_stamps) where
      had : Contains (later_stamps edited).edits stamp → Contains (stamps edited).edits stamp
      had has = go (edited == page) refl where
        now : Contains (later_stamps page).edits stamp → Contains (stamps page).edits stamp
        now there = one (contains_front (stamp_after before) (newest_stamps at.world at.stamps page).edits stamp
            (subst (λ (edits_now : List ℕ). Contains edits_now stamp) (ap (λ (s : Stamps). s.edits) v.now ∙ stamped-edits (stamp_after before) (born_in_newest at.world at.stamps) (newest_at at page) e (newest_stamps at.world at.stamps page)) there))
          where
            one : (stamp ≡ stamp_after before) ⊎ Contains (newest_stamps at.world at.stamps page).edits stamp → Contains (stamps page).edits stamp
            one (inl same) = absurd (grind (arith, same, unlinked-past shape file other cell by edited stamp before unlinked))
            one (inr earlier) = subst (λ (s : Stamps). Contains s.edits stamp) (sym v.sees.edited_page.stamps) earlier

        go : (b : Bool) → edited == page ≡ b → Contains (stamps edited).edits stamp
        go true same = let it : edited ≡ page = same_number edited page same in subst (λ p. Contains (stamps p).edits stamp) (sym it) (now (subst (λ p. Contains (later_stamps p).edits stamp) it has))
        go false apart = subst (λ (s : Stamps). Contains s.edits stamp) (v.others edited (differ_from_test edited page apart)) has

      was_born : (later_stamps other).born cell ≡ born_after_all shape file before other cell → (stamps other).born cell ≡ born_after_all shape file before other cell
      was_born born = go (other == page) refl where
        go : (b : Bool) → other == page ≡ b → (stamps other).born cell ≡ born_after_all shape file before other cell
        go true same = let it : other ≡ page = same_number other page same in subst (λ p. (stamps p).born cell ≡ born_after_all shape file before p cell) (sym it) (ap (λ (s : Stamps). s.born cell) v.sees.edited_page.stamps)
        go false apart = ap (λ (s : Stamps). s.born cell) (sym (v.others other (differ_from_test other page apart))) ∙ born

      keeps : Holds seen stamps → Holds later later_stamps
      keeps held has born =
          in-later other cell seen stamps later later_stamps v
          (λ cut closed sees same. stays_gone other cell e refl none cut closed sees (subst (λ (x : View). ¬ IsLinked x other cell) (sym same) (held (had has) (was_born born))))

    gone-still : EveryView at Holds → EveryView (scene_of shape file (edits ∷ before)) Holds
    gone-still each = views-edited shape file before Holds owner page e landed legal content is each keeps

  -- After the edit all that is unlinked is gone.
  pub gone-edited : UnlinkedAreGone (scene_of shape file (edits ∷ before))
  gone-edited other cell by edited stamp gone_by = go (last-step shape file other cell by edited stamp (edits ∷ before) gone_by) where
    go : LastStep shape file other cell by edited stamp (edits ∷ before)
        → EveryView (scene_of shape file (edits ∷ before)) (λ seen stamps. Contains (stamps edited).edits stamp → (stamps other).born cell ≡ born_at (scene_of shape file (edits ∷ before)) other cell → ¬ IsLinked seen other cell)
    go (inl now) = λ cut closed has born.
        let page_is : edited ≡ page = edit_page now.is.act in
        gone-now other cell now.was (subst (λ (x : View). ¬ IsLinked x other cell) now_is now.lost) cut closed
        (subst (λ p. Contains (view_stamps (world_of shape file (edits ∷ before)) (stamps_of shape file (edits ∷ before)) cut p).edits (stamp_after before)) page_is
        (subst (λ n. Contains (view_stamps (world_of shape file (edits ∷ before)) (stamps_of shape file (edits ∷ before)) cut edited).edits n) now.stamp_is has))
    go (inr s) = λ cut closed has born.
        gone-still other cell by edited stamp s.by (subst (λ (x : View). ¬ IsLinked x other cell) now_is s.none) (order.original.gone other cell by edited stamp s.by) cut closed has (born ∙ s.same)
