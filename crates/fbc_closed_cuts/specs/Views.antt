-- Views after an event, and the views before it that they come from.
use Rattle.std.specs.Prelude.{◌≡◌, ◌==◌, ◌&&◌, ◌||◌, not, ℕ, Bool, true, false, if◌then◌else◌, is_some}
use Rattle.fbc_kinds.specs.declared.pages.Page.{Page}
use Rattle.fbc_page_edits.specs.Edited.{with_page}
use Rattle.fbc_world.specs.declared.events.Act.{Act}
use Rattle.fbc_world.specs.declared.events.Act.TheVariants.{Local, Write}
use Rattle.fbc_world.specs.declared.events.LocalEvent.TheVariants as local
use Rattle.fbc_world.specs.World.{World, newest_of}
use Rattle.fbc_legal.specs.Stamps.{PageStamps, Stamps, newest_stamps}
use Rattle.fbc_closed_cuts.specs.Cut.{Cut, IsClosedCut, view}

-- The stamps of the pages of a view.
abbrev pub view_stamps : World → PageStamps → Cut → ℕ → Stamps
view_stamps w s cut page = if cut page then newest_stamps w s page else s.kept page

-- The view of a cut after an event is the view of an earlier cut before it.
pub record IsSameView (w : World) (s : PageStamps) (after : World) (after_stamps : PageStamps) (cut earlier : Cut) : Type 0 where
  pub closed : IsClosedCut w earlier
  pub pages : (page : ℕ) → view after cut page ≡ view w earlier page
  pub stamps : (page : ℕ) → view_stamps after after_stamps cut page ≡ view_stamps w s earlier page

-- The cut with one page more.
abbrev pub with_one : ℕ → Cut → Cut
with_one page cut other = if other == page then true else cut other

-- The cut before an act: with the page that a write brings into the file.
abbrev pub cut_before : Act → Bool → Cut → Cut
cut_before (Write page cause failed) landed cut = if not failed || landed then with_one page cut else cut
cut_before _ landed cut = cut

-- Whether an act is an edit.
abbrev pub is_edit : Act → Bool
is_edit (Local (local.Edit page edit)) = true
is_edit _ = false

-- The pages of a cut that have drafts already.
abbrev pub drafted_in : World → Cut → Cut
drafted_in w cut page = cut page && is_some (w.draft page)

-- The view of a cut with an edited page is the view of the cut before, which showed the page as it was edited, with the
-- page's new content.
pub record IsViewOfEdit (w : World) (s : PageStamps) (after : World) (after_stamps : PageStamps) (edited : ℕ) (content : Page) (cut : Cut) : Type 0 where
  pub closed : IsClosedCut w (drafted_in w cut)
  pub was : view w (drafted_in w cut) edited ≡ newest_of w edited
  pub stamps_were : view_stamps w s (drafted_in w cut) edited ≡ newest_stamps w s edited
  pub pages : (page : ℕ) → view after cut page ≡ with_page (view w (drafted_in w cut)) edited content page
  pub now : view_stamps after after_stamps cut edited ≡ after_stamps.draft edited
  pub others : (page : ℕ) → ¬ (page ≡ edited) → view_stamps after after_stamps cut page ≡ view_stamps w s (drafted_in w cut) page
