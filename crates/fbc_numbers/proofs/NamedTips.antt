-- Transaction inventory pages that headers name, before and after they have grown.
use Rattle.std.proofs.Common.{◌≡◌, ◌≢◌, ◌≤◌, ◌∙◌, ◌/◌, ◌⊎◌, ℕ, Bool, true, false, if◌then◌else◌, Option, Some, None, slice_get, inl, inr, refl, sym, ap, subst, arith}
use Rattle.std.specs.Option.{option_and_then, option_map_or}
use Rattle.fbc_kinds.specs.declared.edits.Edit.TheVariants.{Mark}
use Rattle.fbc_kinds.specs.declared.pages.Header.{Header}
use Rattle.fbc_kinds.specs.declared.pages.Page.{Page}
use Rattle.fbc_kinds.specs.declared.pages.Page.TheVariants as kind
use Rattle.fbc_kinds.specs.declared.pages.State.TheVariants.{Committed}
use Rattle.fbc_kinds.specs.declared.pages.Tip.{Tip}
use Rattle.fbc_kinds.specs.Limits.{tip_numbers}
use Rattle.fbc_kinds.specs.View.{View, header_in, tip_of}
use Rattle.fbc_page_edits.specs.Allowed.{Fits}
use Rattle.fbc_version_edits.proofs.Marked.{Shows, shows_state}
use Rattle.fbc_world.specs.World.{World, newest_of}
use Rattle.fbc_legal.specs.Naming.{IsNamedFor, IsNamedTip}
use Rattle.fbc_legal.specs.Rows.{IsCommitMark}
use Rattle.fbc_legal.specs.Scene.{HasDraft, Scene}
use Rattle.fbc_closed_cuts.specs.Cut.{Cut, view}
use Rattle.fbc_closed_cuts.specs.Growth.{GrowsInto}
use Rattle.fbc_numbers.proofs.PageStates.{tip_in}

abbrev pub next_in : Option Page → ℕ
next_in page = option_map_or (λ (h : Header). h.next) (header_in page) 0

-- A header that has grown names the same page.
pub tip_grown : (earlier later : Option Page) → GrowsInto earlier later → (sequence page : ℕ) → tip_in earlier sequence ≡ Some page → tip_in later sequence ≡ Some page
tip_grown earlier later grows sequence page is = go (header_in earlier) refl is where
  go : (o : Option Header) → header_in earlier ≡ o → option_and_then (λ (h : Header). slice_get h.tips sequence) o ≡ Some page → tip_in later sequence ≡ Some page
  go None none found = absurd cc
  go (Some header) some found =
      let more = grows header some in
      rw more.is (more.grown.tips sequence page found)

-- And its next number is no less.
pub next_grown : (earlier later : Option Page) → GrowsInto earlier later → next_in earlier ≤ next_in later
next_grown earlier later grows = go (header_in earlier) refl where
  go : (o : Option Header) → header_in earlier ≡ o → option_map_or (λ (h : Header). h.next) o 0 ≤ next_in later
  go None none = grind (arith)
  go (Some header) some =
      let more = grows header some in
      rw more.is more.grown.next

-- Each view names what the file does.
pub tip_seen : (w : World) → GrowsInto (w.kept 0) (newest_of w 0) → (cut : Cut) (sequence page : ℕ) → tip_of w.kept sequence ≡ Some page → tip_of (view w cut) sequence ≡ Some page
tip_seen w grows cut sequence page is = go (cut 0) where
  go : (b : Bool) → tip_in (if b then newest_of w 0 else w.kept 0) sequence ≡ Some page
  go true = tip_grown (w.kept 0) (newest_of w 0) grows sequence page is
  go false = is

-- A transaction inventory page is no header.
pub tip_apart : (seen : View) (tip : Tip) (page sequence other : ℕ) → seen page ≡ Some (kind.Tip tip) → tip_of seen sequence ≡ Some other → page ≢ 0
tip_apart seen tip page sequence other stands named zero_ =
    absurd (let none : None ≡ Some other = sym (ap (λ o. tip_in o sequence) (sym (ap seen zero_) ∙ stands)) ∙ named in cc)

-- The file names the page of a mark of a commit.
pub commit-named : (at : Scene) (owner page number : ℕ) (content : Page) → IsNamedFor at owner page (newest_of at.world page) → IsCommitMark at owner page number
    → Fits at.shape (Mark number Committed) (newest_of at.world page) content → tip_of at.world.kept (number / tip_numbers at.shape.size) ≡ Some page
commit-named at owner page number content is_named row fits = go (subst (IsNamedFor at owner page) shows.stands is_named) where
  shows : Shows at.shape.size (newest_of at.world page) number Committed content
  shows = shows_state at.shape number Committed (newest_of at.world page) content fits

  go : IsNamedTip at owner page shows.tip.sequence → tip_of at.world.kept (number / tip_numbers at.shape.size) ≡ Some page
  go named = rw shows.within (by named.in_file) where
    by : (tip_of at.world.kept shows.tip.sequence ≡ Some page) ⊎ HasDraft at owner 0 → tip_of at.world.kept shows.tip.sequence ≡ Some page
    by (inl is) = is
    by (inr own) = absurd (tip_apart (newest_of at.world) shows.tip page shows.tip.sequence page shows.stands named.newest (sym (row.3 0 own)))
