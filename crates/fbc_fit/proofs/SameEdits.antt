-- An edit makes the same of the page as its owner has it and of the cache's copy.
use Rattle.std.proofs.Common.{◌≡◌, ◌∙◌, ap, ℕ, true, Option, Some, None, is_some, refl, sym, subst, arith}
use Rattle.std.proofs.lemmas.Bool.Decides.{nat_tests}
use Rattle.fbc_kinds.specs.declared.edits.Edit.{Edit}
use Rattle.fbc_kinds.specs.declared.edits.Edit.TheVariants.{Format}
use Rattle.fbc_kinds.specs.declared.pages.Page.{Page}
use Rattle.fbc_kinds.specs.declared.shapes.Shape.{Shape}
use Rattle.fbc_kinds.specs.View.{View}
use Rattle.fbc_world.specs.declared.drafts.Draft.{Draft}
use Rattle.fbc_world.specs.History.{History}
use Rattle.fbc_levels.specs.Resources.{page_resource}
use Rattle.fbc_world.specs.PageCell.{edited, newest_in, page_for}
use Rattle.fbc_world.specs.World.{newest_of, page_after as world_after, world_of}
use Rattle.fbc_legal.specs.Coherent.{IsCoherent, IsNewest}
use Rattle.fbc_levels.specs.Levels.{is_page_level}
use Rattle.fbc_legal.specs.Guards.{HasBase}
use Rattle.fbc_legal.specs.Scene.{Scene, scene_of}
use Rattle.fbc_legal.proofs.Exclusion.{IsOwnDraft, own_draft}
use Rattle.fbc_cache.specs.Cache.{CacheState, IsCache, copy_in}
use Rattle.fbc_cache.specs.Edits.{MayEdit, page_after}
use Rattle.fbc_fit.specs.Fit.{Fits, IsBased}
use Rattle.fbc_fit.proofs.HeldPages.{exclusive-is}

-- Where the draft is the owner's or there is none, the owner has the newest content.
own_newest : (owner : ℕ) (kept : Option Page) (draft : Option Draft) → IsOwnDraft owner draft → page_for owner kept draft ≡ newest_in kept draft
own_newest owner kept None own = refl
own_newest owner kept (Some d) own = grind (arith, nat_tests, own)

-- What the owner may use of a page is the page as it has it.
copy-is : (copy mine newest : Option Page) → is_some copy ≡ true → mine ≡ newest → IsNewest copy newest → mine ≡ copy
copy-is None mine newest there same is = absurd (cc)
copy-is (Some content) mine newest there same is = same ∙ is

-- A format makes the same of each page.
format-same : (shape : Shape) (kind number relation sequence : ℕ) (mine copy : Option Page) → edited shape (Format kind number relation sequence) mine ≡ edited shape (Format kind number relation sequence) copy
format-same shape kind number relation sequence (Some a) (Some b) = refl
format-same shape kind number relation sequence (Some a) None = refl
format-same shape kind number relation sequence None (Some b) = refl
format-same shape kind number relation sequence None None = refl

-- Every other edit wants a page that is there.
abbrev IsThere : Option Page → Edit → Type 0
IsThere found (Format kind number relation sequence) = Unit {0}
IsThere found _ = is_some found ≡ true

is-there : (shape : Shape) (edit : Edit) (found : Option Page) → is_some (edited shape edit found) ≡ true → IsThere found edit
is-there shape (Format kind number relation sequence) found fitting = tt
is-there shape edit (Some content) fitting = refl
is-there shape edit None fitting = absurd (cc)

-- An edit whose page is there, if it is no format, has its base.
has-base : (at : Scene) (owner page : ℕ) (edit : Edit) → IsBased page edit → IsThere (at.world.copy owner page) edit → HasBase at owner page edit
has-base at owner page (Format kind number relation sequence) based there = based
has-base at owner page edit based there = there

module _ (at : Scene) (h : IsCoherent at.world) (owner page : ℕ) (usable : is_page_level (at.world.granted owner (page_resource page)) ≡ true) where
  mine-is : is_some (at.world.copy owner page) ≡ true → page_for owner (at.world.kept page) (at.world.draft page) ≡ at.world.copy owner page
  mine-is there =
      copy-is (at.world.copy owner page) (page_for owner (at.world.kept page) (at.world.draft page)) (newest_of at.world page) there
      (own_newest owner (at.world.kept page) (at.world.draft page) (own_draft at.world h owner page usable)) (h.newest owner page)

  same_edited : (edit : Edit) → IsThere (at.world.copy owner page) edit → edited at.shape edit (page_for owner (at.world.kept page) (at.world.draft page)) ≡ edited at.shape edit (at.world.copy owner page)
  same_edited (Format kind number relation sequence) there = format-same at.shape kind number relation sequence _ _
  same_edited edit there = ap (edited at.shape edit) (mine-is there)

module _ (shape : Shape) (file : View) (history : History) (owner : ℕ) (c : CacheState) (fits : Fits shape (world_of shape file history) owner c) (page : ℕ) (edit : Edit) (may : MayEdit c page edit) where
  there_to_edit : IsThere ((world_of shape file history).copy owner page) edit
  there_to_edit = subst (λ (found : Option Page). IsThere found edit) (sym (fits.pages page).copy) (is-there c.shape edit (copy_in c.held page) may.fits)

  pub base-is : IsBased page edit → HasBase (scene_of shape file history) owner page edit
  base-is based = has-base (scene_of shape file history) owner page edit based there_to_edit

  pub same_after : IsCoherent (world_of shape file history) → IsCache c → world_after shape (world_of shape file history) owner page edit ≡ page_after c page edit
  same_after h is =
      same_edited (scene_of shape file history) h owner page (ap is_page_level (exclusive-is shape (world_of shape file history) owner c is fits page may.exclusive)) edit there_to_edit
      ∙ ap (edited shape edit) (fits.pages page).copy
      ∙ ap (λ (s : Shape). edited s edit (copy_in c.held page)) (sym fits.shape_is)
