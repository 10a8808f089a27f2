-- Of a page of which an owner has a copy, what the newest content shows may be leant on.
use Rattle.std.proofs.Common.{◌≡◌, ℕ, inl, inr, true, Option, Some, None, refl, sym, subst, arith}
use Rattle.std.proofs.lemmas.Bool.Decides.{nat_tests}
use Rattle.fbc_kinds.specs.declared.pages.Page.{Page}
use Rattle.fbc_levels.specs.Levels.{is_page_level}
use Rattle.fbc_levels.specs.Resources.{page_resource}
use Rattle.fbc_world.specs.declared.drafts.Draft.{Draft}
use Rattle.fbc_legal.specs.Coherent.{IsCoherent, IsCopyHeld, IsNewest}
use Rattle.fbc_legal.specs.Facts.{Fact}
use Rattle.fbc_legal.specs.Leans.{IsShown}
use Rattle.fbc_legal.specs.Scene.{Scene, HasDraft, IsBefore, newest_at}
use Rattle.fbc_legal.specs.Stamps.{Stamps, newest_stamps}
use Rattle.fbc_legal.proofs.Exclusion.{IsOwnDraft, own_draft}
use Rattle.fbc_firm_facts.specs.Copies.{IsNewestKept, IsOwnOrKept}

module _ (at : Scene) (h : IsCoherent at.world) (owner page : ℕ) (content : Page) (has : at.world.copy owner page ≡ Some content) where
  newest_is : newest_at at page ≡ Some content
  newest_is = subst (λ c. IsNewest c (newest_at at page)) has (h.newest owner page)

  usable : is_page_level (at.world.granted owner (page_resource page)) ≡ true
  usable = (subst (IsCopyHeld at.world owner page) has (h.held owner page)).1

  pub own-or-kept : IsOwnOrKept at owner page
  own-or-kept = go (at.world.draft page) refl (own_draft at.world h owner page usable) where
    go : (d : Option Draft) → at.world.draft page ≡ d → IsOwnDraft owner d → IsOwnOrKept at owner page
    go None none own = inr (record { content = rw none refl; stamps = rw none refl })
    go (Some d) is own = inl (rw is (grind (arith, nat_tests, own)))

  -- So whatever fact the copy shows may be leant on.
  pub copy-leans : (edited : ℕ) (fact : Fact) → fact (Some content) (newest_stamps at.world at.stamps page) → (HasDraft at owner page → IsBefore at page edited) → IsShown at owner edited page fact
  copy-leans edited fact shows first = record {
    newest = newest_shows;
    in_time = elim own-or-kept [ inl own ↦ inr (inr (own, first own)) | inr kept ↦ inr (inl (file_shows kept)) ];
  } where
    newest_shows : fact (newest_at at page) (newest_stamps at.world at.stamps page)
    newest_shows = subst (λ found. fact found (newest_stamps at.world at.stamps page)) (sym newest_is) shows

    file_shows : IsNewestKept at page → fact (at.world.kept page) (at.stamps.kept page)
    file_shows kept = subst (λ (s : Stamps). fact (at.world.kept page) s) kept.stamps (subst (λ found. fact found (newest_stamps at.world at.stamps page)) kept.content newest_shows)
