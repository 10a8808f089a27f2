-- The steps by which a page is given up are legal.
use Rattle.std.proofs.Common.{◌≡◌, ◌∙◌, inl, inr, ap, ℕ, true, sym, subst}
use Rattle.fbc_kinds.specs.declared.shapes.Shape.{Shape}
use Rattle.fbc_kinds.specs.View.{View}
use Rattle.fbc_levels.specs.declared.levels.Level.{Level}
use Rattle.fbc_levels.specs.Levels.{join, is_page_level}
use Rattle.fbc_precedence.specs.Precedence.{IsAtOrBefore, IsNextToWrite}
use Rattle.fbc_world.specs.declared.asks.Ask.TheVariants as ask
use Rattle.fbc_world.specs.declared.asks.Cause.{Cause}
use Rattle.fbc_world.specs.History.{History}
use Rattle.fbc_world.specs.Holdings.{is_draft_of}
use Rattle.fbc_levels.specs.Resources.{page_resource}
use Rattle.fbc_world.specs.World.{World, world_of}
use Rattle.fbc_legal.specs.Causes.{IsCauseFor, MeetsCause, MeetsLowering}
use Rattle.fbc_legal.specs.Coherent.{IsCoherent}
use Rattle.fbc_legal.specs.Guards.{GuardOfLower, GuardOfWrite}
use Rattle.fbc_legal.specs.Legal.{IsLegal}
use Rattle.fbc_legal.specs.Scene.{Scene, scene_of}
use Rattle.fbc_legal.proofs.Induction.{IsCoherent-legal}
use Rattle.fbc_buffers.specs.Holding.{buffer_of}
use Rattle.fbc_cache.specs.Cache.{CacheState, IsBuffer, IsCache, level_in}
use Rattle.fbc_cache.specs.Giving.{GivesUp, IsUnsettled}
use Rattle.fbc_cache.specs.Wants.{MayGiveUp}
use Rattle.fbc_cache.proofs.GivesUp.{next-dirty, settled-clean}
use Rattle.fbc_cache.proofs.HeldPairs.{found-is}
use Rattle.fbc_fit.specs.Fit.{Fits}
use Rattle.fbc_fit.proofs.DraftHolders.{drafted_exclusive}
use Rattle.fbc_fit.proofs.LastPairs.{none_before, stands_before}
use Rattle.fbc_fit.proofs.HeldLevels.{held_usable, part_adds_nothing}
use Rattle.fbc_fit.proofs.Shown.{granted-is}

module _ (shape : Shape) (file : View) (history : History) (owner : ℕ) (c : CacheState) (legal : IsLegal shape file history) (is : IsCache c) (fits : Fits shape (world_of shape file history) owner c) where
  abbrev at : Scene
  at = scene_of shape file history

  abbrev w : World
  w = world_of shape file history

  h : IsCoherent w
  h = IsCoherent-legal shape file history legal

  meets : (page next : ℕ) (cause : Cause) → IsAtOrBefore c.pairs next page → IsCauseFor at owner page cause → MeetsCause at owner next cause
  meets page next cause (inl same) reason = inl (subst (λ p. IsCauseFor at owner p cause) (sym same) reason)
  meets page next cause (inr path) reason = inr (page, stands_before shape w owner c fits next page path, reason)

  pub next_guard : (page next : ℕ) (cause : Cause) → IsUnsettled c page → IsNextToWrite c.pairs page next → IsCauseFor at owner page cause → GuardOfWrite at owner next cause
  next_guard page next cause unsettled first reason =
      let drafted : is_draft_of owner (w.draft next) ≡ true = (fits.pages next).draft ∙ next-dirty c is page next unsettled first in
      let usable : is_page_level (w.granted owner (page_resource next)) ≡ true = ap is_page_level (drafted_exclusive w h owner next drafted) in
      record {
        drafted = drafted;
        first = λ high there path. none_before shape w owner c fits h next usable first.free high path;
        cause = meets page next cause first.among reason;
      }

  pub write_guard : (page next : ℕ) (cause : Cause) (level : Level) → GivesUp c page cause level (ask.Write next cause) → IsCauseFor at owner page cause → GuardOfWrite at owner next cause
  write_guard page next cause level (inl unsettled) reason =
      let same : unsettled.1.next ≡ next = cc in
      subst (λ n. GuardOfWrite at owner n cause) same (next_guard page unsettled.1.next cause unsettled.0 unsettled.1.is_next reason)
  write_guard page next cause level (inr settled) reason = absurd (cc)

  pub settled_guard : (page : ℕ) (level : Level) → MayGiveUp c page level → (IsUnsettled c page → ⊥) → MeetsLowering at owner page level → GuardOfLower at owner (page_resource page) level
  settled_guard page level may settled reason =
      let same : w.granted owner (page_resource page) ≡ level_in c.held page = granted-is (w.granted owner (page_resource page)) _ (buffer_of c.held page) (fits.pages page).lock may.granted in
      let usable : is_page_level (w.granted owner (page_resource page)) ≡ true = ap is_page_level same ∙ held_usable c.shape (buffer_of c.held page) (found-is (IsBuffer c.shape) c.held page is.buffers) may.granted in
      record {
        part = subst (λ l. join l level ≡ l) (sym same) (part_adds_nothing (level_in c.held page) level may.part);
        by_series = record {
          clean = (fits.pages page).draft ∙ settled-clean c is page settled;
          unpinned = (fits.pages page).pin ∙ may.loose;
          last = λ high path. none_before shape w owner c fits h page usable (λ blocked. settled (inr blocked)) high path;
          reason = reason;
        };
      }

  pub lower_guard : (page : ℕ) (cause : Cause) (level : Level) → MayGiveUp c page level → GivesUp c page cause level (ask.Lower (page_resource page) level) → MeetsLowering at owner page level
      → GuardOfLower at owner (page_resource page) level
  lower_guard page cause level may (inl unsettled) reason = absurd (let is' = unsettled.1.is_write in cc)
  lower_guard page cause level may (inr settled) reason = settled_guard page level may settled.0 reason
