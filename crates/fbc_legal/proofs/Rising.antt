-- Waiting upward goes on: pinned pages do not rise, and a page that is waited for does not fall.
use Rattle.std.proofs.Common.{◌≡◌, ap, subst, ℕ, Bool, true, false, ◌==◌, if◌then◌else◌, Option, Some, None, refl, sym, arith}
use Rattle.std.proofs.lemmas.Bool.Decides.{nat_tests}
use Rattle.fbc_kinds.specs.declared.pages.Page.{Page}
use Rattle.fbc_kinds.specs.View.{header_in}
use Rattle.fbc_levels.specs.declared.resources.Series.{Series}
use Rattle.fbc_levels.specs.declared.resources.Series.TheVariants as series
use Rattle.fbc_levels.specs.LockState.{LockState}
use Rattle.fbc_world.specs.declared.drafts.Draft.{Draft}
use Rattle.fbc_world.specs.Holdings.{is_draft_of}
use Rattle.fbc_world.specs.PageCell.{newest_in, page_for, without}
use Rattle.fbc_world.specs.World.{World, dead, written}
use Rattle.fbc_legal.specs.Ranks.{MayWaitFor, pinned_rank, rank_in, waited_rank}
use Rattle.fbc_legal.specs.Scene.{Scene}
use Rattle.fbc_legal.proofs.HeaderGrowth.{Grows, RanksGrow}
use Rattle.fbc_legal.proofs.RankOrder.{IsAtMost, at_most-lower, at_most-same, at_most-self, lower-at_most}
use Rattle.fbc_legal.proofs.Pins.{clash}

-- The scene with another world.
abbrev pub scene_in : Scene → World → Scene
scene_in at w = record at { world = w }

-- In the other world the owner has no further pins, these have no higher ranks, and what it may wait for no lower ones.
pub record StaysUpward (at : Scene) (w : World) (owner : ℕ) : Type 0 where
  pub pins : (pin : ℕ) → w.is_pinned owner pin ≡ true → at.world.is_pinned owner pin ≡ true
  pub fall : (pin : ℕ) → w.is_pinned owner pin ≡ true → IsAtMost (pinned_rank (scene_in at w) pin) (pinned_rank at pin)
  pub rise : (page : ℕ) → IsAtMost (waited_rank at owner page) (waited_rank (scene_in at w) owner page)

not_true : (b c : Bool) → (b ≡ true → c ≡ true) → c ≡ false → b ≡ false
not_true true c from is = absurd (clash c is (from refl))
not_true false c from is = refl

pub upward-stays : (at : Scene) (w : World) (owner : ℕ) → StaysUpward at w owner → (kind : Series) (key : ℕ) → MayWaitFor at owner kind key → MayWaitFor (scene_in at w) owner kind key
upward-stays at w owner s series.Page key may = λ pin pinned. at_most-lower _ _ _ (s.fall pin pinned) (lower-at_most _ _ _ (may pin (s.pins pin pinned)) (s.rise key))
upward-stays at w owner s _ key may = λ pin. not_true _ _ (s.pins pin) (may pin)

-- The header as another owner has it, and the newest one, without an owner's draft.
for-without : (owner actor : ℕ) (kept : Option Page) (draft : Option Draft) → owner == actor ≡ false → page_for owner kept (without actor draft) ≡ page_for owner kept draft
for-without owner actor kept None other = refl
for-without owner actor kept (Some draft) other = grind (arith, nat_tests, other)

module _ (size : ℕ) (page : ℕ) where
  newest-without : (actor : ℕ) (kept : Option Page) (draft : Option Draft) → Grows size kept draft
      → IsAtMost (rank_in size (header_in (newest_in kept (without actor draft))) page) (rank_in size (header_in (newest_in kept draft)) page)
  newest-without actor kept None grow = at_most-self _
  newest-without actor kept (Some draft) grow = go (draft.owner == actor) where
    go : (b : Bool) → IsAtMost (rank_in size (header_in (newest_in kept (if b then None else Some draft))) page) (rank_in size (header_in (Some draft.content)) page)
    go true = grow page
    go false = at_most-self _

  -- A write of an own draft.
  newest-written : (actor : ℕ) (kept : Option Page) (draft : Option Draft) → is_draft_of actor draft ≡ true → newest_in (page_for actor kept draft) (without actor draft) ≡ newest_in kept draft
  newest-written actor kept None its = absurd cc
  newest-written actor kept (Some draft) its = grind (arith, its)

  for-written : (actor owner : ℕ) (kept : Option Page) (draft : Option Draft) → is_draft_of actor draft ≡ true → Grows size kept draft
      → IsAtMost (rank_in size (header_in (page_for owner kept draft)) page) (rank_in size (header_in (page_for owner (page_for actor kept draft) (without actor draft))) page)
  for-written actor owner kept None its grow = absurd cc
  for-written actor owner kept (Some draft) its grow = rw its (go (draft.owner == owner)) where
    go : (b : Bool) → IsAtMost (rank_in size (header_in (if b then Some draft.content else kept)) page) (rank_in size (header_in (Some draft.content)) page)
    go true = at_most-self _
    go false = grow page

module _ (at : Scene) (grow : RanksGrow at.shape.size at.world) (owner actor : ℕ) where
  abbrev w : World
  w = at.world

  pub stays-dead : (locks : LockState) → owner == actor ≡ false → StaysUpward at (record (dead w actor) { locks = locks }) owner
  stays-dead locks other = record {
    pins = λ pin pinned. grind (arith, other, pinned);
    fall = λ pin pinned. newest-without at.shape.size pin actor (w.kept 0) (w.draft 0) grow;
    rise = λ page. at_most-same _ _ (ap (λ content. rank_in at.shape.size (header_in content) page) (sym (for-without owner actor (w.kept 0) (w.draft 0) other)));
  }

  pub stays-written : (page : ℕ) → is_draft_of actor (w.draft page) ≡ true → StaysUpward at (written w actor page) owner
  stays-written page its = record {
    pins = λ pin pinned. pinned;
    fall = λ pin pinned. at_most-same _ _ (newest (0 == page) refl pin);
    rise = λ wanted. for_owner (0 == page) refl wanted;
  } where
    zero_its : 0 == page ≡ true → is_draft_of actor (w.draft 0) ≡ true
    zero_its is = subst (λ p. is_draft_of actor (w.draft p) ≡ true) (grind (arith, nat_tests, is)) its

    newest : (b : Bool) → 0 == page ≡ b → (pin : ℕ)
        → rank_in at.shape.size (header_in (newest_in (if b then page_for actor (w.kept 0) (w.draft 0) else w.kept 0) (if b then without actor (w.draft 0) else w.draft 0))) pin
        ≡ rank_in at.shape.size (header_in (newest_in (w.kept 0) (w.draft 0))) pin
    newest true is pin = ap (λ content. rank_in at.shape.size (header_in content) pin) (newest-written at.shape.size pin actor (w.kept 0) (w.draft 0) (zero_its is))
    newest false is pin = refl

    for_owner : (b : Bool) → 0 == page ≡ b → (wanted : ℕ)
        → IsAtMost (rank_in at.shape.size (header_in (page_for owner (w.kept 0) (w.draft 0))) wanted)
        (rank_in at.shape.size (header_in (page_for owner (if b then page_for actor (w.kept 0) (w.draft 0) else w.kept 0) (if b then without actor (w.draft 0) else w.draft 0))) wanted)
    for_owner true is wanted = for-written at.shape.size wanted actor owner (w.kept 0) (w.draft 0) (zero_its is) grow
    for_owner false is wanted = at_most-self _
