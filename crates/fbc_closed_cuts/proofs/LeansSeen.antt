-- What an edit leans on is shown by each view that sees the edit.
use Rattle.std.proofs.Common.{◌≡◌, ◌⊎◌, ℕ, inl, inr, sym, subst}
use Rattle.fbc_kinds.specs.View.{View}
use Rattle.fbc_legal.specs.Facts.{Fact}
use Rattle.fbc_legal.specs.Leans.{IsShown}
use Rattle.fbc_legal.specs.Scene.{Scene, HasDraft, IsBefore, newest_at}
use Rattle.fbc_legal.specs.Stamps.{Stamps, newest_stamps}
use Rattle.fbc_closed_cuts.specs.Owed.{IsSeenKept, IsSeenNewest, SeesEdit}

module _ (at : Scene) (owner edited : ℕ) (seen : View) (stamps : ℕ → Stamps) (sees : SeesEdit at owner edited seen stamps) where
  newest_shown : (fact : Fact) (other : ℕ) → IsSeenNewest at other (seen other) (stamps other) → fact (newest_at at other) (newest_stamps at.world at.stamps other) → fact (seen other) (stamps other)
  newest_shown fact other is newest = rw (is.page, is.stamps) newest

  kept_shown : (fact : Fact) (other : ℕ) → IsSeenKept at other (seen other) (stamps other) → fact (at.world.kept other) (at.stamps.kept other) → fact (seen other) (stamps other)
  kept_shown fact other is kept = rw (is.page, is.stamps) kept

  pub lean-seen : (fact : Fact) (other : ℕ) → IsShown at owner edited other fact → fact (seen other) (stamps other)
  lean-seen fact other is = go is.in_time where
    go : (other ≡ edited) ⊎ fact (at.world.kept other) (at.stamps.kept other) ⊎ (HasDraft at owner other × IsBefore at other edited) → fact (seen other) (stamps other)
    go (inl same) = newest_shown fact other (subst (λ p. IsSeenNewest at p (seen p) (stamps p)) (sym same) sees.edited_page) is.newest
    go (inr (inl kept)) = elim (sees.each other) [ inl now ↦ newest_shown fact other now is.newest | inr file ↦ kept_shown fact other file kept ]
    go (inr (inr own)) = newest_shown fact other (sees.before other own.0 own.1) is.newest
