-- What an edit leans on is shown by each view that comes to hold the edited page.
use Rattle.std.proofs.Common.{◌≡◌, ℕ, Bool, true, false, ◌&&◌, ◌⊎◌, inl, inr, if◌then◌else◌, Option, Some, None, is_some, sym, subst}
use Rattle.fbc_world.specs.declared.drafts.Draft.{Draft}
use Rattle.fbc_world.specs.PageCell.{newest_in}
use Rattle.fbc_world.specs.World.{World}
use Rattle.fbc_legal.specs.Facts.{Fact}
use Rattle.fbc_legal.specs.Leans.{IsShown}
use Rattle.fbc_legal.specs.Scene.{Scene, HasDraft, IsBefore}
use Rattle.fbc_closed_cuts.specs.Cut.{Cut, view}
use Rattle.fbc_closed_cuts.specs.Views.{drafted_in, view_stamps}

-- A set of pages has the edited one, and with each page the owner's drafts that are to be written before it.
pub record TakesBefore (at : Scene) (owner edited : ℕ) (cut : Cut) : Type 0 where
  pub edited_in : cut edited ≡ true
  pub before_in : (page : ℕ) → HasDraft at owner page → IsBefore at page edited → cut page ≡ true

module _ (at : Scene) (owner edited : ℕ) (cut : Cut) (takes : TakesBefore at owner edited cut) where
  abbrev w : World
  w = at.world

  -- The page shows what its newest content does, or what is kept does and it is out of the cut.
  shown_in : (fact : Fact) (page : ℕ) (b : Bool) (draft : Option Draft)
      → fact (newest_in (w.kept page) draft) (if is_some draft then at.stamps.draft page else at.stamps.kept page)
      → (b ≡ true) ⊎ fact (w.kept page) (at.stamps.kept page)
      → fact (if b && is_some draft then newest_in (w.kept page) draft else w.kept page) (if b && is_some draft then (if is_some draft then at.stamps.draft page else at.stamps.kept page) else at.stamps.kept page)
  shown_in fact page true None newest found = newest
  shown_in fact page true (Some draft) newest found = newest
  shown_in fact page false draft newest (inl is) = absurd cc
  shown_in fact page false draft newest (inr kept) = kept

  pub lean-shown : (fact : Fact) (page : ℕ) → IsShown at owner edited page fact → fact (view w (drafted_in w cut) page) (view_stamps w at.stamps (drafted_in w cut) page)
  lean-shown fact page is = shown_in fact page (cut page) (w.draft page) is.newest (found is.in_time) where
    found : (page ≡ edited) ⊎ fact (w.kept page) (at.stamps.kept page) ⊎ (HasDraft at owner page × IsBefore at page edited) → (cut page ≡ true) ⊎ fact (w.kept page) (at.stamps.kept page)
    found (inl same) = inl (subst (λ p. cut p ≡ true) (sym same) takes.edited_in)
    found (inr (inl kept)) = inr kept
    found (inr (inr own)) = inl (takes.before_in page own.0 own.1)
