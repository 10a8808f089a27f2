-- A write makes no new view: each view after it is one before it, of the cut with the written page.
use Rattle.std.proofs.Common.{◌≡◌, ℕ, Bool, true, false, ◌==◌, ◌⊎◌, inl, inr, if◌then◌else◌, Option, Some, None, is_some, refl, subst, arith}
use Rattle.std.proofs.lemmas.Bool.Decides.{nat_tests}
use Rattle.fbc_kinds.specs.declared.pages.Page.{Page}
use Rattle.fbc_world.specs.declared.asks.Cause.{Cause}
use Rattle.fbc_world.specs.declared.drafts.Draft.{Draft}
use Rattle.fbc_world.specs.declared.events.Act.TheVariants.{Write}
use Rattle.fbc_world.specs.Holdings.{is_draft_of}
use Rattle.fbc_world.specs.PageCell.{newest_in, page_for, without}
use Rattle.fbc_world.specs.World.{World, IsPairIn, acted, newest_of}
use Rattle.fbc_kinds.specs.Order.{StandsBefore}
use Rattle.fbc_legal.specs.Guards.{GuardOfWrite}
use Rattle.fbc_legal.specs.Scene.{Scene}
use Rattle.fbc_legal.specs.Stamps.{Stamps, newest_stamps, stamps_written}
use Rattle.fbc_legal.proofs.Exclusion.{same_number}
use Rattle.fbc_closed_cuts.specs.Cut.{Cut, IsClosedCut}
use Rattle.fbc_closed_cuts.specs.Views.{IsSameView, with_one}

-- An owner's draft is one.
pub draft_there : (owner : ℕ) (draft : Option Draft) → is_draft_of owner draft ≡ true → is_some draft ≡ true
draft_there owner None own = absurd cc
draft_there owner (Some draft) own = refl

-- In any cut a written page shows its draft.
shows_draft : (owner : ℕ) (kept : Option Page) (draft : Option Draft) (b : Bool) → is_draft_of owner draft ≡ true
    → (if b then newest_in (page_for owner kept draft) (without owner draft) else page_for owner kept draft) ≡ newest_in kept draft
shows_draft owner kept None b own = absurd cc
shows_draft owner kept (Some draft) true own = rw own refl
shows_draft owner kept (Some draft) false own = rw own refl

stamped_draft : (owner : ℕ) (draft : Option Draft) (drafts keeps : Stamps) (b : Bool) → is_draft_of owner draft ≡ true
    → (if b then (if is_some (without owner draft) then drafts else (if is_draft_of owner draft then drafts else keeps)) else (if is_draft_of owner draft then drafts else keeps))
    ≡ (if is_some draft then drafts else keeps)
stamped_draft owner None drafts keeps b own = absurd cc
stamped_draft owner (Some draft) drafts keeps true own = rw own refl
stamped_draft owner (Some draft) drafts keeps false own = rw own refl

module _ (at : Scene) (owner page : ℕ) (reason : Cause) (landed : Bool) (g : GuardOfWrite at owner page reason) where
  abbrev w : World
  w = at.world

  abbrev after : World
  after = acted at.shape w owner (Write page reason false) landed

  abbrev Way : ℕ → ℕ → Type 0
  Way = StandsBefore (IsPairIn w)

  abbrev Left : ℕ → ℕ → Type 0
  Left = StandsBefore (IsPairIn after)

  pair_left : (high low : ℕ) → high == page ≡ false → IsPairIn w high low → IsPairIn after high low
  pair_left high low other pair = (pair.0, rw other pair.1)

  -- A way before the write is left, unless it leads from the page or through it.
  left : (x y : ℕ) → Way x y → Left x y ⊎ (x ≡ page) ⊎ Way x page
  left x y (StandsBefore.straight high low pair) = go (high == page) refl where
    go : (b : Bool) → high == page ≡ b → Left high low ⊎ (high ≡ page) ⊎ Way high page
    go true is = inr (inl (same_number high page is))
    go false is = inl (StandsBefore.straight high low (pair_left high low is pair))
  left x y (StandsBefore.through high between low pair rest) = go (high == page) refl (left between low rest) where
    go : (b : Bool) → high == page ≡ b → Left between low ⊎ (between ≡ page) ⊎ Way between page → Left high low ⊎ (high ≡ page) ⊎ Way high page
    go true is rest = inr (inl (same_number high page is))
    go false is (inl path) = inl (StandsBefore.through high between low (pair_left high between is pair) path)
    go false is (inr (inl same)) = inr (inr (subst (Way high) same (StandsBefore.straight high between pair)))
    go false is (inr (inr path)) = inr (inr (StandsBefore.through high between page pair path))

  module _ (cut : Cut) (closed : IsClosedCut after cut) where
    drafted : (p : ℕ) → with_one page cut p ≡ true → is_some (w.draft p) ≡ true
    drafted p is = go (p == page) refl is (closed.drafted p) where
      go : (b : Bool) → p == page ≡ b → (if b then true else cut p) ≡ true → (cut p ≡ true → is_some (if b then without owner (w.draft p) else w.draft p) ≡ true) → is_some (w.draft p) ≡ true
      go true same is was = rw (same_number p page same) (draft_there owner (w.draft page) g.drafted)
      go false same is was = was is

    kept_high : (high low : ℕ) → Left high low ⊎ (high ≡ page) ⊎ Way high page → is_some (w.draft high) ≡ true → cut low ≡ true → (b : Bool) → high == page ≡ b → (if b then true else cut high) ≡ true
    kept_high high low found there in_low true is = refl
    kept_high high low (inl path) there in_low false is = closed.closed high low path (rw is there) in_low
    kept_high high low (inr (inl same)) there in_low false is = absurd (grind (arith, nat_tests, same, is))
    kept_high high low (inr (inr path)) there in_low false is = absurd (g.first high there path)

    is_closed : (high low : ℕ) → Way high low → is_some (w.draft high) ≡ true → with_one page cut low ≡ true → with_one page cut high ≡ true
    is_closed high low path there in_low = go (low == page) refl in_low where
      go : (b : Bool) → low == page ≡ b → (if b then true else cut low) ≡ true → with_one page cut high ≡ true
      go true same is = absurd (g.first high there (subst (Way high) (same_number low page same) path))
      go false same is = kept_high high low (left high low path) there is (high == page) refl

    pub write-view : IsSameView w at.stamps after (stamps_written w owner page at.stamps) cut (with_one page cut)
    write-view = record {
      closed = record { drafted = drafted; closed = is_closed };
      pages = λ p. page_of p (p == page) refl;
      stamps = λ p. stamps_of p (p == page) refl;
    } where
      page_of : (p : ℕ) (b : Bool) → p == page ≡ b
          → (if cut p then newest_in (if b then page_for owner (w.kept p) (w.draft p) else w.kept p) (if b then without owner (w.draft p) else w.draft p) else (if b then page_for owner (w.kept p) (w.draft p) else w.kept p))
          ≡ (if (if b then true else cut p) then newest_of w p else w.kept p)
      page_of p true is = shows_draft owner (w.kept p) (w.draft p) (cut p) (rw (same_number p page is) g.drafted)
      page_of p false is = refl

      stamps_of : (p : ℕ) (b : Bool) → p == page ≡ b
          → (if cut p then (if is_some (if b then without owner (w.draft p) else w.draft p) then at.stamps.draft p else (if b then (if is_draft_of owner (w.draft p) then at.stamps.draft p else at.stamps.kept p) else at.stamps.kept p)) else (if b then (if is_draft_of owner (w.draft p) then at.stamps.draft p else at.stamps.kept p) else at.stamps.kept p))
          ≡ (if (if b then true else cut p) then newest_stamps w at.stamps p else at.stamps.kept p)
      stamps_of p true is = stamped_draft owner (w.draft p) (at.stamps.draft p) (at.stamps.kept p) (cut p) (rw (same_number p page is) g.drafted)
      stamps_of p false is = refl
