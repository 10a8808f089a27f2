-- A death makes no new view: the drafts that are left are those of others, and before these only pages of their own
-- owners stand.
use Rattle.std.proofs.Common.{◌≡◌, ℕ, Bool, true, false, ◌==◌, if◌then◌else◌, Option, Some, None, is_some, refl, subst, arith}
use Rattle.std.proofs.lemmas.Bool.Decides.{nat_tests}
use Rattle.fbc_kinds.specs.declared.pages.Page.{Page}
use Rattle.fbc_world.specs.declared.drafts.Draft.{Draft}
use Rattle.fbc_world.specs.declared.events.Act.TheVariants.{Die}
use Rattle.fbc_world.specs.Holdings.{is_draft_of}
use Rattle.fbc_world.specs.PageCell.{newest_in, without}
use Rattle.fbc_world.specs.World.{World, IsPairIn, acted, newest_of}
use Rattle.fbc_kinds.specs.Order.{StandsBefore}
use Rattle.fbc_legal.specs.Coherent.{IsCoherent}
use Rattle.fbc_legal.specs.Scene.{Scene}
use Rattle.fbc_legal.specs.Stamps.{newest_stamps}
use Rattle.fbc_legal.proofs.Exclusion.{IsOwnDraft}
use Rattle.fbc_legal.proofs.HeaderGrowth.{exclusive-own}
use Rattle.fbc_closed_cuts.specs.Cut.{Cut, IsClosedCut}
use Rattle.fbc_closed_cuts.specs.Views.{IsSameView}

-- A draft has one owner.
one_owner : (owner other : ℕ) (draft : Option Draft) → IsOwnDraft owner draft → is_draft_of other draft ≡ true → owner ≡ other
one_owner owner other None own is = absurd cc
one_owner owner other (Some draft) own is = grind (arith, nat_tests, own, is)

module _ (w : World) (h : IsCoherent w) where
  -- An owner's pairs.
  abbrev pub OwnPair : ℕ → ℕ → ℕ → Type 0
  OwnPair owner high low = w.has_pair owner high low ≡ true

  -- A pair into a draft is its owner's, and so is the high page's draft.
  pub own_pair : (owner high low : ℕ) → IsPairIn w high low → is_draft_of owner (w.draft low) ≡ true → OwnPair owner high low × (is_draft_of owner (w.draft high) ≡ true)
  own_pair owner high low pair its =
      let held = h.pairs pair.0 high low pair.1 in
      let same : pair.0 ≡ owner = one_owner pair.0 owner (w.draft low) (exclusive-own w h pair.0 low held.2) its in
      (subst (λ o. OwnPair o high low) same pair.1, subst (λ o. is_draft_of o (w.draft high) ≡ true) same held.1)

  -- Before an owner's draft only its own drafts stand, by its own pairs.
  pub own_way : (owner x y : ℕ) → StandsBefore (IsPairIn w) x y → is_draft_of owner (w.draft y) ≡ true → StandsBefore (OwnPair owner) x y × (is_draft_of owner (w.draft x) ≡ true)
  own_way owner x y (StandsBefore.straight high low pair) its =
      let own = own_pair owner high low pair its in
      (StandsBefore.straight high low own.0, own.1)
  own_way owner x y (StandsBefore.through high between low pair rest) its =
      let way = own_way owner between low rest its in
      let own = own_pair owner high between pair way.1 in
      (StandsBefore.through high between low own.0 way.0, own.1)

-- A draft that is left is another's.
left_of : (owner : ℕ) (draft : Option Draft) → is_some (without owner draft) ≡ true → (other : ℕ) × (other == owner ≡ false) × (is_draft_of other draft ≡ true)
left_of owner None left = absurd cc
left_of owner (Some draft) left = (draft.owner, grind (arith, left), grind (arith, nat_tests))

left_there : (owner other : ℕ) (draft : Option Draft) → other == owner ≡ false → is_draft_of other draft ≡ true → is_some (without owner draft) ≡ true
left_there owner other None apart its = absurd cc
left_there owner other (Some draft) apart its = grind (arith, nat_tests, apart, its)

there_before : (owner : ℕ) (draft : Option Draft) → is_some (without owner draft) ≡ true → is_some draft ≡ true
there_before owner None left = absurd cc
there_before owner (Some draft) left = refl

same_newest : (owner : ℕ) (kept : Option Page) (draft : Option Draft) → is_some (without owner draft) ≡ true → newest_in kept (without owner draft) ≡ newest_in kept draft
same_newest owner kept None left = absurd cc
same_newest owner kept (Some draft) left = go (draft.owner == owner) left where
  go : (b : Bool) → is_some (if b then None else Some draft) ≡ true → newest_in kept (if b then None else Some draft) ≡ Some draft.content
  go true is = absurd cc
  go false is = refl

module _ (at : Scene) (h : IsCoherent at.world) (owner : ℕ) (landed : Bool) where
  abbrev w : World
  w = at.world

  abbrev after : World
  after = acted at.shape w owner Die landed

  -- Another's way is left.
  left_way : (other x y : ℕ) → other == owner ≡ false → StandsBefore (OwnPair w h other) x y → StandsBefore (IsPairIn after) x y
  left_way other x y apart (StandsBefore.straight high low pair) = StandsBefore.straight high low (other, rw apart pair)
  left_way other x y apart (StandsBefore.through high between low pair rest) = StandsBefore.through high between low (other, rw apart pair) (left_way other between low apart rest)

  module _ (cut : Cut) (closed : IsClosedCut after cut) where
    is_closed : (high low : ℕ) → StandsBefore (IsPairIn w) high low → is_some (w.draft high) ≡ true → cut low ≡ true → cut high ≡ true
    is_closed high low path there in_low =
        let other = left_of owner (w.draft low) (closed.drafted low in_low) in
        let way = own_way w h other.0 high low path other.2 in
        closed.closed high low (left_way other.0 high low other.1 way.0) (left_there owner other.0 (w.draft high) other.1 way.1) in_low

    pub death-view : IsSameView w at.stamps after at.stamps cut cut
    death-view = record {
      closed = record { drafted = λ p is. there_before owner (w.draft p) (closed.drafted p is); closed = is_closed };
      pages = λ p. page_of p (cut p) (closed.drafted p);
      stamps = λ p. stamps_of p (cut p) (closed.drafted p);
    } where
      page_of : (p : ℕ) (b : Bool) → (b ≡ true → is_some (without owner (w.draft p)) ≡ true) → (if b then newest_in (w.kept p) (without owner (w.draft p)) else w.kept p) ≡ (if b then newest_of w p else w.kept p)
      page_of p true left = same_newest owner (w.kept p) (w.draft p) (left refl)
      page_of p false left = refl

      stamps_of : (p : ℕ) (b : Bool) → (b ≡ true → is_some (without owner (w.draft p)) ≡ true)
          → (if b then (if is_some (without owner (w.draft p)) then at.stamps.draft p else at.stamps.kept p) else at.stamps.kept p) ≡ (if b then newest_stamps w at.stamps p else at.stamps.kept p)
      stamps_of p true left = rw (left refl, there_before owner (w.draft p) (left refl)) refl
      stamps_of p false left = refl
