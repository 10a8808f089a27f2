-- What a write and a death leave of a page's draft, of its newest content and of what is kept of it.
use Rattle.std.proofs.Common.{◌≡◌, ◌==◌, ℕ, Bool, true, false, if◌then◌else◌, Option, Some, None, refl, sym, ap, subst, arith}
use Rattle.std.proofs.lemmas.Bool.Decides.{nat_tests}
use Rattle.fbc_kinds.specs.declared.pages.Page.{Page}
use Rattle.fbc_world.specs.declared.drafts.Draft.{Draft}
use Rattle.fbc_world.specs.Holdings.{is_draft_of}
use Rattle.fbc_world.specs.PageCell.{newest_in, page_for, without}
use Rattle.fbc_world.specs.World.{World, dead, newest_of, written}
use Rattle.fbc_legal.proofs.Exclusion.{IsOwnDraft, same_number}

newest_written : (owner : ℕ) (kept : Option Page) (d : Option Draft) → is_draft_of owner d ≡ true → newest_in (page_for owner kept d) (without owner d) ≡ newest_in kept d
newest_written owner kept None its = absurd cc
newest_written owner kept (Some d) its = rw its refl

kept_written : (owner : ℕ) (kept : Option Page) (d : Option Draft) → is_draft_of owner d ≡ true → page_for owner kept d ≡ newest_in kept d
kept_written owner kept None its = absurd cc
kept_written owner kept (Some d) its = rw its refl

newest_lost : (owner : ℕ) (kept : Option Page) (d : Option Draft) → is_draft_of owner d ≡ true → newest_in kept (without owner d) ≡ kept
newest_lost owner kept None its = absurd cc
newest_lost owner kept (Some d) its = rw its refl

-- A draft of nobody, or of another, is left.
pub draft_spared : (owner : ℕ) (d : Option Draft) → is_draft_of owner d ≡ false → without owner d ≡ d
draft_spared owner None none = refl
draft_spared owner (Some d) none = rw none refl

-- An own draft is no draft of another.
pub not_drafter : (owner other : ℕ) (d : Option Draft) → other == owner ≡ false → IsOwnDraft other d → is_draft_of owner d ≡ false
not_drafter owner other None apart own = refl
not_drafter owner other (Some d) apart own = grind (arith, nat_tests, apart, own)

-- A draft that is left was there.
pub draft_left : (owner other : ℕ) (d : Option Draft) → is_draft_of other (without owner d) ≡ true → is_draft_of other d ≡ true
draft_left owner other None its = absurd cc
draft_left owner other (Some d) its = go (d.owner == owner) its where
  go : (b : Bool) → is_draft_of other (if b then None else Some d) ≡ true → d.owner == other ≡ true
  go true is = absurd cc
  go false is = is

module _ (w : World) (owner : ℕ) where
  module _ (page : ℕ) (its : is_draft_of owner (w.draft page) ≡ true) where
    pub written-newest : (p : ℕ) → newest_of (written w owner page) p ≡ newest_of w p
    written-newest p = go (p == page) refl where
      go : (b : Bool) → p == page ≡ b → newest_in (if b then page_for owner (w.kept p) (w.draft p) else w.kept p) (if b then without owner (w.draft p) else w.draft p) ≡ newest_of w p
      go true same = newest_written owner (w.kept p) (w.draft p) (subst (λ q. is_draft_of owner (w.draft q) ≡ true) (sym (same_number p page same)) its)
      go false other = refl

    pub written-kept : (p : ℕ) → p == page ≡ true → (written w owner page).kept p ≡ newest_of w p
    written-kept p same = rw same (kept_written owner (w.kept p) (w.draft p) (subst (λ q. is_draft_of owner (w.draft q) ≡ true) (sym (same_number p page same)) its))

    pub written-draft : (other p : ℕ) → is_draft_of other ((written w owner page).draft p) ≡ true → is_draft_of other (w.draft p) ≡ true
    written-draft other p = go (p == page) where
      go : (b : Bool) → is_draft_of other (if b then without owner (w.draft p) else w.draft p) ≡ true → is_draft_of other (w.draft p) ≡ true
      go true is = draft_left owner other (w.draft p) is
      go false is = is

  pub dead-newest : (p : ℕ) → is_draft_of owner (w.draft p) ≡ false → newest_of (dead w owner) p ≡ newest_of w p
  dead-newest p none = ap (newest_in (w.kept p)) (draft_spared owner (w.draft p) none)

  pub dead-kept : (p : ℕ) → is_draft_of owner (w.draft p) ≡ true → newest_of (dead w owner) p ≡ w.kept p
  dead-kept p its = newest_lost owner (w.kept p) (w.draft p) its
