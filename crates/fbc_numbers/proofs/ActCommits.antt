-- What is committed before and after every act that is no edit.
use Rattle.std.proofs.Common.{◌≡◌, ◌==◌, ◌∷◌, ℕ, Bool, true, false, if◌then◌else◌, refl, sym, subst}
use Rattle.std.proofs.Math.Path.{fun_ext}
use Rattle.fbc_kinds.specs.declared.shapes.Shape.{Shape}
use Rattle.fbc_kinds.specs.View.{View}
use Rattle.fbc_world.specs.declared.events.Act.{Act}
use Rattle.fbc_world.specs.declared.events.Act.TheVariants.{Write}
use Rattle.fbc_world.specs.History.{History, Moment}
use Rattle.fbc_world.specs.World.{World, newest_of, world_of}
use Rattle.fbc_legal.specs.Legal.{IsLegal}
use Rattle.fbc_legal.specs.Stamps.{stamps_of}
use Rattle.fbc_closed_cuts.specs.Cut.{Cut, IsClosedCut, view}
use Rattle.fbc_closed_cuts.specs.Views.{IsSameView, cut_before, is_edit, with_one}
use Rattle.fbc_closed_cuts.proofs.CutLaws.{no-new-views}
use Rattle.fbc_numbers.specs.Numbers.{CommitsGrow, IsWithinCut, is_committed_in}
use Rattle.fbc_numbers.proofs.CutFacts.{all-closed, all-view, all_drafts, committed-newest, kept-committed, no_draft, none-closed}

-- The cuts before keep inclusions.
one_within : (page : ℕ) (cut wider : Cut) → IsWithinCut cut wider → IsWithinCut (with_one page cut) (with_one page wider)
one_within page cut wider within p = go (p == page) where
  go : (b : Bool) → (if b then true else cut p) ≡ true → (if b then true else wider p) ≡ true
  go true is = refl
  go false is = within p is

before_within : (act : Act) (landed : Bool) (cut wider : Cut) → IsWithinCut cut wider → IsWithinCut (cut_before act landed cut) (cut_before act landed wider)
before_within (Write page cause true) true cut wider within = one_within page cut wider within
before_within (Write page cause true) false cut wider within = within
before_within (Write page cause false) landed cut wider within = one_within page cut wider within
before_within _ landed cut wider within = within

module _ (shape : Shape) (file : View) (before : History) (moment : Moment) (legal : IsLegal shape file (moment ∷ before)) (plain : is_edit moment.event.act ≡ false) (grow : CommitsGrow (world_of shape file before)) where
  abbrev w : World
  w = world_of shape file before

  abbrev after : World
  after = world_of shape file (moment ∷ before)

  abbrev earlier : Cut → Cut
  earlier cut = cut_before moment.event.act moment.landed cut

  module _ (cut : Cut) (closed : IsClosedCut after cut) where
    same : IsSameView w (stamps_of shape file before) after (stamps_of shape file (moment ∷ before)) cut (earlier cut)
    same = no-new-views shape file before moment cut legal plain closed

    one_view : view after cut ≡ view w (earlier cut)
    one_view = fun_ext (λ page. same.pages page)

  pub acts-grow : CommitsGrow after
  acts-grow cut wider number closed wide_closed within is =
      subst (λ (v : View). is_committed_in v number ≡ true) (sym (one_view wider wide_closed))
      (grow (earlier cut) (earlier wider) number (same cut closed).closed (same wider wide_closed).closed (before_within moment.event.act moment.landed cut wider within)
      (subst (λ (v : View). is_committed_in v number ≡ true) (one_view cut closed) is))

  -- What is committed in the newest pages was so before.
  pub newest-before : (number : ℕ) → is_committed_in (newest_of after) number ≡ true → is_committed_in (newest_of w) number ≡ true
  newest-before number is =
      committed-newest w grow number (earlier (all_drafts after)) (same (all_drafts after) (all-closed after)).closed
      (subst (λ (v : View). is_committed_in v number ≡ true) (one_view (all_drafts after) (all-closed after)) (subst (λ (v : View). is_committed_in v number ≡ true) (sym (all-view after)) is))

  -- What was committed in the file still is.
  pub kept-after : (number : ℕ) → is_committed_in w.kept number ≡ true → is_committed_in after.kept number ≡ true
  kept-after number is =
      subst (λ (v : View). is_committed_in v number ≡ true) (sym (one_view no_draft (none-closed after)))
      (kept-committed w grow number (earlier no_draft) (same no_draft (none-closed after)).closed is)
