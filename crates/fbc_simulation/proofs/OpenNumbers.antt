-- Numbers of transactions that are open beside a cut, and those that are over.
use Rattle.std.proofs.Common.{◌≡◌, ◌≢◌, ◌∙◌, ◌==◌, ℕ, Bool, true, false, List, Some, refl, sym, ap}
use Rattle.std.specs.Prelude.{Contains}
use Rattle.std.proofs.lemmas.Option.{same_Some}
use Rattle.fbc_kinds.specs.declared.pages.State.TheVariants.{Dead}
use Rattle.fbc_kinds.specs.declared.snapshots.Transaction.{Transaction}
use Rattle.fbc_kinds.specs.Chain.{state_of}
use Rattle.fbc_kinds.specs.View.{View}
use Rattle.fbc_kinds.proofs.Tests.{differ_from_test, same_from_test}
use Rattle.fbc_legal.specs.Rows.{IsSettled as IsSettledAt}
use Rattle.fbc_legal.specs.Scene.{Scene, newest_at}
use Rattle.fbc_closed_cuts.specs.Cut.{Cut, IsClosedCut, view}
use Rattle.fbc_numbers.specs.Numbers.{is_committed_in}
use Rattle.fbc_numbers.proofs.CutFacts.{all-closed, all-view, all_drafts, clash, kept-committed}
use Rattle.fbc_version_edits.specs.Open.{AreOpen, IsClosed, IsSettled}
use Rattle.fbc_runs.specs.Ended.{is_owner_of}
use Rattle.fbc_soundness.specs.Whole.{IsWhole}
use Rattle.fbc_simulation.specs.Beside.{AreOpenIn}
use Rattle.fbc_simulation.proofs.LivingOwners.{lives_of}

module _ (at : Scene) (whole : IsWhole at) (cut : Cut) (closed : IsClosedCut at.world cut) (living : List Transaction) (opens : AreOpenIn at.world cut living) where
  -- Two open transactions of one number are of one owner.
  one_owner : (t u : Transaction) → Contains living t → Contains living u → t.number ≡ u.number → (b : Bool) → (t.owner == u.owner) ≡ b → t.owner ≡ u.owner
  one_owner t u lives also same true is = same_from_test t.owner u.owner is
  one_owner t u lives also same false is =
      absurd (whole.order.numbered.differ t.owner u.owner t u (differ_from_test t.owner u.owner is) (opens.each t lives) (opens.each u also) same)

  same_one : (t u : Transaction) → Contains living t → Contains living u → t.owner ≡ u.owner → t ≡ u
  same_one t u lives also same = same_Some t u (sym (opens.each t lives) ∙ ap at.world.transaction same ∙ opens.each u also)

  pub opens-open : AreOpen living
  opens-open = record {
    opened = λ t lives. (whole.order.numbered.stand t.owner t (opens.each t lives)).opened;
    one_number = λ t u lives also same. same_one t u lives also (one_owner t u lives also same (t.owner == u.owner) refl);
    one_owner = same_one;
  }

  -- The open number of an owner that does not go on is none of theirs.
  pub others-closed : (owner : ℕ) (t : Transaction) → at.world.transaction owner ≡ Some t → is_owner_of living owner ≡ false → IsClosed living t.number
  others-closed owner t is none u lives same =
      let apart : u.owner ≢ owner = λ one. absurd (clash (is_owner_of living owner) (ap (is_owner_of living) (sym one) ∙ lives_of living u lives) none) in
      absurd (whole.order.numbered.differ u.owner owner u t apart (opens.each u lives) is same)

  -- Nor is a number that is committed in the file.
  pub committed-closed : (number : ℕ) → is_committed_in at.world.kept number ≡ true → IsClosed living number
  committed-closed number committed t lives same =
      absurd (clash (is_committed_in at.world.kept number) committed (ap (is_committed_in at.world.kept) (sym same) ∙ whole.apart.out_of_file t.owner t (opens.each t lives)))

  -- Nor one that is dead in the newest pages.
  pub dead-closed : (number : ℕ) → state_of (newest_at at) number ≡ Dead → IsClosed living number
  dead-closed number dead t lives same =
      absurd
      (whole.apart.not_dead t.owner t (all_drafts at.world) (opens.each t lives) (all-closed at.world)
      (ap (λ (v : View). state_of v t.number) (all-view at.world) ∙ ap (state_of (newest_at at)) same ∙ dead))

  -- A settled number is so beside the cut.
  pub settled-in : (number : ℕ) → IsSettledAt at number → IsSettled (view at.world cut) living number
  settled-in number settled = record {
    committed = kept-committed at.world whole.order.numbered.grow number cut closed settled.committed;
    closed = committed-closed number settled.committed;
    held = λ t lives. settled.held t.owner t (opens.each t lives);
  }
