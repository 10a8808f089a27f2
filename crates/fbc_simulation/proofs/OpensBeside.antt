-- Transactions that are open beside a cut: each is its owner's, and no two have one number or one owner.
use Rattle.std.proofs.Common.{◌≡◌, ◌∙◌, ◌==◌, ◌∷◌, ℕ, Bool, true, false, List, Some, refl, sym, ap, subst, inl, inr, ◌⊎◌}
use Rattle.std.specs.Prelude.{Contains}
use Rattle.std.proofs.lemmas.Option.{same_Some}
use Rattle.fbc_kinds.specs.declared.snapshots.Transaction.{Transaction}
use Rattle.fbc_kinds.proofs.Tests.{differ_from_test, same_from_test}
use Rattle.fbc_version_edits.specs.Open.{AreOpen}
use Rattle.fbc_runs.proofs.Numbers.{first_or_later}
use Rattle.fbc_world.specs.Holdings.{is_draft_of}
use Rattle.fbc_world.specs.World.{World}
use Rattle.fbc_closed_cuts.specs.Cut.{Cut}
use Rattle.fbc_numbers.specs.Numbers.{NumbersDiffer, OpenNumbersStand}
use Rattle.fbc_simulation.specs.Beside.{AreOpenIn}

module _ (w : World) where
  -- The open transaction of an owner is one.
  pub one_of_owner : (t u : Transaction) → w.transaction t.owner ≡ Some t → w.transaction u.owner ≡ Some u → t.owner ≡ u.owner → t ≡ u
  one_of_owner t u is was same = same_Some t u (sym is ∙ ap w.transaction same ∙ was)

  pub of_owner : (t : Transaction) (owner : ℕ) → w.transaction t.owner ≡ Some t → t.owner ≡ owner → w.transaction owner ≡ Some t
  of_owner t owner is same = subst (λ o. w.transaction o ≡ Some t) same is

  -- And of one number there is one.
  pub one_of_number : NumbersDiffer w → (t u : Transaction) → w.transaction t.owner ≡ Some t → w.transaction u.owner ≡ Some u → t.number ≡ u.number → t ≡ u
  one_of_number differ t u is was same = go (t.owner == u.owner) refl where
    go : (b : Bool) → (t.owner == u.owner) ≡ b → t ≡ u
    go true one = one_of_owner t u is was (same_from_test t.owner u.owner one)
    go false apart = absurd (differ t.owner u.owner t u (differ_from_test t.owner u.owner apart) is was same)

  pub opens_are_open : OpenNumbersStand w → NumbersDiffer w → (cut : Cut) (living : List Transaction) → AreOpenIn w cut living → AreOpen living
  opens_are_open stand differ cut living opens = record {
    opened = λ t lives. (stand t.owner t (opens.each t lives)).opened;
    one_number = λ t u lives also same. one_of_number differ t u (opens.each t lives) (opens.each u also) same;
    one_owner = λ t u lives also same. one_of_owner t u (opens.each t lives) (opens.each u also) same;
  }

  -- One more transaction, with all drafts of its owner.
  pub one_more_open : (cut : Cut) (t : Transaction) (living : List Transaction) → AreOpenIn w cut living → w.transaction t.owner ≡ Some t
      → ((page : ℕ) → is_draft_of t.owner (w.draft page) ≡ true → cut page ≡ true) → AreOpenIn w cut (t ∷ living)
  one_more_open cut t living opens is drafts = record {
    each = λ u lives. each_of u (first_or_later t living u lives);
    drafts = λ u page lives own. drafts_of u page own (first_or_later t living u lives);
  } where
    each_of : (u : Transaction) → (t ≡ u) ⊎ Contains living u → w.transaction u.owner ≡ Some u
    each_of u (inl same) = subst (λ (v : Transaction). w.transaction v.owner ≡ Some v) same is
    each_of u (inr lives) = opens.each u lives

    drafts_of : (u : Transaction) (page : ℕ) → is_draft_of u.owner (w.draft page) ≡ true → (t ≡ u) ⊎ Contains living u → cut page ≡ true
    drafts_of u page own (inl same) = drafts page (subst (λ (v : Transaction). is_draft_of v.owner (w.draft page) ≡ true) (sym same) own)
    drafts_of u page own (inr lives) = opens.drafts u page lives own
