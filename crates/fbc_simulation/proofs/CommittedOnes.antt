-- Which numbers are committed in what a view means, and in a machine whose open transactions are rolled back.
use Rattle.std.proofs.Common.{◌≡◌, ◌∙◌, ◌<◌, ◌&&◌, inl, inr, ℕ, suc, Bool, true, false, not, if◌then◌else◌, List, [], ◌∷◌, Contains, filter, map, refl, sym, ap, subst, arith}
use Rattle.std.specs.Prelude.{Some, slice_get}
use Rattle.std.proofs.lemmas.Bool.{cases_lt}
use Rattle.fbc_kinds.specs.declared.snapshots.Standing.TheVariants as standing
use Rattle.fbc_kinds.specs.declared.snapshots.Transaction.{Transaction}
use Rattle.fbc_kinds.specs.Chain.{state_of}
use Rattle.fbc_kinds.specs.Machine.{committed_numbers, is_committed, is_held, is_open}
use Rattle.fbc_kinds.specs.Meaning.{meaning_with, transaction_of, transactions_up_to}
use Rattle.fbc_kinds.specs.Sound.{IsSound}
use Rattle.fbc_kinds.specs.View.{View, is_committed_state, next_of}
use Rattle.fbc_kinds.proofs.Meanings.{number_of-transaction_of}
use Rattle.fbc_page_edits.proofs.NextMeaning.{not_committed}
use Rattle.fbc_version_edits.specs.Open.{IsClosed}
use Rattle.fbc_version_edits.proofs.Living.{IsWho, committed_held, who_is}
use Rattle.fbc_runs.specs.Ended.{end_by, ended_by, is_owner_of}
use Rattle.fbc_runs.proofs.CommittedNumbers.{committed_at}
use Rattle.fbc_runs.proofs.EndedOnes.{closed_stays, living_stays, other_ends}
use Rattle.fbc_runs.proofs.Standings.{open_not_committed}
use Rattle.fbc_meanings.proofs.Places.{one_at}
use Rattle.fbc_numbers.specs.Numbers.{is_committed_in}
use Rattle.fbc_numbers.proofs.CutFacts.{clash}

-- A number above 0 that no open transaction has is committed in the view.
pub record IsCommittedNumber (view : View) (living : List Transaction) (number : ℕ) : Type 0 where
  pub above : 0 < number
  pub committed : is_committed_in view number ≡ true
  pub closed : IsClosed living number

-- What is committed was begun.
pub committed_begun : (view : View) (number : ℕ) → IsSound view → is_committed_in view number ≡ true → number < next_of view
committed_begun view number sound is = elim (cases_lt number (next_of view)) [
  | inl below ↦ below
  | inr past ↦ absurd (clash _ is (not_committed view number sound past))
]

module _ (view : View) (living : List Transaction) (sound : IsSound view) (opened : (t : Transaction) → Contains living t → t.standing ≡ standing.Open) where
  abbrev held_in : ℕ → Bool
  held_in number = is_held (committed_numbers (meaning_with living view).transactions) number

  is_so : (number : ℕ) → IsWho view living number → is_committed (transaction_of view living number).standing ≡ true → 0 < number → IsCommittedNumber view living number
  is_so number (IsWho.living_one lives) committed above =
      absurd (let open_one : is_committed (transaction_of view living number).standing ≡ false = ap is_committed (opened (transaction_of view living number) lives) in clash _ committed open_one)
  is_so number (IsWho.settled_one closed same) committed above = record { above = above; committed = go (is_committed_state (state_of view number)) refl (ap (λ (t : Transaction). is_committed t.standing) (sym same) ∙ committed); closed = closed } where
    go : (b : Bool) → is_committed_state (state_of view number) ≡ b → is_committed (if b then standing.Committed else standing.RolledBack) ≡ true → b ≡ true
    go true is passes = refl
    go false is passes = cc

  pub held_is_committed : (number : ℕ) → held_in number ≡ true → IsCommittedNumber view living number
  held_is_committed number held =
      let found = committed_at (transactions_up_to view living (next_of view)) number held in
      let place : suc found.place ≡ number = sym (numbered found.place found.maker found.at) ∙ found.same in
      let is = one_at view living (next_of view) found.place found.maker found.at in
      is_so number (who_is view living number)
      (subst (λ n. is_committed (transaction_of view living n).standing ≡ true) place (ap (λ (t : Transaction). is_committed t.standing) (sym is) ∙ found.committed))
      (grind (arith, place)) where
        numbered : (place : ℕ) (t : Transaction) → slice_get (transactions_up_to view living (next_of view)) place ≡ Some t → t.number ≡ suc place
        numbered place t at = ap (λ (u : Transaction). u.number) (one_at view living (next_of view) place t at) ∙ number_of-transaction_of view living (suc place)

  pub committed_is_held : (number : ℕ) → IsCommittedNumber view living number → held_in number ≡ true
  committed_is_held number is =
      let below = committed_begun view number sound is.committed in
      committed_held view living number is.above (grind (arith, below)) is.closed is.committed

-- Without commits the ends commit nothing.
module _ (living : List Transaction) (commits : ℕ → Bool) (none : (owner : ℕ) → commits owner ≡ false) where
  abbrev passes : Transaction → Bool
  passes t = is_committed t.standing

  abbrev numbers_if : Bool → Transaction → List ℕ → List ℕ
  numbers_if b t rest = if b then t.number ∷ rest else rest

  numbers_of : (t : Transaction) (ts : List Transaction) → committed_numbers (t ∷ ts) ≡ numbers_if (passes t) t (committed_numbers ts)
  numbers_of t ts = go (passes t) where
    go : (b : Bool) → map (λ (u : Transaction). u.number) (if b then t ∷ filter passes ts else filter passes ts) ≡ numbers_if b t (committed_numbers ts)
    go true = refl
    go false = refl

  ended_number : (t : Transaction) → (ended_by living commits t).number ≡ t.number
  ended_number t = go (is_open t.standing && not (is_owner_of living t.owner)) where
    go : (b : Bool) → (if b then record t { standing = end_by (commits t.owner) } else t).number ≡ t.number
    go true = refl
    go false = refl

  ended_passes : (t : Transaction) → passes (ended_by living commits t) ≡ passes t
  ended_passes t = go (is_open t.standing) refl (is_owner_of living t.owner) refl where
    closes : (b : Bool) → b ≡ false → is_committed (end_by b) ≡ false
    closes b is = rw is refl

    go : (b : Bool) → is_open t.standing ≡ b → (l : Bool) → is_owner_of living t.owner ≡ l → passes (ended_by living commits t) ≡ passes t
    go false is l lives = ap passes (closed_stays living commits t is)
    go true is true lives = ap passes (living_stays living commits t lives)
    go true is false ends = ap passes (other_ends living commits t is ends) ∙ closes (commits t.owner) (none t.owner) ∙ sym (open_not_committed t.standing is)

  pub ends_commit_nothing : (ts : List Transaction) → committed_numbers (map (ended_by living commits) ts) ≡ committed_numbers ts
  ends_commit_nothing [] = refl
  ends_commit_nothing (t ∷ ts) =
      numbers_of (ended_by living commits t) (map (ended_by living commits) ts)
      ∙ (λ i. if ended_passes t i then ended_number t i ∷ ends_commit_nothing ts i else ends_commit_nothing ts i)
      ∙ sym (numbers_of t ts)
