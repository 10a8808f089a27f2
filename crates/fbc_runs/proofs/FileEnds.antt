-- A file has no open transaction.
use Rattle.std.proofs.Common.{◌≡◌, ◌∙◌, ◌++◌, ℕ, zero, suc, Bool, true, false, [], ◌∷◌, refl, map, if◌then◌else◌}
use Rattle.std.proofs.lemmas.List.{map-append}
use Rattle.fbc_kinds.specs.declared.snapshots.Standing.TheVariants as standing
use Rattle.fbc_kinds.specs.Chain.{state_of}
use Rattle.fbc_kinds.specs.Machine.{is_open}
use Rattle.fbc_kinds.specs.Meaning.{meaning_of, settled, transactions_up_to}
use Rattle.fbc_kinds.specs.View.{View, is_committed_state, next_of}
use Rattle.fbc_runs.specs.Ended.{ended_by, settled_by}
use Rattle.fbc_runs.proofs.EndedOnes.{closed_stays, with_same}

module _ (view : View) (commits : ℕ → Bool) where
  settled_closed : (b : Bool) → is_open (if b then standing.Committed else standing.RolledBack) ≡ false
  settled_closed true = refl
  settled_closed false = refl

  all_settled : (count : ℕ) → map (ended_by [] commits) (transactions_up_to view [] count) ≡ transactions_up_to view [] count
  all_settled zero = refl
  all_settled (suc count) =
      map-append (ended_by [] commits) (transactions_up_to view [] count) (settled view (suc count) ∷ [])
      ∙ (λ i. all_settled count i ++ closed_stays [] commits (settled view (suc count)) (settled_closed (is_committed_state (state_of view (suc count)))) i ∷ [])

  pub file_ends : settled_by [] commits (meaning_of view) ≡ meaning_of view
  file_ends = with_same (meaning_of view) _ _ (all_settled (next_of view))
