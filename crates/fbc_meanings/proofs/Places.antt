-- Where each transaction of a view's meaning stands: at the place before its number.
use Rattle.std.proofs.Common.{◌≡◌, ◌∙◌, ◌<◌, ℕ, zero, suc, List, length, refl, sym, ap, arith}
use Rattle.std.specs.Prelude.{Some, slice_get}
use Rattle.std.proofs.lemmas.Grind.{common_steps}
use Rattle.std.proofs.lemmas.Option.{same_Some, slice_get_within}
use Rattle.fbc_kinds.specs.declared.snapshots.Transaction.{Transaction}
use Rattle.fbc_kinds.specs.Machine.{is_open}
use Rattle.fbc_kinds.specs.Meaning.{transaction_of, transactions_up_to}
use Rattle.fbc_kinds.specs.View.{View}
use Rattle.fbc_kinds.proofs.Meanings.{number_of-transaction_of, transaction_at}
use Rattle.fbc_version_edits.specs.Open.{AreOpen}
use Rattle.fbc_version_edits.proofs.Living.{open_lives}
use Rattle.fbc_runs.specs.Orderly.{OwnersDiffer}

module _ (view : View) (living : List Transaction) where
  pub transactions_count : (count : ℕ) → length (transactions_up_to view living count) ≡ count
  transactions_count zero = refl
  transactions_count (suc count) = grind (arith, common_steps, transactions_count count)

  pub one_at : (count place : ℕ) (t : Transaction) → slice_get (transactions_up_to view living count) place ≡ Some t → t ≡ transaction_of view living (suc place)
  one_at count place t at =
      let within : place < length (transactions_up_to view living count) = slice_get_within (transactions_up_to view living count) place t at in
      let counted = transactions_count count in
      same_Some t (transaction_of view living (suc place)) (sym at ∙ transaction_at view living count place (rw (← counted) within))

  -- The open ones of one owner stand at one place.
  pub owners_differ : AreOpen living → (count : ℕ) → OwnersDiffer (transactions_up_to view living count)
  owners_differ open_ones count place other t u first second same =
      let t_is = one_at count place t first.0 in
      let u_is = one_at count other u second.0 in
      let t_lives = open_lives view living (suc place) (ap (λ (w : Transaction). is_open w.standing) (sym t_is) ∙ first.1) in
      let u_lives = open_lives view living (suc other) (ap (λ (w : Transaction). is_open w.standing) (sym u_is) ∙ second.1) in
      let one = open_ones.one_owner (transaction_of view living (suc place)) (transaction_of view living (suc other)) t_lives u_lives
      (ap (λ (w : Transaction). w.owner) (sym t_is) ∙ same ∙ ap (λ (w : Transaction). w.owner) u_is) in
      let numbers : suc place ≡ suc other =
      sym (number_of-transaction_of view living (suc place)) ∙ ap (λ (w : Transaction). w.number) one ∙ number_of-transaction_of view living (suc other) in
      omega arith
