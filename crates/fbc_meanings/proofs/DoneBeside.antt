-- What may come to a machine, and how it is answered, where another one reads as it.
use Rattle.std.proofs.Common.{◌≡◌, ◌∙◌, ℕ, Bool, true, false, List, [], ◌∷◌, refl, sym, ap, subst}
use Rattle.std.specs.Prelude.{Option, Some, None, is_some}
use Rattle.std.proofs.lemmas.Option.{same_Some}
use Rattle.fbc_kinds.specs.declared.replies.Reply.{Reply}
use Rattle.fbc_kinds.specs.declared.snapshots.Transaction.{Transaction}
use Rattle.fbc_kinds.specs.Chain.{Version}
use Rattle.fbc_kinds.specs.Machine.{Machine, is_held, is_open_of_other, newest, open_transaction, reply_in, standing_versions}
use Rattle.fbc_kinds.specs.Meaning.{IsSameOpen, IsSameTransaction}
use Rattle.fbc_version_edits.specs.Open.{IsChangeDone}
use Rattle.fbc_version_edits.proofs.Coming.{change_done}
use Rattle.fbc_runs.specs.Orderly.{OwnersDiffer}
use Rattle.fbc_runs.specs.Reading.{IsNewestOrLacks, ReadsAs}
use Rattle.fbc_runs.proofs.Opens.{open_of_others}

-- The owner has an open transaction there too.
pub record IsFoundToo (m : Machine) (who : ℕ) (t : Transaction) : Type 0 where
  pub other : Transaction
  pub found : open_transaction m who ≡ Some other
  pub same : IsSameTransaction t other

-- The row has the same newest version there.
record HasVersion (m : Machine) (relation row : ℕ) (version : Version) : Type 0 where
  pub older : List Version
  pub stands : standing_versions m relation row ≡ version ∷ older

module _ (a m : Machine) (reads : ReadsAs a m) (who : ℕ) (t : Transaction) (found : open_transaction a who ≡ Some t) where
  pub found_too : IsFoundToo m who t
  found_too = go (open_transaction m who) refl (subst (λ o. IsSameOpen o (open_transaction m who)) found (reads.means.same_open who))
    where
      go : (o : Option Transaction) → open_transaction m who ≡ o → IsSameOpen (Some t) o → IsFoundToo m who t
      go None is same = absurd same
      go (Some u) is same = record { other = u; found = is; same = same }

  -- What is answered to every owner with an open transaction.
  pub answered_too : (answer : Reply) → answer ≡ reply_in (open_transaction m who) (λ u. answer)
  answered_too answer = sym (ap (λ o. reply_in o (λ u. answer)) found_too.found)

  module _ (relation row : ℕ) (version : Version) (older : List Version) (stands : standing_versions a relation row ≡ version ∷ older) where
    has_too : HasVersion m relation row version
    has_too = go (standing_versions m relation row) refl (subst (λ versions. IsNewestOrLacks m.transactions (newest versions) (newest (standing_versions m relation row))) stands (reads.lacks relation row))
      where
        go : (versions : List Version) → standing_versions m relation row ≡ versions → newest (standing_versions m relation row) ≡ Some version → HasVersion m relation row version
        go [] is first = let both : None ≡ Some version = sym (ap newest is) ∙ first in cc
        go (one ∷ rest) is first = record { older = rest; stands = is ∙ ap (λ v. v ∷ rest) (same_Some one version (sym (ap newest is) ∙ first)) }

    -- A change is done where it is done to the one that reads so.
    pub done_too : OwnersDiffer m.transactions → is_held t.snapshot version.number ≡ true → is_some version.value ≡ true → is_open_of_other a.transactions who version.number ≡ false → IsChangeDone m who relation row
    done_too differ held some mine =
        change_done m who relation row found_too.other found_too.found version has_too.older has_too.stands (sym (found_too.same.snapshot version.number) ∙ held) some
        (mine_too (is_open_of_other m.transactions who version.number) refl)
      where
        mine_too : (b : Bool) → is_open_of_other m.transactions who version.number ≡ b → is_open_of_other m.transactions who version.number ≡ false
        mine_too false is = is
        mine_too true is = let also = open_of_others a.transactions m.transactions reads.means.same_open differ who version.number is in cc
