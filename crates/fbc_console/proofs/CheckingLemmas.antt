-- How the check of a file ends, by what was found and what its sink took.
use Rattle.std.proofs.Common.{◌≡◌, ℕ, Bool, List, [], Option, Ok, Err, refl, subst}
use Rattle.fbc_kinds.specs.declared.rules.Rule.{Rule}
use Rattle.fbc_files.specs.Opening.{IsRefused}
use Rattle.fbc_validator.specs.declared.findings.Findings.{Findings}
use Rattle.fbc_validator.specs.declared.faults.ValidateFault.{ValidateFault}
use Rattle.fbc_validator.specs.declared.faults.ValidateFault.TheVariants as fault
use Rattle.fbc_validator.specs.Checked.{HasFound, WhyNotChecked as WhyNotFound}
use Rattle.fbc_console.specs.declared.statuses.Status.{Status}
use Rattle.fbc_console.specs.declared.statuses.Status.TheVariants as status
use Rattle.fbc_console.specs.Checking.{IsCheckDone, IsReported, WhyNotChecked, checked, report, unchecked}
use Rattle.fbc_console.specs.Closing.{Outcome, Took}
use Rattle.fbc_console.proofs.EndingLemmas.{took_nothing}

-- A file that the check refuses is refused.
pub refused_by : (file : Option (List ℕ)) (why : ValidateFault) (rule : Rule) → why ≡ fault.NotOurs rule → WhyNotFound why file → IsRefused rule file
refused_by file why rule is refused = subst (λ w. WhyNotFound w file) is refused

module _ (json : Bool) (reach : ℕ) (before now : Option (List ℕ)) (a : List ℕ → Type 0) (same : now ≡ before) where
  pub not_checked : (ended : Status) → WhyNotChecked ended before → (told : List ℕ) × IsCheckDone json reach before now (Err ended) told × Took (Err ended) a a told
  not_checked ended why = ([], unchecked ended refl why refl same, took_nothing (Err ended) a)

  pub was_checked : (c : List ℕ → Type 0) (outcome : Outcome) (found : Findings) → HasFound reach before found → IsReported outcome json found a c
      → (told : List ℕ) × IsCheckDone json reach before now outcome told × Took outcome a c told
  was_checked c (Ok done) found has said = (report json found, checked found has said.0 refl same, said.1)
  was_checked c (Err status.Damaged) found has said = (report json found, checked found has said.0 refl same, said.1)
  was_checked c (Err status.SinkFault) found has said = (report json found, checked found has said.0 refl same, said.1)
  was_checked c (Err status.OutOfMemory) found has said = ([], unchecked status.OutOfMemory refl tt refl same, said)
  was_checked c (Err _) found has said = let no : ⊥ = said.0 in absurd no
