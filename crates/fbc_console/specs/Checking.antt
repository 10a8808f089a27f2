-- How the check of a file ends: what was told, and whether the file has damage.
use Rattle.std.specs.Prelude.{◌≡◌, ℕ, Bool, true, false, List, [], Option, Ok, Err}
use Rattle.fbc_files.specs.Opening.{IsRefused}
use Rattle.fbc_outside.specs.Streams.{SinkTakes}
use Rattle.fbc_validator.specs.declared.findings.Findings.{Findings}
use Rattle.fbc_validator.specs.Checked.{HasFound}
use Rattle.fbc_report.specs.Json.{report_json}
use Rattle.fbc_report.specs.Text.{report_text}
use Rattle.fbc_console.specs.declared.statuses.Status.{Status}
use Rattle.fbc_console.specs.declared.statuses.Status.TheVariants as status
use Rattle.fbc_console.specs.Closing.{Outcome, Took}

-- The report of what was found: as JSON, or as text.
abbrev pub report : Bool → Findings → List ℕ
report true found = report_json found
report false found = report_text found

-- The outcome by what was found: well where no page is damaged, and Damaged where one is; or the sink failed at the report.
abbrev pub IsVerdict : Outcome → Findings → Type 0
IsVerdict (Ok done) found = found.damages ≡ []
IsVerdict (Err status.Damaged) found = ¬ (found.damages ≡ [])
IsVerdict (Err status.SinkFault) found = Unit {0}
IsVerdict (Err _) found = ⊥

-- The report was told to a sink, whole or up to where that failed; or there was no memory for it, and nothing was told.
abbrev pub IsReported : Outcome → Bool → Findings → (List ℕ → Type 0) → (List ℕ → Type 0) → Type 0
IsReported (Err status.OutOfMemory) json found old new = SinkTakes old new []
IsReported outcome json found old new = IsVerdict outcome found × Took outcome old new (report json found)

-- Why nothing is told of a file: it is refused, a call of the device failed, or there was no memory.
abbrev pub WhyNotChecked : Status → Option (List ℕ) → Type 0
WhyNotChecked (status.NotOurs rule) file = IsRefused rule file
WhyNotChecked status.DeviceFault file = Unit {0}
WhyNotChecked status.OutOfMemory file = Unit {0}
WhyNotChecked _ file = ⊥

-- `validate` was carried out, and nothing was changed: nothing was told, or the report of what the file has.
pub data IsCheckDone (json : Bool) (reach : ℕ) (before now : Option (List ℕ)) (outcome : Outcome) (told : List ℕ) : Type 0 where
  unchecked : (ended : Status) → outcome ≡ Err ended → WhyNotChecked ended before → told ≡ [] → now ≡ before → IsCheckDone json reach before now outcome told
  checked : (found : Findings) → HasFound reach before found → IsVerdict outcome found → told ≡ report json found → now ≡ before → IsCheckDone json reach before now outcome told
