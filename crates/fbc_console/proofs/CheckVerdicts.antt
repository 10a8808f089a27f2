-- The status of a check that was carried out says whether the file is sound.
use Rattle.std.proofs.Common.{◌≡◌, ◌≢◌, ℕ, Bool, List, [], Option, Some, None, Ok, Err, sym, subst, ◌∙◌}
use Rattle.std.specs.Global.{Global}
use Rattle.std.specs.declared.string.String.{String}
use Rattle.fbc_validator.specs.Checked.{HasFound}
use Rattle.fbc_validator.specs.declared.findings.Findings.{Findings}
use Rattle.fbc_command_line.specs.declared.commands.Command.{Command}
use Rattle.fbc_command_line.specs.declared.commands.Command.TheVariants as command
use Rattle.fbc_command_line.specs.Commands.{SpellsCommand}
use Rattle.fbc_console.specs.declared.statuses.Status.{Status}
use Rattle.fbc_console.specs.declared.statuses.Status.TheVariants as status
use Rattle.fbc_console.specs.Checking.{IsCheckDone, IsVerdict, WhyNotChecked, checked, unchecked}
use Rattle.fbc_console.specs.Closing.{Closes, EndsWith, Outcome, cut, short, written}
use Rattle.fbc_console.specs.Ending.{HasEnded, IsCarriedOut, create, no_command, no_memory, play, validate}
use Rattle.fbc_console.specs.SoundFiles.{IsSoundDevice, IsUnsoundDevice, SpellsCheck}

-- An outcome that is ended with this status.
abbrev IsEnd : Status → Outcome → Type 0
IsEnd last (Ok done) = last ≡ status.Ok
IsEnd last (Err ended) = ended ≡ last

-- A status that tells neither a fault of the sink nor want of memory is that of the outcome.
module _ (old new : List ℕ → Type 0) (told : List ℕ) (last : Status) (no_sink : last ≢ status.SinkFault) (no_memory_fault : last ≢ status.OutOfMemory) where
  closed_as : (ended : Status) → Closes old new told ended last → ended ≡ last
  closed_as ended (written is took) = sym is
  closed_as ended (cut is took) = absurd (no_sink is)
  closed_as ended (short is took) = absurd (no_memory_fault is)

  ended_as : (outcome : Outcome) → EndsWith outcome old new told last → IsEnd last outcome
  ended_as (Ok done) ends = ends.0
  ended_as (Err status.Damaged) ends = sym ends.0
  ended_as (Err status.SinkFault) ends = absurd (no_sink ends.0)
  ended_as (Err status.OutOfMemory) ends = absurd (no_memory_fault ends.0)
  ended_as (Err ended) ends = closed_as ended ends

-- What a check says by either status.
undamaged : (outcome : Outcome) (found : Findings) → IsEnd status.Ok outcome → IsVerdict outcome found → found.damages ≡ []
undamaged (Ok done) found ends is = is
undamaged (Err ended) found ends is = let no : ⊥ = subst (λ s. IsVerdict (Err s) found) ends is in absurd no

damaged : (outcome : Outcome) (found : Findings) → IsEnd status.Damaged outcome → IsVerdict outcome found → ¬ (found.damages ≡ [])
damaged (Ok done) found ends is = let no : ⊥ = cc in absurd no
damaged (Err ended) found ends is = subst (λ s. IsVerdict (Err s) found) ends is

found_sound : (reach : ℕ) (file : Option (List ℕ)) (found : Findings) → HasFound reach file found → found.damages ≡ [] → IsSoundDevice reach file
found_sound reach None found has none = tt
found_sound reach (Some bytes) found has none = has.sound.0 none

found_unsound : (reach : ℕ) (file : Option (List ℕ)) (found : Findings) → HasFound reach file found → ¬ (found.damages ≡ []) → IsUnsoundDevice reach file
found_unsound reach None found has some = tt
found_unsound reach (Some bytes) found has some = λ sound. some (has.sound.1 sound)

-- A check that ends with one of the two has checked.
why_ended : (last : Status) (file : Option (List ℕ)) (outcome : Outcome) (ended : Status) → IsEnd last outcome → outcome ≡ Err ended → WhyNotChecked ended file → WhyNotChecked last file
why_ended last file outcome ended ends is why = subst (λ s. WhyNotChecked s file) (subst (IsEnd last) is ends) why

module _ (json : Bool) (reach : ℕ) (before now : Option (List ℕ)) (outcome : Outcome) (told : List ℕ) where
  sound_by : IsEnd status.Ok outcome → IsCheckDone json reach before now outcome told → IsSoundDevice reach before
  sound_by ends (unchecked ended is why silent same) = let no : ⊥ = why_ended status.Ok before outcome ended ends is why in absurd no
  sound_by ends (checked found has is told_is same) = found_sound reach before found has (undamaged outcome found ends is)

  unsound_by : IsEnd status.Damaged outcome → IsCheckDone json reach before now outcome told → IsUnsoundDevice reach before
  unsound_by ends (unchecked ended is why silent same) = let no : ⊥ = why_ended status.Damaged before outcome ended ends is why in absurd no
  unsound_by ends (checked found has is told_is same) = found_unsound reach before found has (damaged outcome found ends is)

module _ (reach : ℕ) (words : List (String Global)) (left before now : Option (List ℕ)) (old new : List ℕ → Type 0) (last : Status)
    (only : (one other : Command) → SpellsCommand words one → SpellsCommand words other → one ≡ other) (ended : HasEnded reach words left old new before now last) (spells : SpellsCheck words) where
  -- The words of a check were carried out as a check.
  carried_out : (outcome : Outcome) (told : List ℕ) → last ≢ status.OutOfMemory → IsEnd last outcome → IsCarriedOut reach words left before now outcome told → (json : Bool) × IsCheckDone json reach before now outcome told
  carried_out outcome told memory ends (no_command none is silent same) = absurd (none (command.Validate spells.0, spells.1))
  carried_out outcome told memory ends (no_memory is silent same) = absurd (memory (sym (subst (IsEnd last) is ends)))
  carried_out outcome told memory ends (create size relations created done) =
      let clash = only (command.Validate spells.0) (command.Create size relations) spells.1 created in let no : ⊥ = cc in absurd no
  carried_out outcome told memory ends (validate json checked_words done) = (json, done)
  carried_out outcome told memory ends (play played_words done) =
      let clash = only (command.Validate spells.0) command.Play spells.1 played_words in let no : ⊥ = cc in absurd no

  by_status : last ≢ status.SinkFault → last ≢ status.OutOfMemory → IsEnd last ended.outcome × ((json : Bool) × IsCheckDone json reach before now ended.outcome ended.told)
  by_status sink memory =
      let ends = ended_as old new ended.told last sink memory ended.outcome ended.ends in
      (ends, carried_out ended.outcome ended.told memory ends ended.done)

  pub sound_file : last ≡ status.Ok → IsSoundDevice reach before
  sound_file is =
      let found = by_status (λ e. let clash : status.Ok ≡ status.SinkFault = sym is ∙ e in cc) (λ e. let clash : status.Ok ≡ status.OutOfMemory = sym is ∙ e in cc) in
      let P : Status → Type 0 = λ s. IsEnd s ended.outcome in
      sound_by found.1.0 reach before now ended.outcome ended.told (subst P is found.0) found.1.1

  pub unsound_file : last ≡ status.Damaged → IsUnsoundDevice reach before
  unsound_file is =
      let found = by_status (λ e. let clash : status.Damaged ≡ status.SinkFault = sym is ∙ e in cc) (λ e. let clash : status.Damaged ≡ status.OutOfMemory = sym is ∙ e in cc) in
      let P : Status → Type 0 = λ s. IsEnd s ended.outcome in
      unsound_by found.1.0 reach before now ended.outcome ended.told (subst P is found.0) found.1.1
