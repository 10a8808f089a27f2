-- A call that nothing stands in the way of is carried out, but for want of memory.
use Rattle.std.proofs.Common.{◌≡◌, ◌≤◌, inl, inr, ℕ, Bool, false, List, [], length, Option, Some, None, Ok, Err, refl, sym, subst, arith}
use Rattle.std.specs.Global.{Global}
use Rattle.std.specs.declared.string.String.{String}
use Rattle.fbc_script.specs.declared.script.Script.{Script}
use Rattle.fbc_script.specs.declared.single.SingleTransaction.{SingleTransaction}
use Rattle.fbc_script.specs.declared.single.SingleTransaction.TheVariants.{Absent, Steps}
use Rattle.fbc_script.specs.declared.single.Step.{Step}
use Rattle.fbc_script.specs.Scripts.{IsScript, first_script_fault}
use Rattle.fbc_script.specs.SingleTransaction.{IsSingleTransaction}
use Rattle.fbc_files.specs.declared.relations.NewRelation.{NewRelation}
use Rattle.fbc_validator.specs.declared.findings.Findings.{Findings}
use Rattle.fbc_console.specs.declared.statuses.Status.{Status}
use Rattle.fbc_console.specs.declared.statuses.Status.TheVariants as status
use Rattle.fbc_command_line.specs.declared.commands.Command.{Command}
use Rattle.fbc_command_line.specs.declared.commands.Command.TheVariants as command
use Rattle.fbc_command_line.specs.Commands.{SpellsCommand, SpellsPlay}
use Rattle.fbc_console.specs.Images.{IsFreshFile}
use Rattle.fbc_files.specs.Opening.{broken_opening}
use Rattle.fbc_console.specs.Opening.{WhyNotOpened}
use Rattle.fbc_console.specs.Asking.{SpellsAsked, WhyNotSpelled, HasRefused, WhyNotAsked}
use Rattle.fbc_console.specs.Closing.{Outcome, EndsWith, Closes, written, cut, short}
use Rattle.fbc_console.specs.Checking.{IsVerdict, WhyNotChecked, IsCheckDone, unchecked, checked}
use Rattle.fbc_console.specs.Making.{WhyNotMade, IsMade, IsCreateDone, unmade, made}
use Rattle.fbc_console.specs.Ending.{IsTransactionTold, IsPlayed, WhyNotPlayed, fault, memory, refused, unasked, other, IsPlayDone, stopped, played, IsCarriedOut, no_command, no_memory, create, validate, play, HasEnded}
use Rattle.fbc_console.specs.Completing.{IsPlainPlay, IsPlainCreate, IsPlainCheck, IsCompleted, IsChecked}

-- An outcome is well, or comes of a fault or of want of memory.
abbrev IsFault : Outcome → Type 0
IsFault (Ok done) = Unit {0}
IsFault (Err status.DeviceFault) = Unit {0}
IsFault (Err status.SourceFault) = Unit {0}
IsFault (Err status.SinkFault) = Unit {0}
IsFault (Err status.OutOfMemory) = Unit {0}
IsFault (Err _) = ⊥

closes : (ended last : Status) (old new : List ℕ → Type 0) (told : List ℕ) → Closes old new told ended last → (last ≡ ended → ⊥) → (last ≡ status.SinkFault → ⊥) → IsCompleted last
closes ended last old new told (written is took) no_fault no_sink = absurd (no_fault is)
closes ended last old new told (cut is took) no_fault no_sink = absurd (no_sink is)
closes ended last old new told (short is took) no_fault no_sink = inr is

ends_well : (outcome : Outcome) (old new : List ℕ → Type 0) (told : List ℕ) (last : Status) → IsFault outcome → EndsWith outcome old new told last
    → (last ≡ status.DeviceFault → ⊥) → (last ≡ status.SourceFault → ⊥) → (last ≡ status.SinkFault → ⊥) → IsCompleted last
ends_well (Ok done) old new told last is ends no_device no_source no_sink = inl ends.0
ends_well (Err status.SinkFault) old new told last is ends no_device no_source no_sink = absurd (no_sink ends.0)
ends_well (Err status.OutOfMemory) old new told last is ends no_device no_source no_sink = inr ends.0
ends_well (Err status.DeviceFault) old new told last is ends no_device no_source no_sink = closes status.DeviceFault last old new told ends no_device no_sink
ends_well (Err status.SourceFault) old new told last is ends no_device no_source no_sink = closes status.SourceFault last old new told ends no_source no_sink
ends_well (Err _) old new told last is ends no_device no_source no_sink = let no : ⊥ = is in absurd no

-- The words spell at most one command.
abbrev IsOneCommand : List (String Global) → Type 0
IsOneCommand words = (one other : Command) → SpellsCommand words one → SpellsCommand words other → one ≡ other

module _ (text bytes : List ℕ) (asked : SingleTransaction) (fresh : IsFreshFile bytes) (unbroken : broken_opening bytes ≡ None) (within : length text ≤ 4194304) (spelled : SpellsAsked text asked)
    (one : (script found : Script) → IsScript false text script → IsScript false text found → script ≡ found) where
  not_opened : (ended : Status) → WhyNotOpened ended (Some bytes) → IsFault (Err ended)
  not_opened (status.NotOurs rule) why = let broken : broken_opening bytes ≡ Some rule = why in let no : ⊥ = cc in absurd no
  not_opened status.DeviceFault why = tt
  not_opened _ why = let no : ⊥ = why in absurd no

  not_spelled : (ended : Status) → WhyNotSpelled ended text → IsFault (Err ended)
  not_spelled (status.Script line why) is =
      let some : first_script_fault false text ≡ Some (record { line = line; why = why }) = is in
      let none : first_script_fault false text ≡ None = spelled.spelled.faultless in
      let no : ⊥ = cc in absurd no
  not_spelled status.Later is =
      let same : spelled.script ≡ is.script = one spelled.script is.script spelled.spelled is.spelled in
      absurd (is.other (subst IsSingleTransaction same (asked, spelled.asks)))
  not_spelled status.OutOfMemory is = tt
  not_spelled _ is = let no : ⊥ = is in absurd no

  not_read : (ended : Status) → HasRefused (Some text) ended → IsFault (Err ended)
  not_read ended has = let same : has.text ≡ text = sym has.read in not_spelled ended (subst (WhyNotSpelled ended) same has.why)

  not_asked : (ended : Status) → WhyNotAsked ended (Some text) → IsFault (Err ended)
  not_asked status.SourceFault why = tt
  not_asked status.OutOfMemory why = tt
  not_asked status.SourceLong why = absurd (omega (arith, within, why))
  not_asked status.Ok why = not_read status.Ok why
  not_asked status.Usage why = not_read status.Usage why
  not_asked (status.Script line cause) why = not_read (status.Script line cause) why
  not_asked (status.NotOurs rule) why = not_read (status.NotOurs rule) why
  not_asked status.DeviceFault why = not_read status.DeviceFault why
  not_asked status.Damaged why = not_read status.Damaged why
  not_asked status.SinkFault why = not_read status.SinkFault why
  not_asked status.Occupied why = not_read status.Occupied why
  not_asked status.Later why = not_read status.Later why

  not_played : (ended : Status) → WhyNotPlayed (Some text) (Some bytes) ended → IsFault (Err ended)
  not_played ended (fault is) = subst (λ s. IsFault (Err s)) (sym is) tt
  not_played ended (memory is) = subst (λ s. IsFault (Err s)) (sym is) tt
  not_played ended (refused why) = not_opened ended why
  not_played ended (unasked known why) = not_asked ended why
  not_played ended (other found known has stale is) = let never : IsFreshFile bytes → ⊥ = stale in absurd (never fresh)

  told_fault : (outcome : Outcome) (steps : List Step) (told : List ℕ) (before now : Option (List ℕ)) → IsTransactionTold outcome steps told before now → IsFault outcome
  told_fault (Ok done) steps told before now is = tt
  told_fault (Err status.DeviceFault) steps told before now is = tt
  told_fault (Err status.SinkFault) steps told before now is = tt
  told_fault (Err status.OutOfMemory) steps told before now is = tt
  told_fault (Err _) steps told before now is = let no : ⊥ = is in absurd no

  played_fault : (outcome : Outcome) (found : SingleTransaction) (told : List ℕ) (before now : Option (List ℕ)) → IsPlayed outcome found told before now → IsFault outcome
  played_fault outcome Absent told before now is = subst IsFault (sym is.well) tt
  played_fault outcome (Steps steps) told before now is = told_fault outcome steps told before now is.lines

  play_fault : (outcome : Outcome) (told : List ℕ) (now : Option (List ℕ)) → IsPlayDone (Some text) (Some bytes) now outcome told → IsFault outcome
  play_fault outcome told now (stopped ended is why silent same) = subst IsFault (sym is) (not_played ended why)
  play_fault outcome told now (played found is_fresh has is) = played_fault outcome found told (Some bytes) now is.is

  pub carried_out : (reach : ℕ) (words : List (String Global)) (outcome : Outcome) (told : List ℕ) (now : Option (List ℕ)) → IsOneCommand words → SpellsPlay words → IsCarriedOut reach words (Some text) (Some bytes) now outcome told → IsFault outcome
  carried_out reach words outcome told now only spells (no_command none is silent same) = absurd (none (command.Play, spells))
  carried_out reach words outcome told now only spells (no_memory is silent same) = subst IsFault (sym is) tt
  carried_out reach words outcome told now only spells (create size relations created done) = let clash = only command.Play (command.Create size relations) spells created in let no : ⊥ = cc in absurd no
  carried_out reach words outcome told now only spells (validate json other_words done) = let clash = only command.Play (command.Validate json) spells other_words in let no : ⊥ = cc in absurd no
  carried_out reach words outcome told now only spells (play spelled_play done) = play_fault outcome told now done

not_made : (ended : Status) → WhyNotMade ended (Some []) → IsFault (Err ended)
not_made status.Occupied why = let never : [] ≡ [] → ⊥ = why in absurd (never refl)
not_made status.DeviceFault why = tt
not_made status.OutOfMemory why = tt
not_made _ why = let no : ⊥ = why in absurd no

made_fault : (outcome : Outcome) (size : ℕ) (relations : List NewRelation) (told : List ℕ) (before now : Option (List ℕ)) → IsMade outcome size relations told before now → IsFault outcome
made_fault (Ok done) size relations told before now is = tt
made_fault (Err status.SinkFault) size relations told before now is = tt
made_fault (Err status.DeviceFault) size relations told before now is = tt
made_fault (Err _) size relations told before now is = let no : ⊥ = is in absurd no

create_fault : (outcome : Outcome) (size : ℕ) (relations : List NewRelation) (told : List ℕ) (now : Option (List ℕ)) → IsCreateDone size relations (Some []) now outcome told → IsFault outcome
create_fault outcome size relations told now (unmade ended is why silent same) = subst IsFault (sym is) (not_made ended why)
create_fault outcome size relations told now (made vacant is) = made_fault outcome size relations told (Some []) now is

create_out : (reach : ℕ) (words : List (String Global)) (left : Option (List ℕ)) (outcome : Outcome) (told : List ℕ) (now : Option (List ℕ)) (size : ℕ) (relations : List NewRelation) → IsOneCommand words
    → SpellsCommand words (command.Create size relations) → IsCarriedOut reach words left (Some []) now outcome told → IsFault outcome
create_out reach words left outcome told now size relations only spells (no_command none is silent same) = absurd (none (command.Create size relations, spells))
create_out reach words left outcome told now size relations only spells (no_memory is silent same) = subst IsFault (sym is) tt
create_out reach words left outcome told now size relations only spells (create found_size found spelled done) = create_fault outcome found_size found told now done
create_out reach words left outcome told now size relations only spells (validate json other_words done) =
    let clash = only (command.Create size relations) (command.Validate json) spells other_words in let no : ⊥ = cc in absurd no
create_out reach words left outcome told now size relations only spells (play played_words done) =
    let clash = only (command.Create size relations) command.Play spells played_words in let no : ⊥ = cc in absurd no

-- The same of a check, which may say that there is damage.
abbrev IsCheckFault : Outcome → Type 0
IsCheckFault (Err status.Damaged) = Unit {0}
IsCheckFault outcome = IsFault outcome

not_checked : (bytes : List ℕ) → broken_opening bytes ≡ None → (ended : Status) → WhyNotChecked ended (Some bytes) → IsCheckFault (Err ended)
not_checked bytes unbroken (status.NotOurs rule) why = let broken : broken_opening bytes ≡ Some rule = why in let no : ⊥ = cc in absurd no
not_checked bytes unbroken status.DeviceFault why = tt
not_checked bytes unbroken status.OutOfMemory why = tt
not_checked bytes unbroken _ why = let no : ⊥ = why in absurd no

verdict_fault : (outcome : Outcome) (found : Findings) → IsVerdict outcome found → IsCheckFault outcome
verdict_fault (Ok done) found is = tt
verdict_fault (Err status.Damaged) found is = tt
verdict_fault (Err status.SinkFault) found is = tt
verdict_fault (Err _) found is = let no : ⊥ = is in absurd no

check_fault : (json : Bool) (reach : ℕ) (bytes : List ℕ) → broken_opening bytes ≡ None → (now : Option (List ℕ)) (outcome : Outcome) (told : List ℕ) → IsCheckDone json reach (Some bytes) now outcome told → IsCheckFault outcome
check_fault json reach bytes unbroken now outcome told (unchecked ended is why silent same) = subst IsCheckFault (sym is) (not_checked bytes unbroken ended why)
check_fault json reach bytes unbroken now outcome told (checked found has is told_is same) = verdict_fault outcome found is

check_out : (reach : ℕ) (words : List (String Global)) (left : Option (List ℕ)) (bytes : List ℕ) → broken_opening bytes ≡ None → (outcome : Outcome) (told : List ℕ) (now : Option (List ℕ)) (json : Bool) → IsOneCommand words
    → SpellsCommand words (command.Validate json) → IsCarriedOut reach words left (Some bytes) now outcome told → IsCheckFault outcome
check_out reach words left bytes unbroken outcome told now json only spells (no_command none is silent same) = absurd (none (command.Validate json, spells))
check_out reach words left bytes unbroken outcome told now json only spells (no_memory is silent same) = subst IsCheckFault (sym is) tt
check_out reach words left bytes unbroken outcome told now json only spells (create size relations created done) =
    let clash = only (command.Validate json) (command.Create size relations) spells created in let no : ⊥ = cc in absurd no
check_out reach words left bytes unbroken outcome told now json only spells (validate found_json checked_words done) = check_fault found_json reach bytes unbroken now outcome told done
check_out reach words left bytes unbroken outcome told now json only spells (play played_words done) =
    let clash = only (command.Validate json) command.Play spells played_words in let no : ⊥ = cc in absurd no

-- A check ends well, or says that there is damage.
ends_checked : (outcome : Outcome) (old new : List ℕ → Type 0) (told : List ℕ) (last : Status) → IsCheckFault outcome → EndsWith outcome old new told last
    → (last ≡ status.DeviceFault → ⊥) → (last ≡ status.SourceFault → ⊥) → (last ≡ status.SinkFault → ⊥) → IsChecked last
ends_checked (Ok done) old new told last is ends no_device no_source no_sink = inr (ends_well (Ok done) old new told last is ends no_device no_source no_sink)
ends_checked (Err status.Damaged) old new told last is ends no_device no_source no_sink = inl ends.0
ends_checked (Err status.DeviceFault) old new told last is ends no_device no_source no_sink = inr (ends_well (Err status.DeviceFault) old new told last is ends no_device no_source no_sink)
ends_checked (Err status.SourceFault) old new told last is ends no_device no_source no_sink = inr (ends_well (Err status.SourceFault) old new told last is ends no_device no_source no_sink)
ends_checked (Err status.SinkFault) old new told last is ends no_device no_source no_sink = inr (ends_well (Err status.SinkFault) old new told last is ends no_device no_source no_sink)
ends_checked (Err status.OutOfMemory) old new told last is ends no_device no_source no_sink = inr (ends_well (Err status.OutOfMemory) old new told last is ends no_device no_source no_sink)
ends_checked (Err _) old new told last is ends no_device no_source no_sink = let no : ⊥ = is in absurd no

module _ (reach : ℕ) (words : List (String Global)) (left before now : Option (List ℕ)) (old new : List ℕ → Type 0) (last : Status)
    (no_device : last ≡ status.DeviceFault → ⊥) (no_source : last ≡ status.SourceFault → ⊥) (no_sink : last ≡ status.SinkFault → ⊥) (only : IsOneCommand words) (ended : HasEnded reach words left old new before now last) where
  pub plays : ((bytes : List ℕ) → IsFreshFile bytes → broken_opening bytes ≡ None) → ((threads : Bool) (text : List ℕ) (script found : Script) → IsScript threads text script → IsScript threads text found → script ≡ found)
      → IsPlainPlay words left before → IsCompleted last
  plays known one plain =
      let done : IsCarriedOut reach words (Some plain.text) (Some plain.bytes) now ended.outcome ended.told =
      subst (λ file. IsCarriedOut reach words (Some plain.text) file now ended.outcome ended.told) plain.file_is (subst (λ source. IsCarriedOut reach words source before now ended.outcome ended.told) plain.left_is ended.done) in
      ends_well ended.outcome old new ended.told last
      (carried_out plain.text plain.bytes plain.asked plain.fresh (known plain.bytes plain.fresh) plain.within plain.spelled (one false plain.text) reach words ended.outcome ended.told now only plain.words_are done)
      ended.ends no_device no_source no_sink

  pub makes : IsPlainCreate words before → IsCompleted last
  makes plain =
      let done : IsCarriedOut reach words left (Some []) now ended.outcome ended.told = subst (λ file. IsCarriedOut reach words left file now ended.outcome ended.told) plain.file_is ended.done in
      ends_well ended.outcome old new ended.told last (create_out reach words left ended.outcome ended.told now plain.size plain.relations only plain.words_are done) ended.ends no_device no_source no_sink

  pub checks : IsPlainCheck words before → IsChecked last
  checks plain =
      let done : IsCarriedOut reach words left (Some plain.bytes) now ended.outcome ended.told = subst (λ file. IsCarriedOut reach words left file now ended.outcome ended.told) plain.file_is ended.done in
      ends_checked ended.outcome old new ended.told last (check_out reach words left plain.bytes plain.recognised ended.outcome ended.told now plain.json only plain.words_are done) ended.ends no_device no_source no_sink
