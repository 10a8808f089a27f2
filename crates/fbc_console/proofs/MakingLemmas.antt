-- What stands and what was told after a new file was made, or was not.
use Rattle.std.proofs.Common.{◌≡◌, ℕ, List, [], Bool, true, false, Option, Some, None, Ok, Err, refl, subst}
use Rattle.fbc_kinds.specs.File.{IsSoundFile}
use Rattle.fbc_kinds.specs.Machine.{empty}
use Rattle.fbc_kinds.specs.Meaning.{MeanTheSame, meaning_of}
use Rattle.fbc_files.specs.declared.relations.NewRelation.{NewRelation}
use Rattle.fbc_files.specs.Creating.{HoldsIfEmpty, IsNewFile, IsPartOfNewFile}
use Rattle.fbc_files.specs.NewPages.{new_pages}
use Rattle.fbc_files.specs.Pages.{listed_view}
use Rattle.fbc_outside.specs.Streams.{SinkTakes, SinkTakesSome}
use Rattle.fbc_console.specs.declared.statuses.Status.{Status}
use Rattle.fbc_console.specs.declared.statuses.Status.TheVariants as status
use Rattle.fbc_console.specs.Closing.{Took}
use Rattle.fbc_console.specs.PlayTheorem.{HasFileOf}
use Rattle.fbc_console.specs.Bytes.{IsEmpty}
use Rattle.fbc_console.specs.Making.{IsOccupied, TellsVacant, WhyNotMade, created_line, IsCreateDone, unmade, made}
use Rattle.fbc_console.proofs.ClosingLemmas.{takes_nothing}

-- What was found of a device that is as it was.
pub told_vacant : (vacant : Bool) (file : Option (List ℕ)) → vacant ≡ true → TellsVacant vacant file → IsEmpty file
told_vacant vacant file is tells = subst (λ (b : Bool). TellsVacant b file) is tells

pub told_occupied : (vacant : Bool) (file : Option (List ℕ)) → vacant ≡ false → TellsVacant vacant file → IsOccupied file
told_occupied vacant file is tells = subst (λ (b : Bool). TellsVacant b file) is tells

pub not_made : (size : ℕ) (relations : List NewRelation) (before now : Option (List ℕ)) (a : List ℕ → Type 0) (ended : Status) → WhyNotMade ended before → now ≡ before
    → (told : List ℕ) × IsCreateDone size relations before now (Err ended) told × Took (Err ended) a a told
not_made size relations before now a status.Occupied why same = ([], unmade status.Occupied refl why refl same, takes_nothing a)
not_made size relations before now a status.DeviceFault why same = ([], unmade status.DeviceFault refl why refl same, takes_nothing a)
not_made size relations before now a status.OutOfMemory why same = ([], unmade status.OutOfMemory refl why refl same, takes_nothing a)
not_made size relations before now a _ why same = let no : ⊥ = why in absurd no

module _ (size : ℕ) (relations : List NewRelation)
    (sound : (reach : ℕ) (bytes : List ℕ) → IsNewFile size relations bytes → IsSoundFile reach bytes (listed_view (new_pages size relations)))
    (meaning : MeanTheSame (meaning_of (listed_view (new_pages size relations))) empty) where
  new_file : (before now : Option (List ℕ)) → IsEmpty before → HoldsIfEmpty (IsNewFile size relations) before now → (reach : ℕ) → HasFileOf reach now empty
  new_file None None vacant holds reach = tt
  new_file None (Some after) vacant holds reach = let no : Some after ≡ None = holds in let not : ⊥ = cc in absurd not
  new_file (Some bytes) None vacant holds reach = tt
  new_file (Some bytes) (Some after) vacant holds reach = record { view = listed_view (new_pages size relations); sound = sound reach after (holds vacant); means = meaning }

  pub was_made : (before now : Option (List ℕ)) (a c : List ℕ → Type 0) → IsEmpty before → HoldsIfEmpty (IsNewFile size relations) before now → SinkTakes a c (created_line relations)
      → (told : List ℕ) × IsCreateDone size relations before now (Ok tt) told × Took (Ok tt) a c told
  was_made before now a c vacant holds took = (created_line relations, made vacant (refl, record { stands = holds; means = new_file before now vacant holds }), took)

  pub was_made_untold : (before now : Option (List ℕ)) (a c : List ℕ → Type 0) → IsEmpty before → HoldsIfEmpty (IsNewFile size relations) before now → SinkTakesSome a c (created_line relations)
      → (told : List ℕ) × IsCreateDone size relations before now (Err status.SinkFault) told × Took (Err status.SinkFault) a c told
  was_made_untold before now a c vacant holds took = (created_line relations, made vacant (refl, record { stands = holds; means = new_file before now vacant holds }), took)

pub was_made_in_part : (size : ℕ) (relations : List NewRelation) (before now : Option (List ℕ)) (a : List ℕ → Type 0) → IsEmpty before → HoldsIfEmpty (IsPartOfNewFile size relations) before now
    → (told : List ℕ) × IsCreateDone size relations before now (Err status.DeviceFault) told × Took (Err status.DeviceFault) a a told
was_made_in_part size relations before now a vacant holds = ([], made vacant (refl, holds), takes_nothing a)
