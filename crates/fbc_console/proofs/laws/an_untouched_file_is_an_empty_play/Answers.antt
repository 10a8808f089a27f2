use Rattle.std.proofs.Common.{ℕ, List, Some, None, refl}
use Rattle.std.specs.Prelude.{Option}
use Rattle.fbc_kinds.specs.Machine.{empty}
use Rattle.fbc_console.specs.Images.{IsFreshFile}
use Rattle.fbc_console.specs.Opening.{IsFreshDevice}
use Rattle.fbc_console.specs.PlayTheorem.{HasFileOf, IsFileOf}
use Rattle.fbc_console.proofs.laws.an_untouched_file_is_an_empty_play.Goals as goal

file_of : ((reach : ℕ) (bytes : List ℕ) → IsFreshFile bytes → IsFileOf reach bytes empty) → (reach : ℕ) (now : Option (List ℕ)) → IsFreshDevice now → HasFileOf reach now empty
file_of law reach None fresh = tt
file_of law reach (Some bytes) fresh = law reach bytes fresh

pub returns : goal.returns
returns c reach now fresh = record { nothing = refl; file = file_of c.the_fresh_file_means_no_rows.ensures reach now fresh }
