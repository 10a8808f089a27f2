-- What the words of a command line ask to do with the file.
use Rattle.std.specs.Prelude.{◌≡◌, ◌⊎◌, ℕ, List, [], ◌∷◌, codes, string_bytes}
use Rattle.std.specs.Global.{Global}
use Rattle.std.specs.declared.string.String.{String}
use Rattle.fbc_command_line.specs.Commands.{IsCommandLine}
use Rattle.fbc_console.specs.declared.statuses.Status.{Status}
use Rattle.fbc_console.specs.declared.statuses.Status.TheVariants.{OutOfMemory, Usage}
use Rattle.classic_console.specs.declared.access.Access.{Access}
use Rattle.classic_console.specs.declared.access.Access.TheVariants.{Make, Change, Read}

-- The command that makes a missing file, the one that changes a file, and the one that only reads it.
abbrev pub word_for : Access → List ℕ
word_for Make = codes "create"
word_for Change = codes "play"
word_for Read = codes "validate"

-- The first of the words is this one.
abbrev pub BeginsWith : List ℕ → List (String Global) → Type 0
BeginsWith first (word ∷ words) = string_bytes word ≡ first
BeginsWith first [] = ⊥

-- The words are a command, and it is the one that does this with the file.
pub record Asks (words : List (String Global)) (access : Access) : Type 0 where
  pub command_line : IsCommandLine words
  pub first : BeginsWith (word_for access) words

-- The words are no command, or there was no memory to say so.
abbrev pub IsRefused : List (String Global) → Status → Type 0
IsRefused words status = ((status ≡ Usage) × (IsCommandLine words → ⊥)) ⊎ (status ≡ OutOfMemory)
