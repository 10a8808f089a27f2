-- The options behind a command's name: in any order, each at most once.
use Rattle.std.specs.Prelude.{◌≡◌, ◌==◌, ℕ, Bool, false, List, [], ◌∷◌, ◌++◌, Option, Some, None, codes, string_bytes, position, map, slice_get}
use Rattle.std.specs.List.{IsDistinct, list_any}
use Rattle.std.specs.Str.{bytes_eq}
use Rattle.std.specs.Global.{Global}
use Rattle.std.specs.declared.string.String.{String}
use Rattle.fbc_script.specs.Numbers.{number_of}
use Rattle.fbc_command_line.specs.declared.options.Given.{Given}
use Rattle.fbc_command_line.specs.declared.options.OptionRule.{OptionRule}
use Rattle.fbc_command_line.specs.declared.options.Takes.{Takes}
use Rattle.fbc_command_line.specs.declared.options.Takes.TheVariants.{Nothing, Number}

-- Whether a word names an option of this name: two dashes before the name.
abbrev pub names : List ℕ → List ℕ → Bool
names word name = bytes_eq word (codes "--" ++ name)

-- The option that a word names, by its place in the table.
abbrev pub option_named : List OptionRule → List ℕ → Option ℕ
option_named table word = position (λ rule. names word rule.name) table

-- The number that digits spell, where an option takes it.
abbrev pub number_in : Takes → List ℕ → Option ℕ
number_in Nothing digits = None
number_in (Number least most) digits = number_of least most digits

-- Whether a word has a `=`.
abbrev pub has_equals : List ℕ → Bool
has_equals word = list_any (λ byte. byte == 61) word

-- A word without `=` names this option, which takes this.
pub record Names (table : List OptionRule) (option : ℕ) (takes : Takes) (word : List ℕ) : Type 0 where
  pub rule : OptionRule
  pub plain : has_equals word ≡ false
  pub place : option_named table word ≡ Some option
  pub rule_is : slice_get table option ≡ Some rule
  pub takes_is : rule.takes ≡ takes

-- The first word or two give an option, and the rest stands behind them: `--name` alone for a switch, and `--name=N` or `--name N` for an option with a number.
pub data GivesFirst (table : List OptionRule) (given : Given) (words rest : List (String Global)) : Type 0 where
  switch : (word : String Global) → words ≡ word ∷ rest → Names table given.option Nothing (string_bytes word) → given.number ≡ None → GivesFirst table given words rest
  joined : (word : String Global) (name digits : List ℕ) (takes : Takes) (number : ℕ) → words ≡ word ∷ rest → string_bytes word ≡ name ++ 61 ∷ digits → Names table given.option takes name
      → number_in takes digits ≡ Some number → given.number ≡ Some number → GivesFirst table given words rest
  apart : (word next : String Global) (takes : Takes) (number : ℕ) → words ≡ word ∷ next ∷ rest → Names table given.option takes (string_bytes word)
      → number_in takes (string_bytes next) ≡ Some number → given.number ≡ Some number → GivesFirst table given words rest

-- Words give these options one after another, and nothing else.
abbrev pub GiveEach : List OptionRule → List Given → List (String Global) → Type 0
GiveEach table [] words = words ≡ []
GiveEach table (given ∷ later) words = (rest : List (String Global)) × GivesFirst table given words rest × GiveEach table later rest

-- The options that are given.
abbrev pub options_in : List Given → List ℕ
options_in given = map (λ one. one.option) given

-- Whether an option is given.
abbrev pub is_given : List Given → ℕ → Bool
is_given given option = list_any (λ one. one.option == option) given

-- Words give these options of the table, each at most once.
pub record GiveOptions (table : List OptionRule) (words : List (String Global)) (given : List Given) : Type 0 where
  pub each : GiveEach table given words
  pub once : IsDistinct (λ option other. option == other) (options_in given)

-- What was found is the options that the words give; nothing is found exactly where they give none that the table allows.
abbrev pub TellsOptions : List OptionRule → List (String Global) → Option (List Given) → Type 0
TellsOptions table words None = (given : List Given) → GiveOptions table words given → ⊥
TellsOptions table words (Some given) = GiveOptions table words given
