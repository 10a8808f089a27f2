-- How the first option of some words is read: its parts, as the reader takes them.
use Rattle.std.specs.Prelude.{◌==◌, ◌+◌, ℕ, List, [], ◌∷◌, Option, Some, None, string_bytes, position, take, drop, slice_get}
use Rattle.std.specs.Option.{option_map, option_and_then}
use Rattle.std.specs.Global.{Global}
use Rattle.std.specs.declared.string.String.{String}
use Rattle.fbc_command_line.specs.declared.options.First.{First}
use Rattle.fbc_command_line.specs.declared.options.OptionRule.{OptionRule}
use Rattle.fbc_command_line.specs.declared.options.Takes.{Takes}
use Rattle.fbc_command_line.specs.declared.options.Takes.TheVariants.{Nothing, Number}
use Rattle.fbc_command_line.specs.Options.{number_in, option_named}

-- An option with a number, in so many words.
abbrev pub numbered : ℕ → ℕ → ℕ → First
numbered option words number = record { given = record { option = option; number = Some number }; words = words }

-- An option with the number that digits spell.
abbrev pub with_number : Takes → ℕ → List ℕ → ℕ → Option First
with_number takes option digits words = option_map (numbered option words) (number_in takes digits)

-- An option alone, or with its number in the next word.
abbrev pub alone_or_next : Takes → ℕ → List (String Global) → Option First
alone_or_next Nothing option rest = Some (record { given = record { option = option; number = None }; words = 1 })
alone_or_next (Number least most) option [] = None
alone_or_next (Number least most) option (next ∷ rest) = with_number (Number least most) option (string_bytes next) 2

-- What the option at a place takes.
abbrev pub takes_at : List OptionRule → ℕ → Option Takes
takes_at table option = option_map (λ rule. rule.takes) (slice_get table option)

-- An option whose number stands behind the `=` at a place of its word.
abbrev pub joined : List OptionRule → List ℕ → ℕ → Option First
joined table word at = option_and_then (λ option. option_and_then (λ takes. with_number takes option (drop (at + 1) word) 1) (takes_at table option)) (option_named table (take at word))

-- An option that a word without `=` names.
abbrev pub apart : List OptionRule → List ℕ → List (String Global) → Option First
apart table word rest = option_and_then (λ option. option_and_then (λ takes. alone_or_next takes option rest) (takes_at table option)) (option_named table word)

-- The option of a word by where its first `=` stands.
abbrev pub by_equals : List OptionRule → List ℕ → List (String Global) → Option ℕ → Option First
by_equals table word rest (Some at) = joined table word at
by_equals table word rest None = apart table word rest

-- The option that the first words give.
abbrev pub first_of : List OptionRule → List (String Global) → Option First
first_of table [] = None
first_of table (word ∷ rest) = by_equals table (string_bytes word) rest (position (λ byte. byte == 61) (string_bytes word))
