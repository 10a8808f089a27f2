-- The words behind `create`: a page size, and one to eight relations.
use Rattle.std.specs.Prelude.{◌≡◌, ◌+◌, ◌==◌, ℕ, List, [], ◌∷◌, Option, Some, None, if◌then◌else◌, string_bytes, take, drop, position}
use Rattle.std.specs.Option.{option_and_then}
use Rattle.std.specs.Global.{Global}
use Rattle.std.specs.declared.string.String.{String}
use Rattle.fbc_kinds.specs.Limits.{is_page_size, value_limit}
use Rattle.fbc_kinds.specs.HeaderSpelling.{is_name}
use Rattle.fbc_script.specs.Numbers.{number_of}
use Rattle.fbc_files.specs.declared.relations.NewRelation.{NewRelation}
use Rattle.fbc_files.specs.NewPages.{AreNewRelations}

-- A number that is a page size.
abbrev pub only_size : ℕ → Option ℕ
only_size number = if is_page_size number then Some number else None

-- The page size that a word spells.
abbrev pub size_of : List ℕ → Option ℕ
size_of word = option_and_then only_size (number_of 1024 16384 word)

-- A relation of this name and value length, where the text is a name.
abbrev pub named : List ℕ → ℕ → Option NewRelation
named text length = if is_name text then Some (record { name = text; length = length }) else None

-- The relation that a word spells whose first colon stands there: a name before the colon, and behind it the greatest length of a value.
abbrev pub relation_at : List ℕ → ℕ → Option NewRelation
relation_at word colon = option_and_then (named (take colon word)) (number_of 1 value_limit (drop (colon + 1) word))

-- The relation that a word spells.
abbrev pub relation_of : List ℕ → Option NewRelation
relation_of word = option_and_then (relation_at word) (position (λ byte. byte == 58) word)

-- A relation before others.
abbrev pub with_relation : Option NewRelation → Option (List NewRelation) → Option (List NewRelation)
with_relation (Some relation) (Some relations) = Some (relation ∷ relations)
with_relation _ _ = None

-- The relations that words spell, one each.
abbrev pub relations_of : List (String Global) → Option (List NewRelation)
relations_of [] = Some []
relations_of (word ∷ words) = with_relation (relation_of (string_bytes word)) (relations_of words)

-- A word and those behind it spell a new file: its page size, and one to eight relations of different names.
pub record SpellsFile (size_word : List ℕ) (words : List (String Global)) (size : ℕ) (relations : List NewRelation) : Type 0 where
  pub size_is : size_of size_word ≡ Some size
  pub relations_are : relations_of words ≡ Some relations
  pub fit : AreNewRelations relations

-- The words behind `create` spell a new file.
pub record SpellsCreate (words : List (String Global)) (size : ℕ) (relations : List NewRelation) : Type 0 where
  pub size_word : String Global
  pub relation_words : List (String Global)
  pub words_are : words ≡ size_word ∷ relation_words
  pub file : SpellsFile (string_bytes size_word) relation_words size relations
