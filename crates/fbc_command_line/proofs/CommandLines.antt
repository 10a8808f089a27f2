-- The words of a command line, taken apart.
use Rattle.std.proofs.Common.{◌≡◌, ◌∙◌, ◌≤◌, ◌-◌, ℕ, List, [], ◌∷◌, length, take, drop, get_or, arith, Option, Some, None, Ok, Err, ap, sym, subst, refl}
use Rattle.std.specs.Prelude.{Result, IfOk, codes, string_bytes}
use Rattle.std.specs.Global.{Global}
use Rattle.std.proofs.lemmas.Grind.{common_steps}
use Rattle.std.specs.declared.string.String.{String}
use Rattle.fbc_files.specs.declared.relations.NewRelation.{NewRelation}
use Rattle.fbc_command_line.specs.declared.commands.Command.{Command}
use Rattle.fbc_command_line.specs.declared.commands.Command.TheVariants as command
use Rattle.fbc_command_line.specs.Commands.{TellsCommand, TellsBehind, TellsFile, SpellsNamed, SpellsBehind, SpellsCommand}
use Rattle.fbc_command_line.specs.NewFile.{SpellsFile}

-- The first word, and the others as they are taken.
pub first_word : {A : Type 0} (words : List A) (word : A) → 1 ≤ length words → word ≡ get_or words 0 word → words ≡ word ∷ take (length words - 1) (drop 1 words)
first_word [] word some is = absurd (omega arith)
first_word (first ∷ rest) word some is =
    let all : take (length (first ∷ rest) - 1) (drop 1 (first ∷ rest)) ≡ rest = grind (arith, common_steps) in
    cc

-- What is told of the words behind a name is told of the whole line.
module _ (words : List (String Global)) (name : String Global) (behind : List (String Global)) (are : words ≡ name ∷ behind) where
  behind_is : (command : Command) (spells : SpellsCommand words command) → SpellsNamed (string_bytes name) behind command
  behind_is command spells =
      let both : name ∷ behind ≡ spells.name ∷ spells.behind = sym are ∙ spells.words_are in
      let same_name : spells.name ≡ name = cc in
      let same_behind : spells.behind ≡ behind = cc in
      record { name_is = sym spells.name_is ∙ ap string_bytes same_name; spelled = subst (SpellsBehind command) same_behind spells.spelled }

  pub whole_line : (text : List ℕ) (found : Option Command) → string_bytes name ≡ text → TellsBehind text behind found → TellsCommand words found
  whole_line text None is tells = λ line. tells line.0 (subst (λ t. SpellsNamed t behind line.0) is (behind_is line.0 line.1))
  whole_line text (Some command) is tells = record { name = name; behind = behind; words_are = are; name_is = is ∙ sym tells.name_is; spelled = tells.spelled }

  pub whole_result : {E : Type 0} (text : List ℕ) (found : Result (Option Command) E) → string_bytes name ≡ text → IfOk found (TellsBehind text behind) → IfOk found (TellsCommand words)
  whole_result text (Ok found) is tells = whole_line text found is tells
  whole_result text (Err e) is tells = tt

-- A new file is the one command of its name.
file_named : (words : List (String Global)) (size_word : String Global) (rest : List (String Global)) (command : Command) → words ≡ size_word ∷ rest → SpellsNamed (codes "create") words command
    → (size : ℕ) × (relations : List NewRelation) × SpellsFile (string_bytes size_word) rest size relations
file_named words size_word rest (command.Create size relations) are is =
    let both : size_word ∷ rest ≡ is.spelled.size_word ∷ is.spelled.relation_words = sym are ∙ is.spelled.words_are in
    let same_size : is.spelled.size_word ≡ size_word = cc in
    let same_rest : is.spelled.relation_words ≡ rest = cc in
    (size, relations, subst (λ xs. SpellsFile (string_bytes size_word) xs size relations) same_rest (subst (λ w. SpellsFile (string_bytes w) is.spelled.relation_words size relations) same_size is.spelled.file))
file_named words size_word rest command.Play are is = let clash : codes "play" ≡ codes "create" = is.name_is in cc
file_named words size_word rest (command.Validate json) are is = let clash : codes "validate" ≡ codes "create" = is.name_is in cc

file_behind : (words : List (String Global)) (size_word : String Global) (rest : List (String Global)) (found : Option Command) → words ≡ size_word ∷ rest
    → TellsFile (string_bytes size_word) rest found → TellsBehind (codes "create") words found
file_behind words size_word rest None are tells = λ command is. let file = file_named words size_word rest command are is in tells file.0 file.1 file.2
file_behind words size_word rest (Some (command.Create size relations)) are tells =
    record { name_is = refl; spelled = record { size_word = size_word; relation_words = rest; words_are = are; file = tells } }
file_behind words size_word rest (Some _) are tells = let no : ⊥ = tells in absurd no

pub file_result : {E : Type 0} (words : List (String Global)) (size_word : String Global) (rest : List (String Global)) (found : Result (Option Command) E) → words ≡ size_word ∷ rest
    → IfOk found (TellsFile (string_bytes size_word) rest) → IfOk found (TellsBehind (codes "create") words)
file_result words size_word rest (Ok found) are tells = file_behind words size_word rest found are tells
file_result words size_word rest (Err e) are tells = tt
