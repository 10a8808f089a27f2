-- Words give one list of options, and spell one command.
use Rattle.std.proofs.Common.{◌≡◌, ◌∙◌, ℕ, Bool, List, [], ◌∷◌, drop, Some, None, ap, sym, subst, refl}
use Rattle.std.specs.Prelude.{string_bytes}
use Rattle.std.specs.Global.{Global}
use Rattle.std.specs.declared.string.String.{String}
use Rattle.fbc_files.specs.declared.relations.NewRelation.{NewRelation}
use Rattle.fbc_command_line.specs.declared.commands.Command.{Command}
use Rattle.fbc_command_line.specs.declared.commands.Command.TheVariants as command
use Rattle.fbc_command_line.specs.declared.options.First.{First}
use Rattle.fbc_command_line.specs.declared.options.Given.{Given}
use Rattle.fbc_command_line.specs.declared.options.OptionRule.{OptionRule}
use Rattle.fbc_command_line.specs.OptionReading.{first_of}
use Rattle.fbc_command_line.specs.Options.{GiveEach, GivesFirst}
use Rattle.fbc_command_line.specs.NewFile.{SpellsCreate}
use Rattle.fbc_command_line.specs.Commands.{SpellsBehind, SpellsCommand, SpellsValidate, name_of, validate_options}
use Rattle.fbc_command_line.proofs.OptionLemmas.{read}

module _ (table : List OptionRule) where
  no_words_left : (words : List (String Global)) (one : Given) (rest : List (String Global)) → words ≡ [] → GivesFirst table one words rest → ⊥
  no_words_left words one rest none gives =
      let found = read table one words rest gives in
      let nothing : first_of table words ≡ None = ap (first_of table) none in
      let something = found.found in
      let no : ⊥ = cc in no

  -- What words begin with, found by the reader.
  abbrev found_with : Given → ℕ → First
  found_with given taken = record { given = given; words = taken }

  same_first : (words : List (String Global)) (one other : Given) (taken also : ℕ) → first_of table words ≡ Some (found_with one taken) → first_of table words ≡ Some (found_with other also) → found_with one taken ≡ found_with other also
  same_first words one other taken also found again = cc

  pub one_list : (one other : List Given) (words : List (String Global)) → GiveEach table one words → GiveEach table other words → one ≡ other
  one_list [] [] words each also = refl
  one_list [] (first ∷ later) words each also = absurd (no_words_left words first also.0 each also.1)
  one_list (first ∷ later) [] words each also = absurd (no_words_left words first each.0 also each.1)
  one_list (first ∷ later) (next ∷ others) words each also =
      let found = read table first words each.0 each.1 in
      let again = read table next words also.0 also.1 in
      let both : record { given = first; words = found.taken } ≡ record { given = next; words = again.taken } = same_first words first next found.taken again.taken found.found again.found in
      let same_rest : also.0 ≡ each.0 = again.rest_is ∙ ap (λ (f : First). drop f.words words) (sym both) ∙ sym found.rest_is in
      ap (λ (f : First). f.given ∷ later) both ∙ ap (λ rest. next ∷ rest) (one_list later others each.0 each.2 (subst (GiveEach table others) same_rest also.2))

same_file : (words : List (String Global)) (size other_size : ℕ) (relations others : List NewRelation) → SpellsCreate words size relations → SpellsCreate words other_size others
    → command.Create size relations ≡ command.Create other_size others
same_file words size other_size relations others file other =
    let both : file.size_word ∷ file.relation_words ≡ other.size_word ∷ other.relation_words = sym file.words_are ∙ other.words_are in
    let this_size = file.file.size_is in
    let that_size = other.file.size_is in
    let these = file.file.relations_are in
    let those = other.file.relations_are in
    cc

same_check : (words : List (String Global)) (json other_json : Bool) → SpellsValidate words json → SpellsValidate words other_json → command.Validate json ≡ command.Validate other_json
same_check words json other_json check other =
    let given : check.given ≡ other.given = one_list validate_options check.given other.given words check.options.each other.options.each in
    let this = check.json_is in
    let that = other.json_is in
    cc

module _ (words : List (String Global)) where
  same_behind : (one other : Command) → name_of one ≡ name_of other → SpellsBehind one words → SpellsBehind other words → one ≡ other
  same_behind (command.Create size relations) (command.Create other_size others) same spelled also = same_file words size other_size relations others spelled also
  same_behind (command.Create size relations) command.Play same spelled also = let no : ⊥ = cc in absurd no
  same_behind (command.Create size relations) (command.Validate json) same spelled also = let no : ⊥ = cc in absurd no
  same_behind command.Play (command.Create other_size others) same spelled also = let no : ⊥ = cc in absurd no
  same_behind command.Play command.Play same spelled also = refl
  same_behind command.Play (command.Validate json) same spelled also = let no : ⊥ = cc in absurd no
  same_behind (command.Validate json) (command.Create other_size others) same spelled also = let no : ⊥ = cc in absurd no
  same_behind (command.Validate json) command.Play same spelled also = let no : ⊥ = cc in absurd no
  same_behind (command.Validate json) (command.Validate other_json) same spelled also = same_check words json other_json spelled also

pub one_command : (words : List (String Global)) (one other : Command) → SpellsCommand words one → SpellsCommand words other → one ≡ other
one_command words one other spells also =
    let both : spells.name ∷ spells.behind ≡ also.name ∷ also.behind = sym spells.words_are ∙ also.words_are in
    let same_name : spells.name ≡ also.name = cc in
    let same_words : also.behind ≡ spells.behind = cc in
    same_behind spells.behind one other (sym spells.name_is ∙ ap string_bytes same_name ∙ also.name_is) spells.spelled (subst (SpellsBehind other) same_words also.spelled)
