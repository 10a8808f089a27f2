-- The first option that words give, read and given.
use Rattle.std.proofs.Common.{◌≡◌, ◌+◌, ◌==◌, ◌∙◌, ℕ, Bool, false, List, [], ◌∷◌, ◌++◌, length, take, drop, get_or, Option, Some, None, ap, sym, subst, refl, arith}
use Rattle.std.specs.Prelude.{position, string_bytes, slice_get}
use Rattle.std.specs.List.{list_any}
use Rattle.std.specs.Option.{option_map, option_and_then}
use Rattle.std.specs.Global.{Global}
use Rattle.std.specs.declared.string.String.{String}
use Rattle.std.proofs.Math.Seq.{drop-append-add, take-append_seam}
use Rattle.std.proofs.lemmas.Bool.Decides.{nat_tests}
use Rattle.fbc_command_line.specs.declared.options.First.{First}
use Rattle.fbc_command_line.specs.declared.options.Given.{Given}
use Rattle.fbc_command_line.specs.declared.options.OptionRule.{OptionRule}
use Rattle.fbc_command_line.specs.declared.options.Takes.{Takes}
use Rattle.fbc_command_line.specs.declared.options.Takes.TheVariants.{Nothing, Number}
use Rattle.fbc_command_line.specs.OptionReading.{first_of, by_equals, apart, joined, takes_at, alone_or_next, with_number, numbered}
use Rattle.fbc_command_line.specs.Options.{Names, GivesFirst, switch, number_in, option_named}
use Rattle.fbc_command_line.specs.Options as spec
use Rattle.fbc_command_line.proofs.Equals.{no_place, place_behind, split_there, none_there}

and_then_some : {A B : Type 0} (f : A → Option B) (o : Option A) (y : B) → option_and_then f o ≡ Some y → (x : A) × (o ≡ Some x) × (f x ≡ Some y)
and_then_some f None y is = cc
and_then_some f (Some x) y is = (x, refl, is)

map_some : {A B : Type 0} (f : A → B) (o : Option A) (y : B) → option_map f o ≡ Some y → (x : A) × (o ≡ Some x) × (f x ≡ y)
map_some f None y is = cc
map_some f (Some x) y is = let same : f x ≡ y = cc in (x, refl, same)

abbrev is_equals : ℕ → Bool
is_equals byte = byte == 61

-- The option that words begin with is this one, and stands in so many words.
abbrev BeginsWith : List OptionRule → List (String Global) → First → Type 0
BeginsWith table words first = GivesFirst table first.given words (drop first.words words)

module _ (table : List OptionRule) where
  names_it : (word : List ℕ) (option : ℕ) (takes : Takes) → list_any is_equals word ≡ false → option_named table word ≡ Some option → takes_at table option ≡ Some takes → Names table option takes word
  names_it word option takes plain place is =
      let rule = map_some (λ (r : OptionRule). r.takes) (slice_get table option) takes is in
      record { rule = rule.0; plain = plain; place = place; rule_is = rule.1; takes_is = rule.2 }

  takes_it : (word : List ℕ) (option : ℕ) (takes : Takes) → Names table option takes word → takes_at table option ≡ Some takes
  takes_it word option takes names = ap (option_map (λ (r : OptionRule). r.takes)) names.rule_is ∙ ap Some names.takes_is

  module _ (word : String Global) (rest : List (String Global)) where
    next_gives : (option : ℕ) (takes : Takes) (next : String Global) (later : List (String Global)) (first : First) → Names table option takes (string_bytes word)
        → with_number takes option (string_bytes next) 2 ≡ Some first → BeginsWith table (word ∷ next ∷ later) first
    next_gives option takes next later first names is =
        let number = map_some (numbered option 2) (number_in takes (string_bytes next)) first is in
        subst (BeginsWith table (word ∷ next ∷ later)) number.2 (spec.apart word next takes number.0 refl names number.1 refl)

    alone_gives : (option : ℕ) (takes : Takes) (rest : List (String Global)) (first : First) → Names table option takes (string_bytes word) → alone_or_next takes option rest ≡ Some first → BeginsWith table (word ∷ rest) first
    alone_gives option Nothing rest first names is =
        let same : record { given = record { option = option; number = None }; words = 1 } ≡ first = cc in
        subst (BeginsWith table (word ∷ rest)) same (switch word refl names refl)
    alone_gives option (Number least most) [] first names is = cc
    alone_gives option (Number least most) (next ∷ later) first names is = next_gives option (Number least most) next later first names is

    apart_gives : (first : First) → list_any is_equals (string_bytes word) ≡ false → apart table (string_bytes word) rest ≡ Some first → BeginsWith table (word ∷ rest) first
    apart_gives first plain is =
        let named = and_then_some (λ option. option_and_then (λ takes. alone_or_next takes option rest) (takes_at table option)) (option_named table (string_bytes word)) first is in
        let taken = and_then_some (λ takes. alone_or_next takes named.0 rest) (takes_at table named.0) first named.2 in
        alone_gives named.0 taken.0 rest first (names_it (string_bytes word) named.0 taken.0 plain named.1 taken.1) taken.2

    joined_gives : (first : First) (at : ℕ) → position is_equals (string_bytes word) ≡ Some at → joined table (string_bytes word) at ≡ Some first → BeginsWith table (word ∷ rest) first
    joined_gives first at place is =
        let split = split_there is_equals (string_bytes word) at place in
        let named = and_then_some (λ option. option_and_then (λ takes. with_number takes option (drop (at + 1) (string_bytes word)) 1) (takes_at table option)) (option_named table (take at (string_bytes word))) first is in
        let taken = and_then_some (λ takes. with_number takes named.0 (drop (at + 1) (string_bytes word)) 1) (takes_at table named.0) first named.2 in
        let number = map_some (numbered named.0 1) (number_in taken.0 (drop (at + 1) (string_bytes word))) first taken.2 in
        let here : get_or (string_bytes word) at 0 ≡ 61 = grind (arith, nat_tests, split.1) in
        let parts : string_bytes word ≡ take at (string_bytes word) ++ 61 ∷ drop (at + 1) (string_bytes word) = subst (λ byte. string_bytes word ≡ take at (string_bytes word) ++ byte ∷ drop (at + 1) (string_bytes word)) here split.0 in
        subst (BeginsWith table (word ∷ rest)) number.2
        (spec.joined word (take at (string_bytes word)) (drop (at + 1) (string_bytes word)) taken.0 number.0 refl parts (names_it (take at (string_bytes word)) named.0 taken.0 split.2 named.1 taken.1) number.1 refl)

    by_equals_gives : (first : First) (at : Option ℕ) → position is_equals (string_bytes word) ≡ at → by_equals table (string_bytes word) rest at ≡ Some first → BeginsWith table (word ∷ rest) first
    by_equals_gives first None place is = apart_gives first (none_there is_equals (string_bytes word) place) is
    by_equals_gives first (Some at) place is = joined_gives first at place is

  -- What the reader finds is given.
  pub is_begun : (words : List (String Global)) (first : First) → first_of table words ≡ Some first → BeginsWith table words first
  is_begun [] first is = cc
  is_begun (word ∷ rest) first is = by_equals_gives word rest first (position is_equals (string_bytes word)) refl is

  -- What words begin with is what the reader finds.
  pub record IsRead (given : Given) (words rest : List (String Global)) : Type 0 where
    pub taken : ℕ
    pub found : first_of table words ≡ Some (record { given = given; words = taken })
    pub rest_is : rest ≡ drop taken words

  plain_word : (word : String Global) (rest : List (String Global)) → list_any is_equals (string_bytes word) ≡ false → first_of table (word ∷ rest) ≡ apart table (string_bytes word) rest
  plain_word word rest plain = ap (by_equals table (string_bytes word) rest) (no_place is_equals (string_bytes word) plain)

  apart_is : (word : List ℕ) (rest : List (String Global)) (option : ℕ) (takes : Takes) → Names table option takes word → apart table word rest ≡ alone_or_next takes option rest
  apart_is word rest option takes names =
      ap (option_and_then (λ option. option_and_then (λ takes. alone_or_next takes option rest) (takes_at table option))) names.place
      ∙ ap (option_and_then (λ takes. alone_or_next takes option rest)) (takes_it word option takes names)

  next_is : (takes : Takes) (option : ℕ) (next : String Global) (rest : List (String Global)) (number : ℕ) → number_in takes (string_bytes next) ≡ Some number → alone_or_next takes option (next ∷ rest) ≡ Some (numbered option 2 number)
  next_is Nothing option next rest number is = cc
  next_is (Number least most) option next rest number is = ap (option_map (numbered option 2)) is

  pub joined_known : (word : List ℕ) (at option : ℕ) (takes : Takes) → option_named table (take at word) ≡ Some option → takes_at table option ≡ Some takes → joined table word at ≡ with_number takes option (drop (at + 1) word) 1
  joined_known word at option takes place taken =
      ap (option_and_then (λ option. option_and_then (λ takes. with_number takes option (drop (at + 1) word) 1) (takes_at table option))) place
      ∙ ap (option_and_then (λ takes. with_number takes option (drop (at + 1) word) 1)) taken

  joined_is : (name digits : List ℕ) (option : ℕ) (takes : Takes) → Names table option takes name → joined table (name ++ 61 ∷ digits) (length name) ≡ with_number takes option digits 1
  joined_is name digits option takes names =
      let front : take (length name) (name ++ 61 ∷ digits) ≡ name = take-append_seam name (61 ∷ digits) in
      let behind : drop (length name + 1) (name ++ 61 ∷ digits) ≡ digits = drop-append-add name (61 ∷ digits) 1 in
      joined_known (name ++ 61 ∷ digits) (length name) option takes (ap (option_named table) front ∙ names.place) (takes_it name option takes names)
      ∙ ap (λ d. with_number takes option d 1) behind

  joined_word : (name digits : List ℕ) (rest : List (String Global)) → list_any is_equals name ≡ false → by_equals table (name ++ 61 ∷ digits) rest (position is_equals (name ++ 61 ∷ digits)) ≡ joined table (name ++ 61 ∷ digits) (length name)
  joined_word name digits rest plain = ap (by_equals table (name ++ 61 ∷ digits) rest) (place_behind is_equals name digits 61 plain refl)

  first_with : Given → ℕ → Option ℕ → Option First
  first_with given words number = Some (record { given = record { option = given.option; number = number }; words = words })

  -- What words begin with is found.
  pub read : (given : Given) (words rest : List (String Global)) → GivesFirst table given words rest → IsRead given words rest
  unfolding first_with
  read given words rest (switch word are names bare) =
      let found : first_of table (word ∷ rest) ≡ Some (record { given = given; words = 1 }) = plain_word word rest names.plain ∙ apart_is (string_bytes word) rest given.option Nothing names ∙ ap (first_with given 1) (sym bare) in
      subst (λ all. IsRead given all rest) (sym are) (record { taken = 1; found = found; rest_is = refl })
  read given words rest (spec.joined word name digits takes number are parts names is number_is) =
      let found : first_of table (word ∷ rest) ≡ Some (record { given = given; words = 1 }) =
      ap (λ w. by_equals table w rest (position is_equals w)) parts ∙ joined_word name digits rest names.plain ∙ joined_is name digits given.option takes names
      ∙ ap (option_map (numbered given.option 1)) is ∙ ap (first_with given 1) (sym number_is) in
      subst (λ all. IsRead given all rest) (sym are) (record { taken = 1; found = found; rest_is = refl })
  read given words rest (spec.apart word next takes number are names is number_is) =
      let found : first_of table (word ∷ next ∷ rest) ≡ Some (record { given = given; words = 2 }) =
      plain_word word (next ∷ rest) names.plain ∙ apart_is (string_bytes word) (next ∷ rest) given.option takes names ∙ next_is takes given.option next rest number is ∙ ap (first_with given 2) (sym number_is) in
      subst (λ all. IsRead given all rest) (sym are) (record { taken = 2; found = found; rest_is = refl })
