-- Options read one after another: those so far, and those that are left.
use Rattle.std.proofs.Common.{◌≡◌, ◌<◌, ◌≤◌, ◌+◌, ◌∙◌, ℕ, true, false, List, [], ◌∷◌, ◌++◌, length, drop, Some, None, append_assoc, append-nil, drop-drop, length-drop, ap, sym, subst, refl, arith}
use Rattle.std.specs.Prelude.{nat_eq}
use Rattle.std.specs.List.{IsDistinct, AllByRecursion, list_any}
use Rattle.std.specs.Global.{Global}
use Rattle.std.specs.declared.string.String.{String}
use Rattle.std.proofs.lemmas.Bool.Decides.{nat_tests}
use Rattle.std.proofs.lemmas.Cmp.{nat_eq_equiv}
use Rattle.std.proofs.lemmas.List.{drop_all}
use Rattle.std.proofs.lemmas.Map.Keys.{IsDistinct-head, IsDistinct-tail, IsDistinct-push}
use Rattle.fbc_command_line.specs.declared.options.First.{First}
use Rattle.fbc_command_line.specs.declared.options.Given.{Given}
use Rattle.fbc_command_line.specs.declared.options.OptionRule.{OptionRule}
use Rattle.fbc_command_line.specs.OptionReading.{first_of}
use Rattle.fbc_command_line.specs.Options.{GiveEach, GiveOptions, is_given, options_in}
use Rattle.fbc_command_line.proofs.OptionLemmas.{is_begun, read}

-- The options that come after those so far, where all words give these.
pub record AreRest (table : List OptionRule) (rest : List (String Global)) (so_far all : List Given) : Type 0 where
  pub later : List Given
  pub joined : all ≡ so_far ++ later
  pub each : GiveEach table later rest

-- The words before a place gave these options.
pub record IsReadSoFar (table : List OptionRule) (words : List (String Global)) (at : ℕ) (so_far : List Given) : Type 0 where
  pub within : at ≤ length words
  pub whole : (later : List Given) → GiveEach table later (drop at words) → GiveEach table (so_far ++ later) words
  pub only : (all : List Given) → GiveEach table all words → AreRest table (drop at words) so_far all
  pub once : IsDistinct nat_eq (options_in so_far)

all_at : (P : ℕ → Type 0) (so_far later : List Given) (one : Given) → AllByRecursion P (options_in (so_far ++ one ∷ later)) → P one.option
all_at P [] later one all = all.0
all_at P (first ∷ so_far) later one all = all_at P so_far later one all.1

-- An option that is given already is not given again.
twice : (so_far later : List Given) (one : Given) → is_given so_far one.option ≡ true → IsDistinct nat_eq (options_in (so_far ++ one ∷ later)) → ⊥
twice [] later one given once = cc
twice (first ∷ so_far) later one given once =
    let apart : nat_eq first.option one.option ≡ false =
    all_at (λ option. nat_eq first.option option ≡ false) so_far later one (IsDistinct-head nat_eq first.option (options_in (so_far ++ one ∷ later)) once) in
    twice so_far later one (grind (arith, nat_tests)) (IsDistinct-tail nat_eq first.option (options_in (so_far ++ one ∷ later)) once)

any_option : (so_far : List Given) (option : ℕ) → is_given so_far option ≡ false → list_any (nat_eq option) (options_in so_far) ≡ false
any_option [] option none = refl
any_option (first ∷ so_far) option none = grind (arith, nat_tests, any_option so_far option)

options_pushed : (so_far : List Given) (one : Given) → options_in (so_far ++ one ∷ []) ≡ options_in so_far ++ one.option ∷ []
options_pushed [] one = refl
options_pushed (first ∷ so_far) one = ap (λ options. first.option ∷ options) (options_pushed so_far one)

module _ (table : List OptionRule) (words : List (String Global)) where
  pub nothing_read : IsReadSoFar table words 0 []
  unfolding IsDistinct
  nothing_read = record {
    within = omega arith;
    whole = λ later each. each;
    only = λ all each. record { later = all; joined = refl; each = each };
    once = tt;
  }

  -- Nothing is left: these are the options that the words give.
  pub all_read : (at : ℕ) (given : List Given) → IsReadSoFar table words at given → length words ≤ at → GiveOptions table words given
  all_read at given so_far over = record {
    each = subst (λ all. GiveEach table all words) (append-nil given) (so_far.whole [] (drop_all at words over));
    once = so_far.once;
  }

  -- The option that comes next, where words give these options.
  record IsNext (at : ℕ) (so_far all : List Given) : Type 0 where
    pub one : Given
    pub later : List Given
    pub taken : ℕ
    pub all_are : all ≡ so_far ++ one ∷ later
    pub found : first_of table (drop at words) ≡ Some (record { given = one; words = taken })
    pub each : GiveEach table later (drop taken (drop at words))

  module _ (at : ℕ) (so_far : List Given) (is : IsReadSoFar table words at so_far) (more : at < length words) where
    next_in : (all later : List Given) → all ≡ so_far ++ later → GiveEach table later (drop at words) → IsNext at so_far all
    next_in all [] are each = let none : drop at words ≡ [] = each in absurd (omega (arith, ap length none, length-drop at words))
    next_in all (one ∷ later) are each =
        let found = read table one (drop at words) each.0 each.1 in
        record { one = one; later = later; taken = found.taken; all_are = are; found = found.found; each = subst (GiveEach table later) found.rest_is each.2 }

    next_of : (all : List Given) → GiveEach table all words → IsNext at so_far all
    next_of all each = let rest = is.only all each in next_in all rest.later rest.joined rest.each

    pub none_next : first_of table (drop at words) ≡ None → (all : List Given) → GiveOptions table words all → ⊥
    none_next none all gives = let next = next_of all gives.each in let found = next.found in let no : ⊥ = cc in no

    module _ (first : First) (found : first_of table (drop at words) ≡ Some first) where
      first_is : (all : List Given) (next : IsNext at so_far all) → record { given = next.one; words = next.taken } ≡ first
      first_is all next = let same = next.found in cc

      pub twice_next : is_given so_far first.given.option ≡ true → (all : List Given) → GiveOptions table words all → ⊥
      twice_next given all gives =
          let next = next_of all gives.each in
          twice so_far next.later next.one (subst (λ (f : First). is_given so_far f.given.option ≡ true) (sym (first_is all next)) given)
          (subst (λ gs. IsDistinct nat_eq (options_in gs)) next.all_are gives.once)

      rest_after : drop first.words (drop at words) ≡ drop (at + first.words) words
      rest_after = drop-drop first.words at words

      whole_after : (later : List Given) → GiveEach table later (drop (at + first.words) words) → GiveEach table ((so_far ++ first.given ∷ []) ++ later) words
      whole_after later each =
          subst (λ all. GiveEach table all words) (sym (append_assoc so_far (first.given ∷ []) later))
          (is.whole (first.given ∷ later) (drop first.words (drop at words), is_begun table (drop at words) first found, subst (GiveEach table later) (sym rest_after) each))

      only_after : (all : List Given) → GiveEach table all words → AreRest table (drop (at + first.words) words) (so_far ++ first.given ∷ []) all
      only_after all each =
          let next = next_of all each in
          let same : record { given = next.one; words = next.taken } ≡ first = first_is all next in
          record {
            later = next.later;
            joined = next.all_are ∙ ap (λ (f : First). so_far ++ f.given ∷ next.later) same ∙ sym (append_assoc so_far (first.given ∷ []) next.later);
            each = subst (GiveEach table next.later) (ap (λ (f : First). drop f.words (drop at words)) same ∙ rest_after) next.each;
          }

      pub one_more : is_given so_far first.given.option ≡ false → first.words ≤ length (drop at words) → IsReadSoFar table words (at + first.words) (so_far ++ first.given ∷ [])
      one_more fresh within = record {
        within = omega (arith, length-drop at words, is.within);
        whole = whole_after;
        only = only_after;
        once = subst (IsDistinct nat_eq) (sym (options_pushed so_far first.given)) (IsDistinct-push nat_eq_equiv (options_in so_far) first.given.option is.once (any_option so_far first.given.option fresh));
      }
