use Rattle.std.proofs.Common.{◌≡◌, ◌<◌, ◌≤◌, ◌==◌, ℕ, Bool, true, false, List, [], length, get_or, Some, refl, sym, ap, ◌∙◌, inl, inr, arith}
use Rattle.std.specs.Prelude.{None, Option, not, nat_lt, if◌then◌else◌, ◌||◌, slice_get}
use Rattle.std.proofs.lemmas.Bool.{cases_lt}
use Rattle.std.proofs.lemmas.Bool.Decides.{nat_tests}
use Rattle.fbc_kinds.specs.declared.rules.Rule.TheVariants as rule
use Rattle.fbc_kinds.specs.declared.shapes.Shape.{Shape}
use Rattle.fbc_kinds.specs.Head.{or_else, broken_head}
use Rattle.fbc_kinds.specs.Limits.{IsPageSize, is_page_size}
use Rattle.fbc_kinds.specs.HeaderSpelling.{IsFileShape, ShowsShape, entry_at, name_in, value_length_in, page_size_in, relation_count_in, broken_counts, broken_relations, broken_end, broken_content, broken_front, broken_length, broken_beginning, broken_file, as_recognised, has_mark, version_in}
use Rattle.fbc_kinds.proofs.HeaderRules.{both_unbroken, RelationsPass, relations_pass, IsFairEntry-used, length-name_in}
use Rattle.fbc_kinds.proofs.HeaderReading.{CountsPass, counts_pass, unused_entry, earlier_differs}
use Rattle.fbc_kinds.proofs.Tests.{same_from_test}

-- The content of a header that breaks no rule.
pub record ContentPasses (size : ℕ) (first : List ℕ) : Type 0 where
  pub counts : CountsPass size first
  pub relations : RelationsPass first

pub content_passes : (size : ℕ) (first : List ℕ) → broken_content size first ≡ None → ContentPasses size first
content_passes size first unbroken =
    let parts = both_unbroken (broken_counts size first) (or_else (broken_relations first) (broken_end first)) unbroken in
    let later = both_unbroken (broken_relations first) (broken_end first) parts.1 in
    record { counts = counts_pass size first parts.0; relations = relations_pass first later.0 }

-- The name and the value length of an unused entry.
pub unused_name : (first : List ℕ) (i : ℕ) → ((k : ℕ) → get_or first k 0 < 256) → 336 ≤ length first → RelationsPass first → i < 8 → relation_count_in first ≤ i → name_in (entry_at first i) ≡ []
unused_name first i small long pass below past = ap name_in (unused_entry first i small long pass below past)

pub unused_value : (first : List ℕ) (i : ℕ) → ((k : ℕ) → get_or first k 0 < 256) → 336 ≤ length first → RelationsPass first → i < 8 → relation_count_in first ≤ i → value_length_in (entry_at first i) ≡ 0
unused_value first i small long pass below past = ap value_length_in (unused_entry first i small long pass below past)

-- Each entry's name and value length are short.
pub name_is_short : (first : List ℕ) (i : ℕ) → ((k : ℕ) → get_or first k 0 < 256) → 336 ≤ length first → RelationsPass first → i < 8 → length (name_in (entry_at first i)) ≤ 15
name_is_short first i small long pass below =
    elim (cases_lt i (relation_count_in first)) [
      | inl in_use ↦ let fair = IsFairEntry-used first i long pass below in_use in omega (arith, length-name_in (entry_at first i) fair, fair.short)
      | inr past ↦ omega (arith, ap length (unused_name first i small long pass below past))
    ]

pub value_is_short : (first : List ℕ) (i : ℕ) → ((k : ℕ) → get_or first k 0 < 256) → 336 ≤ length first → RelationsPass first → i < 8 → value_length_in (entry_at first i) ≤ 200
value_is_short first i small long pass below =
    elim (cases_lt i (relation_count_in first)) [
      | inl in_use ↦ (IsFairEntry-used first i long pass below in_use).value_to
      | inr past ↦ omega (arith, unused_value first i small long pass below past)
    ]

-- Two things that one place holds are one.
same_some : {X : Type 0} (place : Option X) (a b : X) → place ≡ Some a → place ≡ Some b → a ≡ b
same_some place a b x y = let e : Some a ≡ Some b = sym x ∙ y in cc

-- Relations of one name are one.
one_name : (first : List ℕ) (i j : ℕ) → RelationsPass first → i < relation_count_in first → j < relation_count_in first → name_in (entry_at first i) ≡ name_in (entry_at first j) → i ≡ j
one_name first i j pass below below' same =
    elim (cases_lt i j) [
      | inl before ↦ absurd (earlier_differs first i j pass before below' same)
      | inr not_before ↦ elim (cases_lt j i) [
        | inl after ↦ absurd (earlier_differs first j i pass after below (sym same))
        | inr not_after ↦ omega arith
      ]
    ]

-- The shape that bytes without a broken rule show is within its limits.
pub IsFileShape-shown : (reach : ℕ) (first : List ℕ) (shape : Shape) → ((k : ℕ) → get_or first k 0 < 256) → 336 ≤ length first → IsPageSize (page_size_in first) → broken_content (page_size_in first) first ≡ None → ShowsShape first reach shape → IsFileShape shape
IsFileShape-shown reach first shape small long sized unbroken shows =
    let pass = content_passes (page_size_in first) first unbroken in
    let relations = pass.relations in
    let few : relation_count_in first ≤ 8 = pass.counts.relations_to in
    record {
      size = rw shows.size sized;
      count_from = omega (arith, shows.count, pass.counts.relations_from);
      count_to = omega (arith, shows.count, few);
      names = λ i name below at.
          let in_use : i < relation_count_in first = omega (arith, shows.count) in
          let here : i < 8 = omega arith in
          let is = same_some (slice_get shape.names i) name (name_in (entry_at first i)) at (shows.names i here) in
          rw is (IsFairEntry-used first i long relations here in_use).name;
      no_names = λ i below past.
          shows.names i below ∙ ap Some (unused_name first i small long relations below (omega (arith, shows.count)));
      own_names = λ i j name below below' at at'.
          let in_use : i < relation_count_in first = omega (arith, shows.count) in
          let in_use' : j < relation_count_in first = omega (arith, shows.count) in
          one_name first i j relations in_use in_use'
          (sym (same_some (slice_get shape.names i) name (name_in (entry_at first i)) at (shows.names i (omega arith)))
          ∙ same_some (slice_get shape.names j) name (name_in (entry_at first j)) at' (shows.names j (omega arith)));
      lengths = λ i n below at.
          let in_use : i < relation_count_in first = omega (arith, shows.count) in
          let here : i < 8 = omega arith in
          let is = same_some (slice_get shape.lengths i) n (value_length_in (entry_at first i)) at (shows.lengths i here) in
          let fair = IsFairEntry-used first i long relations here in_use in
          (omega (arith, is, fair.value_from), omega (arith, is, fair.value_to));
      no_lengths = λ i below past.
          shows.lengths i below ∙ ap Some (unused_value first i small long relations below (omega (arith, shows.count)));
      limit = rw (shows.limit, shows.size) (omega arith);
    }

-- The test of the five sizes.
five : (a b c d e : Bool) (size : ℕ) → (a || b || c || d || e) ≡ true → (a ≡ true → size ≡ 1024) → (b ≡ true → size ≡ 2048) → (c ≡ true → size ≡ 4096) → (d ≡ true → size ≡ 8192) → (e ≡ true → size ≡ 16384) → IsPageSize size
five true b c d e size passes f g h i j = inl (f refl)
five false true c d e size passes f g h i j = inr (inl (g refl))
five false false true d e size passes f g h i j = inr (inr (inl (h refl)))
five false false false true e size passes f g h i j = inr (inr (inr (inl (i refl))))
five false false false false true size passes f g h i j = inr (inr (inr (inr (j refl))))
five false false false false false size passes f g h i j = cc

-- A size that passes the test is one of the five.
pub sized_from_test : (size : ℕ) → is_page_size size ≡ true → IsPageSize size
sized_from_test size passes =
    five (size == 1024) (size == 2048) (size == 4096) (size == 8192) (size == 16384) size passes
    (λ e. same_from_test size 1024 e) (λ e. same_from_test size 2048 e) (λ e. same_from_test size 4096 e) (λ e. same_from_test size 8192 e) (λ e. same_from_test size 16384 e)

-- What the tests of a header's first part say where no rule is broken.
front_pass : (a b c : Bool) → (if not a then Some rule.Magic else if not b then Some rule.Size else if not c then Some rule.Version else None) ≡ None → b ≡ true
front_pass true true c unbroken = refl
front_pass true false c unbroken = cc
front_pass false b c unbroken = cc

-- The size of a header whose first part breaks no rule.
pub sized_from_front : (right_size : Bool) (bytes : List ℕ) → broken_front right_size bytes ≡ None → right_size ≡ true
sized_from_front right_size bytes unbroken = front_pass (has_mark bytes) right_size (version_in bytes == 1) unbroken

-- What the first bytes of a file say where no rule is broken.
pub record StartPasses (first : List ℕ) : Type 0 where
  pub size : IsPageSize (page_size_in first)
  pub content : broken_content (page_size_in first) first ≡ None

pub start_passes : (first : List ℕ) (bytes : ℕ) → broken_beginning first bytes ≡ None → StartPasses first
start_passes first bytes unbroken =
    let one = both_unbroken (as_recognised (broken_head 1 0 first)) (or_else (broken_front (is_page_size (page_size_in first)) first) (or_else (broken_length (page_size_in first) bytes) (broken_content (page_size_in first) first))) unbroken in
    let two = both_unbroken (broken_front (is_page_size (page_size_in first)) first) (or_else (broken_length (page_size_in first) bytes) (broken_content (page_size_in first) first)) one.1 in
    let three = both_unbroken (broken_length (page_size_in first) bytes) (broken_content (page_size_in first) first) two.1 in
    record {
      size = sized_from_test (page_size_in first) (sized_from_front (is_page_size (page_size_in first)) first two.0);
      content = three.1;
    }

-- A file that is not short breaks the rules of its first bytes.
pub broken_file-long : (first : List ℕ) (bytes : ℕ) → 1024 ≤ bytes → broken_file first bytes ≡ broken_beginning first bytes
broken_file-long first bytes long = let e : nat_lt bytes 1024 ≡ false = grind (arith, nat_tests) in rw e refl
