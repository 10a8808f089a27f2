-- What headers go on to show when they grow.
use Rattle.std.proofs.Common.{◌≡◌, ℕ, Bool, true, false, nat_lt, if◌then◌else◌, is_some, List, Option, Some, None, refl, slice_get, arith}
use Rattle.std.specs.Option.{option_and_then, option_map_or}
use Rattle.std.proofs.lemmas.Bool.Decides.{nat_tests}
use Rattle.fbc_kinds.specs.declared.pages.Header.{Header}
use Rattle.fbc_kinds.specs.declared.pages.Page.{Page}
use Rattle.fbc_kinds.specs.declared.pages.Relation.{Relation}
use Rattle.fbc_kinds.specs.View.{header_in, inventory_page}
use Rattle.fbc_closed_cuts.specs.Growth.{GrowsInto, HasGrown, IsContinued}
use Rattle.fbc_numbers.proofs.CutFacts.{clash}
use Rattle.fbc_firm_facts.specs.HeaderFacts.{GrowsWithHeaders}
use Rattle.fbc_notes.specs.HeaderTests.{counts_inventory, has_given_out, is_number, names_pointer, names_tip}

-- A test of headers that holds on when they grow, and fails where there is none.
grows : (test : Option Header → Bool) → test None ≡ false → ((earlier later : Header) → HasGrown earlier later → test (Some earlier) ≡ true → test (Some later) ≡ true)
    → (earlier later : Option Page) → GrowsInto earlier later → test (header_in earlier) ≡ true → test (header_in later) ≡ true
grows test fails on earlier later grown is = go (header_in earlier) refl is where
  go : (o : Option Header) → header_in earlier ≡ o → test o ≡ true → test (header_in later) ≡ true
  go None stands passes = absurd (clash (test None) passes fails)
  go (Some header) stands passes = let found = grown header stands in rw found.is (on header found.later found.grown passes)

continued : (earlier later : List ℕ) → IsContinued earlier later → (place number : ℕ) → is_number (slice_get earlier place) number ≡ true → is_number (slice_get later place) number ≡ true
continued earlier later on place number is = go (slice_get earlier place) refl is where
  go : (o : Option ℕ) → slice_get earlier place ≡ o → is_number o number ≡ true → is_number (slice_get later place) number ≡ true
  go None stands passes = absurd cc
  go (Some page) stands passes = rw (on place page stands) passes

-- The pointer page that an entry names for a sequence.
abbrev pointer_at : ℕ → Option Relation → Option ℕ
pointer_at sequence entry = option_and_then (λ (r : Relation). slice_get r.pointers sequence) entry

pointed : (sequence pointer : ℕ) (earlier later : Header) (relation : ℕ) → HasGrown earlier later
    → is_number (pointer_at sequence (slice_get earlier.relations relation)) pointer ≡ true → is_number (pointer_at sequence (slice_get later.relations relation)) pointer ≡ true
pointed sequence pointer earlier later relation grown is = go (slice_get earlier.relations relation) refl is where
  go : (o : Option Relation) → slice_get earlier.relations relation ≡ o → is_number (pointer_at sequence o) pointer ≡ true → is_number (pointer_at sequence (slice_get later.relations relation)) pointer ≡ true
  go None stands passes = absurd cc
  go (Some entry) stands passes = let found = grown.relations relation entry stands in rw found.is (continued entry.pointers found.entry.pointers found.pointers sequence pointer passes)

-- The page inventory of a sequence, in a header.
abbrev counted : ℕ → Option Header → Option ℕ
counted sequence header = option_and_then (λ (h : Header). if nat_lt sequence h.inventories then Some (inventory_page h.size sequence) else None) header

still_counted : (sequence : ℕ) (earlier later : Header) → HasGrown earlier later → is_some (counted sequence (Some earlier)) ≡ true → is_some (counted sequence (Some later)) ≡ true
still_counted sequence earlier later grown is = go (nat_lt sequence earlier.inventories) refl is where
  go : (b : Bool) → nat_lt sequence earlier.inventories ≡ b → is_some (if b then Some (inventory_page earlier.size sequence) else None) ≡ true → is_some (counted sequence (Some later)) ≡ true
  go false below passes = absurd cc
  go true below passes =
      let more : nat_lt sequence later.inventories ≡ true = grind (arith, nat_tests, grown.inventories, below) in
      rw more refl

pub tips-grow : (sequence tip : ℕ) → GrowsWithHeaders (names_tip sequence tip)
tips-grow sequence tip earlier later grown is =
    grows (λ o. is_number (option_and_then (λ (h : Header). slice_get h.tips sequence) o) tip) refl
    (λ old new more passes. continued old.tips new.tips more.tips sequence tip passes) (earlier 0) (later 0) grown is

pub pointers-grow : (relation sequence pointer : ℕ) → GrowsWithHeaders (names_pointer relation sequence pointer)
pointers-grow relation sequence pointer earlier later grown is =
    grows (λ o. is_number (pointer_at sequence (option_and_then (λ (h : Header). slice_get h.relations relation) o)) pointer) refl
    (λ old new more passes. pointed sequence pointer old new relation more passes) (earlier 0) (later 0) grown is

pub inventories-grow : (sequence : ℕ) → GrowsWithHeaders (counts_inventory sequence)
inventories-grow sequence earlier later grown is =
    grows (λ o. is_some (counted sequence o)) refl (λ old new more passes. still_counted sequence old new more passes) (earlier 0) (later 0) grown is

pub numbers-grow : (number : ℕ) → GrowsWithHeaders (has_given_out number)
numbers-grow number earlier later grown is =
    grows (λ o. nat_lt number (option_map_or (λ (h : Header). h.next) o 0)) (grind (arith, nat_tests))
    (λ old new more passes. grind (arith, nat_tests, more.next, passes)) (earlier 0) (later 0) grown is
