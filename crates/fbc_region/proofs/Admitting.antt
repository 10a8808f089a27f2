-- Who may come, and by which name.
use Rattle.std.proofs.Common.{◌≡◌, ◌≢◌, ◌↔◌, ◌∙◌, ap, ℕ, Bool, IsTrue, true, false, ◌==◌, ◌||◌, List, [], ◌∷◌, sym, refl, arith}
use Rattle.std.specs.List.{list_any}
use Rattle.std.proofs.lemmas.Bool.Decides.{nat_tests}
use Rattle.fbc_legal.specs.Guards.{GuardOfEnter}
use Rattle.fbc_legal.specs.Lives.{living, name_of}
use Rattle.fbc_owner_queues.specs.Living.{has}
use Rattle.fbc_world.proofs.WorldLaws.{IsReplayed-world}
use Rattle.fbc_world.specs.History.{History, Recording, recorded}
use Rattle.fbc_world.specs.Owners.{is_alive}
use Rattle.fbc_world.specs.PageCell.{blank_file}
use Rattle.fbc_region.specs.Conditions.{MayCome}
use Rattle.fbc_region.specs.Stepping.{recorded_scene}
use Rattle.fbc_region.proofs.Living.{has_living}

-- Where none of these has the name, an owner among them has another.
unnamed : (names : ℕ → ℕ) (name : ℕ) (owners : List ℕ) → list_any (λ o. names o == name) owners ≡ false → (other : ℕ) → has owners other ≡ true → names other ≢ name
unnamed names name [] none other there same = absurd cc
unnamed names name (o ∷ owners) none other there same = go (o == other) refl there (λ there'. unnamed names name owners (rest (names o == name) none) other there' same) where
  rest : (b : Bool) → b || list_any (λ o. names o == name) owners ≡ false → list_any (λ o. names o == name) owners ≡ false
  rest true is = absurd cc
  rest false is = is

  go : (b : Bool) → o == other ≡ b → b || has owners other ≡ true → (has owners other ≡ true → ⊥) → ⊥
  go true is there' later = let one : o ≡ other = grind (arith, nat_tests, is) in grind (arith, nat_tests, none, same, ap names one)
  go false is there' later = later there'

-- Where each owner among them has another name, none of them has it.
all_named : (names : ℕ → ℕ) (name : ℕ) (owners : List ℕ) → ((other : ℕ) → has owners other ≡ true → names other ≢ name) → list_any (λ o. names o == name) owners ≡ false
all_named names name [] others = refl
all_named names name (o ∷ owners) others = go (names o == name) refl (all_named names name owners (λ other there. others other (later other (o == other) there))) where
  later : (other : ℕ) (b : Bool) → has owners other ≡ true → b || has owners other ≡ true
  later other true there = refl
  later other false there = there

  go : (b : Bool) → names o == name ≡ b → list_any (λ o. names o == name) owners ≡ false → b || list_any (λ o. names o == name) owners ≡ false
  go true is none = absurd (others o (grind (arith, nat_tests)) (grind (arith, nat_tests, is)))
  go false is none = none

module _ (journal : Recording) (who name : ℕ) where
  abbrev h : History
  h = recorded journal

  lives : (other : ℕ) → (recorded_scene journal).world.is_alive other ≡ is_alive h other
  lives other = (IsReplayed-world journal.shape blank_file h).alive_is other

  pub guard_of : MayCome h who name → GuardOfEnter (recorded_scene journal) who name
  guard_of may = record {
    next = may.next;
    few = may.within;
    room = may.few;
    name_from = may.name_from;
    name_to = may.name_to;
    fresh = λ other alive. unnamed (name_of h) name (living h) may.fresh other (has_living h other ∙ sym (lives other) ∙ alive);
  }

  of_guard : GuardOfEnter (recorded_scene journal) who name → MayCome h who name
  of_guard guard = record {
    next = guard.next;
    within = guard.few;
    few = guard.room;
    name_from = guard.name_from;
    name_to = guard.name_to;
    fresh = all_named (name_of h) name (living h) (λ other there. guard.fresh other (lives other ∙ sym (has_living h other) ∙ there));
  }

-- The test of a coming owner.
pub admits : (journal : Recording) (who name : ℕ) (may : Bool) → IsTrue may ↔ MayCome (recorded journal) who name → IsTrue may ↔ GuardOfEnter (recorded_scene journal) who name
admits journal who name may iff = ((λ t. guard_of journal who name (iff.0 t)), (λ guard. iff.1 (of_guard journal who name guard)))
