-- The list of the living owners is of those that are alive.
use Rattle.std.proofs.Common.{◌≡◌, ◌∙◌, ℕ, ◌+◌, ◌≤◌, Bool, true, false, not, ◌==◌, ◌&&◌, ◌||◌, cond, if◌then◌else◌, List, [], ◌∷◌, length, refl, arith}
use Rattle.std.proofs.lemmas.Bool.Decides.{nat_tests}
use Rattle.std.proofs.lemmas.List.Folds.{list_any-append}
use Rattle.fbc_world.specs.declared.events.Act.{Act}
use Rattle.fbc_world.specs.declared.events.Act.TheVariants.{Die, Enter, Leave, Write}
use Rattle.fbc_world.specs.History.{History}
use Rattle.fbc_world.specs.Owners.{alive_step, is_alive}
use Rattle.fbc_owner_queues.specs.Living.{has}
use Rattle.fbc_legal.specs.Lives.{all_but, living, living_step}

pub has_all_but : (gone other : ℕ) (owners : List ℕ) → has (all_but gone owners) other ≡ (not (gone == other) && has owners other)
has_all_but gone other [] = grind (arith)
has_all_but gone other (o ∷ owners) = go (o == gone) refl (has_all_but gone other owners) where
  go : (b : Bool) → o == gone ≡ b → has (all_but gone owners) other ≡ (not (gone == other) && has owners other)
      → has (cond (not b) (o ∷ all_but gone owners) (all_but gone owners)) other ≡ (not (gone == other) && ((o == other) || has owners other))
  go true is rest = grind (arith, nat_tests, is, rest)
  go false is rest = grind (arith, nat_tests, is, rest)

has_step : (owners : List ℕ) (owner : ℕ) (act : Act) (other : ℕ) (alive : Bool) → has owners other ≡ alive
    → has (living_step owners owner act) other ≡ (if owner == other then alive_step alive act else alive)
has_step owners owner (Enter buffers name) other alive is = list_any-append (λ o. o == other) owners (owner ∷ []) ∙ grind (arith, nat_tests, is)
has_step owners owner Leave other alive is = has_all_but owner other owners ∙ grind (arith, nat_tests, is)
has_step owners owner Die other alive is = has_all_but owner other owners ∙ grind (arith, nat_tests, is)
has_step owners owner (Write page cause true) other alive is = has_all_but owner other owners ∙ grind (arith, nat_tests, is)
has_step owners owner (Write page cause false) other alive is = grind (arith, is)
has_step owners owner _ other alive is = grind (arith, is)

pub has_living : (history : History) (owner : ℕ) → has (living history) owner ≡ is_alive history owner
has_living [] owner = refl
has_living (moment ∷ before) owner = has_step (living before) moment.event.actor moment.event.act owner (is_alive before owner) (has_living before owner)

nobody : (owners : List ℕ) → ((owner : ℕ) → has owners owner ≡ false) → owners ≡ []
nobody [] none = refl
nobody (o ∷ owners) none = absurd (let there : (o == o) || has owners o ≡ false = none o in grind (arith, nat_tests, there))

-- Where nobody is alive, nobody is in the list.
pub none_living : (history : History) → ((owner : ℕ) → is_alive history owner ≡ false) → living history ≡ []
none_living history none = nobody (living history) (λ owner. has_living history owner ∙ none owner)

-- Without one there are no more, and fewer where it was among them.
pub fewer_all_but : (gone : ℕ) (owners : List ℕ) → length (all_but gone owners) ≤ length owners
fewer_all_but gone [] = omega arith
fewer_all_but gone (o ∷ owners) = go (o == gone) (fewer_all_but gone owners) where
  go : (b : Bool) → length (all_but gone owners) ≤ length owners → length (cond (not b) (o ∷ all_but gone owners) (all_but gone owners)) ≤ length (o ∷ owners)
  go true rest = omega (arith, rest)
  go false rest = omega (arith, rest)

pub less_all_but : (gone : ℕ) (owners : List ℕ) → has owners gone ≡ true → length (all_but gone owners) + 1 ≤ length owners
less_all_but gone [] there = absurd cc
less_all_but gone (o ∷ owners) there = go (o == gone) there (fewer_all_but gone owners) (less_all_but gone owners) where
  go : (b : Bool) → b || has owners gone ≡ true → length (all_but gone owners) ≤ length owners → (has owners gone ≡ true → length (all_but gone owners) + 1 ≤ length owners)
      → length (cond (not b) (o ∷ all_but gone owners) (all_but gone owners)) + 1 ≤ length (o ∷ owners)
  go true there' few rest = omega (arith, few)
  go false there' few rest = omega (arith, rest there')
