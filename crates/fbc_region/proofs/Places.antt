-- The census of a history is that of the history with one event more, once it is kept up with the event.
use Rattle.std.proofs.Common.{◌≡◌, ◌∙◌, ap, ℕ, Bool, true, false, not, ◌==◌, ◌||◌, cond, if◌then◌else◌, List, [], ◌∷◌, ◌++◌, map, sym, refl, arith}
use Rattle.std.specs.List.{list_any}
use Rattle.std.proofs.lemmas.Bool.Decides.{nat_tests}
use Rattle.std.proofs.lemmas.List.{map-append}
use Rattle.fbc_legal.specs.Lives.{all_but, entered_step, living, living_step, name_of, name_step}
use Rattle.fbc_owner_queues.specs.Living.{has}
use Rattle.fbc_world.specs.declared.events.Act.{Act}
use Rattle.fbc_world.specs.declared.events.Act.TheVariants.{Die, Enter, Leave, Write}
use Rattle.fbc_world.specs.History.{History, happens}
use Rattle.fbc_world.specs.Owners.{is_alive}
use Rattle.fbc_region.specs.declared.census.Census.{Census}
use Rattle.fbc_region.specs.declared.census.Resident.{Resident}
use Rattle.fbc_region.specs.Census.{IsCensus, IsNew, resident, residents_step, without}
use Rattle.fbc_region.specs.Conditions.{has_name}
use Rattle.fbc_region.proofs.Living.{has_living}

-- An act by which nobody comes changes no name.
name_kept : (h : History) (actor : ℕ) (act : Act) → ((name : ℕ) → name_step name act ≡ name) → (owner : ℕ) → name_of (happens actor act false ∷ h) owner ≡ name_of h owner
name_kept h actor act same owner = go (actor == owner) where
  go : (b : Bool) → (if b then name_step (name_of h owner) act else name_of h owner) ≡ name_of h owner
  go true = same (name_of h owner)
  go false = refl

places_kept : (h : History) (actor : ℕ) (act : Act) → ((name : ℕ) → name_step name act ≡ name) → (owners : List ℕ) → map (resident (happens actor act false ∷ h)) owners ≡ map (resident h) owners
places_kept h actor act same [] = refl
places_kept h actor act same (owner ∷ owners) = λ i. record { owner = owner; name = name_kept h actor act same owner i } ∷ places_kept h actor act same owners i

-- Who comes changes no name but its own.
name_of_other : (h : History) (actor buffers name owner : ℕ) → owner == actor ≡ false → name_of (happens actor (Enter buffers name) false ∷ h) owner ≡ name_of h owner
name_of_other h actor buffers name owner other = grind (arith, nat_tests, other)

places_of_others : (h : History) (actor buffers name : ℕ) (owners : List ℕ) → has owners actor ≡ false
    → map (resident (happens actor (Enter buffers name) false ∷ h)) owners ≡ map (resident h) owners
places_of_others h actor buffers name [] absent = refl
places_of_others h actor buffers name (owner ∷ owners) absent = go (owner == actor) refl absent (places_of_others h actor buffers name owners) where
  go : (b : Bool) → owner == actor ≡ b → b || has owners actor ≡ false
      → (has owners actor ≡ false → map (resident (happens actor (Enter buffers name) false ∷ h)) owners ≡ map (resident h) owners)
      → map (resident (happens actor (Enter buffers name) false ∷ h)) (owner ∷ owners) ≡ map (resident h) (owner ∷ owners)
  go true is none rest = absurd cc
  go false is none rest = λ i. record { owner = owner; name = name_of_other h actor buffers name owner is i } ∷ rest none i

new_name : (h : History) (actor buffers name : ℕ) → name_of (happens actor (Enter buffers name) false ∷ h) actor ≡ name
new_name h actor buffers name = grind (arith, nat_tests)

-- The places without one owner are those of the others.
without_map : (h : History) (gone : ℕ) (owners : List ℕ) → without gone (map (resident h) owners) ≡ map (resident h) (all_but gone owners)
without_map h gone [] = refl
without_map h gone (owner ∷ owners) = go (owner == gone) (without_map h gone owners) where
  go : (b : Bool) → without gone (map (resident h) owners) ≡ map (resident h) (all_but gone owners)
      → cond (not b) (resident h owner ∷ without gone (map (resident h) owners)) (without gone (map (resident h) owners))
      ≡ map (resident h) (cond (not b) (owner ∷ all_but gone owners) (all_but gone owners))
  go true rest = rest
  go false rest = ap (λ rs. resident h owner ∷ rs) rest

places_next : (h : History) (owner : ℕ) (act : Act) → IsNew h owner act
    → residents_step (map (resident h) (living h)) owner act ≡ map (resident (happens owner act false ∷ h)) (living_step (living h) owner act)
places_next h owner (Enter buffers name) new =
    (λ i. sym (places_of_others h owner buffers name (living h) (has_living h owner ∙ new)) i ++ record { owner = owner; name = sym (new_name h owner buffers name) i } ∷ [])
    ∙ sym (map-append (resident (happens owner (Enter buffers name) false ∷ h)) (living h) (owner ∷ []))
places_next h owner Leave new = without_map h owner (living h) ∙ sym (places_kept h owner Leave (λ n. refl) (all_but owner (living h)))
places_next h owner Die new = without_map h owner (living h) ∙ sym (places_kept h owner Die (λ n. refl) (all_but owner (living h)))
places_next h owner (Write page cause true) new = without_map h owner (living h) ∙ sym (places_kept h owner (Write page cause true) (λ n. refl) (all_but owner (living h)))
places_next h owner (Write page cause false) new = sym (places_kept h owner (Write page cause false) (λ n. refl) (living h))
places_next h owner act new = sym (places_kept h owner act (λ n. refl) (living h))

pub census_next : (h : History) (old new : Census) (owner : ℕ) (act : Act) → IsCensus h old → IsNew h owner act → new.owners ≡ entered_step old.owners act
    → new.residents.items ≡ residents_step old.residents.items owner act → IsCensus (happens owner act false ∷ h) new
census_next h old new owner act k comes counted placed = record {
  count = counted ∙ ap (λ n. entered_step n act) k.count;
  places = placed ∙ ap (λ rs. residents_step rs owner act) k.places ∙ places_next h owner act comes;
}

-- What a census tells of its history.
any_place : (h : History) (test : Resident → Bool) (owners : List ℕ) → list_any test (map (resident h) owners) ≡ list_any (λ owner. test (resident h owner)) owners
any_place h test [] = refl
any_place h test (owner ∷ owners) = ap (λ b. test (resident h owner) || b) (any_place h test owners)

module _ (h : History) (census : Census) (k : IsCensus h census) where
  pub has_place_of : (owner : ℕ) → list_any (λ (r : Resident). r.owner == owner) census.residents.items ≡ is_alive h owner
  has_place_of owner = ap (list_any (λ (r : Resident). r.owner == owner)) k.places ∙ any_place h (λ r. r.owner == owner) (living h) ∙ has_living h owner

  pub has_name_in : (name : ℕ) → list_any (λ (r : Resident). r.name == name) census.residents.items ≡ has_name h name
  has_name_in name = ap (list_any (λ (r : Resident). r.name == name)) k.places ∙ any_place h (λ r. r.name == name) (living h)
