-- What an owner did in its own cache, recorded event by event.
use Rattle.std.proofs.Common.{◌≡◌, ◌∙◌, ap, ℕ, zero, suc, ◌+◌, ◌-◌, ◌≤◌, ◌<◌, List, [], ◌∷◌, ◌++◌, take, length, get_or, add-one, append_assoc, sym, subst, refl, arith}
use Rattle.std.proofs.lemmas.List.{map-append}
use Rattle.fbc_world.specs.declared.events.Act.TheVariants.{Local}
use Rattle.fbc_world.specs.declared.events.LocalEvent.{LocalEvent}
use Rattle.fbc_world.specs.History.{Recording}
use Rattle.fbc_region.specs.Adding.{Adds, UsesRoom, by, local_events}
use Rattle.fbc_region.specs.Shared.{HasRoom}

take_one : {X : Type 0} (xs : List X) (k : ℕ) (d : X) → k < length xs → take (suc k) xs ≡ take k xs ++ get_or xs k d ∷ []
take_one [] k d within = absurd (omega (arith, within))
take_one (x ∷ xs) zero d within = refl
take_one (x ∷ xs) (suc k) d within = ap (λ ys. x ∷ ys) (take_one xs k d (omega (arith, within)))

pub one_more : (first now after : Recording) (owner : ℕ) (events : List LocalEvent) (k : ℕ) (event : LocalEvent) → k < length events → event ≡ get_or events k event
    → Adds first now (local_events owner (take k events)) → Adds now after (by owner (Local event) ∷ []) → Adds first after (local_events owner (take (k + 1) events))
one_more first now after owner events k event within is so_far adds = record {
  longer =
      adds.longer ∙ ap (λ es. es ++ by owner (Local event) ∷ []) so_far.longer ∙ append_assoc first.events (local_events owner (take k events)) (by owner (Local event) ∷ [])
      ∙ ap (λ es. first.events ++ es) (sym (ap (local_events owner) taken ∙ map-append (λ (e : LocalEvent). by owner (Local e)) (take k events) (event ∷ [])));
  shape = adds.shape ∙ so_far.shape;
} where
  taken : take (k + 1) events ≡ take k events ++ event ∷ []
  taken = ap (λ n. take n events) (add-one k) ∙ take_one events k event within ∙ ap (λ e. take k events ++ e ∷ []) (sym is)

pub room_more : (first now after : Recording) (k count : ℕ) → k < count → ((n : ℕ) → HasRoom first (count + n) → HasRoom now ((count - k) + n)) → UsesRoom now after 1
    → (n : ℕ) → HasRoom first (count + n) → HasRoom after ((count - (k + 1)) + n)
room_more first now after k count within so_far one n room =
    let split : (count - k) + n ≡ 1 + ((count - (k + 1)) + n) = omega (arith, within) in
    one ((count - (k + 1)) + n) (subst (HasRoom now) split (so_far n room))

pub room_done : (first now : Recording) (k count : ℕ) → count ≤ k → ((n : ℕ) → HasRoom first (count + n) → HasRoom now ((count - k) + n)) → UsesRoom first now count
room_done first now k count done so_far n room =
    let none : (count - k) + n ≡ n = omega (arith, done) in
    subst (HasRoom now) none (so_far n room)
