-- Where the search from an owner finds no path, no circle of waits goes through the owner.
use Rattle.std.proofs.Common.{◌≡◌, ℕ, ◌<◌, true, false, ◌==◌, List, [], ◌∷◌, length, Err}
use Rattle.fbc_levels.specs.LockState.{LockState}
use Rattle.fbc_levels.specs.Waits.{waits_for_number, WaitsForNumber, Leads}
use Rattle.fbc_owner_queues.specs.Living.{has, living_owners}
use Rattle.fbc_owner_queues.specs.Search.{leaving, searched}
use Rattle.fbc_owner_queues.proofs.Lists.{has-leaving_other}
use Rattle.fbc_owner_queues.proofs.Members.{waited_lives}
use Rattle.fbc_owner_queues.proofs.Shut.{searched_ends, no_way}

-- A path of waits ends at a living owner.
ends_living : (s : LockState) (first : ℕ) (rest : List ℕ) (last : ℕ) → Leads (WaitsForNumber s) first rest last → has (living_owners s) last ≡ true
ends_living s first [] last leads = waited_lives s first last leads
ends_living s first (next ∷ rest) last leads = ends_living s next rest last leads.1

-- No circle goes through an owner that has no living request.
pub none_outside : (s : LockState) (owner : ℕ) → has (living_owners s) owner ≡ false → (others : List ℕ) → Leads (WaitsForNumber s) owner others owner → ⊥
none_outside s owner outside others leads =
    let there = ends_living s owner others owner leads in
    absurd (cc)

pub no_circle : (s : LockState) (owners : List ℕ) (owner depth : ℕ) (free after : List ℕ) → owners ≡ living_owners s → free ≡ leaving owners owner → length free < depth → searched (waits_for_number s) owners owner depth owner free ≡ Err after → (others : List ℕ) → Leads (WaitsForNumber s) owner others owner → ⊥
no_circle s owners owner depth free after living rest deep vain others leads =
    let end = searched_ends (waits_for_number s) owners owner depth owner free after deep vain in
    no_way (waits_for_number s) owners owner free after end.0 inside others_free owner end.1 others leads where
      inside : (x y : ℕ) → waits_for_number s x y ≡ true → has owners y ≡ true
      inside x y waits = rw living (waited_lives s x y waits)

      others_free : (y : ℕ) → has owners y ≡ true → y == owner ≡ false → has free y ≡ true
      others_free y there other = rw rest (has-leaving_other owners owner y other there)
