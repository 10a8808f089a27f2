-- What a region keeps as it opens a file.
use Rattle.std.proofs.Common.{◌≡◌, ◌∙◌, ap, ℕ, ◌≤◌, false, [], ◌∷◌, ◌++◌, length, sym, arith}
use Rattle.std.proofs.lemmas.Bool.{both_ways}
use Rattle.fbc_levels.specs.LockState.{LockState}
use Rattle.fbc_legal.specs.Lives.{entered, living}
use Rattle.fbc_world.specs.declared.events.Act.TheVariants.{Opened}
use Rattle.fbc_world.specs.History.{Recording, recorded}
use Rattle.fbc_world.specs.Locks.{locks_of}
use Rattle.fbc_world.specs.Owners.{is_alive}
use Rattle.fbc_region.specs.Kept.{IsKept}
use Rattle.fbc_region.proofs.Living.{none_living}
use Rattle.fbc_region.proofs.Pushed.{recorded_push}

pub opened_kept : (before after : Recording) (locks : ℕ) (table : LockState) → ((owner : ℕ) → is_alive (recorded before) owner ≡ false)
    → after.events ≡ before.events ++ record { actor = 0; act = Opened locks } ∷ [] → table ≡ record { capacity = locks; requests = [] }
    → entered (recorded before) ≤ 65536 → IsKept after table
opened_kept before after locks table none is empty within =
    let whole = recorded_push before after (record { actor = 0; act = Opened locks }) is in
    let none_after : (owner : ℕ) → is_alive (record { event = record { actor = 0; act = Opened locks }; landed = false } ∷ recorded before) owner ≡ false = λ owner. grind (arith, none owner) in
    let few : length (living (recorded after)) ≡ 0 = ap (λ h. length (living h)) whole ∙ ap length (none_living (recorded before) none) in
    record {
      requests = empty ∙ sym (ap locks_of whole);
      within = omega (arith, ap entered whole, within);
      few = omega (arith, few);
      aside = omega (arith, few);
      come = rw empty tt;
      living_came = λ owner alive. absurd (both_ways _ (ap (λ h. is_alive h owner) whole ∙ none_after owner) alive);
    }
