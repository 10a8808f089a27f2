-- What is found in the list of all versions is what the row's versions say.
use Rattle.std.proofs.Common.{◌≡◌, ◌<◌, ◌∙◌, ℕ, zero, suc, Bool, true, false, List, [], ◌∷◌, length, refl, sym, ap, arith}
use Rattle.std.proofs.lemmas.Bool.Decides.{nat_tests}
use Rattle.std.specs.Prelude.{Some, None, find, filter_map, slice_get, nat_lt, is_some, IfSome, if◌then◌else◌}
use Rattle.std.specs.Option.{option_and_then}
use Rattle.std.specs.List.{position_from, position_or_len}
use Rattle.std.proofs.lemmas.List.Folds.{find_at}
use Rattle.std.proofs.lemmas.Option.{slice_get_past}
use Rattle.std.proofs.lemmas.Iterator.Adapters.{position_from-zero}
use Rattle.fbc_kinds.specs.declared.snapshots.Transaction.{Transaction}
use Rattle.fbc_kinds.specs.declared.replies.Reply.TheVariants as reply
use Rattle.fbc_kinds.specs.Chain.{see, Version as Numbered}
use Rattle.fbc_kinds.specs.Machine as definition
use Rattle.fbc_kinds.specs.Machine.{Made}
use Rattle.fbc_machine.specs.declared.machine.Newest.{Newest}
use Rattle.fbc_machine.specs.declared.machine.Version.{Version}
use Rattle.fbc_machine.specs.Shown.{made_at, is_held_there, is_standing_there, newest_of, newest_from, IsRefused, IsDone}

abbrev pub standing_of : List Transaction → ℕ → ℕ → List Version → List Numbered
standing_of ts relation row versions = filter_map (λ (v : Made). option_and_then (definition.numbered v.value) (slice_get ts v.maker)) (filter_map (made_at relation row) versions)

-- The first version that a snapshot holds.
pub seen_found : (ts : List Transaction) (relation row : ℕ) (snapshot : List ℕ) (versions : List Version) → option_and_then (λ (v : Version). v.value) (find (is_held_there ts relation row snapshot) versions) ≡ see (standing_of ts relation row versions) (definition.is_held snapshot)
seen_found ts relation row snapshot [] = refl
seen_found ts relation row snapshot (v ∷ older) = grind (arith, seen_found ts relation row snapshot older)

-- The first version that is not rolled back.
pub newest_found : (ts : List Transaction) (relation row : ℕ) (versions : List Version) → option_and_then (newest_from ts) (find (is_standing_there ts relation row) versions) ≡ newest_of (standing_of ts relation row versions)
newest_found ts relation row [] = refl
newest_found ts relation row (v ∷ older) = grind (arith, newest_found ts relation row older)

-- Before its end a list has something.
pub before_end : {X : Type 0} (xs : List X) (k : ℕ) → k < length xs → is_some (slice_get xs k) ≡ true
before_end [] k lt = absurd (omega arith)
before_end (x ∷ xs) zero lt = refl
before_end (x ∷ xs) (suc k) lt = before_end xs k (omega arith)

-- The place of the first element that passes is within the list, and that element stands there.
module _ {X : Type 0} (p : X → Bool) (xs : List X) where
  there : (b : Bool) → nat_lt (position_or_len p xs) (length xs) ≡ b → option_and_then (slice_get xs) (if b then Some (position_or_len p xs) else None) ≡ slice_get xs (position_or_len p xs)
  there true is = refl
  there false is = sym (slice_get_past xs (position_or_len p xs) (grind (arith, nat_tests)))

  pub find_at_place : option_and_then (slice_get xs) (position_from p 0 xs) ≡ find p xs
  find_at_place = ap (option_and_then (slice_get xs)) (sym (position_from-zero p xs)) ∙ there (nat_lt (position_or_len p xs) (length xs)) refl ∙ sym (find_at p xs)

  within : (b : Bool) → nat_lt (position_or_len p xs) (length xs) ≡ b → IfSome (if b then Some (position_or_len p xs) else None) (λ k. k < length xs)
  within true is = grind (arith, nat_tests)
  within false is = tt

  pub place_within : IfSome (position_from p 0 xs) (λ k. k < length xs)
  place_within = rw (← position_from-zero p xs) (within (nat_lt (position_or_len p xs) (length xs)) refl)

  found : (b : Bool) → nat_lt (position_or_len p xs) (length xs) ≡ b → is_some (if b then Some (position_or_len p xs) else None) ≡ is_some (slice_get xs (position_or_len p xs))
  found true is = sym (before_end xs (position_or_len p xs) (grind (arith, nat_tests)))
  found false is = ap is_some (sym (slice_get_past xs (position_or_len p xs) (grind (arith, nat_tests))))

  pub place_found : is_some (position_from p 0 xs) ≡ is_some (find p xs)
  place_found = ap is_some (sym (position_from-zero p xs)) ∙ found (nat_lt (position_or_len p xs) (length xs)) refl ∙ ap is_some (sym (find_at p xs))

-- When a change of a row that is seen conflicts, and when it is done.
module _ (snapshot : List ℕ) where
  pub conflicts : (versions : List Numbered) (new : Newest) → newest_of versions ≡ Some new → is_some (see versions (definition.is_held snapshot)) ≡ true → definition.is_held snapshot new.number ≡ false → IsRefused snapshot versions (reply.Conflict new.number)
  conflicts [] new is sees held = cc
  conflicts (version ∷ older) new is sees held = record { answer = grind (arith, nat_tests); undone = grind (arith, nat_tests) }

  pub does : (versions : List Numbered) (new : Newest) → newest_of versions ≡ Some new → is_some (see versions (definition.is_held snapshot)) ≡ true → definition.is_held snapshot new.number ≡ true → IsDone snapshot versions
  does [] new is sees held = cc
  does (version ∷ older) new is sees held = record { answer = grind (arith, nat_tests); changed = grind (arith, nat_tests) }
