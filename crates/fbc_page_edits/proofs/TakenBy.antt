-- A page is taken by the mark of a page inventory that is counted.
use Rattle.std.proofs.Common.{◌≡◌, ◌/◌, ◌%◌, ℕ, Bool, true, false, Option, Some, None, refl, ap, ◌∙◌}
use Rattle.std.specs.Option.{option_and_then}
use Rattle.fbc_kinds.specs.Limits.{inventory_bits}
use Rattle.fbc_kinds.specs.View.{View, inventory_of, is_marked, is_taken, mark_in, size_of}

pub record IsTakenBy (view : View) (page inventory : ℕ) : Type 0 where
  pub counted : inventory_of view (page / inventory_bits (size_of view)) ≡ Some inventory
  pub marked : mark_in (view inventory) (page % inventory_bits (size_of view)) ≡ Some true

marked_true : (o : Option Bool) → is_marked o ≡ true → o ≡ Some true
marked_true (Some true) is = refl
marked_true (Some false) is = cc
marked_true None is = cc

pub taken_by : (view : View) (page : ℕ) → is_taken view page ≡ true → (inventory : ℕ) × IsTakenBy view page inventory
taken_by view page is = go (inventory_of view (page / inventory_bits (size_of view))) refl is
  where
    go : (o : Option ℕ) → inventory_of view (page / inventory_bits (size_of view)) ≡ o
        → is_marked (option_and_then (λ (inventory : ℕ). mark_in (view inventory) (page % inventory_bits (size_of view))) o) ≡ true → (inventory : ℕ) × IsTakenBy view page inventory
    go None there taken = cc
    go (Some inventory) there taken = (inventory, record { counted = there; marked = marked_true _ taken })

pub taken_from : (view : View) (page inventory : ℕ) → IsTakenBy view page inventory → is_taken view page ≡ true
taken_from view page inventory is =
    ap (λ (o : Option ℕ). is_marked (option_and_then (λ (n : ℕ). mark_in (view n) (page % inventory_bits (size_of view))) o)) is.counted ∙ ap is_marked is.marked
