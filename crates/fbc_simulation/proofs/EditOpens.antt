-- Open transactions beside an edit: the machine has those of the owners after it too, and who is open after it was so before.
use Rattle.std.proofs.Common.{◌≡◌, ◌∙◌, ℕ, Bool, true, false, ◌==◌, ◌&&◌, if◌then◌else◌, List, [], ◌∷◌, Option, Some, None, refl, ap, subst}
use Rattle.fbc_kinds.specs.declared.commands.Command.TheVariants as command
use Rattle.fbc_kinds.specs.declared.edits.Edit.{Edit}
use Rattle.fbc_kinds.specs.declared.edits.Edit.TheVariants as edit
use Rattle.fbc_kinds.specs.declared.pages.Cell.{Cell}
use Rattle.fbc_kinds.specs.declared.pages.Flag.{Flag}
use Rattle.fbc_kinds.specs.declared.pages.Flag.TheVariants as flag
use Rattle.fbc_kinds.specs.declared.pages.Page.{Page}
use Rattle.fbc_kinds.specs.declared.pages.Page.TheVariants as kind
use Rattle.fbc_kinds.specs.declared.pages.State.TheVariants.{Active, Committed, Dead, Limbo}
use Rattle.fbc_kinds.specs.declared.shapes.Shape.{Shape}
use Rattle.fbc_kinds.specs.declared.snapshots.Transaction.{Transaction}
use Rattle.fbc_kinds.specs.Machine.{Machine, after_change, is_done, open_place, open_transaction, standing_versions, with_version}
use Rattle.fbc_kinds.specs.Meaning.{IsSameOpen}
use Rattle.fbc_kinds.proofs.Tests.{differ_from_test, same_from_test}
use Rattle.fbc_runs.specs.Runs.{machine_after}
use Rattle.fbc_world.specs.Commands.{change_of, change_on, edit_command, where_true}
use Rattle.fbc_world.specs.World.{World, is_number_of, transaction_after_edit, with_edit}
use Rattle.fbc_simulation.proofs.ActOpens.{OpensAlike, died-alike}
use Rattle.fbc_numbers.proofs.Opens.{left_open}

-- A change of a row leaves the transactions.
module _ (machine : Machine) (who : ℕ) where
  version_leaves : (relation row : ℕ) (value : Option (List ℕ)) (place : Option ℕ) → (with_version machine place relation row value).transactions ≡ machine.transactions
  version_leaves relation row value None = refl
  version_leaves relation row value (Some maker) = refl

  change_leaves : (relation row : ℕ) (value : Option (List ℕ)) (t : Option Transaction) → (after_change machine who relation row value t).transactions ≡ machine.transactions
  change_leaves relation row value None = refl
  change_leaves relation row value (Some t) = go (is_done t.snapshot (standing_versions machine relation row)) where
    go : (b : Bool) → (if b then with_version machine (open_place machine who) relation row value else machine).transactions ≡ machine.transactions
    go true = version_leaves relation row value (open_place machine who)
    go false = refl

  changed_leaves : (relation row : ℕ) (first : Bool) (is : Flag) (value : List ℕ) → (machine_after machine (change_of who relation row first is value)).transactions ≡ machine.transactions
  changed_leaves relation row first flag.Deletion value = change_leaves relation row None (open_transaction machine who)
  changed_leaves relation row true flag.Primary value = version_leaves relation row (Some value) (open_place machine who)
  changed_leaves relation row false flag.Primary value = change_leaves relation row (Some value) (open_transaction machine who)
  changed_leaves relation row first flag.Empty value = refl
  changed_leaves relation row first flag.Back value = refl

  page_leaves : (shape : Shape) (cell : ℕ) (content : Cell) (before : Option Page) → (machine_after machine (change_on shape who cell content before)).transactions ≡ machine.transactions
  page_leaves shape cell content (Some (kind.Data d)) = changed_leaves _ _ _ content.flag content.value
  page_leaves shape cell content _ = refl

  put_leaves : (b : Bool) (shape : Shape) (cell : ℕ) (content : Cell) (before : Option Page) → (machine_after machine (where_true b (change_on shape who cell content before))).transactions ≡ machine.transactions
  put_leaves true shape cell content before = page_leaves shape cell content before
  put_leaves false shape cell content before = refl

either_way : {X : Type 0} (b : Bool) (x : X) → (if b && true then x else x) ≡ x
either_way true x = refl
either_way false x = refl

module _ (w : World) (machine : Machine) (alike : OpensAlike w machine) (shape : Shape) (owner page : ℕ) (content before : Option Page) where
  -- Where the transactions of both are as before.
  left_alike : (later : Machine) → later.transactions ≡ machine.transactions → (o : ℕ) → IsSameOpen (if (o == owner) && true then w.transaction o else w.transaction o) (open_transaction later o)
  left_alike later same o = rw (either_way (o == owner) (w.transaction o), same) (alike o)

  -- The owner's own number is marked dead, or another.
  dead_alike : (number : ℕ) (b : Bool) → is_number_of number (w.transaction owner) ≡ b → (o : ℕ)
      → IsSameOpen (if (o == owner) && true then (if is_number_of number (w.transaction o) then None else w.transaction o) else w.transaction o)
      (open_transaction (machine_after machine (where_true b (command.Rollback owner ∷ []))) o)
  dead_alike number true its o = go (o == owner) refl (died-alike w machine alike owner o) where
    go : (b : Bool) → o == owner ≡ b
        → IsSameOpen (if b then None else w.transaction o) (open_transaction (machine_after machine (command.Rollback owner ∷ [])) o)
        → IsSameOpen (if b && true then (if is_number_of number (w.transaction o) then None else w.transaction o) else w.transaction o) (open_transaction (machine_after machine (command.Rollback owner ∷ [])) o)
    go true same died = rw (ap (λ p. is_number_of number (w.transaction p)) (same_from_test o owner same) ∙ its) died
    go false other died = died
  dead_alike number false its o = go (o == owner) refl (alike o) where
    go : (b : Bool) → o == owner ≡ b → IsSameOpen (w.transaction o) (open_transaction machine o)
        → IsSameOpen (if b && true then (if is_number_of number (w.transaction o) then None else w.transaction o) else w.transaction o) (open_transaction machine o)
    go true same is = rw (ap (λ p. is_number_of number (w.transaction p)) (same_from_test o owner same) ∙ its) is
    go false other is = is

  pub edited-alike : (e : Edit) (o : ℕ)
      → IsSameOpen (if (o == owner) && true then transaction_after_edit e (w.transaction o) else w.transaction o) (open_transaction (machine_after machine (edit_command shape owner (w.transaction owner) before e)) o)
  edited-alike (edit.PutCell cell new) o =
      left_alike (machine_after machine (where_true (is_number_of new.number (w.transaction owner)) (change_on shape owner cell new before)))
      (put_leaves machine owner (is_number_of new.number (w.transaction owner)) shape cell new before) o
  edited-alike (edit.Mark number Dead) o = dead_alike number (is_number_of number (w.transaction owner)) refl o
  edited-alike (edit.Mark number Active) o = left_alike machine refl o
  edited-alike (edit.Mark number Limbo) o = left_alike machine refl o
  edited-alike (edit.Mark number Committed) o = left_alike machine refl o
  edited-alike _ o = left_alike machine refl o

module _ (w : World) (owner page : ℕ) (e : Edit) (content : Page) where
  abbrev pub made : World
  made = with_edit w owner page e (Some content)

  pub was_open : (o : ℕ) (t : Transaction) → made.transaction o ≡ Some t → w.transaction o ≡ Some t
  was_open o t is = go (o == owner) is where
    go : (b : Bool) → (if b && true then transaction_after_edit e (w.transaction o) else w.transaction o) ≡ Some t → w.transaction o ≡ Some t
    go true is = left_open e (w.transaction o) t is
    go false is = is

  -- And the editor's own goes on.
  pub own_goes_on : (o : ℕ) (t : Transaction) → made.transaction o ≡ Some t → o ≡ owner → transaction_after_edit e (Some t) ≡ Some t
  own_goes_on o t is same = go (o == owner) refl is where
    go : (b : Bool) → o == owner ≡ b → (if b && true then transaction_after_edit e (w.transaction o) else w.transaction o) ≡ Some t → transaction_after_edit e (Some t) ≡ Some t
    go true here is = subst (λ p. transaction_after_edit e p ≡ Some t) (left_open e (w.transaction o) t is) is
    go false apart is = absurd (differ_from_test o owner apart same)
