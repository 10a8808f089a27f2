-- Edits of no cell are no commands, but for the rollback that a mark may be, and a rollback may always come.
use Rattle.std.proofs.Common.{◌≡◌, ℕ, Bool, true, false, ◌∷◌, [], Option, refl}
use Rattle.fbc_kinds.specs.declared.commands.Command.TheVariants as command
use Rattle.fbc_kinds.specs.declared.edits.Edit.{Edit}
use Rattle.fbc_kinds.specs.declared.edits.Edit.TheVariants as edit
use Rattle.fbc_kinds.specs.declared.pages.Page.{Page}
use Rattle.fbc_kinds.specs.declared.pages.State.{State}
use Rattle.fbc_kinds.specs.declared.pages.State.TheVariants.{Active, Committed, Dead, Limbo}
use Rattle.fbc_kinds.specs.declared.shapes.Shape.{Shape}
use Rattle.fbc_kinds.specs.declared.snapshots.Transaction.{Transaction}
use Rattle.fbc_kinds.specs.Machine.{Machine}
use Rattle.fbc_runs.specs.Runs.{MayAllCome}
use Rattle.fbc_world.specs.Commands.{edit_command, where_true}
use Rattle.fbc_world.specs.World.{is_number_of}
use Rattle.fbc_simulation.specs.Plain.{is_plain}

module _ (machine : Machine) (shape : Shape) (owner : ℕ) (t : Option Transaction) (before : Option Page) where
  pub plain_comes : (e : Edit) → is_plain e ≡ true → MayAllCome machine (edit_command shape owner t before e)
  plain_comes (edit.Mark number state) plain = absurd cc
  plain_comes (edit.PutCell cell content) plain = absurd cc
  plain_comes (edit.ClearCell cell) plain = absurd cc
  plain_comes _ plain = tt

  rollback_comes : (b : Bool) → MayAllCome machine (where_true b (command.Rollback owner ∷ []))
  rollback_comes true = (refl, tt)
  rollback_comes false = tt

  pub mark_comes : (number : ℕ) (state : State) → MayAllCome machine (edit_command shape owner t before (edit.Mark number state))
  mark_comes number Dead = rollback_comes (is_number_of number t)
  mark_comes number Active = tt
  mark_comes number Limbo = tt
  mark_comes number Committed = tt
