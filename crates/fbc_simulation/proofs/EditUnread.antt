-- What an edit changes of its owner's open transaction is not read where that ends rolled back.
use Rattle.std.proofs.Common.{◌≡◌, ℕ, Bool, true, false, List, [], ◌∷◌, Option, Some, None, refl, sym, subst}
use Rattle.fbc_kinds.specs.declared.commands.Command.{Command}
use Rattle.fbc_kinds.specs.declared.commands.Command.TheVariants as command
use Rattle.fbc_kinds.specs.declared.edits.Edit.{Edit}
use Rattle.fbc_kinds.specs.declared.edits.Edit.TheVariants as edit
use Rattle.fbc_kinds.specs.declared.pages.Cell.{Cell}
use Rattle.fbc_kinds.specs.declared.pages.Flag.{Flag}
use Rattle.fbc_kinds.specs.declared.pages.Flag.TheVariants as flag
use Rattle.fbc_kinds.specs.declared.pages.Page.{Page}
use Rattle.fbc_kinds.specs.declared.pages.Page.TheVariants as kind
use Rattle.fbc_kinds.specs.declared.pages.State.TheVariants.{Active, Committed, Dead, Limbo}
use Rattle.fbc_kinds.specs.declared.shapes.Shape.{Shape}
use Rattle.fbc_kinds.specs.declared.snapshots.Standing.TheVariants as standing
use Rattle.fbc_kinds.specs.declared.snapshots.Transaction.{Transaction}
use Rattle.fbc_kinds.specs.Machine.{Machine, after_end}
use Rattle.fbc_runs.specs.Ended.{end_by, is_owner_of, settled_by}
use Rattle.fbc_runs.specs.Reading.{ReadsAs}
use Rattle.fbc_runs.specs.Runs.{machine_after}
use Rattle.fbc_runs.proofs.EndedReads.{change_unread, put_unread}
use Rattle.fbc_runs.proofs.Ends.{ends_same}
use Rattle.fbc_world.specs.Commands.{change_of, change_on, edit_command, where_true}
use Rattle.fbc_world.specs.World.{is_number_of}

module _ (living : List Transaction) (commits : ℕ → Bool) (who : ℕ) (none : is_owner_of living who ≡ false) (no_commit : commits who ≡ false)
    (a machine : Machine) (reads : ReadsAs a (settled_by living commits machine)) where
  abbrev ReadsAfter : List Command → Type 0
  ReadsAfter commands = ReadsAs a (settled_by living commits (machine_after machine commands))

  rolled_back : ReadsAs a (settled_by living commits (after_end machine who standing.RolledBack))
  rolled_back =
      subst (λ b. ReadsAs a (settled_by living commits (after_end machine who (end_by b)))) no_commit
      (subst (ReadsAs a) (sym (ends_same living who none commits commits (λ owner apart. refl) machine)) reads)

  changed : (relation row : ℕ) (first : Bool) (is : Flag) (value : List ℕ) → ReadsAfter (change_of who relation row first is value)
  changed relation row first flag.Deletion value = change_unread living commits who none no_commit a machine reads relation row None
  changed relation row true flag.Primary value = put_unread living commits who none no_commit a machine reads relation row (Some value)
  changed relation row false flag.Primary value = change_unread living commits who none no_commit a machine reads relation row (Some value)
  changed relation row first flag.Empty value = reads
  changed relation row first flag.Back value = reads

  changed_on : (shape : Shape) (cell : ℕ) (content : Cell) (before : Option Page) → ReadsAfter (change_on shape who cell content before)
  changed_on shape cell content (Some (kind.Data d)) = changed _ _ _ content.flag content.value
  changed_on shape cell content _ = reads

  where_any : (b : Bool) (commands : List Command) → ReadsAfter commands → ReadsAfter (where_true b commands)
  where_any true commands is = is
  where_any false commands is = reads

  pub edit_unread : (shape : Shape) (t : Option Transaction) (before : Option Page) (e : Edit) → ReadsAfter (edit_command shape who t before e)
  edit_unread shape t before (edit.PutCell cell content) = where_any (is_number_of content.number t) (change_on shape who cell content before) (changed_on shape cell content before)
  edit_unread shape t before (edit.Mark number Dead) = where_any (is_number_of number t) (command.Rollback who ∷ []) rolled_back
  edit_unread shape t before (edit.Mark number Active) = reads
  edit_unread shape t before (edit.Mark number Limbo) = reads
  edit_unread shape t before (edit.Mark number Committed) = reads
  edit_unread shape t before _ = reads
