-- What an owner puts that does not go on: its number is neither open nor committed in the view, and its commands are not read.
use Rattle.std.proofs.Common.{◌≡◌, ◌∙◌, ℕ, Bool, true, false, List, Option, Some, None, refl, sym, ap, subst}
use Rattle.fbc_kinds.specs.declared.commands.Command.{Command}
use Rattle.fbc_kinds.specs.declared.edits.Edit.TheVariants.{PutCell}
use Rattle.fbc_kinds.specs.declared.pages.Cell.{Cell}
use Rattle.fbc_kinds.specs.declared.pages.Flag.{Flag}
use Rattle.fbc_kinds.specs.declared.pages.Flag.TheVariants as flag
use Rattle.fbc_kinds.specs.declared.pages.Page.{Page}
use Rattle.fbc_kinds.specs.declared.pages.Page.TheVariants as kind
use Rattle.fbc_kinds.specs.declared.shapes.Shape.{Shape}
use Rattle.fbc_kinds.specs.declared.snapshots.Transaction.{Transaction}
use Rattle.fbc_kinds.specs.Machine.{Machine}
use Rattle.fbc_kinds.specs.Meaning.{meaning_with}
use Rattle.fbc_kinds.specs.View.{View}
use Rattle.fbc_runs.specs.Ended.{is_owner_of, settled_by}
use Rattle.fbc_runs.specs.Reading.{ReadsAs}
use Rattle.fbc_runs.specs.Runs.{machine_after}
use Rattle.fbc_runs.proofs.EndedReads.{change_unread, put_unread}
use Rattle.fbc_page_edits.specs.Edited.{with_page}
use Rattle.fbc_version_edits.specs.Forms.{IsUncommitted}
use Rattle.fbc_version_edits.specs.Open.{IsClosed}
use Rattle.fbc_world.specs.Commands.{change_of, change_on, where_true}
use Rattle.fbc_world.specs.History.{History}
use Rattle.fbc_world.specs.World.{newest_of}
use Rattle.fbc_legal.specs.Rows.{HasOpen}
use Rattle.fbc_legal.specs.Scene.{scene_of}
use Rattle.fbc_closed_cuts.specs.Cut.{Cut}
use Rattle.fbc_numbers.specs.Numbers.{is_committed_in}
use Rattle.fbc_numbers.proofs.CutFacts.{never-committed}
use Rattle.fbc_simulation.specs.Beside.{commits_in}
use Rattle.fbc_simulation.specs.EditIn.{EditIsMeant, IsEditIn, commands_made}
use Rattle.fbc_simulation.proofs.CellEdits.{beside, machine, no-commit, same-ends}
use Rattle.fbc_simulation.proofs.OpenNumbers.{others-closed}
use Rattle.fbc_simulation.proofs.PutsIn.{before}

module _ (living : List Transaction) (commits : ℕ → Bool) (who : ℕ) (none : is_owner_of living who ≡ false) (no_commit : commits who ≡ false)
    (a m : Machine) (reads : ReadsAs a (settled_by living commits m)) where
  abbrev Unread : List Command → Type 0
  Unread commands = ReadsAs a (settled_by living commits (machine_after m commands))

  change : (relation row : ℕ) (first : Bool) (f : Flag) (value : List ℕ) → Unread (change_of who relation row first f value)
  change relation row first flag.Deletion value = change_unread living commits who none no_commit a m reads relation row None
  change relation row true flag.Primary value = put_unread living commits who none no_commit a m reads relation row (Some value)
  change relation row false flag.Primary value = change_unread living commits who none no_commit a m reads relation row (Some value)
  change relation row true flag.Empty value = reads
  change relation row false flag.Empty value = reads
  change relation row true flag.Back value = reads
  change relation row false flag.Back value = reads

  -- Whatever change it is.
  pub change-unread : (b : Bool) (shape : Shape) (cell : ℕ) (new : Cell) (found : Option Page) → Unread (where_true b (change_on shape who cell new found))
  change-unread true shape cell new (Some (kind.Data d)) = change _ _ _ new.flag new.value
  change-unread true shape cell new None = reads
  change-unread true shape cell new (Some _) = reads
  change-unread false shape cell new found = reads

module _ (shape : Shape) (file : View) (past : History) (owner page cell : ℕ) (new : Cell) (content : Page) (cut : Cut) (living : List Transaction)
    (is : IsEditIn shape file past owner page (PutCell cell new) content cut living) where
  -- The owner's open number is not committed in the view.
  pub own-uncommitted : (t : Transaction) → HasOpen (scene_of shape file past) owner t → new.number ≡ t.number → IsUncommitted (before shape file past owner page cell new content cut living is) new
  own-uncommitted t open_is own =
      never-committed (scene_of shape file past).world is.whole.order.numbered.grow new.number
      (ap (is_committed_in (newest_of (scene_of shape file past).world)) own ∙ is.whole.order.numbered.uncommitted owner t open_is is.sees.guard.unmarked) cut is.closed

  module _ (none : is_owner_of living owner ≡ false) where
    -- It is none of the open ones.
    pub own-closed : (t : Transaction) → HasOpen (scene_of shape file past) owner t → new.number ≡ t.number → IsClosed living new.number
    own-closed t open_is own = subst (IsClosed living) (sym own) (others-closed (scene_of shape file past) is.whole cut is.closed living is.opens owner t open_is none)

    -- What is read with the version is meant.
    pub unread-meant : ReadsAs (meaning_with living (with_page (before shape file past owner page cell new content cut living is) page content)) (beside shape file past owner page (PutCell cell new) content cut living is)
        → EditIsMeant shape file past owner page (PutCell cell new) content cut living
    unread-meant reads =
        subst (ReadsAs (meaning_with living (with_page (before shape file past owner page cell new content cut living is) page content)))
        (sym
        (same-ends shape file past owner page (PutCell cell new) content cut living is refl
        (machine_after (machine shape file past owner page (PutCell cell new) content cut living is) (commands_made shape (scene_of shape file past).world owner page (PutCell cell new)))))
        (change-unread living (commits_in (scene_of shape file past).world cut) owner none (no-commit shape file past owner page (PutCell cell new) content cut living is)
        (meaning_with living (with_page (before shape file past owner page cell new content cut living is) page content))
        (machine shape file past owner page (PutCell cell new) content cut living is) reads _ shape cell new _)
