-- An edit as a view of a closed cut sees it, beside the machine.
use Rattle.std.specs.Prelude.{◌≡◌, ◌==◌, ℕ, Bool, true, false, if◌then◌else◌, List, Contains, Option, Some, is_some}
use Rattle.fbc_kinds.specs.declared.commands.Command.{Command}
use Rattle.fbc_kinds.specs.declared.edits.Edit.{Edit}
use Rattle.fbc_kinds.specs.declared.edits.Edit.TheVariants.{Mark}
use Rattle.fbc_kinds.specs.declared.pages.Page.{Page}
use Rattle.fbc_kinds.specs.declared.pages.State.TheVariants.{Committed}
use Rattle.fbc_kinds.specs.declared.shapes.Shape.{Shape}
use Rattle.fbc_kinds.specs.declared.snapshots.Transaction.{Transaction}
use Rattle.fbc_kinds.specs.Meaning.{meaning_with}
use Rattle.fbc_kinds.specs.View.{View}
use Rattle.fbc_runs.specs.Ended.{settled_by}
use Rattle.fbc_runs.specs.Reading.{ReadsAs}
use Rattle.fbc_runs.specs.Runs.{machine_after}
use Rattle.fbc_page_edits.specs.Edited.{with_page}
use Rattle.fbc_world.specs.Commands.{edit_command}
use Rattle.fbc_world.specs.History.{History}
use Rattle.fbc_world.specs.PageCell.{page_for}
use Rattle.fbc_world.specs.World.{World, is_number_of, page_after, transaction_after_edit, world_of}
use Rattle.fbc_legal.specs.Scene.{scene_of}
use Rattle.fbc_legal.specs.Stamps.{stamps_of}
use Rattle.fbc_closed_cuts.specs.Cut.{Cut, IsClosedCut, view}
use Rattle.fbc_closed_cuts.specs.Owed.{IsSeenEdit}
use Rattle.fbc_closed_cuts.specs.Views.{view_stamps}
use Rattle.fbc_soundness.specs.Whole.{IsWhole}
use Rattle.fbc_simulation.specs.Beside.{AreOpenIn, commits_in, machine_of}
use Rattle.fbc_simulation.specs.Simulated.{IsSimulated}

-- Whether an edit marks the open transaction as committed.
abbrev pub is_commit : Edit → Option Transaction → Bool
is_commit (Mark number Committed) transaction = is_number_of number transaction
is_commit _ transaction = false

-- Whose commits are in the cut with the edited page.
abbrev pub commits_made : World → ℕ → Edit → Cut → ℕ → Bool
commits_made w owner edit cut other = if other == owner then is_commit edit (w.transaction owner) else commits_in w cut other

-- The commands of an owner's edit that fits.
abbrev pub commands_made : Shape → World → ℕ → ℕ → Edit → List Command
commands_made shape w owner page edit = edit_command shape owner (w.transaction owner) (page_for owner (w.kept page) (w.draft page)) edit

-- After a history where all is in order an owner's edit may come, and makes this content of the page. The view of the cut sees it. The
-- transactions are open beside the cut, and stay so.
pub record IsEditIn (shape : Shape) (file : View) (past : History) (owner page : ℕ) (edit : Edit) (content : Page) (cut : Cut) (living : List Transaction) : Type 0 where
  pub whole : IsWhole (scene_of shape file past)
  pub simulated : IsSimulated (scene_of shape file past)
  pub made : page_after shape (world_of shape file past) owner page edit ≡ Some content
  pub closed : IsClosedCut (world_of shape file past) cut
  pub sees : IsSeenEdit shape file past owner page edit content (view (world_of shape file past) cut) (view_stamps (world_of shape file past) (stamps_of shape file past) cut)
  pub drafted : is_some ((world_of shape file past).draft page) ≡ true → cut page ≡ true
  pub opens : AreOpenIn (world_of shape file past) cut living
  pub goes_on : (t : Transaction) → Contains living t → t.owner ≡ owner → transaction_after_edit edit (Some t) ≡ Some t

-- With the edit the view reads as the machine that has made the edit's commands.
abbrev pub EditIsMeant : Shape → View → History → ℕ → ℕ → Edit → Page → Cut → List Transaction → Type 0
EditIsMeant shape file past owner page edit content cut living =
    ReadsAs (meaning_with living (with_page (view (world_of shape file past) cut) page content))
    (settled_by living (commits_made (world_of shape file past) owner edit cut) (machine_after (machine_of shape file past) (commands_made shape (world_of shape file past) owner page edit)))
