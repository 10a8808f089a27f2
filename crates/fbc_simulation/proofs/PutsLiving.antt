-- What an owner puts that goes on is meant: its change comes to the machine, and to that in which the others are at their ends.
use Rattle.std.proofs.Common.{◌≡◌, ◌∙◌, ℕ, true, List, [], ◌∷◌, refl, sym, ap, subst}
use Rattle.fbc_kinds.specs.declared.commands.Command.{Command}
use Rattle.fbc_kinds.specs.declared.edits.Edit.TheVariants.{PutCell}
use Rattle.fbc_kinds.specs.declared.pages.Cell.{Cell}
use Rattle.fbc_kinds.specs.declared.pages.Page.{Page}
use Rattle.fbc_kinds.specs.declared.shapes.Shape.{Shape}
use Rattle.fbc_kinds.specs.declared.snapshots.Transaction.{Transaction}
use Rattle.fbc_kinds.specs.Machine.{IsReply, Machine, machine_step}
use Rattle.fbc_kinds.specs.Meaning.{meaning_with}
use Rattle.fbc_kinds.specs.View.{View}
use Rattle.fbc_runs.specs.Ended.{is_owner_of, settled_by}
use Rattle.fbc_runs.specs.Reading.{ReadsAs}
use Rattle.fbc_runs.specs.Runs.{machine_after}
use Rattle.fbc_page_edits.specs.Edited.{with_page}
use Rattle.fbc_world.specs.History.{History}
use Rattle.fbc_world.specs.World.{World, world_of}
use Rattle.fbc_legal.specs.Scene.{scene_of}
use Rattle.fbc_closed_cuts.specs.Cut.{Cut, view}
use Rattle.fbc_simulation.specs.Beside.{commits_in, machine_of}
use Rattle.fbc_simulation.specs.Carried.{IsPutCarriedOut, done_reply}
use Rattle.fbc_simulation.specs.EditIn.{EditIsMeant, IsEditIn, commands_made, commits_made}
use Rattle.fbc_simulation.specs.Newest.{all_drafts, opens_at}
use Rattle.fbc_simulation.proofs.CellEdits.{same-ends}
use Rattle.fbc_simulation.proofs.ChangesCome.{living-changes, newest-answered}

module _ (shape : Shape) (file : View) (past : History) (owner page cell : ℕ) (new : Cell) (content : Page) (cut : Cut) (living : List Transaction)
    (is : IsEditIn shape file past owner page (PutCell cell new) content cut living) (lives : is_owner_of living owner ≡ true)
    (carried : IsPutCarriedOut shape file past owner page cell new content cut living)
    (newest : IsPutCarriedOut shape file past owner page cell new content (all_drafts (world_of shape file past)) (opens_at (scene_of shape file past))) where
  abbrev w : World
  w = world_of shape file past

  abbrev m : Machine
  m = machine_of shape file past

  abbrev made : List Command
  made = commands_made shape w owner page (PutCell cell new)

  same_list : newest.asked ∷ [] ≡ carried.asked ∷ []
  same_list = sym newest.are ∙ carried.are

  same : newest.asked ≡ carried.asked
  same = let both = same_list in cc

  -- The machine answers that it is done.
  answered : IsReply m carried.asked (done_reply carried.asked)
  answered = subst (λ (c : Command). IsReply m c (done_reply c)) same (newest-answered shape file past is.whole is.simulated owner page cell new content newest)

  later : settled_by living (commits_made w owner (PutCell cell new) cut) (machine_after m made) ≡ machine_step (settled_by living (commits_in w cut) m) carried.asked
  later =
      same-ends shape file past owner page (PutCell cell new) content cut living is refl (machine_after m made)
      ∙ ap (λ (commands : List Command). settled_by living (commits_in w cut) (machine_after m commands)) carried.are
      ∙ living-changes living (commits_in w cut) m owner carried.asked lives carried.change answered carried.done.answered

  pub living-meant : EditIsMeant shape file past owner page (PutCell cell new) content cut living
  living-meant = subst (ReadsAs (meaning_with living (with_page (view w cut) page content))) (sym later) carried.done.reads
