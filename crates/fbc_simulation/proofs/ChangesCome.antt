-- A change that is carried out in the newest pages may come to the machine, and is answered that it is done.
use Rattle.std.proofs.Common.{◌≡◌, ◌∙◌, ℕ, Bool, true, List, [], ◌∷◌, Some, None, sym, ap, subst}
use Rattle.std.proofs.lemmas.List.Elements.{All-cons, All-nil}
use Rattle.fbc_kinds.specs.declared.commands.Command.{Command}
use Rattle.fbc_kinds.specs.declared.commands.Command.TheVariants as command
use Rattle.fbc_kinds.specs.declared.edits.Edit.TheVariants.{PutCell}
use Rattle.fbc_kinds.specs.declared.pages.Cell.{Cell}
use Rattle.fbc_kinds.specs.declared.pages.Page.{Page}
use Rattle.fbc_kinds.specs.declared.shapes.Shape.{Shape}
use Rattle.fbc_kinds.specs.declared.snapshots.Transaction.{Transaction}
use Rattle.fbc_kinds.specs.Machine.{IsReply, Machine, MayCome, machine_step}
use Rattle.fbc_kinds.specs.View.{View}
use Rattle.fbc_runs.specs.Ended.{is_owner_of, settled_by}
use Rattle.fbc_runs.proofs.LivingOnes.{change_same, put_same}
use Rattle.fbc_world.specs.History.{History}
use Rattle.fbc_world.specs.World.{World, world_of}
use Rattle.fbc_legal.specs.Rows.{HasOpen}
use Rattle.fbc_legal.specs.Scene.{Scene, scene_of}
use Rattle.fbc_soundness.specs.Whole.{IsWhole}
use Rattle.fbc_simulation.specs.Beside.{commits_in, machine_of}
use Rattle.fbc_simulation.specs.Carried.{IsChangeOf, IsPutCarriedOut, done_reply}
use Rattle.fbc_simulation.specs.Changes.{AreDone}
use Rattle.fbc_simulation.specs.EditIn.{commands_made}
use Rattle.fbc_simulation.specs.Newest.{all_drafts, opens_at}
use Rattle.fbc_simulation.specs.Simulated.{IsSimulated}
use Rattle.fbc_simulation.proofs.LivingOwners.{lives_of}
use Rattle.fbc_simulation.proofs.OpensListed.{open-listed}
use Rattle.fbc_simulation.proofs.WholeMachine.{whole-machine}

pub none-done : (machine : Machine) (commands : List Command) → commands ≡ [] → AreDone machine commands
none-done machine commands none = subst (AreDone machine) (sym none) (record { come = tt; answered = All-nil _ })

pub one-done : (machine : Machine) (asked : Command) (commands : List Command) → commands ≡ asked ∷ [] → MayCome machine asked → IsReply machine asked (done_reply asked) → AreDone machine commands
one-done machine asked commands one comes answered = subst (AreDone machine) (sym one) (record { come = (comes, tt); answered = All-cons (λ (c : Command). IsReply machine c (done_reply c)) asked [] answered (All-nil _) })

-- What a living owner changes comes to the same where the others are at their ends.
pub living-changes : (living : List Transaction) (commits : ℕ → Bool) (m : Machine) (owner : ℕ) (asked : Command) → is_owner_of living owner ≡ true → IsChangeOf owner asked
    → IsReply m asked (done_reply asked) → IsReply (settled_by living commits m) asked (done_reply asked)
    → settled_by living commits (machine_step m asked) ≡ machine_step (settled_by living commits m) asked
living-changes living commits m owner (command.Insert who relation row value) lives own done also = put_same living commits who (ap (is_owner_of living) own ∙ lives) m relation row (Some value)
living-changes living commits m owner (command.Update who relation row value) lives own done also = change_same living commits who (ap (is_owner_of living) own ∙ lives) m relation row (Some value) done also
living-changes living commits m owner (command.Delete who relation row) lives own done also = change_same living commits who (ap (is_owner_of living) own ∙ lives) m relation row None done also
living-changes living commits m owner _ lives own done also = absurd own

module _ (shape : Shape) (file : View) (past : History) (whole : IsWhole (scene_of shape file past)) (simulated : IsSimulated (scene_of shape file past)) (owner page cell : ℕ) (new : Cell) where
  abbrev at : Scene
  at = scene_of shape file past

  abbrev w : World
  w = world_of shape file past

  -- Who has an open transaction goes on in the newest pages.
  pub open-lives : (t : Transaction) → HasOpen at owner t → is_owner_of (opens_at at) owner ≡ true
  open-lives t is = subst (λ who. is_owner_of (opens_at at) who ≡ true) (whole.order.numbered.stand owner t is).own (lives_of (opens_at at) t (open-listed shape file past whole.order.numbered.stand owner t is))

  module _ (made : Page) (carried : IsPutCarriedOut shape file past owner page cell new made (all_drafts w) (opens_at at)) where
    same : settled_by (opens_at at) (commits_in w (all_drafts w)) (machine_of shape file past) ≡ machine_of shape file past
    same = whole-machine shape file past whole.order.numbered.stand simulated.opens (commits_in w (all_drafts w))

    pub newest-comes : MayCome (machine_of shape file past) carried.asked
    newest-comes = subst (λ (m : Machine). MayCome m carried.asked) same carried.done.comes

    pub newest-answered : IsReply (machine_of shape file past) carried.asked (done_reply carried.asked)
    newest-answered = subst (λ (m : Machine). IsReply m carried.asked (done_reply carried.asked)) same carried.done.answered

    pub newest-done : AreDone (machine_of shape file past) (commands_made shape w owner page (PutCell cell new))
    newest-done = one-done (machine_of shape file past) carried.asked (commands_made shape w owner page (PutCell cell new)) carried.are newest-comes newest-answered
