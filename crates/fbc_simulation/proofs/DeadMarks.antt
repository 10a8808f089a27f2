-- A mark as dead: it is not read, and where it is that of the owner's own number its transaction is not living, and is rolled back.
use Rattle.std.proofs.Common.{◌≡◌, ◌∙◌, ℕ, Bool, true, false, ◌∷◌, [], List, Some, refl, sym, subst, ap}
use Rattle.std.specs.Prelude.{Option, None, if◌then◌else◌}
use Rattle.fbc_kinds.specs.declared.commands.Command.TheVariants as command
use Rattle.fbc_kinds.specs.declared.edits.Edit.TheVariants.{Mark}
use Rattle.fbc_kinds.specs.declared.pages.Page.{Page}
use Rattle.fbc_kinds.specs.declared.pages.State.TheVariants.{Dead}
use Rattle.fbc_kinds.specs.declared.shapes.Shape.{Shape}
use Rattle.fbc_kinds.specs.declared.snapshots.Transaction.{Transaction}
use Rattle.fbc_kinds.specs.Machine.{Machine, after_end}
use Rattle.fbc_kinds.specs.Meaning.{meaning_with}
use Rattle.fbc_kinds.specs.View.{View}
use Rattle.fbc_numbers.proofs.DeadMarks.{allows-dead}
use Rattle.fbc_version_edits.specs.Forms.{IsAdmittedEdit}
use Rattle.fbc_runs.specs.Ended.{end_by, is_owner_of, settled_by}
use Rattle.fbc_runs.specs.Reading.{ReadsAs}
use Rattle.fbc_runs.specs.Runs.{machine_after}
use Rattle.fbc_runs.proofs.Ends.{ends_same}
use Rattle.fbc_page_edits.specs.Edited.{with_page}
use Rattle.fbc_world.specs.Commands.{where_true}
use Rattle.fbc_world.specs.History.{History}
use Rattle.fbc_world.specs.World.{World, is_number_of, world_of}
use Rattle.fbc_legal.specs.Scene.{scene_of}
use Rattle.fbc_closed_cuts.specs.Cut.{Cut, view}
use Rattle.fbc_simulation.specs.Beside.{commits_in, machine_of}
use Rattle.fbc_simulation.specs.EditIn.{EditIsMeant, IsEditIn, commits_made}
use Rattle.fbc_simulation.proofs.LivingOwners.{none_living, other_value}
use Rattle.fbc_simulation.proofs.OpensBeside.{of_owner}
use Rattle.fbc_simulation.proofs.PlainMeant.{no_commit, same_commits}

module _ (shape : Shape) (file : View) (past : History) (owner page number : ℕ) (content : Page) (cut : Cut) (living : List Transaction)
    (is : IsEditIn shape file past owner page (Mark number Dead) content cut living) where
  abbrev w : World
  w = world_of shape file past

  abbrev seen : View
  seen = view w cut

  abbrev m : Machine
  m = machine_of shape file past

  -- The view allows the mark.
  pub dead_admitted : IsAdmittedEdit shape seen page (Mark number Dead) content
  dead_admitted = record {
    of_shape = is.sees.of_shape;
    sound = is.sees.sound;
    own = tt;
    fits = is.sees.fits;
    allowed = allows-dead (scene_of shape file past) is.whole.order.numbered owner page number is.sees.guard seen _ is.sees.sees;
  }

  goes_on : (o : Option Transaction) → is_number_of number o ≡ true → (t : Transaction) → o ≡ Some t → ¬ ((if is_number_of number (Some t) then None else Some t) ≡ Some t)
  goes_on o its t same stays =
      let key : is_number_of number (Some t) ≡ true = sym (ap (is_number_of number) same) ∙ its in
      let gone : None ≡ Some t = sym (ap (λ b. if b then None else Some t) key) ∙ stays in
      cc

  -- Whose own number is marked goes on no more.
  not_living : is_number_of number (w.transaction owner) ≡ true → is_owner_of living owner ≡ false
  not_living its = none_living living owner (λ t lives own. goes_on (w.transaction owner) its t (of_owner w t owner (is.opens.each t lives) own) (is.goes_on t lives own))

  abbrev also : ℕ → Bool
  also = commits_made w owner (Mark number Dead) cut

  dead_ends : (b : Bool) → is_number_of number (w.transaction owner) ≡ b
      → settled_by living also (machine_after m (where_true b (command.Rollback owner ∷ []))) ≡ settled_by living (commits_in w cut) m
  dead_ends true its =
      subst (λ b. settled_by living also (after_end m owner (end_by b)) ≡ settled_by living (commits_in w cut) m) (no_commit shape file past owner page (Mark number Dead) content cut living is)
      (ends_same living owner (not_living its) (commits_in w cut) also (λ other apart. other_value false (commits_in w cut) owner other apart) m)
  dead_ends false its = sym (same_commits shape file past owner page (Mark number Dead) content cut living is)

  -- So it is meant where it is not read.
  pub dead_meant : ReadsAs (meaning_with living (with_page seen page content)) (settled_by living (commits_in w cut) m) → EditIsMeant shape file past owner page (Mark number Dead) content cut living
  dead_meant reads = subst (ReadsAs (meaning_with living (with_page seen page content))) (sym (dead_ends (is_number_of number (w.transaction owner)) refl)) reads
