-- An edit that commits nothing, beside the machine before it.
use Rattle.std.proofs.Common.{◌≡◌, ℕ, false, List, refl, sym}
use Rattle.fbc_kinds.specs.declared.edits.Edit.{Edit}
use Rattle.fbc_kinds.specs.declared.pages.Page.{Page}
use Rattle.fbc_kinds.specs.declared.shapes.Shape.{Shape}
use Rattle.fbc_kinds.specs.declared.snapshots.Transaction.{Transaction}
use Rattle.fbc_kinds.specs.Machine.{Machine}
use Rattle.fbc_kinds.specs.Meaning.{meaning_with}
use Rattle.fbc_kinds.specs.View.{View}
use Rattle.fbc_runs.specs.Ended.{is_owner_of, settled_by}
use Rattle.fbc_runs.specs.Orderly.{OwnersDiffer}
use Rattle.fbc_runs.specs.Reading.{ReadsAs}
use Rattle.fbc_runs.proofs.Endings.{settled_by_orderly}
use Rattle.fbc_runs.proofs.Ends.{other_commits_same}
use Rattle.fbc_world.specs.History.{History}
use Rattle.fbc_world.specs.World.{World, world_of}
use Rattle.fbc_legal.specs.Scene.{Scene, scene_of}
use Rattle.fbc_closed_cuts.specs.Cut.{Cut, view}
use Rattle.fbc_version_edits.specs.Open.{AreOpen}
use Rattle.fbc_simulation.specs.Beside.{commits_in, machine_of}
use Rattle.fbc_simulation.specs.EditIn.{IsEditIn, commits_made, is_commit}
use Rattle.fbc_simulation.proofs.LivingOwners.{same_value}
use Rattle.fbc_simulation.proofs.OpenNumbers.{opens-open}

module _ (shape : Shape) (file : View) (past : History) (owner page : ℕ) (e : Edit) (content : Page) (cut : Cut) (living : List Transaction)
    (is : IsEditIn shape file past owner page e content cut living) where
  abbrev pub at : Scene
  at = scene_of shape file past

  abbrev pub w : World
  w = world_of shape file past

  abbrev pub seen : View
  seen = view w cut

  abbrev pub machine : Machine
  machine = machine_of shape file past

  -- The machine that the view reads as.
  abbrev pub beside : Machine
  beside = settled_by living (commits_in w cut) machine

  pub reads-before : ReadsAs (meaning_with living seen) beside
  reads-before = is.simulated.meant cut living is.closed is.opens

  pub living-open : AreOpen living
  living-open = opens-open at is.whole cut is.closed living is.opens

  pub owners-differ : OwnersDiffer beside.transactions
  owners-differ = (settled_by_orderly living (commits_in w cut) machine is.simulated.orderly).owners

  -- The owner has made no mark.
  pub no-commit : commits_in w cut owner ≡ false
  no-commit = rw is.sees.guard.unmarked refl

  -- So the commits are as before, where the edit is none.
  pub same-ends : is_commit e (w.transaction owner) ≡ false → (m : Machine) → settled_by living (commits_made w owner e cut) m ≡ settled_by living (commits_in w cut) m
  same-ends none m = sym (other_commits_same living (commits_in w cut) (commits_made w owner e cut) each m) where
    each : (other : ℕ) → is_owner_of living other ≡ false → commits_in w cut other ≡ commits_made w owner e cut other
    each other ends = rw none (same_value false (commits_in w cut) owner no-commit other)
