use Rattle.std.proofs.Common.{◌≡◌, ◌/◌, Bool, true, false, refl}
use Rattle.fbc_kinds.specs.Limits.{tip_numbers}
use Rattle.fbc_kinds.specs.declared.edits.Edit.TheVariants.{Mark}
use Rattle.fbc_kinds.specs.declared.pages.State.TheVariants.{Active, Committed, Dead, Limbo}
use Rattle.fbc_runs.specs.Ended.{is_owner_of}
use Rattle.fbc_world.specs.World.{world_of}
use Rattle.fbc_closed_cuts.specs.Cut.{view}
use Rattle.fbc_simulation.specs.EditIn.{EditIsMeant}
use Rattle.fbc_simulation.proofs.CommitMarks.{above, apart, commit_admitted, commit_meant, in_front, lives_still, marked, open_ones, owners_differ, reached, reads_before, same_number, still_meant, uncommitted}
use Rattle.fbc_simulation.proofs.DeadMarks.{dead_admitted, dead_meant}
use Rattle.fbc_simulation.proofs.PlainMeant.{read_before}
use Rattle.fbc_simulation.proofs.edits.marks_are_meant.Goals as goal

pub returns : goal.returns
returns c shape file past owner page number Dead content cut living is =
    dead_meant shape file past owner page number content cut living is
    (c.marks_are_not_read.ensures.uncommitted shape (view (world_of shape file past) cut) page number Dead content living _
    (dead_admitted shape file past owner page number content cut living is) refl (read_before shape file past owner page (Mark number Dead) content cut living is))
returns c shape file past owner page number Committed content cut living is = go (is_owner_of living owner) refl
  where
    go : (b : Bool) → is_owner_of living owner ≡ b → EditIsMeant shape file past owner page (Mark number Committed) content cut living
    go true lives =
        still_meant shape file past owner page number content cut living is lives
        (c.marks_are_not_read.ensures.living shape (view (world_of shape file past) cut) page number Committed content living _
        (commit_admitted shape file past owner page number content cut living is) (marked shape file past owner page number content cut living is)
        (lives_still shape file past owner page number content cut living is lives) (same_number shape file past owner page number content cut living is)
        (read_before shape file past owner page (Mark number Committed) content cut living is))
    go false gone =
        commit_meant shape file past owner page number content cut living is gone
        (c.marks_commit.ensures shape (view (world_of shape file past) cut) page number content living _ (marked shape file past owner page number content cut living is)
        (number / tip_numbers shape.size) (commit_admitted shape file past owner page number content cut living is)
        (reached shape file past owner page number content cut living is gone)
        (open_ones shape file past owner page number content cut living is gone)
        (apart shape file past owner page number content cut living is gone)
        (same_number shape file past owner page number content cut living is)
        (above shape file past owner page number content cut living is gone)
        (uncommitted shape file past owner page number content cut living is gone)
        (in_front shape file past owner page number content cut living is gone)
        (owners_differ shape file past owner page number content cut living is gone)
        (reads_before shape file past owner page number content cut living is gone))
returns c shape file past owner page number Active content cut living is = absurd is.sees.guard.row
returns c shape file past owner page number Limbo content cut living is = absurd is.sees.guard.row
