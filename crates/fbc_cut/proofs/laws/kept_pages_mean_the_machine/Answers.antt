use Rattle.std.proofs.Common.{[], ℕ, Bool, subst}
use Rattle.std.proofs.Math.Path.{fun_ext}
use Rattle.fbc_kinds.specs.Meaning.{MeanTheSame, meaning_of}
use Rattle.fbc_runs.specs.Ended.{settled_by}
use Rattle.fbc_world.specs.World.{world_of}
use Rattle.fbc_simulation.specs.Beside.{machine_of}
use Rattle.fbc_cut.proofs.NoOne.{no-commits, no-page-closed, no_page}
use Rattle.fbc_cut.proofs.laws.kept_pages_mean_the_machine.Goals as goal

pub returns : goal.returns
returns c shape file history of_shape sound legal =
    subst (λ (commits : ℕ → Bool). MeanTheSame (meaning_of (world_of shape file history).kept) (settled_by [] commits (machine_of shape file history)))
    (fun_ext (λ owner. no-commits (world_of shape file history) owner))
    (c.every_cut_means_the_machine.ensures shape file history no_page of_shape sound legal (no-page-closed (world_of shape file history)))
