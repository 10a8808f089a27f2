use Rattle.std.proofs.Common.{◌==◌, not, rules}
use Rattle.arrayvec.proofs.ArrayVecLemmas.{filter-from_retain}
use Rattle.fbc_region.specs.declared.census.Resident.{Resident}
use Rattle.fbc_region.proofs.census.Census.leave_out.Goals as goal

pub returns-clause-residents : goal.returns-clause-residents
returns-clause-residents c =
    filter-from_retain _ (λ (r : Resident). not (r.owner == c.args.owner)) _ (λ x b f' y h. search rules) _ _ c.retain.ensures.filtered
