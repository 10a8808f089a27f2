use Rattle.std.proofs.Common.{◌∷◌, length, sym, ◌∙◌, ap, arith}
use Rattle.fbc_levels.specs.Waits.{waits_for_number, WaitsForNumber}
use Rattle.fbc_owner_queues.specs.Living.{has}
use Rattle.fbc_owner_queues.specs.Search.{leaving}
use Rattle.fbc_owner_queues.specs.Circles.{before_least}
use Rattle.fbc_owner_queues.proofs.Paths.{searched_leads, IsCircle-rotated}
use Rattle.fbc_owner_queues.proofs.Outcomes.{path_of, free_of}
use Rattle.fbc_owner_queues.proofs.Through.{none_outside, no_circle}
use Rattle.fbc_owner_queues.proofs.circles.cycle_from.Goals as goal

pub returns-then-not-has_owner-clause-none : goal.returns-then-not-has_owner-clause-none
returns-then-not-has_owner-clause-none c = none_outside c.args.table.now c.args.owner
    (ap (λ owners. has owners c.args.owner) (sym (c.as_slice.ensures.value ∙ c.living_owners-living.ensures)) ∙ sym c.if-not-has_owner.ensures)

pub returns-then-from-clause-circle : goal.returns-then-from-clause-circle
returns-then-from-clause-circle c =
    let leaves = rw c.new-path.ensures at c.if-from.ensures.leaves in
    rw c.least_first.ensures
    (IsCircle-rotated (WaitsForNumber c.args.table.now) (before_least c.args.owner c.from.new.path.items) (c.args.owner ∷ c.from.new.path.items)
    (searched_leads (waits_for_number c.args.table.now) c.args.owner _ _ c.args.owner _ _ (path_of _ _ _ leaves)))

pub returns-else-from-clause-none : goal.returns-else-from-clause-none
returns-else-from-clause-none c =
    let there = ap (λ owners. has owners c.args.owner) (c.as_slice-2.ensures.value ∙ sym c.as_slice.ensures.value) ∙ sym c.if-not-has_owner.ensures in
    no_circle c.args.table.now c.as_slice-3.result.now c.args.owner c.len.result c.others_of-free.result.items c.from.new.free.items
    (c.as_slice-3.ensures.value ∙ c.living_owners-living.ensures)
    (c.others_of-free.ensures.items ∙ ap (λ owners. leaving owners c.args.owner) (c.as_slice-2.ensures.value ∙ sym c.as_slice-3.ensures.value))
    (omega (arith, c.others_of-free.ensures.shorter there, ap length c.as_slice-2.ensures.value))
    (free_of _ _ _ _ c.if-from.ensures.leaves)
