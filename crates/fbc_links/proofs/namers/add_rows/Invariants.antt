use Rattle.std.proofs.Common.{◌≡◌, ℕ, ◌+◌, ◌-◌, vec_len}
use Rattle.fbc_links.specs.Namers.{mark_at}
use Rattle.fbc_links.proofs.namers.add_rows.Given as goal

-- The rows so far mark the same cells.
abbrev pub invariant-loop-alloc : goal.invariant-loop-alloc
invariant-loop-alloc l = (i c : ℕ) → mark_at l.rows.items i c ≡ mark_at l.initial.rows.items i c

abbrev pub decreases-loop-alloc : goal.decreases-loop-alloc
decreases-loop-alloc l = l.index + 1 - vec_len l.rows
