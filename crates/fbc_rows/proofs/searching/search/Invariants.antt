-- The sequences so far are passed over, by the copies at hand. Behind the first one the search stands at a slot.
use Rattle.std.proofs.Common.{◌≡◌, ◌⊎◌, ◌-◌}
use Rattle.fbc_desk.specs.Calls.{GoesOn}
use Rattle.fbc_chains.specs.Showing.{shown_by}
use Rattle.fbc_rows.specs.declared.parts.Stage.TheVariants as stages
use Rattle.fbc_rows.specs.Searching.{ArePassed}
use Rattle.fbc_rows.proofs.searching.search.Given as goal

abbrev pub invariant-loop-part : goal.invariant-loop-part
invariant-loop-part l =
    ArePassed (shown_by l.initial.desk.cache) l.relation l.initial.part.at l.part.at
    × (shown_by l.desk.cache ≡ shown_by l.initial.desk.cache) × GoesOn l.initial.desk l.desk
    × (l.part ≡ record l.initial.part { at = l.part.at; stage = l.part.stage })
    × ((l.part ≡ l.initial.part) ⊎ (l.part.stage ≡ stages.Slot))

abbrev pub decreases-loop-part : goal.decreases-loop-part
decreases-loop-part l = l.end - l.part.at
