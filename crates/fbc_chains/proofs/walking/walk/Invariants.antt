-- The read stands at a version on the way down from the first one, over the same copies.
use Rattle.std.proofs.Common.{◌≡◌, ◌≢◌, ◌⊎◌, ℕ}
use Rattle.fbc_kinds.specs.Chain.{holds}
use Rattle.fbc_desk.specs.Calls.{GoesOn}
use Rattle.fbc_chains.specs.declared.parts.ReadPart.TheVariants as parts
use Rattle.fbc_chains.specs.Reading.{LeadsTo}
use Rattle.fbc_chains.specs.Showing.{shown_by}
use Rattle.fbc_chains.specs.Using.{IsUsed}
use Rattle.fbc_chains.specs.Versions.{version_at}
use Rattle.fbc_chains.proofs.walking.walk.Given as goal

abbrev pub invariant-loop-below : goal.invariant-loop-below
invariant-loop-below l =
    LeadsTo (shown_by l.initial.desk.cache) l.at (holds l.snapshot) (parts.Walk l.from l.first) (parts.Walk l.page l.cell)
    × (shown_by l.desk.cache ≡ shown_by l.initial.desk.cache) × GoesOn l.initial.desk l.desk
    × (IsUsed l.initial.desk l.from → IsUsed l.desk l.page)
    × ((other : ℕ) → IsUsed l.desk other → (IsUsed l.initial.desk other × (other ≢ l.from)) ⊎ (other ≡ l.page))

abbrev pub decreases-loop-below : goal.decreases-loop-below
decreases-loop-below l = (version_at (shown_by l.initial.desk.cache) l.page l.cell).number
