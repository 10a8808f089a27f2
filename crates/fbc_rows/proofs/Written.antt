-- Writes are asked where an edit waits for a high page.
use Rattle.std.proofs.Common.{[], ℕ, List}
use Rattle.fbc_world.specs.declared.asks.Ask.{Ask}
use Rattle.fbc_desk.specs.Desk.{DeskState}
use Rattle.fbc_desk.specs.Grounds.{inventory_over}
use Rattle.fbc_space.specs.declared.taking_pages.TakeStep.TheVariants as takes
use Rattle.fbc_space.specs.declared.taking_pages.Taking.{Taking}
use Rattle.fbc_space.specs.declared.taking_pages.Taking.TheVariants as takings
use Rattle.fbc_space.specs.TakingPages.{IsHalted, TakesTo, format_edit, format_highs, take_edit}
use Rattle.fbc_rows.specs.declared.parts.RowStep.{RowStep}
use Rattle.fbc_rows.specs.declared.parts.RowStep.TheVariants as step
use Rattle.fbc_rows.specs.Putting.{PutComesTo, row_edit, row_highs}
use Rattle.fbc_rows.specs.Writes.{IsDueFirst, Writes}

-- One of the edits by which a free page becomes a data page.
pub take-writes : (page relation sequence : ℕ) (from to : Taking) (before after : DeskState) (asked : Ask) → TakesTo page relation sequence from to before after (takes.Must asked) → IsDueFirst after asked
take-writes page relation sequence from to before after asked is = go to is.stops where
  go : (stage : Taking) → IsHalted page relation sequence stage is.between after asked → IsDueFirst after asked
  go takings.Free halted = record {
    before = is.between;
    page = inventory_over is.between.cache.shape.size page;
    made_by = take_edit page;
    highs = [];
    waits = record { edited = halted.edited; high = halted.high; halts = halted.halts; is_write = halted.is_write };
  }
  go takings.Taken halted = record {
    before = is.between;
    page = page;
    made_by = format_edit page relation sequence;
    highs = format_highs is.between page;
    waits = record { edited = halted.edited; high = halted.high; halts = halted.halts; is_write = halted.is_write };
  }
  go takings.Formatted halted = absurd (cc (halted.halts.1))

-- The edit that puts the row.
pub put-writes : (before : DeskState) (relation number : ℕ) (value : List ℕ) (page sequence cell : ℕ) (after : DeskState) (found : RowStep)
    → PutComesTo before relation number value page sequence cell after found → Writes after found
put-writes before relation number value page sequence cell after (step.Done row) puts = tt
put-writes before relation number value page sequence cell after (step.Miss need) puts = tt
put-writes before relation number value page sequence cell after (step.Must asked) puts = record { before = before; page = page; made_by = row_edit cell number value; highs = row_highs; waits = puts }
put-writes before relation number value page sequence cell after step.Again puts = tt
put-writes before relation number value page sequence cell after (step.Limit pages) puts = tt
put-writes before relation number value page sequence cell after (step.Damaged damaged broken) puts = tt
put-writes before relation number value page sequence cell after step.Refused puts = tt
put-writes before relation number value page sequence cell after step.Unbuilt puts = tt
