-- What comes before the row is put.
use Rattle.std.proofs.Common.{◌≡◌, ℕ, List, Option, Some, None, Result, Ok, Err, IfOk, refl, sym, subst, inl, inr}
use Rattle.fbc_desk.specs.Calls.{GoesOn, UnpinsAll, stays}
use Rattle.fbc_desk.specs.Desk.{DeskState}
use Rattle.fbc_desk.proofs.Goes.{goes_on}
use Rattle.fbc_chains.specs.Showing.{Showing}
use Rattle.fbc_rows.specs.declared.parts.InsertPart.{InsertPart}
use Rattle.fbc_rows.specs.declared.parts.RowStep.{RowStep}
use Rattle.fbc_rows.specs.declared.parts.RowStep.TheVariants as step
use Rattle.fbc_rows.specs.declared.searching.Stop.{Stop}
use Rattle.fbc_rows.specs.declared.searching.Stop.TheVariants as stop
use Rattle.fbc_rows.specs.Inserting.{InsertComesTo, IsAtEnd, IsBefore, IsBetween, IsUnused, Leaves, LimitComes, Searches, SearchesFirst, Sought, place_after}
use Rattle.fbc_rows.specs.Putting.{PutComesTo}
use Rattle.fbc_rows.specs.Searching.{ArePassed, CellComesTo, PassEnds, SearchEnds, SearchStops}
use Rattle.fbc_rows.proofs.Ways.{all-passed}

-- What comes between is no row.
pub between-before : (s : Showing) (relation : ℕ) (from : InsertPart) (found : RowStep) → IsBetween found → IsBefore s relation from found
between-before s relation from (step.Done row) is = is
between-before s relation from (step.Miss need) is = tt
between-before s relation from (step.Must asked) is = tt
between-before s relation from step.Again is = tt
between-before s relation from (step.Limit pages) is = absurd is
between-before s relation from (step.Damaged page broken) is = tt
between-before s relation from step.Refused is = tt
between-before s relation from step.Unbuilt is = tt

-- So the place is left, and the limit is the search's.
pub before-comes : (s : Showing) (from : InsertPart) (before : DeskState) (relation number : ℕ) (value : List ℕ) (place placed : ℕ) (after : DeskState) (found : RowStep) → IsBefore s relation from found → placed ≡ place → InsertComesTo before relation number value place placed after found
before-comes s from before relation number value place placed after (step.Done row) is same = absurd is
before-comes s from before relation number value place placed after (step.Miss need) is same = same
before-comes s from before relation number value place placed after (step.Must asked) is same = same
before-comes s from before relation number value place placed after step.Again is same = same
before-comes s from before relation number value place placed after (step.Limit pages) is same = same
before-comes s from before relation number value place placed after (step.Damaged page broken) is same = same
before-comes s from before relation number value place placed after step.Refused is same = same
before-comes s from before relation number value place placed after step.Unbuilt is same = same

pub before-limit : (s : Showing) (relation : ℕ) (from : InsertPart) (found : RowStep) → IsBefore s relation from found → LimitComes s relation from found
before-limit s relation from (step.Done row) is = tt
before-limit s relation from (step.Miss need) is = tt
before-limit s relation from (step.Must asked) is = tt
before-limit s relation from step.Again is = tt
before-limit s relation from (step.Limit pages) is = is
before-limit s relation from (step.Damaged page broken) is = tt
before-limit s relation from step.Refused is = tt
before-limit s relation from step.Unbuilt is = tt

-- What is put comes with its place, and with no limit.
pub puts-come : (before : DeskState) (relation number : ℕ) (value : List ℕ) (page sequence cell place : ℕ) (after : DeskState) (found : RowStep)
    → PutComesTo before relation number value page sequence cell after found → InsertComesTo before relation number value place (place_after found sequence place) after found
puts-come before relation number value page sequence cell place after (step.Done row) puts = record { between = before; page = page; cell = cell; goes = stays before; puts = puts }
puts-come before relation number value page sequence cell place after (step.Miss need) puts = absurd puts
puts-come before relation number value page sequence cell place after (step.Must asked) puts = refl
puts-come before relation number value page sequence cell place after step.Again puts = absurd puts
puts-come before relation number value page sequence cell place after (step.Limit pages) puts = absurd puts
puts-come before relation number value page sequence cell place after (step.Damaged damaged broken) puts = absurd puts
puts-come before relation number value page sequence cell place after step.Refused puts = refl
puts-come before relation number value page sequence cell place after step.Unbuilt puts = absurd puts

pub puts-end : (before : DeskState) (relation number : ℕ) (value : List ℕ) (page sequence cell : ℕ) (after : DeskState) (found : RowStep)
    → PutComesTo before relation number value page sequence cell after found → IsAtEnd found
puts-end before relation number value page sequence cell after (step.Done row) puts = tt
puts-end before relation number value page sequence cell after (step.Miss need) puts = tt
puts-end before relation number value page sequence cell after (step.Must asked) puts = tt
puts-end before relation number value page sequence cell after step.Again puts = tt
puts-end before relation number value page sequence cell after (step.Limit pages) puts = absurd puts
puts-end before relation number value page sequence cell after (step.Damaged damaged broken) puts = tt
puts-end before relation number value page sequence cell after step.Refused puts = tt
puts-end before relation number value page sequence cell after step.Unbuilt puts = tt

-- So it is after what was done before.
pub comes-later : (before between : DeskState) (relation number : ℕ) (value : List ℕ) (place placed : ℕ) (after : DeskState) (found : RowStep) → GoesOn before between
    → InsertComesTo between relation number value place placed after found → InsertComesTo before relation number value place placed after found
comes-later before between relation number value place placed after (step.Done row) went is = record {
  between = is.between;
  page = is.page;
  cell = is.cell;
  goes = goes_on before between is.between went is.goes;
  puts = is.puts;
}
comes-later before between relation number value place placed after (step.Miss need) went is = is
comes-later before between relation number value place placed after (step.Must asked) went is = is
comes-later before between relation number value place placed after step.Again went is = is
comes-later before between relation number value place placed after (step.Limit pages) went is = is
comes-later before between relation number value place placed after (step.Damaged damaged broken) went is = is
comes-later before between relation number value place placed after step.Refused went is = is
comes-later before between relation number value place placed after step.Unbuilt went is = is

pub end-limit : (s : Showing) (relation : ℕ) (from : InsertPart) (found : RowStep) → IsAtEnd found → LimitComes s relation from found
end-limit s relation from (step.Done row) is = tt
end-limit s relation from (step.Miss need) is = tt
end-limit s relation from (step.Must asked) is = tt
end-limit s relation from step.Again is = tt
end-limit s relation from (step.Limit pages) is = absurd is
end-limit s relation from (step.Damaged page broken) is = tt
end-limit s relation from step.Refused is = tt
end-limit s relation from step.Unbuilt is = tt

-- What the search for an empty cell comes to is how far it goes.
pass-searches : (s : Showing) (relation from : ℕ) (last : Option ℕ) (between to : InsertPart) (found : Option RowStep) → Sought s relation from → PassEnds last between to found → SearchesFirst s relation from to found
pass-searches s relation from None between to found is ends = subst (λ (f : Option RowStep). SearchesFirst s relation from to f) (sym ends.0) is
pass-searches s relation from (Some pages) between to found is ends = subst (λ (f : Option RowStep). SearchesFirst s relation from to f) (sym ends.0) is

ends-search : (s : Showing) (relation home from : ℕ) (between to : InsertPart) (stopped : Option Stop) (found : Option RowStep) → ArePassed s relation from between.at → SearchStops s relation between.at stopped
    → SearchEnds home between to stopped found → SearchesFirst s relation from to found
ends-search s relation home from between to None found passes stops ends = pass-searches s relation from between.last between to found (Sought.all (all-passed s relation from between.at passes stops)) ends
ends-search s relation home from between to (Some (stop.Room page cell)) found passes stops ends =
    subst (λ (f : Option RowStep). SearchesFirst s relation from to f) (sym ends.0) (Sought.room between.at page cell passes stops)
ends-search s relation home from between to (Some (stop.Miss need)) found passes stops ends =
    subst (λ (f : Option RowStep). SearchesFirst s relation from to f) (sym ends.0) (inr (subst (λ (p : InsertPart). ArePassed s relation from p.at) (sym ends.1) passes))
ends-search s relation home from between to (Some stop.Gone) found passes stops ends = subst (λ (f : Option RowStep). SearchesFirst s relation from to f) (sym ends.0) tt
ends-search s relation home from between to (Some (stop.Damaged page broken)) found passes stops ends =
    subst (λ (f : Option RowStep). SearchesFirst s relation from to f) (sym ends.0) (inr (subst (λ (p : InsertPart). ArePassed s relation from p.at) (sym ends.1) passes))

pub cell-searches : (s : Showing) (relation home : ℕ) (from to : InsertPart) (found : Option RowStep) → CellComesTo s relation home from to found → SearchesFirst s relation from.at to found
cell-searches s relation home from to found is = ends-search s relation home from.at is.between to is.stopped found is.passes is.stops is.ends

-- Where it goes to its end, it does so whatever follows.
pub sought-searches : (s : Showing) (relation from : ℕ) (to : InsertPart) (found : RowStep) → Sought s relation from → Searches s relation from to found
sought-searches s relation from to (step.Done row) is = is
sought-searches s relation from to (step.Miss need) is = inl is
sought-searches s relation from to (step.Must asked) is = is
sought-searches s relation from to step.Again is = tt
sought-searches s relation from to (step.Limit pages) is = is
sought-searches s relation from to (step.Damaged page broken) is = inl is
sought-searches s relation from to step.Refused is = is
sought-searches s relation from to step.Unbuilt is = is

pub sought-first : (s : Showing) (relation from : ℕ) (to : InsertPart) (found : Option RowStep) → Sought s relation from → SearchesFirst s relation from to found
sought-first s relation from to None is = is
sought-first s relation from to (Some found) is = sought-searches s relation from to found is

-- When all pages are unpinned, none is in use.
pub unpinned-all : (before after : DeskState) → UnpinsAll before after → IsUnused after
unpinned-all before _ (UnpinsAll.none d empty) = empty
unpinned-all before after (UnpinsAll.next d between last page least unpins rest) = unpinned-all between after rest

-- So it is behind a row that is put.
pub puts-leave : (before : DeskState) (relation number : ℕ) (value : List ℕ) (page sequence cell : ℕ) (after : DeskState) (part : InsertPart) (found : RowStep)
    → PutComesTo before relation number value page sequence cell after found → Leaves after part found
puts-leave before relation number value page sequence cell after part (step.Done row) puts = unpinned-all puts.between after puts.unpins
puts-leave before relation number value page sequence cell after part (step.Miss need) puts = tt
puts-leave before relation number value page sequence cell after part (step.Must asked) puts = tt
puts-leave before relation number value page sequence cell after part step.Again puts = absurd puts
puts-leave before relation number value page sequence cell after part (step.Limit pages) puts = tt
puts-leave before relation number value page sequence cell after part (step.Damaged damaged broken) puts = tt
puts-leave before relation number value page sequence cell after part step.Refused puts = tt
puts-leave before relation number value page sequence cell after part step.Unbuilt puts = tt

pub result-searches : {E : Type 0} (s : Showing) (relation from : ℕ) (to : InsertPart) (result : Result RowStep E) → Sought s relation from → IfOk result (Searches s relation from to)
result-searches s relation from to (Ok found) is = sought-searches s relation from to found is
result-searches s relation from to (Err error) is = tt
