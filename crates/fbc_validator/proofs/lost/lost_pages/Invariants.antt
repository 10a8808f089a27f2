use Rattle.std.proofs.Common.{◌≡◌, filter}
use Rattle.std.specs.List.{range_with_len}
use Rattle.fbc_validator.specs.Lost.{is_lost_by}
use Rattle.fbc_validator.proofs.lost.lost_pages.Given as goal

-- The lost ones among the first pages.
abbrev pub invariant-loop-page : goal.invariant-loop-page
invariant-loop-page l = l.lost.items ≡ filter (is_lost_by l.tally l.header) (range_with_len 0 l.page)
