-- There is one way on, and none from where the search stops.
use Rattle.fbc_space.proofs.Exact.{stops-once}
use Rattle.fbc_space.proofs.Ways.{ends-once}
use Rattle.fbc_space.proofs.laws.searches_are_exact.Goals as goal

pub returns-clause-place : goal.returns-clause-place
returns-clause-place c = ends-once

pub returns-clause-answer : goal.returns-clause-answer
returns-clause-answer c = stops-once
