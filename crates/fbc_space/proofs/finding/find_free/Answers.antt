-- Step by step the search comes further, until it is stopped.
use Rattle.std.proofs.Common.{◌≡◌, false, arith}
use Rattle.fbc_space.specs.Finding.{is_over}
use Rattle.fbc_space.proofs.Searching.{comes-first, comes-further, goes-there, past-full, past-there, stops-there}
use Rattle.fbc_space.proofs.finding.find_free.Goals as goal

pub loop-search-init : goal.loop-search-init
loop-search-init c = comes-first c.args.desk.now c.args.limit c.args.search.now

pub loop-search-preserved : goal.loop-search-preserved
loop-search-preserved c =
    let within : is_over c.loop-search.desk.cache.shape.size c.args.limit c.loop-search.search.sequence ≡ false = grind (arith, c.is_over.ensures, c.loop-search-test.true) in
    comes-further c.args.desk.now c.loop-search.desk c.step.new.desk c.args.limit c.args.passed.now
    c.args.search.now c.loop-search.search c.step.new.search c.loop-search.invariant within c.step.ensures.same c.step.ensures.goes c.in_default.ensures.step

pub returns-in-Some-clause-past : goal.returns-in-Some-clause-past
returns-in-Some-clause-past c =
    let within : is_over c.loop-search.desk.cache.shape.size c.args.limit c.loop-search.search.sequence ≡ false = grind (arith, c.is_over.ensures, c.loop-search-test.true) in
    past-there c.args.desk.now c.loop-search.desk c.step.new.desk c.args.limit c.args.passed.now
    c.args.search.now c.loop-search.search c.step.new.search c.loop-search.invariant within c.step.ensures.same c.step.ensures.goes c.in-Some.found c.in-Some.ensures.step

pub returns-in-Some-clause-found : goal.returns-in-Some-clause-found
returns-in-Some-clause-found c =
    let within : is_over c.loop-search.desk.cache.shape.size c.args.limit c.loop-search.search.sequence ≡ false = grind (arith, c.is_over.ensures, c.loop-search-test.true) in
    stops-there c.args.desk.now c.loop-search.desk c.step.new.desk c.args.limit c.args.passed.now
    c.args.search.now c.loop-search.search c.step.new.search c.loop-search.invariant within c.step.ensures.same c.step.ensures.goes c.in-Some.found c.in-Some.ensures.step

pub returns-in-Some-clause-full : goal.returns-in-Some-clause-full
returns-in-Some-clause-full c =
    let within : is_over c.loop-search.desk.cache.shape.size c.args.limit c.loop-search.search.sequence ≡ false = grind (arith, c.is_over.ensures, c.loop-search-test.true) in
    past-full c.args.desk.now c.args.limit c.args.search.now c.step.new.search
    (past-there c.args.desk.now c.loop-search.desk c.step.new.desk c.args.limit c.args.passed.now
    c.args.search.now c.loop-search.search c.step.new.search c.loop-search.invariant within c.step.ensures.same c.step.ensures.goes c.in-Some.found c.in-Some.ensures.step)

pub returns-in-Some-clause-goes : goal.returns-in-Some-clause-goes
returns-in-Some-clause-goes c =
    let within : is_over c.loop-search.desk.cache.shape.size c.args.limit c.loop-search.search.sequence ≡ false = grind (arith, c.is_over.ensures, c.loop-search-test.true) in
    goes-there c.args.desk.now c.loop-search.desk c.step.new.desk c.args.limit c.args.passed.now
    c.args.search.now c.loop-search.search c.step.new.search c.loop-search.invariant within c.step.ensures.same c.step.ensures.goes

pub returns-clause-full : goal.returns-clause-full
returns-clause-full c = past-full c.args.desk.now c.args.limit c.args.search.now c.loop-search.search c.loop-search.invariant.past
