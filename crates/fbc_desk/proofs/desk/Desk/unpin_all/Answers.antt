-- Each turn unpins the least page in use.
use Rattle.std.proofs.Common.{ℕ, Option, Some, None, subst}
use Rattle.fbc_cache.specs.Least.{IsLeast, is_pinned_past}
use Rattle.fbc_desk.specs.Calls.{stays}
use Rattle.fbc_desk.specs.Desk.{DeskState}
use Rattle.fbc_desk.proofs.Goes.{goes_on}
use Rattle.fbc_desk.proofs.Unpinning.{all-unpinned, smaller, turn}
use Rattle.fbc_desk.proofs.desk.Desk.unpin_all.Goals as goal

-- What is found in the cache is found in the desk.
abbrev IsLeastPinned : Option ℕ → DeskState → Type 0
IsLeastPinned page d = IsLeast (is_pinned_past d.cache.held None) page

pub loop-page-init : goal.loop-page-init
loop-page-init c = ((λ after is. is), stays c.args.self.now)

pub loop-page-smaller : goal.loop-page-smaller
loop-page-smaller c =
    let least : IsLeastPinned (Some c.in-Some.page) c.loop-page.self = subst (IsLeastPinned (Some c.in-Some.page)) c.self.view_is c.in-Some.ensures in
    smaller c.loop-page.self c.in-Some.page least c.unpin.new.self c.unpin.ensures.unpins

pub loop-page-preserved : goal.loop-page-preserved
loop-page-preserved c =
    let least : IsLeastPinned (Some c.in-Some.page) c.loop-page.self = subst (IsLeastPinned (Some c.in-Some.page)) c.self.view_is c.in-Some.ensures in (
      (λ after rest. c.loop-page.invariant.0 after (turn c.loop-page.self c.in-Some.page least c.unpin.new.self c.unpin.ensures.unpins after rest)),
      goes_on c.args.self.now c.loop-page.self c.unpin.new.self c.loop-page.invariant.1 c.unpin.ensures.goes,
    )

pub returns-clause-unpins : goal.returns-clause-unpins
returns-clause-unpins c =
    c.loop-page.invariant.0 c.loop-page.self (all-unpinned c.loop-page.self (subst (IsLeastPinned None) c.self.view_is c.in_default.ensures))
