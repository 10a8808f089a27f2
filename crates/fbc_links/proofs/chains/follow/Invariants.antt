use Rattle.std.proofs.Common.{◌≡◌, take}
use Rattle.std.specs.List.{flat_map}
use Rattle.fbc_kinds.specs.View.{View}
use Rattle.fbc_links.specs.Following.{AreFollowed, links_of_naming}
use Rattle.fbc_links.specs.Versions.{IsWalked}
use Rattle.fbc_links.proofs.chains.follow.Given as goal

-- The pages so far.
abbrev pub invariant-loop-naming : goal.invariant-loop-naming
invariant-loop-naming l =
    (l.chains.walked.tally.now ≡ l.tally)
    × (l.chains.walked.size ≡ l.size)
    × (l.chains.walked.tips.now ≡ l.tips)
    × ((view : View) → IsWalked view l.chains.walked → AreFollowed view (flat_map (links_of_naming view) (take l.naming-index l.found)) l.chains)
