use Rattle.std.proofs.Common.{◌≡◌, List}
use Rattle.fbc_kinds.specs.View.{View}
use Rattle.fbc_links.specs.Following.{AreFollowed}
use Rattle.fbc_links.specs.Links.{Link}
use Rattle.fbc_links.specs.Versions.{IsWalked}
use Rattle.fbc_links.proofs.Followed.{IsHalfWay}
use Rattle.fbc_links.proofs.chains.Chains.follow_chain.Given as goal

abbrev pub invariant-loop-back : goal.invariant-loop-back
invariant-loop-back l =
    (l.self.walked ≡ l.initial.self.walked)
    × ((view : View) (all : List Link)
    → IsWalked view l.initial.self.walked
    → AreFollowed view all l.initial.self
    → IsHalfWay view all l.relation l.initial.place l.initial.version l.place l.version l.self)

abbrev pub decreases-loop-back : goal.decreases-loop-back
decreases-loop-back l = l.version.number
