use Rattle.std.proofs.Common.{◌≡◌, ◌≤◌, ◌^◌, ◌++◌, List, length, map, take}
use Rattle.fbc_kinds.specs.View.{View}
use Rattle.fbc_kinds.specs.declared.pages.Cell.{Cell}
use Rattle.fbc_links.specs.Following.{AreFollowed}
use Rattle.fbc_reach.specs.Content.{version_kept}
use Rattle.fbc_links.specs.Links.{Link, links_of_cells}
use Rattle.fbc_links.specs.Versions.{IsWalked}
use Rattle.fbc_links.proofs.chains.Chains.follow_tops.Given as goal

-- The tops so far.
abbrev pub invariant-loop-index : goal.invariant-loop-index
invariant-loop-index l =
    (l.self.walked ≡ l.initial.self.walked)
    × ((view : View) (all : List Link) (cells : List Cell)
    → IsWalked view l.initial.self.walked
    → l.versions ≡ map version_kept cells
    → length cells ≤ 2 ^ 16
    → AreFollowed view all l.initial.self
    → AreFollowed view (all ++ links_of_cells view l.relation l.page 0 (take l.index cells)) l.self)
