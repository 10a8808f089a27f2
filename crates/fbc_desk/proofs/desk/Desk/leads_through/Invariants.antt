-- What the high pages that are left tell is what all of them tell.
use Rattle.std.proofs.Common.{◌↔◌, drop}
use Rattle.fbc_desk.specs.Grounds.{LeadsThrough}
use Rattle.fbc_desk.proofs.desk.Desk.leads_through.Given as goal

abbrev pub invariant-loop-high : goal.invariant-loop-high
invariant-loop-high l = LeadsThrough l.self.cache (drop l.high-index l.highs) l.other ↔ LeadsThrough l.self.cache l.highs l.other
