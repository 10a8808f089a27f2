use Rattle.std.proofs.Common.{◌≡◌, ◌<◌, None, length, arith}
use Rattle.std.specs.List.{filter}
use Rattle.fbc_buffers.specs.Holding.{is_pinned, victim_of}
use Rattle.fbc_buffers.proofs.Victim.{victim-some}
use Rattle.fbc_cache.proofs.cache.Cache.want_buffer.Goals as goal

pub returns-in-None : goal.returns-in-None
returns-in-None c =
    let held = c.self.inside.buffers.held in
    let fewer : length (filter is_pinned held) < length held = grind (arith, c.requires.loose, c.self.view_is, c.is_full.ensures.full, c.if-not-is_full.false) in
    let none : victim_of held ≡ None = grind (arith, c.victim.ensures, c.in-None.is) in
    absurd (victim-some held fewer none)
