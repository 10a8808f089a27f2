use Rattle.std.proofs.Common.{◌≡◌, true, refl, sym}
use Rattle.fbc_cache.proofs.Conditions.{loose-free, loose-full}
use Rattle.fbc_cache.proofs.cache.Cache.has_loose.Goals as goal

pub returns-then-not-is_full : goal.returns-then-not-is_full
returns-then-not-is_full c =
    let buffers = c.self.inside.buffers in
    let free = loose-free buffers.held buffers.room c.is_full.ensures.few (λ same. absurd (let yes : c.is_full.result ≡ true = c.is_full.ensures.full.1 same in cc c.if-not-is_full.true)) in
    rw (← c.self.view_is) (λ _. free, λ _. rw c.if-not-is_full.true refl)

pub returns-else-not-is_full : goal.returns-else-not-is_full
returns-else-not-is_full c =
    let buffers = c.self.inside.buffers in
    let yes : c.is_full.result ≡ true = cc c.if-not-is_full.false in
    rw (← c.self.view_is, c.is_some.ensures) (loose-full buffers.held buffers.room (c.is_full.ensures.full.0 yes) c.victim.result (sym c.victim.ensures))
