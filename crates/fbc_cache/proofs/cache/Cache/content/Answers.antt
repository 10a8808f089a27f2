-- The copy is within its limits.
use Rattle.std.proofs.Common.{◌≡◌, ◌∙◌, Some, IfSome, sym, ap, subst}
use Rattle.std.specs.Option.{option_copied}
use Rattle.fbc_kinds.specs.Edits.{IsWithinLimits}
use Rattle.fbc_cache.specs.Cache.{CacheState, copy_in}
use Rattle.fbc_cache.proofs.Buffers.{AreBuffers}
use Rattle.fbc_cache.proofs.Editing.{copy-limits, copied-limits}
use Rattle.fbc_cache.proofs.cache.Cache.content.Goals as goal

pub returns-in-Some-clause-limits : goal.returns-in-Some-clause-limits
returns-in-Some-clause-limits c =
    let all : AreBuffers c.args.self.now.shape c.args.self.now.held = subst (λ (s : CacheState). AreBuffers s.shape s.held) c.self.view_is c.self.invariant.2.buffers in
    let found : copy_in c.args.self.now.held c.args.page ≡ Some c.in-Some.copy.now = sym c.page.ensures ∙ ap option_copied c.in-Some.is in
    let limits : IsWithinLimits c.args.self.now.shape c.in-Some.copy.now = subst (λ copy. IfSome copy (IsWithinLimits c.args.self.now.shape)) found (copy-limits c.args.self.now.shape c.args.self.now.held c.args.page all) in
    copied-limits c.args.self.now.shape c.in-Some.copy.now c.copied.result limits c.copied.ensures
