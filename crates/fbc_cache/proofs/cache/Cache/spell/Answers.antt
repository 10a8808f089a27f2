-- What is spelled is within its limits.
use Rattle.std.proofs.Common.{◌≡◌, ◌∙◌, Some, sym, ap}
use Rattle.std.specs.Option.{option_copied}
use Rattle.fbc_cache.specs.Cache.{copy_in}
use Rattle.fbc_cache.proofs.Editing.{used-limits}
use Rattle.fbc_cache.proofs.cache.Cache.spell.Goals as goal

pub spell_page-requires-clause-limits : goal.spell_page-requires-clause-limits
spell_page-requires-clause-limits c =
    let found : copy_in c.args.self.now.held c.args.page ≡ Some c.in-Some.copy.now = sym c.page.ensures ∙ ap option_copied c.in-Some.is in
    used-limits c.self.inside.shape c.self.inside.buffers.held c.args.page c.in-Some.copy.now c.self.invariant.2.buffers (rw (← c.self.view_is) at found)
