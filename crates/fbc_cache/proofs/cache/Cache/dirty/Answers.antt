-- The page that is written next for a dirty one is the first, and none is dirty where none is found.
use Rattle.std.proofs.Common.{◌≡◌, ◌∙◌, true, sym, ap, subst}
use Rattle.std.specs.Option.{option_copied}
use Rattle.fbc_precedence.specs.Precedence.{IsNextToWrite}
use Rattle.fbc_cache.specs.Cache.{CacheState, is_dirty_in}
use Rattle.fbc_cache.proofs.Dirty.{found-dirty, next-of, none-dirty}
use Rattle.fbc_cache.proofs.HeldPairs.{ArePairs}
use Rattle.fbc_cache.proofs.cache.Cache.dirty.Goals as goal

pub least_next-requires : goal.least_next-requires
least_next-requires c =
    let all : ArePairs c.args.self.now.held c.args.self.now.pairs = subst (λ (s : CacheState). ArePairs s.held s.pairs) c.self.view_is c.self.invariant.2.pairs in
    let dirty : is_dirty_in c.args.self.now.held c.in-Some.buffer.now.page ≡ true = found-dirty c.args.self.now.held c.in-Some.buffer.now c.first_dirty.ensures.apart (sym (c.first_dirty.ensures.first) ∙ ap option_copied c.in-Some.is) in
    next-of c.args.self.now all c.in-Some.buffer.now.page c.next_to_write.result dirty (subst (λ (s : CacheState). IsNextToWrite s.pairs c.in-Some.buffer.now.page c.next_to_write.result) c.self.view_is c.next_to_write.ensures)

pub returns-in-None : goal.returns-in-None
returns-in-None c = none-dirty c.args.self.now.held (sym (c.first_dirty.ensures.first) ∙ ap option_copied c.in-None.is)
