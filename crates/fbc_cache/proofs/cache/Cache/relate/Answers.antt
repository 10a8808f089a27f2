-- One more pair, or none, of a dirty page and of one held in EX.
use Rattle.std.proofs.Common.{◌≤◌, ◌∙◌, [], ◌∷◌, ◌++◌, length, sym, ap, subst, arith}
use Rattle.fbc_precedence.specs.Pages.{pages_of}
use Rattle.fbc_precedence.specs.Precedence.{Precedence, pair_of}
use Rattle.fbc_cache.specs.Cache.{CacheState, IsHeldPair}
use Rattle.fbc_cache.proofs.HeldPairs.{ArePairs}
use Rattle.fbc_cache.proofs.Relating.{answer-relates, few-pages, new-pair, pairs-push, told-buffers, told-pairs}
use Rattle.fbc_cache.proofs.cache.Cache.relate.Goals as goal

pub relate-requires-clause-room : goal.relate-requires-clause-room
relate-requires-clause-room c =
    let all : ArePairs c.args.self.now.held c.args.self.now.pairs = subst (λ (s : CacheState). ArePairs s.held s.pairs) c.self.view_is c.self.invariant.2.pairs in
    let more = pairs-push c.args.self.now.held c.args.self.now.pairs (pair_of c.args.high c.args.page) all (new-pair c.args.self.now.held c.args.page c.args.high c.requires.exclusive c.requires.needed) in
    let few = few-pages c.args.self.now.held (c.args.self.now.pairs ++ pair_of c.args.high c.args.page ∷ []) c.pages_are_few.ensures more in
    let fits : length (pages_of (c.args.self.now.pairs ++ pair_of c.args.high c.args.page ∷ [])) ≤ c.args.self.now.room = omega (arith, few, c.holds.ensures.holding.few) in
    rw c.self.invariant.1 (subst (λ (s : CacheState). length (pages_of (s.pairs ++ pair_of c.args.high c.args.page ∷ [])) ≤ s.room) (sym c.self.view_is) fits)

pub invariant_of-self : goal.invariant_of-self
invariant_of-self c =
    let new : IsHeldPair c.self.inside.buffers.held (pair_of c.args.high c.args.page) = subst (λ (s : CacheState). IsHeldPair s.held (pair_of c.args.high c.args.page)) (sym c.self.view_is) (new-pair c.args.self.now.held c.args.page c.args.high c.requires.exclusive c.requires.needed) in (
      c.self.invariant.0,
      ap (λ (o : Precedence). o.buffers) c.relate.ensures.after ∙ told-buffers c.self.inside.buffers.held c.self.inside.graph c.args.high c.args.page c.relate.result ∙ c.self.invariant.1,
      record {
        buffers = c.self.invariant.2.buffers;
        one_wait = c.self.invariant.2.one_wait;
        pairs = subst (λ (o : Precedence). ArePairs c.self.inside.buffers.held o.pairs) (sym c.relate.ensures.after) (told-pairs c.self.inside.buffers.held c.self.inside.graph c.args.high c.args.page c.relate.result c.self.invariant.2.pairs new);
      },
    )

pub returns-clause-pairs : goal.returns-clause-pairs
returns-clause-pairs c =
    let told = answer-relates c.self.inside.graph c.args.high c.args.page c.relate.result c.relate.ensures.already c.relate.ensures.write_first c.relate.ensures.recorded in
    rw (sym (ap (λ (s : CacheState). s.pairs) c.self.view_is), c.relate.ensures.after, c.is_write_first.ensures) told
