-- The dirty pages are written in their order.
use Rattle.std.proofs.Common.{Some, None, refl, subst}
use Rattle.fbc_cache.specs.Cache.{CacheState}
use Rattle.fbc_cache.specs.Edits.{IsLeastDirty}
use Rattle.fbc_desk.specs.Calls.{GoesOn}
use Rattle.fbc_tra.specs.declared.committing.CommitStage.TheVariants as stages
use Rattle.fbc_tra.specs.Commits.{CommitAnswers, CommitMoves, CommitWants}
use Rattle.fbc_tra.proofs.Ways.{comes-here, on-ok, stops-on}
use Rattle.fbc_tra.proofs.committing.from_drafts.Goals as goal

pub returns-in-Some-clause-comes : goal.returns-in-Some-clause-comes
returns-in-Some-clause-comes c =
    comes-here _ _ _ _ _ (
      record {
        page = c.in-Some.page;
        least = subst (λ (lent : CacheState). IsLeastDirty lent (Some c.in-Some.page)) c.cache.ensures c.in-Some.ensures;
        is_write = c.write.ensures;
      },
      refl,
      refl,
    )

pub returns-in-Some-clause-goes : goal.returns-in-Some-clause-goes
returns-in-Some-clause-goes c = GoesOn.stays c.args.desk.now

pub returns-in-None-clause-comes : goal.returns-in-None-clause-comes
returns-in-None-clause-comes c =
    on-ok (CommitMoves c.args.number) (CommitAnswers c.args.number) c.args.desk.now c.args.desk.now c.from_header.new.desk stages.Drafts stages.Header c.from_header.new.stage c.from_header.result
    (subst (λ (lent : CacheState). IsLeastDirty lent None) c.cache.ensures c.in-None.ensures, refl) c.from_header.ensures.comes

pub returns-in-None-clause-err : goal.returns-in-None-clause-err
returns-in-None-clause-err c =
    stops-on (CommitMoves c.args.number) CommitWants c.args.desk.now c.args.desk.now c.from_header.new.desk stages.Drafts stages.Header c.from_header.new.stage c.from_header.result
    (subst (λ (lent : CacheState). IsLeastDirty lent None) c.cache.ensures c.in-None.ensures, refl) c.from_header.ensures.err
