use Rattle.std.proofs.Common.{◌∙◌}
use Rattle.fbc_outside.proofs.WrittenLemmas.{put_back}
use Rattle.fbc_outside.proofs.buffer.Buffer.put.Goals as goal

pub returns-clause-bytes : goal.returns-clause-bytes
returns-clause-bytes c =
    put_back _ _ c.args.from.now _ c.deref_mut.result.now _ _ (c.deref_mut.ensures.value ∙ c.grow.ensures.items) c.overwrite.ensures (c.overwrite.auto.bytes ∙ c.deref_mut.ensures.len)
