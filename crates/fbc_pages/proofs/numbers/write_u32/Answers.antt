use Rattle.std.proofs.Common.{◌+◌, ◌∙◌, arith}
use Rattle.std.proofs.lemmas.Slice.{drop-put_mid}
use Rattle.fbc_kinds.proofs.Numbers.{length-range}
use Rattle.fbc_pages.proofs.numbers.write_u32.Goals as goal

pub returns-clause-after : goal.returns-clause-after
returns-clause-after c = drop-put_mid c.args.at _ c.args.out.now c.write_u32.new.buf _ (omega arith) (omega arith) (c.write_u32.auto.buf ∙ length-range c.args.at (c.args.at + 4) c.args.out.now c.requires)
