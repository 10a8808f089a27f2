use Rattle.std.proofs.Common.{length, ap, ◌∙◌, arith}
use Rattle.std.proofs.lemmas.Slice.{between_to_end}
use Rattle.fbc_kinds.specs.Head.{is_zeros}
use Rattle.fbc_pages.proofs.content.ends_in_zeros.Goals as goal

pub returns : goal.returns
returns c = c.is_zeros.ensures ∙ ap is_zeros (between_to_end c.args.bytes.now 400 (length c.args.bytes.now) (omega arith))
