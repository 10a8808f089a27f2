use Rattle.std.proofs.Common.{length, ap, ◌∙◌, arith}
use Rattle.std.specs.List.{list_any}
use Rattle.std.proofs.lemmas.Slice.{between_to_end}
use Rattle.fbc_kinds.specs.TipSpelling.{byte_has_limbo}
use Rattle.fbc_pages.proofs.tips.has_bad_state.Goals as goal

pub returns : goal.returns
returns c = c.any_limbo.ensures ∙ ap (list_any byte_has_limbo) (between_to_end c.args.bytes.now 16 (length c.args.bytes.now) (omega arith))
