use Rattle.fbc_kinds.specs.TipSpelling.{SpellsTip}
use Rattle.fbc_console.specs.FreshFile.{fresh_tip}
use Rattle.fbc_console.proofs.CommitLemmas.{is_fresh}
use Rattle.fbc_console.proofs.images.spells_tip.Goals as goal

pub returns : goal.returns
returns c = is_fresh (SpellsTip 1024) c.in_ok-fresh_tip.field-0 fresh_tip c.args.bytes.now c.image_of_tip-image.result.bytes c.is_same.result c.in_ok-fresh_tip.ensures.page c.image_of_tip-image.ensures.bytes c.is_same.ensures (λ a b x y. c.one_tip.ensures.spelling 1024 fresh_tip a b x y)
