use Rattle.fbc_kinds.specs.HeaderSpelling.{SpellsHeader}
use Rattle.fbc_console.specs.FreshFile.{fresh_header}
use Rattle.fbc_console.proofs.CommitLemmas.{is_fresh}
use Rattle.fbc_console.proofs.images.spells_header.Goals as goal

pub returns : goal.returns
returns c = is_fresh (SpellsHeader 1024) c.in_ok-fresh_header.field-0 fresh_header c.args.bytes.now c.image_of_header-image.result.bytes c.is_same.result c.in_ok-fresh_header.ensures.page c.image_of_header-image.ensures.bytes c.is_same.ensures (λ a b x y. c.one_header.ensures.spelling 1024 fresh_header a b x y)
