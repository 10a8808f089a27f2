use Rattle.std.proofs.Common.{inl, refl}
use Rattle.fbc_kinds.specs.PointerSpelling.{SpellsPointer}
use Rattle.fbc_console.specs.FreshFile.{fresh_pointer}
use Rattle.fbc_console.proofs.CommitLemmas.{is_fresh}
use Rattle.fbc_console.proofs.images.spells_pointer.Goals as goal

pub returns : goal.returns
returns c = is_fresh (SpellsPointer 1024) c.in_ok-fresh_pointer.field-0 fresh_pointer c.args.bytes.now c.image_of_pointer-image.result.bytes c.is_same.result c.in_ok-fresh_pointer.ensures.page c.image_of_pointer-image.ensures.bytes c.is_same.ensures (λ a b x y. c.one_pointer.ensures.spelling 1024 fresh_pointer a b (inl refl) x y)
