use Rattle.std.proofs.Common.{◌≡◌, ◌/◌, Some, refl, sym, ap, ◌∙◌, arith, slice_get}
use Rattle.std.specs.Option.{option_map_or}
use Rattle.std.proofs.lemmas.Bool.{ltb-true}
use Rattle.std.proofs.lemmas.Option.{slice_get_read}
use Rattle.fbc_kinds.specs.Limits.{tip_numbers}
use Rattle.fbc_kinds.specs.View.{size_of}
use Rattle.fbc_kinds.specs.declared.pages.Header.{Header}
use Rattle.fbc_links.proofs.WalkedPages.{state_kept}
use Rattle.fbc_links.proofs.versions.Walked.is_committed.Goals as goal

pub returns-in_default-get : goal.returns-in_default-get
returns-in_default-get c view walked =
    let size = c.args.self.now.size in
    let same : size_of view ≡ size = ap (λ o. option_map_or (λ (g : Header). g.size) o 0) walked.header_is ∙ walked.header_size in
    let tip = c.in-Some.tip.now in
    let at : slice_get walked.header.tips (c.args.number / tip_numbers size) ≡ Some tip =
    ap (λ tips. slice_get tips (c.args.number / tip_numbers size)) walked.header_tips
    ∙ slice_get_read c.args.self.now.tips.now _ (c.args.number / tip_numbers size) tip refl (ltb-true _ _ (sym c.in-Some.ensures.lookup.0)) c.in-Some.ensures.lookup.1
    in
    let known = state_kept walked.shape walked.bytes view walked.shown walked.header walked.header_is _ size c.args.number tip same at _ (walked.kept tip) in
    grind (arith, known)

pub returns : goal.returns
returns c view walked =
    let size = c.args.self.now.size in
    let same : size_of view ≡ size = ap (λ o. option_map_or (λ (g : Header). g.size) o 0) walked.header_is ∙ walked.header_size in
    let tip = c.in-Some.tip.now in
    let at : slice_get walked.header.tips (c.args.number / tip_numbers size) ≡ Some tip =
    ap (λ tips. slice_get tips (c.args.number / tip_numbers size)) walked.header_tips
    ∙ slice_get_read c.args.self.now.tips.now _ (c.args.number / tip_numbers size) tip refl (ltb-true _ _ (sym c.in-Some.ensures.lookup.0)) c.in-Some.ensures.lookup.1
    in
    let known = state_kept walked.shape walked.bytes view walked.shown walked.header walked.header_is _ size c.args.number tip same at _ (walked.kept tip) in
    grind (arith, known)
