use Rattle.fbc_kinds.proofs.TipLaws.{tip-one_spelling, tip-one_page}
use Rattle.fbc_kinds.proofs.TipRules.{tip-unbroken}
use Rattle.fbc_kinds.proofs.Sizes.{has_content}
use Rattle.fbc_pages.proofs.laws.one_tip.Goals as goal

pub returns : goal.returns
returns c = record {
  spelling = tip-one_spelling;
  unbroken = λ size page bytes is spelled. tip-unbroken size page bytes (has_content size is) spelled;
  page = tip-one_page;
}
