use Rattle.fbc_benchmarks.proofs.pages.recode_tip.Goals as goal

pub returns : goal.returns
returns c = c.one_tip.ensures.spelling 4096 _ _ _ c.encode_tip.ensures c.in_ok-tip.ensures.page
