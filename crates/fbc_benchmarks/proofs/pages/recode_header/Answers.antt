use Rattle.fbc_benchmarks.proofs.pages.recode_header.Goals as goal

pub returns : goal.returns
returns c = c.one_header.ensures.spelling 4096 _ _ _ c.encode_header.ensures c.in_ok-header.ensures.page
