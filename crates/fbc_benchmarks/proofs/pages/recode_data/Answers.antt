use Rattle.std.proofs.Common.{inl, inr, refl}
use Rattle.fbc_benchmarks.proofs.pages.recode_data.Goals as goal

pub returns : goal.returns
returns c = c.one_data.ensures.spelling 4096 28 _ _ _ (inr (inr (inl refl))) c.encode_data.ensures c.in_ok-data.ensures.found
