use Rattle.std.proofs.Common.{inl, inr, refl}
use Rattle.fbc_benchmarks.proofs.pages.recode_pointer.Goals as goal

pub returns : goal.returns
returns c = c.one_pointer.ensures.spelling 4096 _ _ _ (inr (inr (inl refl))) c.encode_pointer.ensures c.in_ok-pointer.ensures.found
