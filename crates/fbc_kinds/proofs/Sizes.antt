use Rattle.std.proofs.Common.{◌<◌, ℕ, inl, inr, arith}
use Rattle.fbc_kinds.specs.Limits.{IsPageSize}

-- A page is larger than its head.
pub has_content : (size : ℕ) → IsPageSize size → 16 < size
has_content size (inl is) = omega arith
has_content size (inr (inl is)) = omega arith
has_content size (inr (inr (inl is))) = omega arith
has_content size (inr (inr (inr (inl is)))) = omega arith
has_content size (inr (inr (inr (inr is)))) = omega arith
