use Rattle.std.proofs.Common.{◌≤◌, ◌++◌, ℕ, List, length, drop, ◌∙◌, arith}
use Rattle.std.specs.Prelude.{replicate}
use Rattle.std.proofs.Math.Seq.{drop-append_seam}
use Rattle.std.proofs.lemmas.List.{drop-replicate}
use Rattle.std.proofs.lemmas.Grind.{common_steps}
use Rattle.fbc_kinds.specs.Padding.{IsPadded}

-- A text written over the front of zeros is padded.
pub IsPadded-written : (width : ℕ) (text : List ℕ) → length text ≤ width → IsPadded width (length text) (text ++ drop (length text) (replicate width 0))
IsPadded-written width text fits = record {
  filled = grind (arith, common_steps);
  within = grind (arith, common_steps);
  zeros = drop-append_seam text (drop (length text) (replicate width 0)) ∙ drop-replicate (length text) width 0;
}
