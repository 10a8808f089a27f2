use Rattle.std.proofs.Common.{◌≡◌, ◌+◌, ◌*◌, ℕ, List, ◌∙◌, ap, arith}
use Rattle.std.specs.Prelude.{slice_index}
use Rattle.fbc_kinds.specs.Head.{little_bytes}
use Rattle.fbc_kinds.proofs.Pieces.{pieces_more, same_front-shorter, same_end-shorter}
use Rattle.fbc_pages.proofs.numbers.write_numbers.Goals as goal

pub loop-i-preserved : goal.loop-i-preserved
loop-i-preserved c = record {
  before = same_front-shorter c.args.at (c.args.at + 4 * c.loop-i.i) _ _ (omega arith) c.write_u32.ensures.before ∙ c.loop-i.invariant.before;
  numbers = pieces_more (λ (number : ℕ) (piece : List ℕ). piece ≡ little_bytes 4 number) (slice_index c.args.numbers.now) (λ j. c.args.at + 4 * j) 4 c.loop-i.i c.loop-i.out c.write_u32.new.out (λ j below. omega arith) c.write_u32.ensures.before (c.write_u32.ensures.number ∙ ap (little_bytes 4) c.number_or_zero.ensures) c.loop-i.invariant.numbers;
  after = same_end-shorter (c.args.at + 4 * c.loop-i.i + 4) (c.args.at + 4 * c.args.count) _ _ (omega arith) c.write_u32.ensures.after ∙ c.loop-i.invariant.after;
}
