use Rattle.std.proofs.Common.{inl, inr}
use Rattle.fbc_numbers.proofs.CutFacts.{kept-committed}
use Rattle.fbc_numbers.proofs.views.held_numbers_are_committed_in_each_view.Goals as goal

pub returns : goal.returns
returns c = λ at owner number t cut numbered closed is held. elim (numbered.snapshots owner t number is held) [
  | inl own ↦ inl own
  | inr kept ↦ inr (kept-committed at.world numbered.grow number cut closed kept.0, kept.1)
]
