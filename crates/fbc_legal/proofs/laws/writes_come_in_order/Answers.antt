use Rattle.std.proofs.Common.{◌≡◌, ◌∙◌, true, is_some, refl}
use Rattle.fbc_world.specs.World.{IsPairIn, world_of}
use Rattle.fbc_world.specs.WriteOrder.{IsPair}
use Rattle.fbc_world.proofs.WorldLaws.{IsReplayed-world}
use Rattle.fbc_legal.proofs.Order.{stands_by_more}
use Rattle.fbc_legal.proofs.laws.writes_come_in_order.Goals as goal

pub returns : goal.returns
returns c = λ shape file before owner page high reason failed landed drafted legal is path.
    let r = IsReplayed-world shape file before in
    let there : is_some ((world_of shape file before).draft high) ≡ true = rw (r.draft_is high ∙ is) refl in
    legal.1.guard.first high there
    (stands_by_more (IsPair before) (IsPairIn (world_of shape file before)) (λ x y pair. (pair.0, r.pairs_is pair.0 x y ∙ pair.1)) high page path)
