use Rattle.std.proofs.Common.{[], ◌∷◌}
use Rattle.fbc_world.specs.History.{History}
use Rattle.fbc_legal.specs.Legal.{IsLegal}
use Rattle.fbc_legal.specs.Scene.{scene_of}
use Rattle.fbc_soundness.specs.Whole.{IsWhole}
use Rattle.fbc_soundness.proofs.histories.legal_histories_are_whole.Goals as goal

pub returns : goal.returns
returns c shape file history of_shape sound legal = go history legal where
  go : (history : History) → IsLegal shape file history → IsWhole (scene_of shape file history)
  go [] legal' = c.first_moments_are_whole.ensures shape file of_shape sound
  go (moment ∷ before) legal' = c.events_keep_all_whole.ensures shape file before moment legal' (go before legal'.0)
