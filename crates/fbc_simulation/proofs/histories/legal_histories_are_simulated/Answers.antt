use Rattle.std.proofs.Common.{[], ◌∷◌}
use Rattle.fbc_world.specs.History.{History}
use Rattle.fbc_legal.specs.Legal.{IsLegal}
use Rattle.fbc_legal.specs.Scene.{scene_of}
use Rattle.fbc_simulation.specs.Simulated.{IsSimulated}
use Rattle.fbc_simulation.proofs.histories.legal_histories_are_simulated.Goals as goal

pub returns : goal.returns
returns c shape file history of_shape sound legal = go history legal where
  go : (history : History) → IsLegal shape file history → IsSimulated (scene_of shape file history)
  go [] legal' = c.first_machines_are_simulated.ensures shape file of_shape sound
  go (moment ∷ before) legal' = c.events_keep_simulation.ensures shape file before moment legal' (c.legal_histories_are_whole.ensures shape file before of_shape sound legal'.0) (go before legal'.0)
