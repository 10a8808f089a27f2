use Rattle.fbc_kinds.specs.Meaning.{meaning_of}
use Rattle.fbc_world.specs.Commands.{commands_of}
use Rattle.fbc_cut.proofs.AllChanges.{all-changes}
use Rattle.fbc_cut.proofs.laws.commands_are_a_run.Goals as goal

pub returns-clause-come : goal.returns-clause-come
returns-clause-come c shape file history of_shape sound legal = (c.legal_histories_are_simulated.ensures shape file history of_shape sound legal).comes

pub returns-clause-run : goal.returns-clause-run
returns-clause-run c shape file history of_shape sound legal =
    c.playable_commands_are_runs.ensures (meaning_of file) (commands_of shape file history) (all-changes shape file history) (c.legal_histories_are_simulated.ensures shape file history of_shape sound legal).comes
