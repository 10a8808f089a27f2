use Rattle.std.proofs.Common.{arith}
use Rattle.fbc_meanings.proofs.BegunOnes.{begun_gains, none_has_next}
use Rattle.fbc_meanings.proofs.begins.begun_views_gain.Goals as goal

pub returns-clause-gains : goal.returns-clause-gains
returns-clause-gains c shape view living t of_shape sound open_ones apart next above = begun_gains shape view living of_shape sound t open_ones apart next above

pub returns-clause-unused : goal.returns-clause-unused
returns-clause-unused c shape view living number of_shape sound next relation row version at same =
    let lower = none_has_next shape view living of_shape sound relation row version at in
    absurd (omega (arith, lower, next, same))
