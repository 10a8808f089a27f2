use Rattle.std.proofs.Common.{◌∙◌}
use Rattle.fbc_kinds.proofs.ShapeReading.{start_passes, broken_file-long}
use Rattle.fbc_pages.proofs.recognition.recognise.Goals as goal

pub shown_shape-requires-clause-size : goal.shown_shape-requires-clause-size
shown_shape-requires-clause-size c = (start_passes c.args.first.now c.args.length c.in_ok-check_start.ensures).size

pub shown_shape-requires-clause-unbroken : goal.shown_shape-requires-clause-unbroken
shown_shape-requires-clause-unbroken c = (start_passes c.args.first.now c.args.length c.in_ok-check_start.ensures).content

pub returns-clause-exact : goal.returns-clause-exact
returns-clause-exact c = broken_file-long c.args.first.now c.args.length c.if-length-lt1024.false ∙ c.in_ok-check_start.ensures
