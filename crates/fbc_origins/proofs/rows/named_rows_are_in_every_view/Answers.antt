use Rattle.fbc_legal.specs.Scene.{scene_of}
use Rattle.fbc_origins.proofs.NamedEverywhere.{named-everywhere}
use Rattle.fbc_origins.proofs.rows.named_rows_are_in_every_view.Goals as goal

pub returns : goal.returns
returns c = λ shape file history order rows. named-everywhere (scene_of shape file history) order.upheld rows
