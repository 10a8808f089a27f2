use Rattle.fbc_page_edits.proofs.ShapeKept.{shape-kept}
use Rattle.fbc_page_edits.proofs.shapes.edits_keep_shapes.Goals as goal

pub returns : goal.returns
returns c = λ shape view number edit content of small fits. shape-kept shape view number edit content of small fits
