use Rattle.fbc_files.proofs.FileShapes.{IsOfShape-file}
use Rattle.fbc_files.proofs.shape_laws.recognised_files_are_of_their_shape.Goals as goal

pub returns : goal.returns
returns c = IsOfShape-file
