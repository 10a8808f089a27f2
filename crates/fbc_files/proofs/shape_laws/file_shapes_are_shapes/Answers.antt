use Rattle.fbc_files.proofs.FileShapes.{IsShape-file, same_length-file}
use Rattle.fbc_files.proofs.shape_laws.file_shapes_are_shapes.Goals as goal

pub returns-clause-shape : goal.returns-clause-shape
returns-clause-shape c = IsShape-file

pub returns-clause-lengths : goal.returns-clause-lengths
returns-clause-lengths c = same_length-file
