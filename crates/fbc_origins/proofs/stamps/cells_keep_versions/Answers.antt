use Rattle.fbc_origins.proofs.VersionsKept.{versions-kept}
use Rattle.fbc_origins.proofs.stamps.cells_keep_versions.Goals as goal

pub returns : goal.returns
returns c = λ shape file history legal upheld. versions-kept shape file history legal upheld
