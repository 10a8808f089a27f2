use Rattle.fbc_kinds.specs.Meaning.{meaning_with}
use Rattle.fbc_meanings.proofs.SameViews.{longer_shows}
use Rattle.fbc_meanings.proofs.Shown.{shown_reads}
use Rattle.fbc_meanings.proofs.alike.reads_alike.Goals as goal

pub returns : goal.returns
returns c living before after m alike sound past numbered reads =
    shown_reads (meaning_with living before) (meaning_with living after) m (longer_shows living before after alike sound past numbered) reads
