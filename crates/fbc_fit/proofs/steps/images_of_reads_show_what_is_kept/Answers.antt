use Rattle.std.proofs.Common.{subst}
use Rattle.fbc_kinds.specs.Limits.{IsPageSize}
use Rattle.fbc_spelling.proofs.Shows.{none_is_shown, shown_is}
use Rattle.fbc_region.proofs.ReadAndWritten.{seen_in_journal}
use Rattle.fbc_fit.proofs.steps.images_of_reads_show_what_is_kept.Goals as goal

pub returns : goal.returns
returns _ = λ size page count who bytes journal file landings events image whole lawful fits read.
    let seen = seen_in_journal size page count bytes journal file landings who events image lawful fits read in
    record {
      shown = λ content shows. shown_is journal.shape page image content _ (subst IsPageSize lawful.sized whole) shows seen;
      broken = λ rule broken. none_is_shown journal.shape page image rule _ (subst IsPageSize lawful.sized whole) broken seen;
    }
