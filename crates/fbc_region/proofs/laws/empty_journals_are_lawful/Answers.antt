use Rattle.std.proofs.Common.{◌≡◌, ap, [], reverse}
use Rattle.fbc_region.specs.Shared.{history_of, with_landings}
use Rattle.fbc_region.proofs.laws.empty_journals_are_lawful.Goals as goal

pub returns : goal.returns
returns c size bytes journal file landings none sized shown =
    let empty : history_of journal landings ≡ [] = ap (λ es. with_landings (reverse es) (reverse landings)) none in
    record {
      legal = rw empty tt;
      sized = sized;
      shown = rw empty shown;
    }
