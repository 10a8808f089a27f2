use Rattle.std.proofs.Common.{◌≡◌, arith}
use Rattle.std.specs.Prelude.{fold, None}
use Rattle.std.proofs.lemmas.Grind.{common_steps}
use Rattle.fbc_machine.specs.Scanned.{nearer}
use Rattle.fbc_machine.proofs.Scanning.{next_found}
use Rattle.fbc_machine.proofs.machine.Machine.next_row.Goals as goal

pub returns : goal.returns
returns c =
    let all : c.loop-version.next ≡ fold (nearer c.args.relation c.args.from) None c.args.self.now.versions.items = grind (arith, common_steps) in
    rw all (next_found c.args.relation c.args.from c.args.self.now)
