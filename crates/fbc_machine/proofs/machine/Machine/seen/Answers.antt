use Rattle.std.proofs.Common.{◌∙◌, ap}
use Rattle.std.specs.Option.{option_and_then}
use Rattle.fbc_machine.specs.declared.machine.Version.{Version}
use Rattle.fbc_machine.proofs.Rows.{seen_found}
use Rattle.fbc_machine.proofs.machine.Machine.seen.Goals as goal

pub returns-in-Some : goal.returns-in-Some
returns-in-Some c = ap (option_and_then (λ (v : Version). v.value)) c.in-Some.ensures ∙ seen_found c.args.self.now.transactions.items c.args.relation c.args.row c.args.snapshot.now c.args.self.now.versions.items

pub returns-in-None : goal.returns-in-None
returns-in-None c = ap (option_and_then (λ (v : Version). v.value)) c.in-None.ensures ∙ seen_found c.args.self.now.transactions.items c.args.relation c.args.row c.args.snapshot.now c.args.self.now.versions.items
