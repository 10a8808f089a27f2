use Rattle.std.proofs.Common.{◌∙◌, ap}
use Rattle.std.specs.Option.{option_and_then}
use Rattle.fbc_machine.specs.Shown.{newest_from}
use Rattle.fbc_machine.proofs.Rows.{newest_found}
use Rattle.fbc_machine.proofs.machine.Machine.newest.Goals as goal

pub returns-in-Some : goal.returns-in-Some
returns-in-Some c = c.standing.ensures ∙ ap (option_and_then (newest_from c.args.self.now.transactions.items)) c.in-Some.ensures ∙ newest_found c.args.self.now.transactions.items c.args.relation c.args.row c.args.self.now.versions.items

pub returns-in-None : goal.returns-in-None
returns-in-None c = ap (option_and_then (newest_from c.args.self.now.transactions.items)) c.in-None.ensures ∙ newest_found c.args.self.now.transactions.items c.args.relation c.args.row c.args.self.now.versions.items
