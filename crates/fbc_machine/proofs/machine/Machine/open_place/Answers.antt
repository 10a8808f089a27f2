use Rattle.std.proofs.Common.{◌∙◌, ap, slice_get, is_some}
use Rattle.std.specs.Option.{option_and_then}
use Rattle.fbc_kinds.specs.Machine.{is_open_of}
use Rattle.fbc_machine.proofs.Rows.{find_at_place, place_within, place_found}
use Rattle.fbc_machine.proofs.machine.Machine.open_place.Goals as goal

pub returns-clause-within : goal.returns-clause-within
returns-clause-within c = rw c.position.ensures (place_within (is_open_of c.args.who) c.args.self.now.transactions.items)

pub returns-clause-transaction : goal.returns-clause-transaction
returns-clause-transaction c = ap (option_and_then (slice_get c.args.self.now.transactions.items)) c.position.ensures ∙ find_at_place (is_open_of c.args.who) c.args.self.now.transactions.items

pub returns-clause-open : goal.returns-clause-open
returns-clause-open c = ap is_some c.position.ensures ∙ place_found (is_open_of c.args.who) c.args.self.now.transactions.items
