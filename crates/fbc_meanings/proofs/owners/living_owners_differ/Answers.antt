use Rattle.fbc_kinds.specs.View.{next_of}
use Rattle.fbc_meanings.proofs.Places.{owners_differ}
use Rattle.fbc_meanings.proofs.owners.living_owners_differ.Goals as goal

pub returns : goal.returns
returns c living view open_ones = owners_differ view living open_ones (next_of view)
