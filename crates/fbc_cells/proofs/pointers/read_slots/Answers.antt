use Rattle.std.proofs.Common.{◌≡◌, length, take, drop, ◌++◌, ◌∙◌, sym, arith}
use Rattle.std.proofs.lemmas.List.{take_at}
use Rattle.fbc_cells.proofs.pointers.read_slots.Goals as goal

pub returns-clause-fits : goal.returns-clause-fits
returns-clause-fits c =
    let long : length c.fill_slots.new.slots ≡ c.in_ok-slots.slots.len = omega (arith, c.fill_slots.auto.slots, c.deref_mut.ensures.len) in
    rw (take_at c.fill_slots.new.slots (drop (length c.fill_slots.new.slots) c.in_ok-slots.slots.items) c.in_ok-slots.slots.len long) c.fill_slots.ensures.fits
