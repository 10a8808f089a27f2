use Rattle.std.proofs.Common.{◌≡◌, length, ap, ◌∙◌, sym, arith}
use Rattle.fbc_kinds.specs.PointerSpelling.{IsPointer, SpellsPointer}
use Rattle.fbc_cells.proofs.pointers.decode_pointer.Goals as goal

pub returns-clause-found : goal.returns-clause-found
returns-clause-found c = record {
  fits = record {
    page_fits = omega (arith, c.ranges.page.fits);
    sequence_fits = omega arith;
    relation_fits = c.in_ok-start.ensures.relation;
    count = ap length c.new.ensures ∙ c.in_ok-slots.ensures.count;
    slots_fit = rw c.new.ensures c.in_ok-slots.ensures.fits;
  };
  size_is = c.requires.length;
  head = c.in_ok-start.ensures.head;
  slots_are = rw c.new.ensures (sym c.bytes_from.ensures ∙ c.in_ok-slots.ensures.slots);
}
