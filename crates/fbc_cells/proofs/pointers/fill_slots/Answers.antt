use Rattle.std.proofs.Common.{◌≡◌, length, ◌∙◌, sym, ap, get_or, ◌*◌, arith}
use Rattle.std.proofs.lemmas.List.{get_or_default}
use Rattle.fbc_cells.proofs.SlotsRead.{flat_map-read}
use Rattle.fbc_cells.proofs.pointers.fill_slots.Goals as goal

pub returns : goal.returns
returns c = record {
  fits = λ k d inside. rw (get_or_default c.read_u32_into.new.dst k d 0 inside) (omega (arith, c.type_inv.slots k));
  slots = flat_map-read c.read_u32_into.new.dst c.args.bytes.now (omega (arith, c.requires, c.read_u32_into.auto.dst)) (λ i. omega (arith, c.type_inv.bytes i)) c.read_u32_into.ensures;
}
