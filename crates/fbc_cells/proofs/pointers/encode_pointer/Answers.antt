use Rattle.std.proofs.Common.{◌≡◌, ◌≤◌, ◌-◌, length, ap, ◌∙◌, arith}
use Rattle.std.proofs.lemmas.Grind.{common_steps}
use Rattle.std.specs.List.{flat_map}
use Rattle.fbc_kinds.specs.Head.{little_bytes}
use Rattle.fbc_cells.proofs.Parts.{drop-written_end}
use Rattle.fbc_cells.proofs.pointers.encode_pointer.Goals as goal

pub returns : goal.returns
returns c =
    let old = c.args.out.now in
    let room : 16 ≤ length old = grind (arith, c.requires.size, c.requires.length) in
    record {
      fits = c.requires.page;
      size_is = grind (arith, common_steps, c.requires.length, c.write_head.auto.out);
      head = c.write_head.ensures.head;
      slots_are = c.write_head.ensures.rest
          ∙ drop-written_end 16 (length old - 16) old c.write_u32_into.new.dst room (omega arith)
          ∙ c.write_u32_into.ensures ∙ ap (flat_map (little_bytes 4)) c.items.ensures;
    }
