use Rattle.std.proofs.Common.{◌≡◌, ◌≤◌, ◌-◌, length, drop, ◌∙◌, arith}
use Rattle.std.proofs.lemmas.List.{length-drop, length-take}
use Rattle.std.proofs.lemmas.Grind.{common_steps}
use Rattle.fbc_cells.proofs.CellsWritten.{SpellsData-from_body}
use Rattle.fbc_cells.proofs.Parts.{drop-written_end}
use Rattle.fbc_cells.proofs.data.encode_data.Goals as goal

pub returns : goal.returns
returns c =
    let old = c.args.out.now in
    let new = c.write_head.new.out in
    let body = c.encode_cells.new.out in
    let room : 16 ≤ length old = grind (arith, c.requires.size, c.requires.length) in
    let behind : drop 16 new ≡ body = c.write_head.ensures.rest ∙ drop-written_end 16 (length old - 16) old body room (omega arith) in
    let whole : length new ≡ c.args.size = grind (arith, common_steps, c.requires.length, c.write_head.auto.out) in
    SpellsData-from_body c.args.size c.args.length c.args.page.now c.items.result.now new body whole c.write_head.ensures.head c.items.ensures c.requires.page behind _ (simp (length-take, length-drop) (omega (arith, c.requires.length))) c.encode_cells.ensures.cell c.encode_cells.ensures.rest
