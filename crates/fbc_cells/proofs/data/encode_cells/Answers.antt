use Rattle.std.proofs.Common.{◌≡◌, ◌<◌, ◌≤◌, ◌+◌, ◌-◌, ◌*◌, length, refl, ◌∙◌, arith}
use Rattle.std.proofs.lemmas.List.{length-drop, length-take}
use Rattle.std.proofs.Math.Nat.{mul-le-mul_left, mul-suc}
use Rattle.std.proofs.Math.Numerals.{suc-eq-add-one}
use Rattle.fbc_cells.proofs.CellsWritten.{cells_more, zeros_more}
use Rattle.fbc_cells.proofs.data.encode_cells.Goals as goal

pub loop-k-preserved : goal.loop-k-preserved
loop-k-preserved c =
    let width = 12 + c.args.greatest in
    let here = c.loop-k.k in
    let old = c.loop-k.out in
    let part = c.encode_cell.new.out in
    let inside : here < length c.args.cells.now = c.loop-k-test.true in
    let some : width * here ≤ width * (here + 1) = mul-le-mul_left width (omega arith) in
    let most : width * (here + 1) ≤ width * length c.args.cells.now = mul-le-mul_left width (omega arith) in
    let kept : length old ≡ length c.args.out.now = c.loop-k.auto.out ∙ c.fill.auto.self in
    let within : width * (here + 1) ≤ length old = omega arith in
    let whole : length part ≡ width = omega (arith, mul-suc width here, suc-eq-add-one here, simp (length-take, length-drop) at c.encode_cell.auto.out) in (
      cells_more c.args.greatest here c.args.cells.now c.index-cells-k.result old part _ (omega arith) whole inside c.index-cells-k.is c.encode_cell.ensures c.loop-k.invariant.0,
      zeros_more width here (length c.args.out.now) (width * (here + 1) - width * here) old part within refl whole c.loop-k.invariant.1,
    )
