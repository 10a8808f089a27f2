use Rattle.std.proofs.Common.{◌≡◌, ◌+◌, ◌-◌, drop, get_or, take, refl, sym, ap, ◌∙◌, arith}
use Rattle.fbc_kinds.specs.Head.{number_at}
use Rattle.fbc_cells.proofs.CellRead.{cell_in, cell_read}
use Rattle.fbc_cells.proofs.NumberBytes.{numbers_of_bytes}
use Rattle.fbc_cells.proofs.OnePage.{same_cell}
use Rattle.fbc_cells.proofs.cells.decode_cell.Goals as goal

pub returns : goal.returns
returns c =
    let bytes = c.args.bytes.now in
    let flag = c.flag_of.result in
    let read = cell_read c.args.greatest bytes (numbers_of_bytes bytes (λ i. omega (arith, c.type_inv.bytes i)) (omega arith)) c.requires.width c.requires.fair flag c.flag_of.ensures in
    let size : 12 + get_or bytes 1 0 - 12 ≡ get_or bytes 1 0 = omega arith in
    let value : c.new.result ≡ take (get_or bytes 1 0) (drop 12 bytes) = c.new.ensures ∙ ap (λ n. take n (drop 12 bytes)) size in
    let same = same_cell flag flag c.read_u32.result (number_at 4 8 bytes) c.read_u32-2.result (number_at 8 12 bytes) c.read_u16.result (number_at 2 4 bytes) c.new.result _
    refl c.read_u32.ensures c.read_u32-2.ensures c.read_u16.ensures value in
    record { fits = rw same read.fits; spelled = rw same read.spelled }
