use Rattle.std.proofs.Common.{List, ℕ, Option, sym, subst, ◌∙◌, arith}
use Rattle.fbc_kinds.specs.HeaderSpelling.{SpellsHeader}
use Rattle.fbc_reach.specs.Content.{IsReadFrom, IsReadOf}
use Rattle.fbc_reach.specs.Reading.{AreBytesOf}
use Rattle.fbc_reach.proofs.Contents.{read_of}
use Rattle.fbc_validator.proofs.HeaderFound.{file_damaged, file_found, rose_before}
use Rattle.fbc_validator.proofs.validating.check_file.Goals as goal

pub check_pages-requires-clause-first : goal.check_pages-requires-clause-first
check_pages-requires-clause-first g c =
    let read = c.in_ok-first-in-Ok.first in
    let P : Option (List ℕ) → Type 0 = λ file. IsReadOf c.args.shape.now 0 file read in
    subst P (sym c.in_ok-bytes.ensures.unwritten.bytes)
    (read_of c.args.shape.now 0 (g.D.Device.bytes c.args.device.now) c.in_ok-bytes.bytes.items read c.in_ok-bytes.ensures.read
    (subst (λ bs. IsReadFrom c.args.shape.now 0 bs read) c.deref-in-Ok.ensures.value c.in_ok-first-in-Ok.ensures))

pub returns-in-Ok-clause-found : goal.returns-in-Ok-clause-found
returns-in-Ok-clause-found g c =
    let header = c.in-Ok.header in
    file_found c.args.shape.now header (g.D.Device.bytes c.args.device.now) (g.D.Device.bytes c.read_bytes.new.device) c.in_ok-bytes.bytes.items c.check_pages.result c.requires.size
    c.in_ok-bytes.ensures.unwritten.bytes c.in_ok-bytes.ensures.read (subst (SpellsHeader c.args.shape.now.size header) c.deref.ensures.value c.in-Ok.ensures.page) c.check_pages.ensures.found

pub returns-in-Ok-clause-device : goal.returns-in-Ok-clause-device
returns-in-Ok-clause-device g c = record {
  reach = c.check_pages.ensures.device.reach ∙ c.in_ok-bytes.ensures.device.reach;
  later = omega (arith, c.in_ok-bytes.ensures.device.later, c.check_pages.ensures.device.later);
  risen = λ failed. rose_before (g.D.Device.faults c.args.device.now) (g.D.Device.faults c.read_bytes.new.device) _ c.in_ok-bytes.ensures.device.later (c.check_pages.ensures.device.risen failed);
}

pub returns-in-Err-Damaged-clause-found : goal.returns-in-Err-Damaged-clause-found
returns-in-Err-Damaged-clause-found g c =
    let made = c.in_ok-header_damaged-in-Err-Damaged.ensures in
    file_damaged c.args.shape.now (g.D.Device.bytes c.args.device.now) c.deref.result.now c.in-Err-Damaged.field-0 c.in-Err-Damaged.rule c.in_ok-header_damaged-in-Err-Damaged.field-0 c.requires.size
    (subst (AreBytesOf (g.D.Device.bytes c.args.device.now) c.args.shape.now.size 0) (sym c.deref.ensures.value) c.in_ok-bytes.ensures.read)
    c.in-Err-Damaged.field-0-is c.in-Err-Damaged.ensures.exact made.damages made.lost_pages made.lost_cells
