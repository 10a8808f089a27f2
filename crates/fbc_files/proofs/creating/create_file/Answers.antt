use Rattle.std.proofs.Common.{ap, length, arith}
use Rattle.fbc_files.proofs.Making.{holds_new, holds_part}
use Rattle.fbc_files.proofs.NewFits.{length-new_pages}
use Rattle.fbc_files.proofs.creating.create_file.Goals as goal

pub returns-in_err-write_new_pages-clause-part : goal.returns-in_err-write_new_pages-clause-part
returns-in_err-write_new_pages-clause-part g c =
    holds_part c.args.size c.args.relations.now c.in_ok-pages.pages.items c.requires.relations c.in_ok-pages.ensures.pages
    (g.D.Device.bytes c.args.device.now) (g.D.Device.bytes c.write_new_pages.new.device)
    (rw c.deref.ensures.value at c.write_new_pages.ensures.some)

pub returns-clause-count : goal.returns-clause-count
returns-clause-count g c = omega (arith, c.len.ensures, ap length c.in_ok-pages.ensures.pages, length-new_pages c.args.size c.args.relations.now)

pub returns-clause-made : goal.returns-clause-made
returns-clause-made g c =
    holds_new c.args.size c.args.relations.now c.in_ok-pages.pages.items c.requires.relations c.in_ok-pages.ensures.pages
    (g.D.Device.bytes c.args.device.now) (g.D.Device.bytes c.write_new_pages.new.device)
    (rw c.deref.ensures.value at c.in_ok-write_new_pages.ensures.ok)

pub returns-clause-part : goal.returns-clause-part
returns-clause-part g c =
    holds_part c.args.size c.args.relations.now c.in_ok-pages.pages.items c.requires.relations c.in_ok-pages.ensures.pages
    (g.D.Device.bytes c.args.device.now) (g.D.Device.bytes c.write_new_pages.new.device)
    (rw c.deref.ensures.value at c.write_new_pages.ensures.some)
