use Rattle.std.proofs.Common.{arith}
use Rattle.fbc_files.proofs.Making.{holds_last, holds_next, on_ok, some_last, some_next}
use Rattle.fbc_files.proofs.creating.write_new_pages.Goals as goal

pub returns-in_err-write_page-clause-some : goal.returns-in_err-write_page-clause-some
returns-in_err-write_page-clause-some g c =
    some_next c.args.size c.args.pages.now c.requires.pages (g.D.Device.bytes c.args.device.now) (g.D.Device.bytes c.loop-number.device) (g.D.Device.bytes c.write_page.new.device)
    c.loop-number.number c.index-pages-number.result (omega arith) (omega arith) c.index-pages-number.is c.loop-number.invariant.holds c.write_page.ensures.some

pub loop-number-preserved : goal.loop-number-preserved
loop-number-preserved g c = record {
  holds = holds_next c.args.size c.args.pages.now c.requires.pages (g.D.Device.bytes c.args.device.now) (g.D.Device.bytes c.loop-number.device) (g.D.Device.bytes c.write_page.new.device)
      c.loop-number.number c.index-pages-number.result (omega arith) (omega arith) c.index-pages-number.is c.loop-number.invariant.holds c.in_ok-write_page.ensures.ok;
  reach = grind arith;
  faults = grind arith;
}

pub returns-clause-ok : goal.returns-clause-ok
returns-clause-ok g c =
    on_ok c.write_page-2.result
    (holds_last c.args.size c.args.pages.now c.requires.pages (g.D.Device.bytes c.args.device.now) (g.D.Device.bytes c.loop-number.device) (g.D.Device.bytes c.write_page-2.new.device)
    c.loop-number.number c.index-pages-0.result (omega arith) c.index-pages-0.is c.loop-number.invariant.holds)
    c.write_page-2.ensures.ok

pub returns-clause-some : goal.returns-clause-some
returns-clause-some g c =
    some_last c.args.size c.args.pages.now c.requires.pages (g.D.Device.bytes c.args.device.now) (g.D.Device.bytes c.loop-number.device) (g.D.Device.bytes c.write_page-2.new.device)
    c.loop-number.number c.index-pages-0.result (omega arith) c.index-pages-0.is c.loop-number.invariant.holds c.write_page-2.ensures.some
