use Rattle.std.proofs.Common.{rules}
use Rattle.fbc_outside.proofs.LandingLemmas.{none_added, one_added}
use Rattle.fbc_outside.proofs.memory_device.MemoryDeviceDevice.TheImpl.Goals as goal

pub write_at-tells : goal.write_at-tells
write_at-tells c = record {
  ok = search rules;
  ok_landings = none_added c.result _ _ _ c.ensures.call.listed c.ensures.landings;
  err = one_added c.result _ _ _ _ _ c.args.at c.args.from.now c.ensures.call.listed c.ensures.bytes c.ensures.landings;
  reads = search rules;
  writes = search rules;
  reach = search rules;
  cause = search rules;
}
