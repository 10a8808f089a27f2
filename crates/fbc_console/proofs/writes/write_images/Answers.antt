use Rattle.fbc_console.proofs.WriteLemmas.{IsAfterSome-failed}
use Rattle.fbc_console.proofs.writes.write_images.Goals as goal

pub returns-in_err-write_image-clause-some : goal.returns-in_err-write_image-clause-some
returns-in_err-write_image-clause-some g c =
    IsAfterSome-failed (g.D.Device.bytes c.args.device.now) (g.D.Device.bytes c.loop-image.device) (g.D.Device.bytes c.write_image.new.device) c.args.images.now c.loop-image.image-index _ c.loop-image-test.true c.loop-image.invariant.0 c.write_image.ensures.some
