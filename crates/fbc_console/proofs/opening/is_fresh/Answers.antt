use Rattle.std.proofs.Common.{rules, ◌≡◌, length}
use Rattle.fbc_console.proofs.OpeningLemmas.{tells}
use Rattle.fbc_console.proofs.opening.is_fresh.Goals as goal

pub returns-in-Ok-is_fresh_file-clause-tells : goal.returns-in-Ok-is_fresh_file-clause-tells
returns-in-Ok-is_fresh_file-clause-tells g c =
    let wide : length c.read_at.new.into ≡ 4097 = search rules in
    tells (g.D.Device.bytes c.args.device.now) c.in-Ok.count c.read_at.new.into c.in-Ok-is_fresh_file.fresh c.in-Ok.ensures.answer wide c.in-Ok-is_fresh_file.ensures
