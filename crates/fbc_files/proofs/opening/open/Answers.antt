use Rattle.std.proofs.Common.{rules, ◌≡◌, length, take, subst}
use Rattle.fbc_kinds.specs.HeaderSpelling.{ShowsShape}
use Rattle.fbc_outside.specs.Bytes.{ReadsFrom}
use Rattle.fbc_files.proofs.OpeningLemmas.{beginning, opened, refused}
use Rattle.fbc_files.proofs.opening.open.Goals as goal

pub returns-in-Ok-recognise-clause-opened : goal.returns-in-Ok-recognise-clause-opened
returns-in-Ok-recognise-clause-opened g c =
    let file = g.D.Device.bytes c.args.device.now in
    let wide : length c.read_at.new.into ≡ 1024 = search rules in
    let reads : ReadsFrom file 0 c.in-Ok-read_at.read c.read_at.new.into = search rules in
    let reach : c.reach.result ≡ g.D.Device.reach c.args.device.now = search rules in
    opened file (g.D.Device.reach c.args.device.now) c.seen_length-length.result _ c.in-Ok-recognise.shape
    (beginning file (g.D.Device.reach c.args.device.now) c.in-Ok.told c.in-Ok-read_at.read c.seen_count-count.result c.seen_length-length.result c.read_at.new.into
    c.in-Ok.ensures.answer reads wide c.seen_count-count.ensures c.seen_length-length.ensures.agrees)
    c.in-Ok-recognise.ensures.exact
    (subst (λ r. ShowsShape (take c.seen_count-count.result c.read_at.new.into) r c.in-Ok-recognise.shape) reach c.in-Ok-recognise.ensures.shape)
    c.in-Ok-recognise.ensures.limits
    (search rules)

pub returns-in-Err-recognise-clause-refused : goal.returns-in-Err-recognise-clause-refused
returns-in-Err-recognise-clause-refused g c =
    let file = g.D.Device.bytes c.args.device.now in
    let wide : length c.read_at.new.into ≡ 1024 = search rules in
    let reads : ReadsFrom file 0 c.in-Ok-read_at.read c.read_at.new.into = search rules in
    refused file c.seen_length-length.result _ c.in-Err-recognise.rule
    (beginning file (g.D.Device.reach c.args.device.now) c.in-Ok.told c.in-Ok-read_at.read c.seen_count-count.result c.seen_length-length.result c.read_at.new.into
    c.in-Ok.ensures.answer reads wide c.seen_count-count.ensures c.seen_length-length.ensures.agrees)
    c.in-Err-recognise.ensures.exact
