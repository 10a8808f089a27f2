use Rattle.std.proofs.Common.{ℕ, List, subst}
use Rattle.fbc_reach.specs.Content.{IsReadFrom}
use Rattle.fbc_reach.proofs.Contents.{read_of}
use Rattle.fbc_reach.proofs.reading.read_content.Goals as goal

pub returns-clause-read : goal.returns-clause-read
returns-clause-read g c =
    let P : List ℕ → Type 0 = λ bytes. IsReadFrom c.args.shape.now c.args.number bytes c.in_ok-content_shown.field-0 in
    read_of c.args.shape.now c.args.number (g.D.Device.bytes c.args.device.now) c.in_ok-bytes.bytes.items c.in_ok-content_shown.field-0
    c.in_ok-bytes.ensures.read
    (subst P c.deref.ensures.value c.in_ok-content_shown.ensures)
