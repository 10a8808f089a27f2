use Rattle.std.proofs.Common.{List, ℕ, Option, sym, subst}
use Rattle.fbc_reach.specs.Content.{IsReadFrom, IsReadOf}
use Rattle.fbc_reach.proofs.Contents.{read_of}
use Rattle.fbc_file_tests.proofs.reach_tests.walked.Goals as goal

pub walk-requires-clause-first : goal.walk-requires-clause-first
walk-requires-clause-first g c =
    let read = c.in_ok-first-in-Ok.first in
    let P : Option (List ℕ) → Type 0 = λ file. IsReadOf c.args.shape.now 0 file read in
    subst P (sym c.in_ok-bytes.ensures.unwritten.bytes)
    (read_of c.args.shape.now 0 (g.D.Device.bytes c.args.device.now) c.in_ok-bytes.bytes.items read c.in_ok-bytes.ensures.read
    (subst (λ bs. IsReadFrom c.args.shape.now 0 bs read) c.deref-in-Ok.ensures.value c.in_ok-first-in-Ok.ensures))
