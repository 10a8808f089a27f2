-- Each turn is a run of the desk's calls, and leaves who the attachment is.
use Rattle.fbc_attachment.specs.Attachment.{IsSame}
use Rattle.fbc_attachment.specs.Running.{Runs}
use Rattle.fbc_attachment.proofs.attachment.Attachment.advance.Given as goal

abbrev pub invariant-loop : goal.invariant-loop
invariant-loop l = IsSame l.initial.self l.self × Runs l.initial.self.desk l.self.desk
