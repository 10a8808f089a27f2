-- Whether a missing data page is waited for.
use Rattle.std.specs.Prelude.{◌≡◌}
use Rattle.fbc_cache.specs.declared.needs.Need.{Need}
use Rattle.fbc_desk.specs.declared.holding.Held.{Held}
use Rattle.fbc_desk.specs.declared.holding.Held.TheVariants as held
use Rattle.fbc_desk.specs.Desk.{DeskState}
use Rattle.fbc_desk.specs.Waits.{may_wait_for}
use Rattle.fbc_chains.specs.declared.parts.ReadPart.{ReadPart}
use Rattle.fbc_chains.specs.declared.parts.ReadPart.TheVariants as part
use Rattle.fbc_chains.specs.declared.parts.ReadStep.{ReadStep}
use Rattle.fbc_chains.specs.declared.parts.ReadStep.TheVariants as step
use Rattle.fbc_chains.specs.declared.walking.Down.{Down}
use Rattle.fbc_chains.specs.declared.walking.Down.TheVariants as down

-- A data page is waited for exactly where it may be so beside the pages in use.
abbrev pub IsInTurn : DeskState → Need → Type 0
IsInTurn d need = need.wait ≡ may_wait_for d need.page

abbrev pub MissesInTurn : DeskState → Held → Type 0
MissesInTurn d (held.Miss need) = IsInTurn d need
MissesInTurn d _ = Unit {0}

abbrev pub AnswerWaits : DeskState → ReadStep → Type 0
AnswerWaits d (step.Miss need) = IsInTurn d need
AnswerWaits d _ = Unit {0}

abbrev pub StepWaits : DeskState → Down → Type 0
StepWaits d (down.Answer answer) = AnswerWaits d answer
StepWaits d _ = Unit {0}

-- So is the page that a read misses, but for the pointer page at the slot.
abbrev pub WaitsInTurn : DeskState → ReadPart → ReadStep → Type 0
WaitsInTurn d (part.Page page) answer = AnswerWaits d answer
WaitsInTurn d (part.Walk page cell) answer = AnswerWaits d answer
WaitsInTurn d _ answer = Unit {0}
