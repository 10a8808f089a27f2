use Rattle.fbc_numbers.proofs.Numbered.{numbered-step}
use Rattle.fbc_numbers.proofs.steps.events_keep_numbers.Goals as goal

pub returns : goal.returns
returns c = λ shape file before moment legal upheld numbered. numbered-step shape file before moment legal upheld numbered
