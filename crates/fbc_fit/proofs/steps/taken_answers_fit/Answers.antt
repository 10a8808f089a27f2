use Rattle.fbc_fit.proofs.AnswersTaken.{taken-any}
use Rattle.fbc_fit.proofs.steps.taken_answers_fit.Goals as goal

pub returns : goal.returns
returns _ = λ at c after later asked answer image. taken-any at c later asked answer image after
