use Rattle.fbc_numbers.proofs.OpensApart.{legal-apart}
use Rattle.fbc_numbers.proofs.opens_apart.legal_histories_keep_opens_apart.Goals as goal

pub returns : goal.returns
returns c = λ shape file history legal upheld. legal-apart shape file history legal upheld
