use Rattle.fbc_spelling.proofs.Shows.{one_shown, unbroken_shown}
use Rattle.fbc_spelling.proofs.laws.spelled_pages_are_shown.Goals as goal

pub returns : goal.returns
returns c = record {
  unbroken = λ shape number page bytes is spelled stands. unbroken_shown shape number bytes page is.size (record { spelled = spelled; stands = stands });
  shown = λ shape number page shown bytes is spelled stands shows. one_shown shape number bytes shown page is.size shows (record { spelled = spelled; stands = stands });
}
