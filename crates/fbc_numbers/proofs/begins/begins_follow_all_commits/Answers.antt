use Rattle.fbc_numbers.proofs.BeginFacts.{legal-begin-committed}
use Rattle.fbc_numbers.proofs.begins.begins_follow_all_commits.Goals as goal

pub returns : goal.returns
returns c = λ shape file past owner number word other legal upheld numbered may. legal-begin-committed shape file past owner number word other legal upheld numbered may
