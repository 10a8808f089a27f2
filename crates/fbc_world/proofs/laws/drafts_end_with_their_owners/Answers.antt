use Rattle.std.proofs.Common.{arith}
use Rattle.std.proofs.lemmas.Bool.Decides.{nat_tests}
use Rattle.fbc_world.specs.PageCell.{draft}
use Rattle.fbc_world.proofs.DraftLaws.{without-owner}
use Rattle.fbc_world.proofs.laws.drafts_end_with_their_owners.Goals as goal

pub returns-clause-draft : goal.returns-clause-draft
returns-clause-draft c = λ shape file before owner page landed. without-owner owner (draft shape file before page)

pub returns-clause-alive : goal.returns-clause-alive
returns-clause-alive c = λ before owner landed. grind (arith, nat_tests)
