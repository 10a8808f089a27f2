-- Runs follow each other, and each run of calls is one.
use Rattle.std.proofs.Common.{◌≡◌, inl, inr, sym, subst}
use Rattle.fbc_desk.specs.Calls.{GoesOn}
use Rattle.fbc_desk.specs.Desk.{DeskState}
use Rattle.fbc_tra.specs.declared.committing.CommitStage.{CommitStage}
use Rattle.fbc_tra.specs.declared.committing.CommitStage.TheVariants as at
use Rattle.fbc_tra.specs.Commits.{GoesOrEnds}
use Rattle.fbc_tra.specs.Goes.{BeginsAmid, GoesOrBegins, begun}
use Rattle.fbc_attachment.specs.Running.{Runs, begins, ends, goes, stays}

-- What runs from one desk to a second, and from there to a third, runs from the first to the third.
pub runs_on : (a b c : DeskState) → Runs a b → Runs b c → Runs a c
runs_on a b _ first stays = first
runs_on a b _ first (goes between after before call) = goes between after (runs_on a b between first before) call
runs_on a b _ first (begins between snapshot before) = begins between snapshot (runs_on a b between first before)
runs_on a b _ first (ends between before) = ends between (runs_on a b between first before)

-- A run of calls is one.
pub goes_runs : (a b : DeskState) → GoesOn a b → Runs a b
goes_runs a b call = goes a b stays call

-- A desk that is the same runs.
pub same_runs : (a b : DeskState) → b ≡ a → Runs a b
same_runs a b is = subst (λ (d : DeskState). Runs a d) (sym is) stays

-- A run in which a transaction begins is one.
pub amid_runs : (a b : DeskState) → BeginsAmid a b → Runs a b
amid_runs a b amid = goes (begun amid.snapshot amid.between) b (begins amid.between amid.snapshot (goes_runs a amid.between amid.goes)) amid.goes_on

pub begin_runs : (a b : DeskState) → GoesOrBegins a b → Runs a b
begin_runs a b (inl call) = goes_runs a b call
begin_runs a b (inr amid) = amid_runs a b amid

-- The part of a commit is one.
pub commit_runs : (a b : DeskState) (stage : CommitStage) → GoesOrEnds stage a b → Runs a b
commit_runs a b at.Lowered is = subst (λ (d : DeskState). Runs a d) (sym is) (ends a stays)
commit_runs a b at.Drafts call = goes_runs a b call
commit_runs a b at.Header call = goes_runs a b call
commit_runs a b (at.Tip page) call = goes_runs a b call
commit_runs a b (at.Mark page) call = goes_runs a b call
commit_runs a b (at.Marked page) call = goes_runs a b call

-- What a call or a part does at the desk is a run, and runs follow each other.
pub ruleset run_steps = (runs_on, goes_runs, same_runs, begin_runs, commit_runs)
