-- No version that stands in the machine has a number that may begin, whatever transactions end.
use Rattle.std.proofs.Common.{◌≡◌, ◌∙◌, ◌<◌, ◌&&◌, ℕ, Bool, false, not, List, Contains, sym, ap, subst}
use Rattle.fbc_kinds.specs.declared.shapes.Shape.{Shape}
use Rattle.fbc_kinds.specs.declared.snapshots.Transaction.{Transaction}
use Rattle.fbc_kinds.specs.Chain.{Version}
use Rattle.fbc_kinds.specs.Machine.{Machine, is_open, is_rolled_back, standing_versions}
use Rattle.fbc_kinds.specs.View.{View}
use Rattle.fbc_kinds.proofs.Heads.{both_pass}
use Rattle.fbc_runs.specs.Ended.{end_by, ended_by, is_owner_of, settled_by}
use Rattle.fbc_runs.proofs.EndedOnes.{closed_end}
use Rattle.fbc_runs.proofs.Endings.{number_stays, stood_before}
use Rattle.fbc_runs.proofs.FrontVersions.{of_row}
use Rattle.fbc_runs.proofs.Places.{mapped_at}
use Rattle.fbc_world.specs.History.{History}
use Rattle.fbc_legal.specs.Guards.{MayBegin}
use Rattle.fbc_legal.specs.Legal.{IsLegal}
use Rattle.fbc_legal.specs.Scene.{scene_of}
use Rattle.fbc_soundness.specs.Whole.{IsWhole}
use Rattle.fbc_simulation.specs.Beside.{machine_of}
use Rattle.fbc_simulation.specs.Simulated.{IsSimulated}
use Rattle.fbc_simulation.proofs.BeginFacts.{smaller_stand}

module _ (shape : Shape) (file : View) (past : History) (legal : IsLegal shape file past) (whole : IsWhole (scene_of shape file past)) (s : IsSimulated (scene_of shape file past))
    (owner number word : ℕ) (may : MayBegin (scene_of shape file past) owner number word) (living : List Transaction) (commits : ℕ → Bool) where
  abbrev machine : Machine
  machine = machine_of shape file past

  abbrev ends : Transaction → Bool
  ends t = is_open t.standing && not (is_owner_of living t.owner)

  pub ended_smaller : (relation row : ℕ) (version : Version) → Contains (standing_versions (settled_by living commits machine) relation row) version → version.number < number
  ended_smaller relation row version within =
      let found = of_row (settled_by living commits machine).transactions (machine.rows relation row) version within in
      let maker = found.shows.maker in
      let from = mapped_at (ended_by living commits) machine.transactions found.made.maker maker found.shows.stands.0 in
      let closed = closed_end (commits from.item.owner) in
      let stood : is_rolled_back from.item.standing ≡ false =
      stood_before (end_by (commits from.item.owner)) closed from.item (ends from.item) (λ passes. (both_pass (is_open from.item.standing) (not (is_owner_of living from.item.owner)) passes).0)
      (ap (λ (t : Transaction). is_rolled_back t.standing) from.same ∙ found.shows.stands.1) in
      let same : from.item.number ≡ version.number =
      sym (number_stays (end_by (commits from.item.owner)) closed from.item (ends from.item)) ∙ ap (λ (t : Transaction). t.number) from.same ∙ sym found.shows.same in
      subst (λ n. n < number) same (smaller_stand shape file past legal whole s owner number word may found.made.maker from.item (from.at, stood))
