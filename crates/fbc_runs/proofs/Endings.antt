-- The two ways in which transactions end: one owner's at a command, and every one but those of the living.
use Rattle.std.proofs.Common.{◌≡◌, ◌==◌, ◌&&◌, ℕ, Bool, true, false, not, List, refl, if◌then◌else◌}
use Rattle.fbc_kinds.specs.declared.snapshots.Standing.{Standing}
use Rattle.fbc_kinds.specs.declared.snapshots.Transaction.{Transaction}
use Rattle.fbc_kinds.specs.Machine.{Machine, after_end, ended, is_committed, is_open, is_open_of, is_rolled_back}
use Rattle.fbc_runs.specs.Ended.{end_by, ended_by, is_owner_of, settled_by}
use Rattle.fbc_runs.specs.Orderly.{IsOrderly}
use Rattle.fbc_kinds.proofs.Heads.{both_pass}
use Rattle.fbc_runs.proofs.Standings.{open_not_committed, open_stands}
use Rattle.fbc_runs.proofs.StandingsFall.{Ends, ends_orderly}

-- A transaction, ended where a test says so.
abbrev pub ended_if : Bool → Standing → Transaction → Transaction
ended_if b now t = if b then record t { standing = now } else t

module _ (now : Standing) (closed : is_open now ≡ false) (t : Transaction) where
  pub number_stays : (b : Bool) → (ended_if b now t).number ≡ t.number
  number_stays true = refl
  number_stays false = refl

  pub open_stays : (b : Bool) → is_open (ended_if b now t).standing ≡ true → ended_if b now t ≡ t
  open_stays true opens = cc
  open_stays false opens = refl

  pub committed_stays : (b : Bool) → (b ≡ true → is_open t.standing ≡ true) → is_committed t.standing ≡ true → is_committed (ended_if b now t).standing ≡ true
  committed_stays true opened committed = (let fails = open_not_committed t.standing (opened refl) in cc)
  committed_stays false opened committed = committed

  pub stood_before : (b : Bool) → (b ≡ true → is_open t.standing ≡ true) → is_rolled_back (ended_if b now t).standing ≡ false → is_rolled_back t.standing ≡ false
  stood_before true opened stands = open_stands t.standing (opened refl)
  stood_before false opened stands = stands

-- Every change that ends open transactions alone.
ends_by : (test : Transaction → Bool) (now : Transaction → Standing) → ((t : Transaction) → is_open (now t) ≡ false) → ((t : Transaction) → test t ≡ true → is_open t.standing ≡ true) → Ends (λ t. ended_if (test t) (now t) t)
ends_by test now closed opened = record {
  number = λ t. number_stays (now t) (closed t) t (test t);
  opens = λ t opens. open_stays (now t) (closed t) t (test t) opens;
  commits = λ t committed. committed_stays (now t) (closed t) t (test t) (opened t) committed;
  stands = λ t stands. stood_before (now t) (closed t) t (test t) (opened t) stands;
}

pub after_end_orderly : (machine : Machine) → IsOrderly machine → (who : ℕ) (now : Standing) → is_open now ≡ false → IsOrderly (after_end machine who now)
after_end_orderly machine orderly who now closed =
    ends_orderly (ended who now)
    (ends_by (is_open_of who) (λ t. now) (λ t. closed) (λ t passes. (both_pass (is_open t.standing) (t.owner == who) passes).0))
    machine orderly

end_closed : (b : Bool) → is_open (end_by b) ≡ false
end_closed true = refl
end_closed false = refl

pub settled_by_orderly : (living : List Transaction) (commits : ℕ → Bool) (machine : Machine) → IsOrderly machine → IsOrderly (settled_by living commits machine)
settled_by_orderly living commits machine orderly =
    ends_orderly (ended_by living commits)
    (ends_by (λ t. is_open t.standing && not (is_owner_of living t.owner)) (λ t. end_by (commits t.owner)) (λ t. end_closed (commits t.owner)) (λ t passes. (both_pass (is_open t.standing) (not (is_owner_of living t.owner)) passes).0))
    machine orderly
