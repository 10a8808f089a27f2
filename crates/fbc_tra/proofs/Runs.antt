-- Runs of the desk's calls in which a transaction may begin.
use Rattle.std.proofs.Common.{◌≡◌, subst, inl, inr}
use Rattle.fbc_kinds.specs.declared.snapshots.Snapshot.{Snapshot}
use Rattle.fbc_desk.specs.Calls.{GoesOn, stays}
use Rattle.fbc_desk.specs.Desk.{DeskState}
use Rattle.fbc_desk.proofs.Goes.{goes_on}
use Rattle.fbc_tra.specs.Goes.{GoesOrBegins, begun}

-- Nothing is done, or calls alone.
pub stays-or-begins : (d : DeskState) → GoesOrBegins d d
stays-or-begins d = inl (stays d)

pub goes-or-begins : (a b : DeskState) → GoesOn a b → GoesOrBegins a b
goes-or-begins a b on = inl on

-- Calls come first.
pub calls-first : (a b c : DeskState) → GoesOn a b → GoesOrBegins b c → GoesOrBegins a c
calls-first a b c first (inl on) = inl (goes_on a b c first on)
calls-first a b c first (inr begins) =
    inr (record { between = begins.between; snapshot = begins.snapshot; goes = goes_on a b begins.between first begins.goes; goes_on = begins.goes_on })

-- The transaction begins, and calls follow.
pub begins-first : (a b c : DeskState) (snapshot : Snapshot) → b ≡ begun snapshot a → GoesOn b c → GoesOrBegins a c
begins-first a b c snapshot is on =
    inr (record { between = a; snapshot = snapshot; goes = stays a; goes_on = subst (λ (d : DeskState). GoesOn d c) is on })
