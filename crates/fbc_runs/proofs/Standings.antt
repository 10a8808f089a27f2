-- A transaction is open, committed or rolled back, and only one of these.
use Rattle.std.proofs.Common.{◌≡◌, true, false, refl}
use Rattle.fbc_kinds.specs.declared.snapshots.Standing.{Standing}
use Rattle.fbc_kinds.specs.declared.snapshots.Standing.TheVariants as standing
use Rattle.fbc_kinds.specs.Machine.{is_committed, is_open, is_rolled_back}

pub open_stands : (s : Standing) → is_open s ≡ true → is_rolled_back s ≡ false
open_stands standing.Open is = refl
open_stands standing.Committed is = refl
open_stands standing.RolledBack is = cc

pub committed_stands : (s : Standing) → is_committed s ≡ true → is_rolled_back s ≡ false
committed_stands standing.Open is = cc
committed_stands standing.Committed is = refl
committed_stands standing.RolledBack is = cc

pub open_not_committed : (s : Standing) → is_open s ≡ true → is_committed s ≡ false
open_not_committed standing.Open is = refl
open_not_committed standing.Committed is = cc
open_not_committed standing.RolledBack is = cc
