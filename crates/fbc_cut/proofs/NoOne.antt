-- The cut without any page, and the list without any open transaction.
use Rattle.std.proofs.Common.{◌≡◌, ℕ, false, [], Contains, Option, Some, None, refl, arith}
use Rattle.std.specs.Option.{option_map_or}
use Rattle.fbc_kinds.specs.declared.snapshots.Transaction.{Transaction}
use Rattle.fbc_world.specs.World.{World}
use Rattle.fbc_closed_cuts.specs.Cut.{Cut, IsClosedCut}
use Rattle.fbc_simulation.specs.Beside.{AreOpenIn, commits_in}

abbrev pub no_page : Cut
no_page page = false

pub no-page-closed : (w : World) → IsClosedCut w no_page
no-page-closed w = record { drafted = λ page none. absurd cc; closed = λ high low path drafted none. absurd cc }

empty : (t : Transaction) → Contains [] t → ⊥
empty t there = absurd (grind (arith, there.1))

pub none-open : (w : World) (cut : Cut) → AreOpenIn w cut []
none-open w cut = record { each = λ t there. absurd (empty t there); drafts = λ t page there. absurd (empty t there) }

-- Nobody's commit is in the cut without any page.
pub no-commits : (w : World) (owner : ℕ) → commits_in w no_page owner ≡ false
no-commits w owner = go (w.marked owner) where
  go : (mark : Option ℕ) → option_map_or no_page mark false ≡ false
  go None = refl
  go (Some page) = refl
