-- What is claimed of each row in which a view shows a top of some kind: of settled tops, and of those of an open number.
use Rattle.std.proofs.Common.{◌≡◌, ℕ, Some, true}
use Rattle.fbc_kinds.specs.declared.pages.Cell.{Cell}
use Rattle.fbc_kinds.specs.declared.shapes.Shape.{Shape}
use Rattle.fbc_kinds.specs.declared.snapshots.Transaction.{Transaction}
use Rattle.fbc_kinds.specs.View.{View, cell_at, is_top}
use Rattle.fbc_legal.specs.Scene.{Scene}
use Rattle.fbc_origins.specs.Origins.{EveryView}
use Rattle.fbc_origins.specs.Rows.{IsNamedOrDrafted, NamesRow, OpensAreNamed}

-- Where a view names a data page in which it shows such a top, the claim holds of the row.
abbrev pub HoldsOfRows : Shape → (Cell → Type 0) → (ℕ → ℕ → ℕ → ℕ → Type 0) → View → Type 0
HoldsOfRows shape IsSuch Claim seen = (relation sequence pointer page cell : ℕ) (top : Cell) → NamesRow shape seen relation sequence pointer page → cell_at seen page cell ≡ Some top → IsSuch top → Claim relation sequence pointer page

-- A top of this number.
abbrev pub IsTopOf : ℕ → Cell → Type 0
IsTopOf number top = (is_top top.flag ≡ true) × (top.number ≡ number)

-- What is claimed of the rows with tops of an owner's open number, in one view.
abbrev pub OpensAreNamedIn : Scene → ℕ → ℕ → View → Type 0
OpensAreNamedIn at owner number seen = HoldsOfRows at.shape (IsTopOf number) (IsNamedOrDrafted at owner) seen

-- The law of every view is that of each.
pub opens-views : (at : Scene) → OpensAreNamed at → (owner : ℕ) (t : Transaction) → at.world.transaction owner ≡ Some t → EveryView at (λ seen stamps. OpensAreNamedIn at owner t.number seen)
opens-views at opens owner t is cut closed relation sequence pointer page cell top row stands such = opens cut relation sequence pointer page cell owner top t closed row stands such.0 is such.1

pub views-opens : (at : Scene) → ((owner : ℕ) (t : Transaction) → at.world.transaction owner ≡ Some t → EveryView at (λ seen stamps. OpensAreNamedIn at owner t.number seen)) → OpensAreNamed at
views-opens at each cut relation sequence pointer page cell owner top t closed row stands first is own = each owner t is cut closed relation sequence pointer page cell top row stands (first, own)
