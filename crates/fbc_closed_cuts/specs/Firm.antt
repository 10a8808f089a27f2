-- What every view shows that holds all drafts of an owner.
use Rattle.std.specs.Prelude.{◌≡◌, ℕ, Bool, true}
use Rattle.fbc_kinds.specs.View.{View}
use Rattle.fbc_world.specs.Holdings.{is_draft_of}
use Rattle.fbc_world.specs.World.{World}
use Rattle.fbc_closed_cuts.specs.Cut.{Cut, IsClosedCut, view}

-- A closed cut that has all drafts of the owner.
pub record HasOwnDrafts (w : World) (owner : ℕ) (cut : Cut) : Type 0 where
  pub closed : IsClosedCut w cut
  pub own : (page : ℕ) → is_draft_of owner (w.draft page) ≡ true → cut page ≡ true

-- A test of views is firm for the owner where each view passes it that holds all its drafts.
abbrev pub IsFirm : World → ℕ → (View → Bool) → Type 0
IsFirm w owner passes = (cut : Cut) → HasOwnDrafts w owner cut → passes (view w cut) ≡ true
