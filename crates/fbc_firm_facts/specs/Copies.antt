-- What stands of a page of which an owner has a copy.
use Rattle.std.specs.Prelude.{◌≡◌, ◌⊎◌, ℕ, Bool, true}
use Rattle.fbc_kinds.specs.View.{View}
use Rattle.fbc_legal.specs.Scene.{Scene, HasDraft, newest_at}
use Rattle.fbc_legal.specs.Stamps.{newest_stamps}

-- The newest content of a page, and its stamps, are what the file keeps.
pub record IsNewestKept (at : Scene) (page : ℕ) : Type 0 where
  pub content : newest_at at page ≡ at.world.kept page
  pub stamps : newest_stamps at.world at.stamps page ≡ at.stamps.kept page

-- The draft of the page is the owner's, or its newest content is kept.
abbrev pub IsOwnOrKept : Scene → ℕ → ℕ → Type 0
IsOwnOrKept at owner page = HasDraft at owner page ⊎ IsNewestKept at page

-- A test of views reads these pages alone: a view passes it also when it shows them as one does that passes.
abbrev pub ReadsOnly : (ℕ → Bool) → (View → Bool) → Type 0
ReadsOnly reads passes = (seen other : View) → ((page : ℕ) → reads page ≡ true → seen page ≡ other page) → passes seen ≡ true → passes other ≡ true
