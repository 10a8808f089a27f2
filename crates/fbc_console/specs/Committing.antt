-- What stands on the device after commit, or after a part of it.
use Rattle.std.specs.Prelude.{◌≡◌, ◌⊎◌, ℕ, List, Option, Result, Ok, Err}
use Rattle.fbc_console.specs.declared.statuses.Status.{Status}
use Rattle.fbc_console.specs.declared.writes.PageImage.{PageImage}
use Rattle.fbc_console.specs.Writes.{IsAfter, IsAfterSome}
use Rattle.fbc_console.specs.Images.{AreImages, commit_pages}

-- All pages of the commit were written, in their order.
pub record IsCommitted (before now : Option (List ℕ)) (values : List (List ℕ)) : Type 0 where
  pub images : List PageImage
  pub are : AreImages (commit_pages values) images
  pub after : IsAfter before now images

-- The first pages of the commit were written, however many.
pub record IsPartCommitted (before now : Option (List ℕ)) (values : List (List ℕ)) : Type 0 where
  pub images : List PageImage
  pub are : AreImages (commit_pages values) images
  pub after : IsAfterSome before now images

-- What stands: all of the commit where it is done, and else what stood before or a first part of the commit.
abbrev pub Stands : Result (Unit {0}) Status → Option (List ℕ) → Option (List ℕ) → List (List ℕ) → Type 0
Stands (Ok done) before now values = IsCommitted before now values
Stands (Err status) before now values = (now ≡ before) ⊎ IsPartCommitted before now values
