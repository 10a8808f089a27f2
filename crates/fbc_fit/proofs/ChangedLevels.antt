-- The levels of an owner on its pages, after that on one page changes.
use Rattle.std.proofs.Common.{◌≡◌, ℕ, ◌==◌, ◌&&◌, if◌then◌else◌, arith}
use Rattle.std.proofs.lemmas.Bool.Decides.{nat_tests}
use Rattle.fbc_levels.specs.declared.levels.Level.{Level}
use Rattle.fbc_levels.specs.Resources.{is_same_resource, page_resource}

pub changed-level : (owner page number : ℕ) (level before : Level) → (if (owner == owner) && is_same_resource (page_resource page) (page_resource number) then level else before) ≡ (if page == number then level else before)
changed-level owner page number level before = grind (arith, nat_tests)
