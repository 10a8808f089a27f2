-- The pages that a part passes over.
use Rattle.std.specs.Prelude.{◌==◌, ◌++◌, ◌∷◌, [], ◌||◌, ℕ, Bool, if◌then◌else◌, List, length}
use Rattle.std.specs.List.{list_any}

-- How many pages a part passes over at most.
abbrev pub pass_limit : ℕ
pass_limit = 16

-- Whether the page is one of them.
abbrev pub is_passed : List ℕ → ℕ → Bool
is_passed passed page = list_any (λ other. other == page) passed

-- With one page more, unless it is there already or there is no place for it.
abbrev pub with_page : ℕ → List ℕ → List ℕ
with_page page passed = if is_passed passed page || length passed == pass_limit then passed else passed ++ page ∷ []
