-- The pages that stand in pairs.
use Rattle.std.specs.Prelude.{ℕ, Bool, ◌==◌, if◌then◌else◌, List, [], ◌∷◌, ◌++◌}
use Rattle.std.specs.List.{fold, list_any}
use Rattle.fbc_kinds.specs.declared.edges.Edge.{Edge}

-- Whether the page is in the list.
abbrev pub has : List ℕ → ℕ → Bool
has pages page = list_any (λ p. p == page) pages

-- The pages and this one, once.
abbrev pub with_page : List ℕ → ℕ → List ℕ
with_page pages page = if has pages page then pages else pages ++ page ∷ []

-- The pages and both pages of the pair, each once.
abbrev pub with_pages : List ℕ → Edge → List ℕ
with_pages pages pair = with_page (with_page pages pair.high) pair.low

-- The pages that stand in these pairs, each once.
abbrev pub pages_of : List Edge → List ℕ
pages_of pairs = fold with_pages [] pairs
