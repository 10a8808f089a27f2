use Rattle.std.specs.Prelude.{◌≡◌, ◌+◌, ◌*◌, ◌%◌, ℕ, suc, List, slice_range}

-- The page of this number, of pages that stand one behind the other.
abbrev pub page_in : ℕ → List ℕ → List ℕ
page_in number pages = slice_range pages (number * 4096) (number * 4096 + 4096)

-- After so many turns, each with the next of five pages, the page of the last turn stands there.
abbrev pub HoldsLast : ℕ → List ℕ → List ℕ → Type 0
HoldsLast turns pages out = (turn : ℕ) → turns ≡ suc turn → out ≡ page_in (turn % 5) pages
