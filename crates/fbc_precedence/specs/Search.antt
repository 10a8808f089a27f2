-- What the search for the pages before a page looks for.
use Rattle.std.specs.Prelude.{◌≡◌, ◌≤◌, ℕ, Bool, true, false, not, min, ◌&&◌, ◌==◌, List, Option}
use Rattle.std.specs.List.{list_any}
use Rattle.std.specs.Option.{option_map_or}
use Rattle.fbc_kinds.specs.declared.edges.Edge.{Edge}
use Rattle.fbc_precedence.specs.Pages.{has}
use Rattle.fbc_precedence.specs.Precedence.{IsPair}

-- Whether the pair leads into these pages from outside.
abbrev pub leads_into : List ℕ → Edge → Bool
leads_into found pair = has found pair.low && not (has found pair.high)

-- No pair leads into these pages from outside.
abbrev pub IsClosed : List Edge → List ℕ → Type 0
IsClosed pairs found = list_any (leads_into found) pairs ≡ false

-- A pair leads from this page, which is none of these, to one of them.
pub record LeadsInto (pairs : List Edge) (found : List ℕ) (high : ℕ) : Type 0 where
  pub low : ℕ
  pub pair : IsPair pairs high low
  pub inside : has found low ≡ true
  pub outside : has found high ≡ false

-- Whether a pair names a page before this one.
abbrev pub is_blocked : List Edge → ℕ → Bool
is_blocked pairs page = list_any (λ (pair : Edge). pair.low == page) pairs

-- A pair names a page before each of these.
abbrev pub AllBlocked : List Edge → List ℕ → Type 0
AllBlocked pairs found = (page : ℕ) → has found page ≡ true → is_blocked pairs page ≡ true

-- The least of these pages that no pair names a page before.
pub record IsLeastFree (pairs : List Edge) (found : List ℕ) (page : ℕ) : Type 0 where
  pub among : has found page ≡ true
  pub free : is_blocked pairs page ≡ false
  pub least : (other : ℕ) → has found other ≡ true → is_blocked pairs other ≡ false → page ≤ other

-- The lesser of the two, or the page where there is no other.
abbrev pub lesser : Option ℕ → ℕ → ℕ
lesser least page = option_map_or (λ least. min least page) least page
