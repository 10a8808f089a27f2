-- The pointer pages that are remembered.
use Rattle.std.specs.Prelude.{◌≤◌, ◌==◌, ℕ, if◌then◌else◌, List, [], Option, Some, length, map, slice_get, unwrap_or}
use Rattle.std.specs.List.{AllByRecursion}
use Rattle.fbc_kinds.specs.declared.pages.Page.{Page}
use Rattle.fbc_kinds.specs.declared.pages.Page.TheVariants as kind
use Rattle.fbc_kinds.specs.declared.pages.Relation.{Relation}

-- The pointer pages of a relation, by their sequence: none where it is not known.
abbrev pub pointers_of : List (List ℕ) → ℕ → List ℕ
pointers_of pointers relation = unwrap_or (slice_get pointers relation) []

-- No more relations, and no more pointer pages of each, than a header has.
pub record AreFew (relations : List Relation) : Type 0 where
  pub few : length relations ≤ 8
  pub short : AllByRecursion (λ (r : Relation). length r.pointers ≤ 4) relations

-- What a page shows of pointer pages, if it is a header; else what is remembered stays.
abbrev pub pointers_shown : Option Page → List (List ℕ) → List (List ℕ)
pointers_shown (Some (kind.Header h)) pointers = map (λ (r : Relation). r.pointers) h.relations
pointers_shown _ pointers = pointers

-- What is remembered where this page shows that: page 0 is the header.
abbrev pub remembered_after : ℕ → Option Page → List (List ℕ) → List (List ℕ)
remembered_after page copy pointers = if page == 0 then pointers_shown copy pointers else pointers
