-- The first empty cell of a page.
use Rattle.std.proofs.Common.{◌≡◌, ◌≤◌, ◌+◌, ◌-◌, ◌^◌, ℕ, zero, suc, Bool, true, false, cond, List, [], ◌∷◌, length, slice_get, div-le_self, Option, Some, None, refl, subst, arith}
use Rattle.std.specs.List.{position_from}
use Rattle.std.specs.Option.{option_map_or}
use Rattle.fbc_kinds.specs.declared.pages.Cell.{Cell}
use Rattle.fbc_kinds.specs.declared.pages.Data.{Data}
use Rattle.fbc_kinds.specs.declared.pages.Page.{Page}
use Rattle.fbc_kinds.specs.declared.pages.Page.TheVariants as kind
use Rattle.fbc_kinds.specs.declared.shapes.Shape.{Shape}
use Rattle.fbc_kinds.specs.Edits.{IsWithinLimits, value_length}
use Rattle.fbc_kinds.specs.HeaderSpelling.{IsFileShape}
use Rattle.fbc_kinds.specs.Limits.{IsPageSize}
use Rattle.fbc_kinds.specs.View.{is_empty}
use Rattle.fbc_cache.specs.Least.{IsLeast, is_empty_in}

module _ {X : Type 0} (p : X → Bool) where
  -- Whether the one at this place passes.
  abbrev passes : List X → ℕ → Bool
  passes xs k = option_map_or p (slice_get xs k) false

  -- The first place that passes, counted from a number on.
  record IsFirst (from : ℕ) (xs : List X) (found : ℕ) : Type 0 where
    at : ℕ
    counted : found ≡ from + at
    one : passes xs at ≡ true
    least : (other : ℕ) → passes xs other ≡ true → at ≤ other

  abbrev First : ℕ → List X → Option ℕ → Type 0
  First from xs (Some found) = IsFirst from xs found
  First from xs None = (k : ℕ) → passes xs k ≡ false

  none-of : (x : X) (xs : List X) → p x ≡ false → ((k : ℕ) → passes xs k ≡ false) → (k : ℕ) → passes (x ∷ xs) k ≡ false
  none-of x xs fails rest zero = fails
  none-of x xs fails rest (suc k) = rest k

  past : (x : X) (xs : List X) (at : ℕ) → p x ≡ false → ((other : ℕ) → passes xs other ≡ true → at ≤ other) → (other : ℕ) → passes (x ∷ xs) other ≡ true → suc at ≤ other
  past x xs at fails least zero is = absurd (cc)
  past x xs at fails least (suc other) is = omega (arith, least other is)

  first-from : (from : ℕ) (xs : List X) → First from xs (position_from p from xs)
  first-from from [] = λ k. refl
  first-from from (x ∷ xs) = go (p x) refl (first-from (from + 1) xs) where
    next : p x ≡ false → (found : Option ℕ) → First (from + 1) xs found → First from (x ∷ xs) found
    next fails None rest = none-of x xs fails rest
    next fails (Some found) first = record {
      at = suc first.at;
      counted = omega (arith, first.counted);
      one = first.one;
      least = past x xs first.at fails first.least;
    }

    go : (t : Bool) → p x ≡ t → First (from + 1) xs (position_from p (from + 1) xs) → First from (x ∷ xs) (cond t (Some from) (position_from p (from + 1) xs))
    go true holds rest = record { at = zero; counted = omega arith; one = holds; least = λ other is. omega arith }
    go false fails rest = next fails (position_from p (from + 1) xs) rest

  -- It is the least that passes.
  pub first-least : (xs : List X) → IsLeast (passes xs) (position_from p 0 xs)
  first-least xs = go (position_from p 0 xs) (first-from 0 xs) where
    go : (found : Option ℕ) → First 0 xs found → IsLeast (passes xs) found
    go None none = none
    go (Some found) first =
        let same : first.at ≡ found = omega (arith, first.counted) in
        (subst (λ k. passes xs k ≡ true) same first.one, λ other is. omega (arith, first.least other is, same))

-- The first empty cell is the least.
pub empty-least : (copy : Option Page) (d : Data) (cells : List Cell) (found : Option ℕ) → copy ≡ Some (kind.Data d) → cells ≡ d.cells → found ≡ position_from (λ (c : Cell). is_empty c.flag) 0 cells → IsLeast (is_empty_in copy) found
empty-least copy d cells found page same is = rw (page, is, same) (first-least (λ (c : Cell). is_empty c.flag) d.cells)

-- A data page has few cells.
small : (size : ℕ) → IsPageSize size → size ≤ 16384
small size is = grind arith

pub few-cells : (shape : Shape) (d : Data) → IsFileShape shape → IsWithinLimits shape (kind.Data d) → length d.cells ≤ 2 ^ 16
few-cells shape d file limits = omega (arith, limits.count, div-le_self (shape.size - 16) (12 + value_length shape d.relation), small shape.size file.size)
