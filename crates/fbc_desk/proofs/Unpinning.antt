-- The pages in use are unpinned one after the other, and each leaves fewer.
use Rattle.std.proofs.Common.{◌≡◌, ◌≤◌, ◌<◌, ◌&&◌, ℕ, Bool, true, false, List, [], ◌∷◌, map, length, Some, None, refl, subst, sym, arith}
use Rattle.std.proofs.lemmas.Bool.Decides.{nat_tests}
use Rattle.std.specs.List.{filter}
use Rattle.fbc_buffers.specs.declared.buffers.Buffer.{Buffer}
use Rattle.fbc_buffers.specs.Holding.{is_pinned, with_pin}
use Rattle.fbc_cache.specs.Cache.{is_pinned_in}
use Rattle.fbc_cache.specs.Least.{IsLeast, is_pinned_past}
use Rattle.fbc_desk.specs.Calls.{PinnedOrNot, Unpins, UnpinsAll, UnpinsIfPinned, next, none}
use Rattle.fbc_desk.specs.Desk.{DeskState}

-- How many pages are in use.
abbrev pub pinned_count : List Buffer → ℕ
pinned_count held = length (filter is_pinned held)

no-more : (held : List Buffer) (page : ℕ) → pinned_count (map (with_pin page false) held) ≤ pinned_count held
no-more [] page = omega arith
no-more (b ∷ bs) page = grind (arith, nat_tests, no-more bs page)

fewer : (held : List Buffer) (page : ℕ) → is_pinned_in held page ≡ true → pinned_count (map (with_pin page false) held) < pinned_count held
fewer [] page pinned = absurd (cc)
fewer (b ∷ bs) page pinned = grind (arith, nat_tests, pinned, no-more bs page, fewer bs page)

first-of : (a : Bool) → (a && true) ≡ true → a ≡ true
first-of true is = refl
first-of false is = absurd (cc)

none-of : (a : Bool) → (a && true) ≡ false → a ≡ false
none-of true is = absurd (cc)
none-of false is = refl

module _ (d : DeskState) (page : ℕ) (least : IsLeast (is_pinned_past d.cache.held None) (Some page)) (after : DeskState) (unpins : UnpinsIfPinned d page after) where
  is-pinned : is_pinned_in d.cache.held page ≡ true
  is-pinned = first-of (is_pinned_in d.cache.held page) least.0

  -- The least page in use is unpinned.
  pub unpinned : Unpins d page after
  unpinned = subst (λ (b : Bool). PinnedOrNot b d page after) is-pinned unpins

  pub smaller : pinned_count after.cache.held < pinned_count d.cache.held
  smaller = subst (λ (a : DeskState). pinned_count a.cache.held < pinned_count d.cache.held) (sym unpinned.is_after) (fewer d.cache.held page is-pinned)

  pub turn : (last : DeskState) → UnpinsAll after last → UnpinsAll d last
  turn last rest = next d after last page least unpinned rest

-- Where none is left, all are unpinned.
pub all-unpinned : (d : DeskState) → IsLeast (is_pinned_past d.cache.held None) None → UnpinsAll d d
all-unpinned d empty = none d (λ page. none-of (is_pinned_in d.cache.held page) (empty page))
