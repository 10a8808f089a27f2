use Rattle.std.proofs.Common.{◌≡◌, ◌<◌, ◌+◌, ◌-◌, ◌++◌, ◌∷◌, [], ℕ, true, List, length, drop, get_or, replicate, sym, ap, ◌∙◌, below_more, arith}
use Rattle.std.specs.List.{All}
use Rattle.std.proofs.lemmas.List.{get_or_append_left, get_or_push, length-drop, length_push}
use Rattle.std.proofs.lemmas.List.Elements.{All-push}
use Rattle.fbc_kinds.specs.declared.pages.Cell.{Cell}
use Rattle.fbc_kinds.specs.Head.{is_zeros}
use Rattle.fbc_kinds.specs.DataSpelling.{IsCell, SpellsCell, empty_cell, piece}
use Rattle.fbc_kinds.proofs.Heads.{zeros-is_zeros}

-- The zeros from a place on.
pub zeros_left : (n size : ℕ) (bytes : List ℕ) → length bytes ≡ size → is_zeros (drop n bytes) ≡ true → drop n bytes ≡ replicate (size - n) 0
zeros_left n size bytes long zeros =
    let left : length (drop n bytes) ≡ size - n = omega (arith, length-drop n bytes) in
    zeros-is_zeros (drop n bytes) zeros ∙ ap (λ k. replicate k 0) left

-- A cell is read behind those that were read.
pub cells_read_more : (greatest k : ℕ) (xs now : List Cell) (x : Cell) (bytes : List ℕ) → now ≡ xs ++ x ∷ []
    → length xs ≡ k → All (IsCell greatest) xs → IsCell greatest x
    → ((j : ℕ) → j < k → SpellsCell greatest (get_or xs j empty_cell) (piece (12 + greatest) j bytes)) → SpellsCell greatest x (piece (12 + greatest) k bytes)
    → (length now ≡ k + 1) × All (IsCell greatest) now × ((j : ℕ) → j < k + 1 → SpellsCell greatest (get_or now j empty_cell) (piece (12 + greatest) j bytes))
cells_read_more greatest k xs now x bytes is long fits fit spelled here = (
  ap length is ∙ length_push xs x ∙ ap (λ n. n + 1) long,
  rw is (All-push (IsCell greatest) xs x fits fit),
  below_more _ _
      (λ j below. rw (is, get_or_append_left xs (x ∷ []) empty_cell j (omega arith)) (spelled j below))
      (rw (is, get_or_push xs x empty_cell k long) here),
)
