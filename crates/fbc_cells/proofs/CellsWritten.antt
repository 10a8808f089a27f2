use Rattle.std.proofs.Common.{◌≡◌, ◌<◌, ◌≤◌, ◌+◌, ◌-◌, ◌*◌, ◌++◌, ℕ, List, length, take, drop, get_or, replicate, sym, ap, ◌∙◌, below_more, arith}
use Rattle.std.proofs.lemmas.List.{drop-drop, drop-replicate, get_or_read}
use Rattle.std.proofs.lemmas.Slice.{drop-put_mid}
use Rattle.std.proofs.Math.Nat.{mul-suc}
use Rattle.std.proofs.Math.Numerals.{suc-eq-add-one}
use Rattle.fbc_kinds.specs.declared.pages.Cell.{Cell}
use Rattle.fbc_kinds.specs.declared.pages.Data.{Data}
use Rattle.fbc_kinds.specs.DataSpelling.{IsData, SpellsCell, SpellsData, empty_cell, piece}
use Rattle.fbc_kinds.specs.Head.{HasHead}
use Rattle.fbc_kinds.specs.Limits.{cells}
use Rattle.fbc_cells.proofs.Parts.{piece-written, piece-written_before}

-- A cell is written behind those that stand there.
pub cells_more : (greatest i : ℕ) (cells : List Cell) (x : Cell) (old part rest : List ℕ)
    → (12 + greatest) * i ≤ length old → length part ≡ 12 + greatest → i < length cells → x ≡ get_or cells i x → SpellsCell greatest x part
    → ((k : ℕ) → k < i → SpellsCell greatest (get_or cells k empty_cell) (piece (12 + greatest) k old))
    → (k : ℕ) → k < i + 1 → SpellsCell greatest (get_or cells k empty_cell) (piece (12 + greatest) k (take ((12 + greatest) * i) old ++ (part ++ rest)))
cells_more greatest i cells x old part rest within whole inside is spelled so_far =
    below_more _ _
    (λ k below. rw (piece-written_before (12 + greatest) k i old (part ++ rest) below within) (so_far k below))
    (rw (piece-written (12 + greatest) i old part rest within whole, sym (get_or_read cells i x inside is empty_cell)) spelled)

-- The zeros that are left behind the cells.
pub zeros_more : (width i total n : ℕ) (old part : List ℕ) → width * (i + 1) ≤ length old → n ≡ width * (i + 1) - width * i → length part ≡ width
    → drop (width * i) old ≡ replicate (total - width * i) 0
    → drop (width * (i + 1)) (take (width * i) old ++ (part ++ drop n (drop (width * i) old))) ≡ replicate (total - width * (i + 1)) 0
zeros_more width i total n old part within same whole so_far =
    let step : width * (i + 1) ≡ width * i + width = ap (λ k. width * k) (sym (suc-eq-add-one i)) ∙ mul-suc width i in
    let left : total - width * i - width ≡ total - width * (i + 1) = omega arith in
    drop-put_mid (width * i) n old part (width * (i + 1)) (omega arith) (omega arith) (omega arith)
    ∙ ap (λ k. drop k old) step
    ∙ sym (drop-drop width (width * i) old)
    ∙ ap (drop width) so_far
    ∙ drop-replicate width (total - width * i) 0
    ∙ ap (λ k. replicate k 0) left

-- A page of bytes spells the data page whose head and cells stand in it.
pub SpellsData-from_body : (size greatest : ℕ) (page : Data) (items : List Cell) (bytes body : List ℕ)
    → length bytes ≡ size → HasHead 5 page.relation page.page page.sequence bytes → items ≡ page.cells → IsData size greatest page
    → drop 16 bytes ≡ body → (total : ℕ) → total ≡ size - 16
    → ((k : ℕ) → k < length items → SpellsCell greatest (get_or items k empty_cell) (piece (12 + greatest) k body))
    → drop ((12 + greatest) * length items) body ≡ replicate (total - (12 + greatest) * length items) 0
    → SpellsData size greatest page bytes
SpellsData-from_body size greatest page items bytes body whole head same fits is total left spelled zeros =
    let number : length items ≡ cells size greatest = ap length same ∙ fits.count in
    let after = (12 + greatest) * cells size greatest in
    let split : size - 16 - after ≡ size - (16 + after) = omega arith in
    let zeros_of_page : drop after body ≡ replicate (size - 16 - after) 0 = rw (number, left) at zeros in
    record {
      fits = fits;
      size_is = whole;
      head = head;
      cell = λ k inside. rw (← same, is) (spelled k (rw number inside));
      rest = sym (drop-drop after 16 bytes) ∙ ap (drop after) is ∙ zeros_of_page ∙ ap (λ n. replicate n 0) split;
    }
