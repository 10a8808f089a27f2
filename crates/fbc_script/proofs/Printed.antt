-- Printing line after line.
use Rattle.std.proofs.Common.{◌≡◌, ℕ, suc, ◌+◌, ◌-◌, ◌<◌, ◌≤◌, List, [], ◌∷◌, ◌++◌, refl, sym, ◌∙◌, append_assoc, arith}
use Rattle.std.proofs.lemmas.List.{append-nil}
use Rattle.fbc_script.specs.declared.script.Line.{Line}
use Rattle.fbc_script.specs.Spelling.{text_at, kept_behind, lines_text}

-- The next of the lines that are left.
lines_text-next : (count before number : ℕ) (kept : List Line) → before < count → lines_text (count - before) number kept ≡ text_at number kept ++ 10 ∷ lines_text (count - (before + 1)) (number + 1) (kept_behind number kept)
lines_text-next count before number kept left =
    let more : count - before ≡ suc (count - (before + 1)) = omega arith in rw more refl

pub lines_text-onto : (text new all : List ℕ) (count before : ℕ) (kept behind : List Line) → before < count → text ++ lines_text (count - before) (before + 1) kept ≡ all → new ≡ text ++ text_at (before + 1) kept ++ 10 ∷ [] → behind ≡ kept_behind (before + 1) kept → new ++ lines_text (count - (before + 1)) (before + 1 + 1) behind ≡ all
lines_text-onto text new all count before kept behind left so_far added rest =
    let next = lines_text-next count before (before + 1) kept left in
    rw (added, rest, append_assoc, append_assoc) (rw next at so_far)

-- No line is left.
pub script_text-end : (text all : List ℕ) (count before : ℕ) (kept : List Line) → count ≤ before → text ++ lines_text (count - before) (before + 1) kept ≡ all → text ≡ all
script_text-end text all count before kept none so_far =
    let left : count - before ≡ 0 = omega arith in
    let last : text ++ lines_text 0 (before + 1) kept ≡ all = rw left at so_far in
    sym (append-nil text) ∙ last
