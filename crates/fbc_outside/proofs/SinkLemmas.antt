-- What a sink takes piece by piece.
use Rattle.std.proofs.Common.{◌≡◌, ℕ, ◌+◌, List, ◌++◌, take, drop, sym, ap, ◌∙◌, subst, append_assoc}
use Rattle.std.proofs.Math.Seq.{take-add}
use Rattle.fbc_outside.specs.Streams.{SinkTakes}

-- A first part of a text and then the next part are a longer first part.
pub takes_more : (before between now : List ℕ → Type 0) (text : List ℕ) (i n : ℕ) → SinkTakes before between (take i text) → SinkTakes between now (take n (drop i text)) → SinkTakes before now (take (i + n) text)
takes_more before between now text i n first next had h =
    let joined : (had ++ take i text) ++ take n (drop i text) ≡ had ++ take (i + n) text = append_assoc had (take i text) (take n (drop i text)) ∙ ap (λ (x : List ℕ). had ++ x) (sym (take-add i n text)) in
    subst now joined (next (had ++ take i text) (first had h))
