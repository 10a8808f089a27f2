use Rattle.std.specs.Prelude.{◌≡◌, ◌≤◌, ◌-◌, ◌++◌, ℕ, List, length, take, drop, replicate}
use Rattle.std.proofs.Common.{sym, ◌∙◌, ap}
use Rattle.std.proofs.lemmas.List.{length-take-le, take-append-drop}

-- The text that a length and stored bytes stand for.
abbrev pub text_of : ℕ → List ℕ → List ℕ
text_of size bytes = take size bytes

-- A text with zeros behind it up to the width.
abbrev pub padded : ℕ → List ℕ → List ℕ
padded width text = text ++ replicate (width - length text) 0

-- Stored bytes fill the width, the text lies within them, and zeros follow it.
pub record IsPadded (width size : ℕ) (bytes : List ℕ) : Type 0 where
  pub filled : length bytes ≡ width
  pub within : size ≤ length bytes
  pub zeros : drop size bytes ≡ replicate (width - size) 0

pub length-text_of : (width size : ℕ) (bytes : List ℕ) → IsPadded width size bytes → length (text_of size bytes) ≡ size
length-text_of width size bytes is = length-take-le size bytes is.within

pub padded-text_of : (width size : ℕ) (bytes : List ℕ) → IsPadded width size bytes → padded width (text_of size bytes) ≡ bytes
padded-text_of width size bytes is =
    ap (λ n. take size bytes ++ replicate (width - n) 0) (length-text_of width size bytes is)
    ∙ ap (λ rest. take size bytes ++ rest) (sym is.zeros)
    ∙ take-append-drop size bytes
