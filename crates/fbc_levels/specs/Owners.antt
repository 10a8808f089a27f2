-- How a circle keeps its owners: a count, and eight places of which those past the count hold 0.
use Rattle.std.specs.Prelude.{◌≡◌, ℕ, ◌-◌, ◌≤◌, List, ◌++◌, length, take, drop, replicate}
use Rattle.std.proofs.Common.{sym, ◌∙◌, ap}
use Rattle.std.proofs.lemmas.List.{length-take-le, take-append-drop}

-- The owners that are kept.
abbrev pub owners_of : ℕ → List ℕ → List ℕ
owners_of count places = take count places

-- The places for these owners.
abbrev pub places_for : List ℕ → List ℕ
places_for owners = owners ++ replicate (8 - length owners) 0

-- The owners lie within eight places, and zeros follow them.
pub record IsPadded (count : ℕ) (places : List ℕ) : Type 0 where
  pub width : length places ≡ 8
  pub within : count ≤ length places
  pub zeros : drop count places ≡ replicate (8 - count) 0

pub length-owners_of : (count : ℕ) (places : List ℕ) → IsPadded count places → length (owners_of count places) ≡ count
length-owners_of count places is = length-take-le count places is.within

pub places_for-owners_of : (count : ℕ) (places : List ℕ) → IsPadded count places → places_for (owners_of count places) ≡ places
places_for-owners_of count places is =
    ap (λ n. take count places ++ replicate (8 - n) 0) (length-owners_of count places is)
    ∙ ap (λ rest. take count places ++ rest) (sym is.zeros)
    ∙ take-append-drop count places
