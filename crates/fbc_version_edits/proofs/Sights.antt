-- What is seen of versions, where an older part of them is hidden.
use Rattle.std.proofs.Common.{◌≡◌, ◌∙◌, ◌++◌, ℕ, Bool, true, false, List, [], ◌∷◌, refl, ap, find, filter, if◌then◌else◌}
use Rattle.std.specs.Prelude.{Some}
use Rattle.std.specs.Option.{option_and_then}
use Rattle.std.proofs.lemmas.List.Elements.{filter-append}
use Rattle.fbc_kinds.specs.Chain.{Version, see}
use Rattle.fbc_kinds.specs.Machine.{newest}

-- What stands behind an item that passes is not found.
find_before : {X : Type 0} (test : X → Bool) (xs : List X) (x : X) (ys : List X) → test x ≡ true → find test (xs ++ x ∷ ys) ≡ find test (xs ++ x ∷ [])
find_before test [] x ys passes = rw passes refl
find_before test (y ∷ xs) x ys passes = ap (λ o. if test y then Some y else o) (find_before test xs x ys passes)

-- What is below a version that is held is not seen.
pub see_before : (held : ℕ → Bool) (newer : List Version) (version : Version) (older : List Version) → held version.number ≡ true
    → see (newer ++ version ∷ older) held ≡ see (newer ++ version ∷ []) held
see_before held newer version older is = ap (option_and_then (λ (v : Version). v.value)) (find_before (λ (v : Version). held v.number) newer version older is)

pub newest_before : (newer : List Version) (version : Version) (older : List Version) → newest (newer ++ version ∷ older) ≡ newest (newer ++ version ∷ [])
newest_before [] version older = refl
newest_before (first ∷ newer) version older = refl

-- Of two versions of one number the second is not seen.
pub see_second : (held : ℕ → Bool) (first second : Version) (older : List Version) → second.number ≡ first.number → see (first ∷ second ∷ older) held ≡ see (first ∷ older) held
see_second held first second older same = go (held first.number) refl
  where
    go : (b : Bool) → held first.number ≡ b
        → option_and_then (λ (v : Version). v.value) (if held first.number then Some first else (if held second.number then Some second else find (λ (v : Version). held v.number) older))
        ≡ option_and_then (λ (v : Version). v.value) (if held first.number then Some first else find (λ (v : Version). held v.number) older)
    go true is = rw is refl
    go false is = rw (is, ap held same ∙ is) refl

-- A version that is held is seen.
pub see_first : (held : ℕ → Bool) (version : Version) (older : List Version) → held version.number ≡ true → see (version ∷ older) held ≡ version.value
see_first held version older is = rw is refl

-- The versions that pass a test, where a part is cut off below one that passes.
pub filter_cut : (test : Version → Bool) (newer : List Version) (version : Version) (older : List Version) → test version ≡ true
    → filter test (newer ++ version ∷ older) ≡ filter test newer ++ version ∷ filter test older
filter_cut test newer version older is = filter-append test newer (version ∷ older) ∙ ap (λ b. filter test newer ++ (if b then version ∷ filter test older else filter test older)) is
