-- Versions of a number, and what is seen where two tests agree on all versions.
use Rattle.std.proofs.Common.{◌≡◌, ◌∙◌, ◌==◌, ◌⊎◌, inl, inr, ℕ, Bool, true, false, List, [], ◌∷◌, refl, ap, arith, find, if◌then◌else◌}
use Rattle.std.specs.Prelude.{Some, Contains}
use Rattle.std.specs.Option.{option_and_then}
use Rattle.fbc_kinds.specs.Chain.{Version, see}
use Rattle.fbc_kinds.proofs.Tests.{differ_from_test, same_from_test}
pub use Rattle.fbc_runs.proofs.Places.{at_head as first_in, in_tail as later_in, head_or_tail as first_or_later}

-- One of the versions has the number.
pub record HasNumber (number : ℕ) (versions : List Version) : Type 0 where
  pub version : Version
  pub at : Contains versions version
  pub same : version.number ≡ number

-- None of them has it.
abbrev pub LacksNumber : ℕ → List Version → Type 0
LacksNumber number versions = (version : Version) → Contains versions version → ¬ (version.number ≡ number)

later_has : (number : ℕ) (version : Version) (older : List Version) → HasNumber number older → HasNumber number (version ∷ older)
later_has number version older has = record { version = has.version; at = later_in version older has.version has.at; same = has.same }

lacks_more : (number : ℕ) (version : Version) (older : List Version) → ¬ (version.number ≡ number) → LacksNumber number older → LacksNumber number (version ∷ older)
lacks_more number version older differ lacks other at same = elim (first_or_later version older other at) [
  | inl is ↦ differ (ap (λ (v : Version). v.number) is ∙ same)
  | inr later ↦ lacks other later same
]

pub has_or_lacks : (number : ℕ) (versions : List Version) → HasNumber number versions ⊎ LacksNumber number versions
has_or_lacks number [] = inr (λ version at same. absurd (omega (arith, at.1)))
has_or_lacks number (version ∷ older) = go (version.number == number) refl (has_or_lacks number older)
  where
    go : (b : Bool) → (version.number == number) ≡ b → HasNumber number older ⊎ LacksNumber number older → HasNumber number (version ∷ older) ⊎ LacksNumber number (version ∷ older)
    go true is rest = inl (record { version = version; at = first_in version older; same = same_from_test version.number number is })
    go false is (inl has) = inl (later_has number version older has)
    go false is (inr lacks) = inr (lacks_more number version older (differ_from_test version.number number is) lacks)

-- Tests that agree on all versions see the same.
pub see_same : (held also : ℕ → Bool) (versions : List Version) → ((version : Version) → Contains versions version → held version.number ≡ also version.number) → see versions held ≡ see versions also
see_same held also versions same = ap (option_and_then (λ (version : Version). version.value)) (found versions same)
  where
    found : (versions : List Version) → ((version : Version) → Contains versions version → held version.number ≡ also version.number)
        → find (λ (version : Version). held version.number) versions ≡ find (λ (version : Version). also version.number) versions
    found [] same = refl
    found (version ∷ older) same =
        let rest = found older (λ other at. same other (later_in version older other at)) in
        let here = same version (first_in version older) in
        λ i. if here i then Some version else rest i
