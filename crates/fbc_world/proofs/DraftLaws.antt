-- A draft that is dropped is not there.
use Rattle.std.proofs.Common.{◌≡◌, ◌==◌, ℕ, Bool, true, false, Option, Some, None, if◌then◌else◌, refl, arith}
use Rattle.std.specs.Option.{option_map}
use Rattle.std.proofs.lemmas.Bool.Decides.{nat_tests}
use Rattle.fbc_world.specs.declared.drafts.Draft.{Draft}
use Rattle.fbc_world.specs.Holdings.{is_draft_of}
use Rattle.fbc_world.specs.PageCell.{without}

kept_other : (owner : ℕ) (draft : Draft) (b : Bool) → draft.owner == owner ≡ b → option_map (λ (d : Draft). d.owner) (if b then None else Some draft) ≡ Some owner → ⊥
kept_other owner draft true e h = cc
kept_other owner draft false e h = grind (arith, nat_tests, e, h)

pub without-owner : (owner : ℕ) (draft : Option Draft) → option_map (λ (d : Draft). d.owner) (without owner draft) ≡ Some owner → ⊥
without-owner owner None h = cc
without-owner owner (Some draft) h = kept_other owner draft (draft.owner == owner) refl h

-- A draft has one owner.
pub one-owner : (draft : Option Draft) (owner other : ℕ) → is_draft_of owner draft ≡ true → is_draft_of other draft ≡ true → owner ≡ other
one-owner None owner other h k = absurd cc
one-owner (Some draft) owner other h k = grind (arith, nat_tests, h, k)
