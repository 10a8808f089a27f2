-- What an owner's step leaves at the owner's own place.
use Rattle.std.proofs.Common.{◌≡◌, ℕ, Bool, ◌==◌, ◌&&◌, if◌then◌else◌, arith}
use Rattle.std.proofs.lemmas.Bool.Decides.{nat_tests}

pub own_place : {X : Type 0} (owner : ℕ) (same : Bool) (a b : X) → (if (owner == owner) && same then a else b) ≡ (if same then a else b)
own_place owner same a b = grind (arith, nat_tests)
