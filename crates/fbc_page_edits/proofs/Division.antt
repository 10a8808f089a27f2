-- A number is told by its quotient and its remainder.
use Rattle.std.proofs.Common.{◌≡◌, ◌∙◌, ◌*◌, ◌+◌, ◌/◌, ◌%◌, ℕ, sym, ap}
use Rattle.std.proofs.Math.Nat.{div-add-mod'}

pub same_from_parts : (size a b : ℕ) → a / size ≡ b / size → a % size ≡ b % size → a ≡ b
same_from_parts size a b quotient rest = sym (div-add-mod' a size) ∙ ap (λ n. n * size + a % size) quotient ∙ ap (λ n. b / size * size + n) rest ∙ div-add-mod' b size
