-- A use of a page leaves as many buffers.
use Rattle.std.proofs.Common.{◌≡◌, ℕ, ◌+◌, List, [], ◌∷◌, length, refl, arith}
use Rattle.std.proofs.lemmas.Grind.{common_steps}
use Rattle.std.specs.List.{filter}
use Rattle.fbc_buffers.specs.declared.buffers.Buffer.{Buffer}
use Rattle.fbc_buffers.specs.Holding.{is_of, touched, without}

length-parts : (page : ℕ) (held : List Buffer) → length (without page held) + length (filter (is_of page) held) ≡ length held
length-parts page [] = refl
length-parts page (b ∷ bs) = grind (arith, common_steps, length-parts page bs)

pub length-touched : (page : ℕ) (held : List Buffer) → length (touched page held) ≡ length held
length-touched page held = grind (arith, common_steps, length-parts page held)
