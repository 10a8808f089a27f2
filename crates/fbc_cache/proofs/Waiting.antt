-- One page is waited for at most.
use Rattle.std.proofs.Common.{◌≡◌, ℕ, ◌+◌, ◌≤◌, Bool, false, List, [], ◌∷◌, ◌++◌, map, length, refl, ◌∙◌, arith}
use Rattle.std.proofs.lemmas.Grind.{common_steps}
use Rattle.std.specs.List.{filter, list_any}
use Rattle.fbc_buffers.specs.declared.buffers.Buffer.{Buffer}
use Rattle.fbc_buffers.specs.Holding.{granted_wait, is_of, is_waiting, touched, without}

-- How many are waited for.
abbrev pub waits : List Buffer → ℕ
waits held = length (filter is_waiting held)

-- A change that waits for nothing else.
abbrev pub KeepsWait : (Buffer → Buffer) → Type 0
KeepsWait f = (b : Buffer) → (f b).wanted ≡ b.wanted

pub waits-map : (f : Buffer → Buffer) → KeepsWait f → (held : List Buffer) → waits (map f held) ≡ waits held
waits-map f keeps [] = refl
waits-map f keeps (b ∷ bs) = grind (arith, common_steps, keeps b, waits-map f keeps bs)

pub waits-append : (xs ys : List Buffer) → waits (xs ++ ys) ≡ waits xs + waits ys
waits-append [] ys = grind (arith)
waits-append (b ∷ bs) ys = grind (arith, common_steps, waits-append bs ys)

pub waits-filter : (p : Buffer → Bool) (held : List Buffer) → waits (filter p held) ≤ waits held
waits-filter p [] = omega (arith)
waits-filter p (b ∷ bs) = grind (arith, common_steps, waits-filter p bs)

-- Two parts.
waits-parts : (page : ℕ) (held : List Buffer) → waits (without page held) + waits (filter (is_of page) held) ≡ waits held
waits-parts page [] = refl
waits-parts page (b ∷ bs) = grind (arith, common_steps, waits-parts page bs)

pub waits-touched : (page : ℕ) (held : List Buffer) → waits (touched page held) ≡ waits held
waits-touched page held = waits-append (without page held) (filter (is_of page) held) ∙ waits-parts page held

-- None after a grant.
pub waits-granted : (held : List Buffer) → waits (map granted_wait held) ≡ 0
waits-granted [] = refl
waits-granted (b ∷ bs) = waits-granted bs

-- None where none is found.
pub waits-none : (held : List Buffer) → list_any is_waiting held ≡ false → waits held ≡ 0
waits-none [] none = refl
waits-none (b ∷ bs) none = grind (arith, common_steps, none, waits-none bs)
