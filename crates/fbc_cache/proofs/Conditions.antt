-- When fewer pages are pinned than there are buffers.
use Rattle.std.proofs.Common.{◌≡◌, ◌≤◌, ◌<◌, ◌↔◌, IsTrue, ℕ, Bool, true, false, ◌==◌, List, length, Option, Some, None, is_some, refl, arith}
use Rattle.std.proofs.lemmas.Bool.Decides.{nat_tests}
use Rattle.std.specs.List.{filter}
use Rattle.fbc_buffers.specs.declared.buffers.Buffer.{Buffer}
use Rattle.fbc_buffers.specs.Holding.{is_pinned, victim_of}
use Rattle.fbc_buffers.proofs.Victim.{victim-some}
use Rattle.fbc_cache.proofs.Victims.{pinned-few, victim-loose}

-- Fewer pages are pinned than there are buffers where one of them is free.
pub loose-free : (held : List Buffer) (room : ℕ) → length held ≤ room → (length held ≡ room → ⊥) → length (filter is_pinned held) < room
loose-free held room few not_full = go (length held == room) refl where
  go : (t : Bool) → (length held == room) ≡ t → length (filter is_pinned held) < room
  go true same = absurd (not_full (grind (arith, nat_tests, same)))
  go false differ = grind (arith, nat_tests, differ, few, pinned-few held)

-- Where none is free, exactly where a page gives way.
pub loose-full : (held : List Buffer) (room : ℕ) → length held ≡ room → (victim : Option ℕ) → victim_of held ≡ victim → IsTrue (is_some victim) ↔ (length (filter is_pinned held) < room)
loose-full held room full None none = (λ no. absurd (cc), λ fewer. absurd (victim-some held (omega (arith, fewer, full)) none))
loose-full held room full (Some page) some = (λ _. omega (arith, victim-loose held page some, full), λ _. refl)
