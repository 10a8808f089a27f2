-- A change at the place of a page's buffer is the change of the buffer of that page.
use Rattle.std.proofs.Common.{◌≡◌, ℕ, zero, suc, ◌+◌, ◌<◌, true, List, [], ◌∷◌, ◌++◌, map, length, get_or, set, Some, None, refl, sym, ◌∙◌, arith}
use Rattle.std.proofs.lemmas.Bool.Decides.{nat_tests}
use Rattle.std.proofs.lemmas.Grind.{common_steps}
use Rattle.std.proofs.lemmas.Iterator.Adapters.{position_from-zero}
use Rattle.std.proofs.lemmas.List.Quantifiers.{position-Some}
use Rattle.std.specs.List.{filter, position_from, remove}
use Rattle.fbc_buffers.specs.declared.buffers.Buffer.{Buffer}
use Rattle.fbc_buffers.specs.declared.changes.Change.{Change}
use Rattle.fbc_buffers.specs.Holding.{AreApart, KeepsPage, buffer_of, changed, is_of, touched, with_change, without}

-- The place holds a buffer of the page.
place-page : (page : ℕ) (held : List Buffer) (at : ℕ) (d : Buffer) → position_from (is_of page) 0 held ≡ Some at → is_of page (get_or held at d) ≡ true
place-page page held at d is = (position-Some (is_of page) held at d (position_from-zero (is_of page) held ∙ is)).1

-- No place, no buffer.
place-none : (page i : ℕ) (held : List Buffer) → position_from (is_of page) i held ≡ None → buffer_of held page ≡ None
place-none page i [] none = refl
place-none page i (b ∷ bs) none = grind (arith, none, place-none page (i + 1) bs)

-- A place of the page, a buffer of it.
place-found : (page : ℕ) (held : List Buffer) (at : ℕ) (d : Buffer) → at < length held → is_of page (get_or held at d) ≡ true → buffer_of held page ≡ None → ⊥
place-found page [] at d within is none = absurd (omega (arith, within))
place-found page (b ∷ bs) zero d within is none = grind (arith, is, none)
place-found page (b ∷ bs) (suc at) d within is none = grind (arith, is, none, place-found page bs at d)

-- Without a buffer of the page nothing changes.
unchanged : (page : ℕ) (c : Change) (held : List Buffer) → buffer_of held page ≡ None → map (with_change page c) held ≡ held
unchanged page c [] none = refl
unchanged page c (b ∷ bs) none = grind (arith, nat_tests, none, unchanged page c bs)

pub untouched : (page : ℕ) (held : List Buffer) → buffer_of held page ≡ None → (without page held ≡ held) × (filter (is_of page) held ≡ [])
untouched page [] none = (refl, refl)
untouched page (b ∷ bs) none = grind (arith, nat_tests, none, untouched page bs)

-- With one, it changes at its place.
changed-here : (page : ℕ) (c : Change) (held : List Buffer) (at : ℕ) (d : Buffer) → AreApart held → at < length held → is_of page (get_or held at d) ≡ true → set held at (changed c (get_or held at d)) ≡ map (with_change page c) held
changed-here page c [] at d apart within is = absurd (omega (arith, within))
changed-here page c (b ∷ bs) zero d apart within is = grind (arith, nat_tests, is, apart.0, unchanged page c bs)
changed-here page c (b ∷ bs) (suc at) d apart within is = grind (arith, nat_tests, is, within, apart.0, place-found page bs at d, changed-here page c bs at d apart.1)

touched-here : (page : ℕ) (held : List Buffer) (at : ℕ) (d : Buffer) → AreApart held → at < length held → is_of page (get_or held at d) ≡ true → (remove held at ≡ without page held) × (filter (is_of page) held ≡ get_or held at d ∷ [])
touched-here page [] at d apart within is = absurd (omega (arith, within))
touched-here page (b ∷ bs) zero d apart within is = grind (arith, nat_tests, common_steps, is, apart.0, untouched page bs)
touched-here page (b ∷ bs) (suc at) d apart within is = grind (arith, nat_tests, common_steps, is, within, apart.0, place-found page bs at d, touched-here page bs at d apart.1)

-- The same at the place that a search gives.
pub changed-at : (page : ℕ) (c : Change) (held : List Buffer) (at : ℕ) (d : Buffer) → AreApart held → at < length held → position_from (is_of page) 0 held ≡ Some at → set held at (changed c (get_or held at d)) ≡ map (with_change page c) held
changed-at page c held at d apart within is = changed-here page c held at d apart within (place-page page held at d is)

pub changed-none : (page : ℕ) (c : Change) (held : List Buffer) → position_from (is_of page) 0 held ≡ None → held ≡ map (with_change page c) held
changed-none page c held none = sym (unchanged page c held (place-none page 0 held none))

pub touched-at : (page : ℕ) (held : List Buffer) (at : ℕ) (d : Buffer) → AreApart held → at < length held → position_from (is_of page) 0 held ≡ Some at → remove held at ++ get_or held at d ∷ [] ≡ touched page held
touched-at page held at d apart within is = grind (arith, touched-here page held at d apart within (place-page page held at d is))

pub touched-none : (page : ℕ) (held : List Buffer) → position_from (is_of page) 0 held ≡ None → held ≡ touched page held
touched-none page held none = grind (arith, common_steps, untouched page held (place-none page 0 held none))

-- Each change keeps the page.
pub keeps : (page : ℕ) (c : Change) → KeepsPage (with_change page c)
keeps page c b = grind (arith)
