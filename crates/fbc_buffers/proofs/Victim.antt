-- Which buffer gives way.
use Rattle.std.proofs.Common.{◌≡◌, ℕ, ◌<◌, Bool, true, false, cond, List, [], ◌∷◌, length, Option, Some, None, refl, arith}
use Rattle.std.proofs.lemmas.Bool.Decides.{nat_tests}
use Rattle.std.proofs.lemmas.Grind.{common_steps}
use Rattle.std.proofs.lemmas.List.Elements.{All-nil, All-cons, All-head, All-tail}
use Rattle.std.specs.List.{All, filter, find}
use Rattle.std.specs.Option.{option_map}
use Rattle.fbc_buffers.specs.declared.buffers.Buffer.{Buffer}
use Rattle.fbc_buffers.specs.Holding.{AreApart, GivesWay, buffer_of, is_loose, is_pinned, victim_of}

-- A buffer is the first of its page, also where others stand before it.
here : (c : Buffer) (bs : List Buffer) (b : Buffer) → c ≡ b → buffer_of (c ∷ bs) b.page ≡ Some b
here c bs b same = grind (arith, nat_tests, same)

past : (c : Buffer) (bs : List Buffer) (b : Buffer) → buffer_of bs c.page ≡ None → buffer_of bs b.page ≡ Some b → buffer_of (c ∷ bs) b.page ≡ Some b
past c bs b none found = grind (arith, nat_tests, none, found)

-- One that passes a test is the buffer of its page.
pub buffer_of-found : (p : Buffer → Bool) (held : List Buffer) (b : Buffer) → AreApart held → find p held ≡ Some b → (buffer_of held b.page ≡ Some b) × (p b ≡ true)
buffer_of-found p [] b apart is = absurd (cc)
buffer_of-found p (c ∷ bs) b apart is = go (p c) refl is (λ is'. buffer_of-found p bs b apart.1 is') where
  go : (t : Bool) → p c ≡ t → cond t (Some c) (find p bs) ≡ Some b → (find p bs ≡ Some b → (buffer_of bs b.page ≡ Some b) × (p b ≡ true)) → (buffer_of (c ∷ bs) b.page ≡ Some b) × (p b ≡ true)
  go true passes is rest = let same : c ≡ b = cc in (here c bs b same, rw (← same) passes)
  go false fails is rest = (past c bs b apart.0 (rest is).0, (rest is).1)

-- The victim is the page of a buffer that is not pinned.
pub victim-gives_way : (held : List Buffer) (page : ℕ) → AreApart held → victim_of held ≡ Some page → GivesWay (buffer_of held page)
victim-gives_way held page apart is = go (find is_loose held) refl is where
  go : (found : Option Buffer) → find is_loose held ≡ found → option_map (λ (b : Buffer). b.page) found ≡ Some page → GivesWay (buffer_of held page)
  go None none is = absurd (cc)
  go (Some b) found is = grind (arith, is, buffer_of-found is_loose held b apart found)

-- There is none exactly where all are pinned.
pub victim-none : (held : List Buffer) → victim_of held ≡ None → All (λ b. b.is_pinned ≡ true) held
victim-none [] none = All-nil (λ b. b.is_pinned ≡ true)
victim-none (b ∷ bs) none = All-cons (λ b. b.is_pinned ≡ true) b bs (grind (arith, none)) (victim-none bs (grind (arith, none)))

pub pinned-no_victim : (held : List Buffer) → All (λ b. b.is_pinned ≡ true) held → victim_of held ≡ None
pinned-no_victim [] all = refl
pinned-no_victim (b ∷ bs) all = grind (arith, All-head (λ b. b.is_pinned ≡ true) b bs all, pinned-no_victim bs (All-tail (λ b. b.is_pinned ≡ true) b bs all))

-- Where fewer are pinned than there are, one gives way.
pub victim-some : (held : List Buffer) → length (filter is_pinned held) < length held → victim_of held ≡ None → ⊥
victim-some [] fewer none = absurd (omega (arith, fewer))
victim-some (b ∷ bs) fewer none = grind (arith, common_steps, fewer, none, victim-some bs)
