-- The buffers of pages that are waited for.
use Rattle.std.proofs.Common.{◌≡◌, ℕ, ◌+◌, ◌≤◌, Bool, true, false, not, ◌==◌, cond, List, [], ◌∷◌, length, Option, Some, None, is_some, refl, arith}
use Rattle.std.proofs.lemmas.Bool.Decides.{nat_tests}
use Rattle.std.proofs.lemmas.Grind.{common_steps}
use Rattle.std.specs.List.{filter}
use Rattle.std.specs.Option.{option_map_or}
use Rattle.fbc_kinds.specs.declared.pages.Page.{Page}
use Rattle.fbc_kinds.specs.declared.shapes.Shape.{Shape}
use Rattle.fbc_levels.specs.declared.levels.Level.{Level}
use Rattle.fbc_levels.specs.declared.levels.Level.TheVariants.{Free}
use Rattle.fbc_buffers.specs.declared.buffers.Buffer.{Buffer}
use Rattle.fbc_buffers.specs.Holding.{buffer_of, is_waiting}
use Rattle.fbc_cache.specs.Cache.{HasCopy, HasLevel, IsBuffer}

-- Whether there is a buffer that waits.
abbrev pub is_awaited : Option Buffer → Bool
is_awaited found = option_map_or is_waiting found false

-- One buffer waits at most.
pub some-waits : (held : List Buffer) (page : ℕ) → is_awaited (buffer_of held page) ≡ true → 1 ≤ length (filter is_waiting held)
some-waits [] page waits = absurd (cc)
some-waits (b ∷ bs) page waits = go (b.page == page) waits (some-waits bs page) where
  go : (same : Bool) → is_awaited (cond same (Some b) (buffer_of bs page)) ≡ true → (is_awaited (buffer_of bs page) ≡ true → 1 ≤ length (filter is_waiting bs)) → 1 ≤ length (filter is_waiting (b ∷ bs))
  go true waits' rest = grind (arith, common_steps, waits')
  go false waits' rest = grind (arith, common_steps, rest waits')

pub one-waits : (held : List Buffer) → length (filter is_waiting held) ≤ 1 → (m n : ℕ) → is_awaited (buffer_of held m) ≡ true → is_awaited (buffer_of held n) ≡ true → m ≡ n
one-waits [] one m n first second = absurd (cc)
one-waits (b ∷ bs) one m n first second = go (b.page == m) refl first (b.page == n) refl second (one-waits bs) where
  go : (s : Bool) → b.page == m ≡ s → is_awaited (cond s (Some b) (buffer_of bs m)) ≡ true → (t : Bool) → b.page == n ≡ t → is_awaited (cond t (Some b) (buffer_of bs n)) ≡ true
      → (length (filter is_waiting bs) ≤ 1 → (m n : ℕ) → is_awaited (buffer_of bs m) ≡ true → is_awaited (buffer_of bs n) ≡ true → m ≡ n) → m ≡ n
  go true is first' true also second' rest = grind (arith, nat_tests, is, also)
  go true is first' false other second' rest = absurd (grind (arith, common_steps, one, first', some-waits bs n second'))
  go false other first' true is second' rest = absurd (grind (arith, common_steps, one, second', some-waits bs m first'))
  go false other first' false also second' rest = rest (grind (arith, common_steps, one)) m n first' second'

-- How many wait, and how many do not.
pub both-counted : (held : List Buffer) → length held ≡ length (filter is_waiting held) + length (filter (λ b. not (is_waiting b)) held)
both-counted [] = refl
both-counted (b ∷ bs) = grind (arith, common_steps, both-counted bs)

-- The first buffer stays.
pub first-left : (q : Buffer → Bool) (page : ℕ) (held : List Buffer) (b : Buffer) → buffer_of held page ≡ Some b → q b ≡ true → buffer_of (filter q held) page ≡ Some b
first-left q page [] b found stays = absurd (cc)
first-left q page (x ∷ xs) b found stays = go (x.page == page) refl found (first-left q page xs b) where
  go : (here : Bool) → x.page == page ≡ here → cond here (Some x) (buffer_of xs page) ≡ Some b → (buffer_of xs page ≡ Some b → q b ≡ true → buffer_of (filter q xs) page ≡ Some b) → buffer_of (filter q (x ∷ xs)) page ≡ Some b
  go true is found' rest =
      let same : x ≡ b = cc in
      let left : q x ≡ true = rw same stays in
      rw (left, is) found'
  go false is found' rest = step (q x) (rest found' stays) where
    step : (kept : Bool) → buffer_of (filter q xs) page ≡ Some b → buffer_of (cond kept (x ∷ filter q xs) (filter q xs)) page ≡ Some b
    step true left = rw is left
    step false left = left

-- Such a buffer has no level yet and no copy, and is neither dirty nor pinned.
pub bare-level : (level : Level) (wanted : Option Level) → HasLevel level wanted → is_some wanted ≡ true → level ≡ Free
bare-level level None has waits = absurd (cc)
bare-level level (Some wanted) has waits = has.0

bare-copy : (shape : Shape) (wanted : Option Level) (copy : Option Page) → HasCopy shape wanted copy → is_some wanted ≡ true → copy ≡ None
bare-copy shape wanted None has waits = refl
bare-copy shape wanted (Some content) has waits = absurd (let no : false ≡ true = rw has.0 at waits in cc)

module _ (shape : Shape) (b : Buffer) (is : IsBuffer shape b) (waits : is_waiting b ≡ true) where
  pub bare : b.copy ≡ None
  bare = bare-copy shape b.wanted b.copy is.copy waits

  pub clean : b.is_dirty ≡ false
  clean = go b.is_dirty refl where
    go : (dirty : Bool) → b.is_dirty ≡ dirty → dirty ≡ false
    go true dirty = absurd (let no : false ≡ true = rw bare at (is.dirty dirty).1 in cc)
    go false dirty = refl

  pub loose : b.is_pinned ≡ false
  loose = go b.is_pinned refl where
    go : (pinned : Bool) → b.is_pinned ≡ pinned → pinned ≡ false
    go true pinned = absurd (let no : false ≡ true = rw (is.pinned pinned) at waits in cc)
    go false pinned = refl
