-- How what a call comes to is told by the copies at hand.
use Rattle.std.proofs.Common.{◌≡◌, ◌/◌, ◌%◌, ◌<◌, ◌≤◌, ◌+◌, ◌∙◌, ◌⊎◌, inl, inr, ℕ, Some, sym, ap, subst, unwrap_or, arith}
use Rattle.fbc_kinds.specs.Limits.{slots}
use Rattle.fbc_kinds.specs.View.{slot_in}
use Rattle.fbc_chains.specs.Pages.{StandsAt}
use Rattle.fbc_chains.specs.Showing.{Showing}
use Rattle.fbc_chains.specs.Slots.{named_at}
use Rattle.fbc_rows.specs.Needs.{pointer_at, pointer_place}
use Rattle.fbc_rows.specs.declared.gathering.Empty.{Empty}
use Rattle.fbc_rows.specs.declared.gathering.Empty.TheVariants as empty
use Rattle.fbc_rows.specs.declared.parts.InsertPart.{InsertPart}
use Rattle.fbc_rows.specs.declared.parts.Stage.{Stage}
use Rattle.fbc_rows.specs.declared.searching.Stop.{Stop}
use Rattle.fbc_rows.specs.declared.searching.Stop.TheVariants as stop
use Rattle.fbc_rows.specs.Gathering.{AreFull, FindsEmpty, IsFull, LooksForEmpty}
use Rattle.fbc_rows.specs.Searching.{ArePassed, IsPassed, LooksOver, SearchStops, sequences}
use Rattle.fbc_rows.specs.Slots.{Names, data_at}

-- The slot names what its pointer page shows after it was looked at.
pub slot-named : (s t : Showing) (relation sequence count named : ℕ) → t ≡ s → count ≡ slots s.shape.size
    → StandsAt s (pointer_at s relation (sequence / count)) (pointer_place relation (sequence / count))
    → named ≡ named_at t (data_at relation sequence) → Names s relation sequence named
slot-named s t relation sequence count named same is_count stands is_named = (
  subst (λ (n : ℕ). StandsAt s (pointer_at s relation (sequence / n)) (pointer_place relation (sequence / n))) is_count stands,
  subst (λ (u : Showing). named ≡ named_at u (data_at relation sequence)) same is_named,
)

-- What the slot names, by the number of slots and the pointer page.
pub slot-shown : (s : Showing) (relation sequence pointer count named : ℕ) → count ≡ slots s.shape.size
    → pointer ≡ pointer_at s relation (sequence / count)
    → named ≡ unwrap_or (slot_in (s.copies pointer) (sequence % count)) 0
    → named ≡ named_at s (data_at relation sequence)
slot-shown s relation sequence pointer count named is_count is_pointer is_named =
    subst (λ (n : ℕ). named ≡ unwrap_or (slot_in (s.copies (pointer_at s relation (sequence / n))) (sequence % n)) 0) is_count
    (subst (λ (p : ℕ). named ≡ unwrap_or (slot_in (s.copies p) (sequence % count)) 0) is_pointer is_named)

-- One sequence more is passed over.
pub one-more : (s : Showing) (relation from to : ℕ) → ArePassed s relation from to → IsPassed s relation to → ArePassed s relation from (to + 1)
one-more s relation from to passed last sequence above below = go (split sequence to below) where
  split : (a b : ℕ) → a < b + 1 → (a < b) ⊎ (a ≡ b)
  split a b is = grind (arith, is)

  go : (sequence < to) ⊎ (sequence ≡ to) → IsPassed s relation sequence
  go (inl before) = passed sequence above before
  go (inr is) = subst (λ (n : ℕ). IsPassed s relation n) (sym is) last

-- No sequence is passed over at first.
pub none-yet : (s : Showing) (relation from : ℕ) → ArePassed s relation from from
none-yet s relation from sequence above below = absurd (omega (arith, above, below))

-- What stops the search at a sequence stops it there.
pub stops-there : (s : Showing) (relation at : ℕ) (stopped : Stop) → LooksOver s relation at (Some stopped) → SearchStops s relation at (Some stopped)
stops-there s relation at (stop.Room page cell) is = is
stops-there s relation at (stop.Miss need) is = is
stops-there s relation at stop.Gone is = is
stops-there s relation at (stop.Damaged page broken) is = is

-- Where the search is past all sequences, all are passed over.
pub all-passed : (s : Showing) (relation from at : ℕ) → ArePassed s relation from at → sequences s relation ≤ at → ArePassed s relation from (sequences s relation)
all-passed s relation from at passed past sequence above below = passed sequence above (omega (arith, below, past))

-- No pointer page is full at first; one more is.
pub none-full : (s : Showing) (relation from : ℕ) → AreFull s relation from from
none-full s relation from pointer above below = absurd (omega (arith, above, below))

pub full-more : (s : Showing) (relation from to : ℕ) → AreFull s relation from to → IsFull s relation to → AreFull s relation from (to + 1)
full-more s relation from to full last pointer above below = go (split pointer to below) where
  split : (a b : ℕ) → a < b + 1 → (a < b) ⊎ (a ≡ b)
  split a b is = grind (arith, is)

  go : (pointer < to) ⊎ (pointer ≡ to) → IsFull s relation pointer
  go (inl before) = full pointer above before
  go (inr is) = subst (λ (n : ℕ). IsFull s relation n) (sym is) last

-- An empty slot is found where it is looked for.
pub finds-there : (s : Showing) (relation pointer : ℕ) (found : Empty) → LooksForEmpty s relation pointer (Some found) → FindsEmpty s relation pointer (Some found)
finds-there s relation pointer (empty.At sequence) is = is
finds-there s relation pointer (empty.Miss need) is = is
finds-there s relation pointer (empty.Damaged page broken) is = is

-- What a call leaves of a part, after another one.
pub rests : (from between to : InsertPart) (at : ℕ) (stood : Stage) → between ≡ record from { at = between.at; stage = between.stage } → to ≡ record between { stage = to.stage }
    → record to { at = at; stage = stood } ≡ record from { at = at; stage = stood }
rests from between to at stood first second =
    ap (λ (p : InsertPart). record p { at = at; stage = stood }) (second ∙ ap (λ (p : InsertPart). record p { stage = to.stage }) first)
