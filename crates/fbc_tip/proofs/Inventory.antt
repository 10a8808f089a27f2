-- The states of the pages, one page after the other.
use Rattle.std.proofs.Common.{◌≡◌, ◌∙◌, ◌<◌, ◌≤◌, ◌+◌, ◌-◌, ◌*◌, ◌/◌, ◌%◌, ◌&&◌, ℕ, zero, suc, Bool, true, false, List, [], ◌∷◌, ◌++◌, length, Option, Some, None, IfSome, is_none, nat_lt, unwrap_or, slice_get, ap, refl, sym, subst, arith}
use Rattle.std.proofs.lemmas.Bool.Decides.{nat_tests}
use Rattle.std.proofs.lemmas.List.{length-append}
use Rattle.std.proofs.lemmas.Nat.{div-mul-add, mod-mul-add}
use Rattle.std.specs.Option.{option_and_then}
use Rattle.fbc_kinds.specs.declared.pages.Page.{Page}
use Rattle.fbc_kinds.specs.declared.pages.Page.TheVariants as kind
use Rattle.fbc_kinds.specs.declared.pages.State.{State}
use Rattle.fbc_kinds.specs.declared.pages.State.TheVariants as state
use Rattle.fbc_kinds.specs.declared.shapes.Shape.{Shape}
use Rattle.fbc_kinds.specs.Limits.{tip_numbers}
use Rattle.fbc_kinds.specs.View.{state_in}
use Rattle.fbc_levels.specs.declared.levels.Level.{Level}
use Rattle.fbc_buffers.specs.declared.buffers.Buffer.{Buffer}
use Rattle.fbc_buffers.specs.Holding.{buffer_of}
use Rattle.fbc_cache.specs.Cache.{CacheState, HasCopy, IsBuffer, IsCache, copy_in, is_pinned_in}
use Rattle.fbc_cache.specs.Readers.{number_at, place, place_in, state_shown, states_in}
use Rattle.fbc_cache.proofs.Headers.{is_buffer-found}
use Rattle.fbc_desk.specs.Desk.{DeskState}
use Rattle.fbc_desk.specs.Roles.{misplaced}
use Rattle.fbc_desk.specs.Calls.{GoesOn, after_pin, stays}
use Rattle.fbc_desk.specs.Holds.{HoldsAs, after_hold}
use Rattle.fbc_desk.specs.declared.holding.Held.{Held}
use Rattle.fbc_desk.specs.declared.holding.Held.TheVariants as held
use Rattle.fbc_desk.proofs.Goes.{goes_on}
use Rattle.fbc_kinds.specs.declared.rules.Rule.{Rule}
use Rattle.fbc_tip.specs.Inventories.{AreHeld, AreKept, AreStatesOf, EndsHolding, HoldsInTurn, HoldsOn, HoldsTip, TipsCome, is_held_tip, next, none, reading, tip_at}
use Rattle.fbc_tip.specs.Using.{OnlyUses}
use Rattle.fbc_tip.proofs.Uses.{as_damaged, held-pinned, pins_stay, same_copies, same_tips, uses-hold, uses-none, uses-pin, uses-then}

-- The states of the pages before this one, of so many numbers each.
pub record AreStatesTo (d : DeskState) (sequence numbers : ℕ) (states : List State) : Type 0 where
  pub count : length states ≡ sequence * numbers
  pub shown : (number : ℕ) → number < length states → slice_get states number ≡ Some (state_shown d.cache (tip_at d (number / numbers)) number)

-- An item of two lists.
at_first : {X : Type 0} (xs ys : List X) (n : ℕ) → n < length xs → slice_get (xs ++ ys) n ≡ slice_get xs n
at_first [] ys n less = absurd (omega (arith, less))
at_first (x ∷ xs) ys zero less = refl
at_first (x ∷ xs) ys (suc n) less = at_first xs ys n (omega (arith, less))

at_second : {X : Type 0} (xs ys : List X) (n : ℕ) → slice_get (xs ++ ys) (length xs + n) ≡ slice_get ys n
at_second [] ys n = let is : 0 + n ≡ n = omega arith in ap (slice_get ys) is
at_second (x ∷ xs) ys n = let is : length (x ∷ xs) + n ≡ suc (length xs + n) = omega arith in rw is (at_second xs ys n)

-- A page in its place has as many states as numbers stand on it.
count-copy : (shape : Shape) (wanted : Option Level) (copy : Option Page) (sequence : ℕ) → HasCopy shape wanted copy → is_none (misplaced (place_in copy) (place 3 0 sequence)) ≡ true → length (states_in copy) ≡ tip_numbers shape.size
count-copy shape wanted None sequence has placed = absurd (cc)
count-copy shape wanted (Some (kind.Header h)) sequence has placed = absurd (cc)
count-copy shape wanted (Some (kind.Inventory i)) sequence has placed = absurd (cc)
count-copy shape wanted (Some (kind.Tip t)) sequence has placed = has.1.count
count-copy shape wanted (Some (kind.Pointer p)) sequence has placed = absurd (cc)
count-copy shape wanted (Some (kind.Data d)) sequence has placed = absurd (cc)
count-copy shape wanted (Some kind.Blank) sequence has placed = absurd (cc)

count-found : (c : CacheState) (page sequence : ℕ) → IsCache c → is_none (misplaced (place_in (copy_in c.held page)) (place 3 0 sequence)) ≡ true → length (states_in (copy_in c.held page)) ≡ tip_numbers c.shape.size
count-found c page sequence is placed = go (buffer_of c.held page) (is_buffer-found c.shape c.held page is.buffers) placed where
  go : (found : Option Buffer) → IfSome found (IsBuffer c.shape) → is_none (misplaced (place_in (option_and_then (λ (b : Buffer). b.copy) found)) (place 3 0 sequence)) ≡ true → length (states_in (option_and_then (λ (b : Buffer). b.copy) found)) ≡ tip_numbers c.shape.size
  go None known placed' = absurd (cc)
  go (Some b) known placed' = count-copy c.shape b.wanted b.copy sequence known.copy placed'

both : (s t : Bool) → (s && t) ≡ true → (s ≡ true) × (t ≡ true)
both s t is = grind (arith, is)

pub count-held : (d : DeskState) (sequence : ℕ) → IsCache d.cache → is_held_tip d sequence ≡ true → length (states_in (copy_in d.cache.held (tip_at d sequence))) ≡ tip_numbers d.cache.shape.size
count-held d sequence is held = count-found d.cache (tip_at d sequence) sequence is (both _ _ held).1

-- A number's state by the list of all states of its page.
state-listed : (copy : Option Page) (at : ℕ) → state_in copy at ≡ slice_get (states_in copy) at
state-listed None at = refl
state-listed (Some (kind.Header h)) at = refl
state-listed (Some (kind.Inventory i)) at = refl
state-listed (Some (kind.Tip t)) at = refl
state-listed (Some (kind.Pointer p)) at = refl
state-listed (Some (kind.Data d)) at = refl
state-listed (Some kind.Blank) at = refl

within-some : {X : Type 0} (xs : List X) (n : ℕ) (x : X) → n < length xs → slice_get xs n ≡ Some (unwrap_or (slice_get xs n) x)
within-some [] n x less = absurd (omega (arith, less))
within-some (y ∷ xs) zero x less = refl
within-some (y ∷ xs) (suc n) x less = within-some xs n x (omega (arith, less))

-- What the page of a sequence shows.
abbrev pub states_at : DeskState → ℕ → List State
states_at d sequence = states_in (copy_in d.cache.held (tip_at d sequence))

-- One page more.
module _ (d : DeskState) (sequence numbers : ℕ) (states : List State) (same : numbers ≡ tip_numbers d.cache.shape.size) (before : AreStatesTo d sequence numbers states)
    (count : length (states_at d sequence) ≡ numbers) where
  shown_there : (rest : ℕ) → rest < numbers → slice_get (states ++ states_at d sequence) (sequence * numbers + rest) ≡ Some (state_shown d.cache (tip_at d ((sequence * numbers + rest) / numbers)) (sequence * numbers + rest))
  shown_there rest less =
      let at : sequence * numbers + rest ≡ length states + rest = omega (arith, before.count) in
      let place : (sequence * numbers + rest) % tip_numbers d.cache.shape.size ≡ rest = ap (λ n. (sequence * numbers + rest) % n) (sym same) ∙ mod-mul-add sequence numbers rest less in
      let page : (sequence * numbers + rest) / numbers ≡ sequence = div-mul-add sequence numbers rest less in
      let here : slice_get (states ++ states_at d sequence) (length states + rest) ≡ Some (unwrap_or (slice_get (states_at d sequence) rest) state.Active) =
      at_second states (states_at d sequence) rest ∙ within-some (states_at d sequence) rest state.Active (rw count less) in
      let shows : state_shown d.cache (tip_at d sequence) (sequence * numbers + rest) ≡ unwrap_or (slice_get (states_at d sequence) rest) state.Active =
      ap (λ n. unwrap_or (state_in (copy_in d.cache.held (tip_at d sequence)) n) state.Active) place ∙ ap (λ s. unwrap_or s state.Active) (state-listed (copy_in d.cache.held (tip_at d sequence)) rest) in
      ap (slice_get (states ++ states_at d sequence)) at ∙ here ∙ ap Some (sym shows ∙ ap (λ k. state_shown d.cache (tip_at d k) (sequence * numbers + rest)) (sym page))

  longer : length (states ++ states_at d sequence) ≡ sequence * numbers + numbers
  longer = length-append states (states_at d sequence) ∙ omega (arith, before.count, count)

  pub one_page_more : AreStatesTo d (sequence + 1) numbers (states ++ states_at d sequence)
  one_page_more = record { count = longer ∙ grind (arith); shown = shown_all } where
    shown_all : (number : ℕ) → number < length (states ++ states_at d sequence) → slice_get (states ++ states_at d sequence) number ≡ Some (state_shown d.cache (tip_at d (number / numbers)) number)
    shown_all number less = go (nat_lt number (length states)) refl where
      go : (t : Bool) → nat_lt number (length states) ≡ t → slice_get (states ++ states_at d sequence) number ≡ Some (state_shown d.cache (tip_at d (number / numbers)) number)
      go true first = let within : number < length states = grind (arith, nat_tests, first) in at_first states (states_at d sequence) number within ∙ before.shown number within
      go false second =
          let past : length states ≤ number = grind (arith, nat_tests, second) in
          let rest : number - length states < numbers = omega (arith, less, longer, before.count, past) in
          let is : sequence * numbers + (number - length states) ≡ number = omega (arith, before.count, past) in
          subst (λ n. slice_get (states ++ states_at d sequence) n ≡ Some (state_shown d.cache (tip_at d (n / numbers)) n)) is (shown_there (number - length states) rest)

pub no_page : (d : DeskState) (numbers : ℕ) → AreStatesTo d 0 numbers []
no_page d numbers = record { count = grind (arith); shown = λ number less. absurd (omega (arith, less)) }

pub all_pages : (d : DeskState) (sequence numbers : ℕ) (states : List State) → numbers ≡ tip_numbers d.cache.shape.size → sequence ≡ length d.tips → AreStatesTo d sequence numbers states → AreStatesOf d states
all_pages d sequence numbers states same all so_far = record {
  count = so_far.count ∙ ap (λ n. n * numbers) all ∙ ap (λ n. length d.tips * n) same;
  shown = λ number less. so_far.shown number less ∙ ap (λ n. Some (state_shown d.cache (tip_at d (number / n)) number)) same;
}

-- A page that is held.
join : (s t : Bool) → s ≡ true → t ≡ true → (s && t) ≡ true
join s t first second = grind (arith, first, second)

held-at : (b : DeskState) (sequence page : ℕ) → tip_at b sequence ≡ page → is_pinned_in b.cache.held page ≡ true → is_none (misplaced (place_in (copy_in b.cache.held page)) (place 3 0 sequence)) ≡ true → is_held_tip b sequence ≡ true
held-at b sequence page at pinned placed =
    subst (λ p. (is_pinned_in b.cache.held p && is_none (misplaced (place_in (copy_in b.cache.held p)) (place 3 0 sequence))) ≡ true) (sym at) (join _ _ pinned placed)

module _ (a b : DeskState) (uses : OnlyUses a b) where
  same_tip : (sequence : ℕ) → tip_at b sequence ≡ tip_at a sequence
  same_tip sequence = ap (λ (tips : List ℕ). number_at tips sequence) (same_tips a b uses)

  held-stays : (sequence : ℕ) → is_held_tip a sequence ≡ true → is_held_tip b sequence ≡ true
  held-stays sequence held =
      let known = both _ _ held in
      held-at b sequence (tip_at a sequence) (same_tip sequence) (pins_stay a b uses (tip_at a sequence) known.0)
      (ap (λ (copy : Option Page). is_none (misplaced (place_in copy) (place 3 0 sequence))) (same_copies a b uses (tip_at a sequence)) ∙ known.1)

  pub all-stay : (count : ℕ) → AreHeld a count → AreHeld b count
  all-stay count all = λ sequence less. held-stays sequence (all sequence less)

  pub tip-damaged : (sequence page : ℕ) (broken : Rule) → HoldsTip a sequence (held.Damaged page broken) → HoldsTip b sequence (held.Damaged page broken)
  tip-damaged sequence page broken holds =
      subst (λ p. HoldsAs b (reading p) (place 3 0 sequence) (held.Damaged page broken)) (sym (same_tip sequence)) (as_damaged a b uses (reading (tip_at a sequence)) (place 3 0 sequence) page broken holds)

held-here : (d : DeskState) (sequence : ℕ) → HoldsTip d sequence held.Here → is_held_tip (after_pin d (tip_at d sequence)) sequence ≡ true
held-here d sequence holds =
    held-at (after_pin d (tip_at d sequence)) sequence (tip_at d sequence) (same_tip d (after_pin d (tip_at d sequence)) (uses-pin d (tip_at d sequence)) sequence)
    (held-pinned d (reading (tip_at d sequence)) holds.0.1)
    (ap (λ (copy : Option Page). is_none (misplaced (place_in copy) (place 3 0 sequence))) (same_copies d (after_pin d (tip_at d sequence)) (uses-pin d (tip_at d sequence)) (tip_at d sequence)) ∙ ap is_none holds.1)

-- So many are held, those from the first on in turn, and no more was done.
pub record HasHeld (before : DeskState) (first : ℕ) (d : DeskState) (count sequence : ℕ) : Type 0 where
  pub all : AreHeld d sequence
  pub same : count ≡ sequence
  pub turns : HoldsInTurn before first d sequence
  pub uses : OnlyUses before d
  pub goes : GoesOn before d

pub none-more : (d : DeskState) (sequence : ℕ) → AreHeld d sequence → HasHeld d sequence d sequence sequence
none-more d sequence all = record { all = all; same = refl; turns = none d sequence; uses = uses-none d; goes = stays d }

module _ (before : DeskState) (first : ℕ) (d after : DeskState) (count sequence : ℕ) (has : HasHeld before first d count sequence) (goes : GoesOn d after) where
  pub one-more : HoldsTip d sequence held.Here → after ≡ after_hold d (reading (tip_at d sequence)) held.Here → HasHeld before first after (sequence + 1) (sequence + 1)
  one-more holds is = record {
    all = all;
    same = refl;
    turns = next before d after first sequence (sequence + 1) has.turns holds is refl;
    uses = uses-then before d after has.uses uses;
    goes = goes_on before d after has.goes goes;
  } where
    uses : OnlyUses d after
    uses = subst (OnlyUses d) (sym is) (uses-pin d (tip_at d sequence))

    all : AreHeld after (sequence + 1)
    all other less = go (nat_lt other sequence) refl where
      go : (t : Bool) → nat_lt other sequence ≡ t → is_held_tip after other ≡ true
      go true within = let below : other < sequence = grind (arith, nat_tests, within) in held-stays d after uses other (has.all other below)
      go false past =
          let same : sequence ≡ other = grind (arith, nat_tests, past, less) in
          subst (λ n. is_held_tip after n ≡ true) same (subst (λ (x : DeskState). is_held_tip x sequence ≡ true) (sym is) (held-here d sequence holds))

  -- One that is damaged is the last.
  module _ (page : ℕ) (broken : Rule) (is : after ≡ after_hold d (reading (tip_at d sequence)) (held.Damaged page broken)) where
    damaged-use : OnlyUses d after
    damaged-use = subst (OnlyUses d) (sym is) (uses-hold d (reading (tip_at d sequence)) (held.Damaged page broken))

    pub damaged-held : AreHeld after count
    damaged-held = subst (AreHeld after) (sym has.same) (all-stay d after damaged-use sequence has.all)

    pub damaged-uses : OnlyUses before after
    damaged-uses = uses-then before d after has.uses damaged-use

    pub damaged-goes : GoesOn before after
    damaged-goes = goes_on before d after has.goes goes

    pub damaged-comes : sequence < length d.tips → HoldsTip d sequence (held.Damaged page broken) → TipsCome after count (held.Damaged page broken)
    damaged-comes less holds =
        subst (λ k. TipsCome after k (held.Damaged page broken)) (sym has.same) (rw (same_tips d after damaged-use) less, tip-damaged d after damaged-use sequence page broken holds)

-- What was held altogether.
pub held-on : (before : DeskState) (old first : ℕ) (d after : DeskState) (count sequence : ℕ) (answer : Held) → AreKept before old first → HasHeld before first d count sequence → EndsHolding d sequence after answer → HoldsOn before old after count answer
held-on before old first d after count sequence answer kept has ends =
    subst (λ k. HoldsOn before old after k answer) (sym has.same) (record { kept = first; are_kept = kept; between = d; turns = has.turns; ends = ends })
