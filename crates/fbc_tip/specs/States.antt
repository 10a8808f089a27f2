-- What the search for a state comes to.
use Rattle.std.specs.Prelude.{◌≡◌, ◌<◌, ◌≤◌, ◌/◌, ℕ, Result, Ok, Err, length}
use Rattle.fbc_kinds.specs.declared.pages.State.{State}
use Rattle.fbc_kinds.specs.Limits.{tip_numbers}
use Rattle.fbc_cache.specs.declared.readers.Place.{Place}
use Rattle.fbc_cache.specs.Readers.{number_at, place, state_shown, tips_in}
use Rattle.fbc_desk.specs.declared.holding.Held.{Held}
use Rattle.fbc_desk.specs.declared.holding.Held.TheVariants as held
use Rattle.fbc_desk.specs.Desk.{DeskState}
use Rattle.fbc_desk.specs.Holds.{HoldsAs, after_looking}
use Rattle.fbc_tip.specs.declared.states.StatePart.{StatePart}
use Rattle.fbc_tip.specs.declared.states.StatePart.TheVariants as part
use Rattle.fbc_tip.specs.declared.states.StateStep.{StateStep}
use Rattle.fbc_tip.specs.declared.states.StateStep.TheVariants as step
use Rattle.fbc_tip.specs.Inventories.{reading}

-- The sequence of the page on which a number's state stands.
abbrev pub sequence_of : DeskState → ℕ → ℕ
sequence_of d number = number / tip_numbers d.cache.shape.size

-- The page that is looked at next, and where it is to stand.
abbrev pub page_due : StatePart → ℕ
page_due part.Header = 0
page_due (part.Tip page) = page

abbrev pub place_due : ℕ → StatePart → Place
place_due sequence part.Header = place 1 0 0
place_due sequence (part.Tip page) = place 3 0 sequence

-- What the look at it comes to.
abbrev pub LooksAt : DeskState → StatePart → ℕ → Held → Type 0
LooksAt d at number held = HoldsAs d (reading (page_due at)) (place_due (sequence_of d number) at) held

-- The header is there, and names this page for the number.
pub record NamesTip (d : DeskState) (number page : ℕ) : Type 0 where
  pub here : LooksAt d part.Header number held.Here
  pub some : sequence_of d number < length (tips_in d.cache)
  pub is : page ≡ number_at (tips_in d.cache) (sequence_of d number)

-- The header is there, and names no page for the number.
pub record NamesNone (d : DeskState) (number : ℕ) : Type 0 where
  pub here : LooksAt d part.Header number held.Here
  pub none : length (tips_in d.cache) ≤ sequence_of d number

-- The page of the number is there, and shows this state.
pub record ShowsState (d : DeskState) (number page : ℕ) (state : State) : Type 0 where
  pub here : LooksAt d (part.Tip page) number held.Here
  pub shows : state ≡ state_shown d.cache page number

-- What the search comes to, by how far it has come.
abbrev pub StateComesTo : DeskState → StatePart → ℕ → StateStep → Type 0
StateComesTo d (part.Tip page) number (step.Done state) = ShowsState d number page state
StateComesTo d part.Header number (step.Done state) = ⊥
StateComesTo d part.Header number step.Unknown = NamesNone d number
StateComesTo d (part.Tip page) number step.Unknown = ⊥
StateComesTo d at number (step.Miss need) = LooksAt d at number (held.Miss need)
StateComesTo d at number (step.Damaged page rule) = LooksAt d at number (held.Damaged page rule)

-- How far it goes: the page of the number is the one that the header names, and is kept from then on.
abbrev pub GoesFrom : DeskState → ℕ → StatePart → StatePart → Type 0
GoesFrom d number part.Header part.Header = Unit {0}
GoesFrom d number part.Header (part.Tip page) = NamesTip d number page
GoesFrom d number (part.Tip page) after = after ≡ part.Tip page

-- What the last look came to.
abbrev pub last_look : StateStep → Held
last_look (step.Done state) = held.Here
last_look step.Unknown = held.Here
last_look (step.Miss need) = held.Miss need
last_look (step.Damaged page rule) = held.Damaged page rule

-- The desk afterwards: each page on the way was looked at once.
abbrev pub after_looks : DeskState → StatePart → StatePart → StateStep → DeskState
after_looks d part.Header (part.Tip page) answer = after_looking (after_looking d (reading 0) held.Here) (reading page) (last_look answer)
after_looks d part.Header part.Header answer = after_looking d (reading 0) (last_look answer)
after_looks d (part.Tip page) after answer = after_looking d (reading page) (last_look answer)

-- What the look at the header comes to.
abbrev pub header_look : Result ℕ StateStep → Held
header_look (Ok page) = held.Here
header_look (Err answer) = last_look answer

abbrev pub FindsTip : DeskState → ℕ → Result ℕ StateStep → Type 0
FindsTip d number (Ok page) = NamesTip d number page
FindsTip d number (Err answer) = StateComesTo d part.Header number answer
