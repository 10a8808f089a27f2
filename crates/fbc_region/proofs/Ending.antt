-- A legal history at rest, and what follows on it.
use Rattle.std.proofs.Common.{◌≡◌, ◌∙◌, ap, ℕ, Bool, true, false, List, [], ◌∷◌, sym, refl}
use Rattle.fbc_kinds.specs.declared.shapes.Shape.{Shape}
use Rattle.fbc_kinds.specs.View.{View}
use Rattle.fbc_levels.specs.declared.levels.Level.{Level}
use Rattle.fbc_levels.specs.declared.resources.Resource.{Resource}
use Rattle.fbc_lock_table.specs.declared.answers.Asked.TheVariants.{Granted}
use Rattle.fbc_lock_table.specs.Answers.{answer_to_ask}
use Rattle.fbc_legal.specs.Legal.{ComesNext, ComesNextAfter, IsLegal}
use Rattle.fbc_legal.specs.Scene.{scene_of}
use Rattle.fbc_world.specs.declared.events.Act.{Act}
use Rattle.fbc_world.specs.declared.events.Act.TheVariants.{Ask, Local}
use Rattle.fbc_world.specs.declared.events.LocalEvent.{LocalEvent}
use Rattle.fbc_world.specs.History.{History, Moment, happens}
use Rattle.fbc_world.specs.Locks.{locks_of}
use Rattle.fbc_region.specs.Kept.{IsAtRest, LeavesRest}
use Rattle.fbc_region.specs.Lawful.{MeetInTurn, MeetsGuard, with_locals}

pub record Ends (shape : Shape) (file : View) (history : History) : Type 0 where
  pub legal : IsLegal shape file history
  pub rests : IsAtRest history

-- At rest anything may come next, as far as the last event tells.
pub follows_rest : (history : History) (moment : Moment) → IsAtRest history → ComesNext history moment
follows_rest [] moment rests = tt
follows_rest (last ∷ before) moment rests = go last.event.act refl where
  go : (act : Act) → last.event.act ≡ act → ComesNextAfter before last.event.actor act moment
  go (Ask resource level wait word) is = λ free. absurd (rests last.event.actor resource (record { level = level; wait = wait; word = word; actor = refl; act = is; free = free }))
  go _ is = tt

abbrev pub is_ask : Act → Bool
is_ask (Ask resource level wait word) = true
is_ask _ = false

-- After any other act than an ask there is rest.
pub rests_after : (before : History) (owner : ℕ) (act : Act) (landed : Bool) → is_ask act ≡ false → IsAtRest (happens owner act landed ∷ before)
rests_after before owner act landed other = λ asker resource just. let clash : false ≡ true = sym other ∙ ap is_ask just.act in cc

-- And after an ask that is not granted at once.
pub rests_refused : (before : History) (owner : ℕ) (resource : Resource) (level : Level) (wait : Bool) (word : ℕ) (landed : Bool) → (answer_to_ask (locks_of before) owner resource level wait ≡ Granted → ⊥)
    → IsAtRest (happens owner (Ask resource level wait word) landed ∷ before)
rests_refused before owner resource level wait word landed not_free = λ asker wanted just.
    not_free (freed asker wanted just.level just.wait just.word just.actor just.act just.free) where
      freed : (asker : ℕ) (wanted : Resource) (other : Level) (waits : Bool) (data_word : ℕ) → owner ≡ asker → Ask resource level wait word ≡ Ask wanted other waits data_word
          → answer_to_ask (locks_of before) asker wanted other waits ≡ Granted → answer_to_ask (locks_of before) owner resource level wait ≡ Granted
      freed asker wanted other waits data_word its same free =
          let same_resource : resource ≡ wanted = cc in
          let same_level : level ≡ other = cc in
          let same_wait : wait ≡ waits = cc in
          rw (its, same_resource, same_level, same_wait) free

-- So there is rest wherever the last act leaves it.
pub rests_left : (before : History) (owner : ℕ) (act : Act) (landed : Bool) → LeavesRest before owner act → IsAtRest (happens owner act landed ∷ before)
rests_left before owner (Ask resource level wait word) landed refused = rests_refused before owner resource level wait word landed refused
rests_left before owner _ landed left = rests_after before owner _ landed refl

-- One event more.
pub ends_on : (shape : Shape) (file : View) (history : History) (owner : ℕ) (act : Act) (landed : Bool) → Ends shape file history → MeetsGuard (scene_of shape file history) owner act
    → IsAtRest (happens owner act landed ∷ history) → Ends shape file (happens owner act landed ∷ history)
ends_on shape file history owner act landed ends meets rests = record {
  legal = (ends.legal, record { alive = meets.alive; follows = follows_rest history (happens owner act landed) ends.rests; guard = meets.guard });
  rests = rests;
}

-- What an owner does in its own cache.
pub ends_locals : (shape : Shape) (file : View) (history : History) (owner : ℕ) (events : List LocalEvent) → Ends shape file history → MeetInTurn shape file history owner events
    → Ends shape file (with_locals history owner events)
ends_locals shape file history owner [] ends meets = ends
ends_locals shape file history owner (event ∷ events) ends meets =
    ends_locals shape file (happens owner (Local event) false ∷ history) owner events
    (ends_on shape file history owner (Local event) false ends meets.0 (rests_after history owner (Local event) false refl)) meets.1
