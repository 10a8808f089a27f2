-- What the steps over locks are answered, and what they add to the journal.
use Rattle.std.specs.Prelude.{◌≡◌, ℕ, Bool, List, [], ◌∷◌, Option, Some, None}
use Rattle.fbc_levels.specs.declared.levels.Level.{Level}
use Rattle.fbc_levels.specs.declared.resources.Request.{Request}
use Rattle.fbc_levels.specs.declared.resources.Resource.{Resource}
use Rattle.fbc_lock_table.specs.declared.answers.Asked.{Asked}
use Rattle.fbc_lock_table.specs.declared.answers.Asked.TheVariants as asked
use Rattle.fbc_lock_table.specs.declared.answers.Looked.{Looked}
use Rattle.fbc_lock_table.specs.declared.answers.Looked.TheVariants as looked
use Rattle.fbc_lock_table.specs.Answers.{answer_to_ask, answer_to_look}
use Rattle.fbc_lock_table.specs.Effects.{after_ask}
use Rattle.fbc_owner_queues.specs.Circles.{circle_from}
use Rattle.fbc_world.specs.declared.answers.Answer.{Answer}
use Rattle.fbc_world.specs.declared.answers.Answer.TheVariants as answers
use Rattle.fbc_world.specs.declared.asks.Ask.{Ask}
use Rattle.fbc_world.specs.declared.asks.Ask.TheVariants as ask
use Rattle.fbc_world.specs.declared.events.Act.TheVariants as act
use Rattle.fbc_world.specs.History.{Recording}
use Rattle.fbc_region.specs.Adding.{Adds, by}
use Rattle.fbc_region.specs.Granting.{AddsWithGrants, resources_of}
use Rattle.fbc_region.specs.Shared.{locks_in}

-- An ask that waits is told so, or the circle that it would close: then it does not wait.
abbrev pub answer_to_wait : Option (List ℕ) → Answer
answer_to_wait None = answers.Queued
answer_to_wait (Some circle) = answers.Deadlock circle

-- A dead owner is in the way: what it left is taken away for this ask, and the grants that this causes follow.
pub record IsReaping (before after : Recording) (owner dead : ℕ) (for : Ask) (answer : Answer) : Type 0 where
  pub answered : answer ≡ answers.Reaped dead
  pub adds : AddsWithGrants before after (by owner (act.Reap dead for)) (resources_of (locks_in before) dead)

-- The owner asks for a level on a resource, where the lock table answers so. A grant at once is recorded behind the ask.
abbrev pub AskComesTo : Recording → Recording → ℕ → Resource → Level → Bool → ℕ → Answer → Asked → Type 0
AskComesTo before after owner resource level wait word answer asked.Granted =
    (answer ≡ answers.Granted) × Adds before after (by owner (act.Ask resource level wait word) ∷ by owner (act.Grant resource level) ∷ [])
AskComesTo before after owner resource level wait word answer asked.Queued =
    (answer ≡ answer_to_wait (circle_from (after_ask (locks_in before) owner resource level word asked.Queued) owner))
    × Adds before after (by owner (act.Ask resource level wait word) ∷ [])
AskComesTo before after owner resource level wait word answer (asked.Busy holder held) =
    (answer ≡ answers.Busy holder held) × Adds before after (by owner (act.Ask resource level wait word) ∷ [])
AskComesTo before after owner resource level wait word answer (asked.Room used) =
    (answer ≡ answers.Room used) × Adds before after (by owner (act.Ask resource level wait word) ∷ [])
AskComesTo before after owner resource level wait word answer (asked.Dead dead) =
    IsReaping before after owner dead (ask.Lock resource level wait word) answer

abbrev pub IsAsked : Recording → Recording → ℕ → Resource → Level → Bool → ℕ → Answer → Type 0
IsAsked before after owner resource level wait word answer =
    AskComesTo before after owner resource level wait word answer (answer_to_ask (locks_in before) owner resource level wait)

-- The owner looks whether what it waits for is granted, where the lock table answers so.
abbrev pub LookComesTo : Recording → Recording → ℕ → Answer → Looked → Type 0
LookComesTo before after owner answer looked.Granted = (answer ≡ answers.Granted) × Adds before after (by owner act.Look ∷ [])
LookComesTo before after owner answer (looked.NotYet holder) = (answer ≡ answers.NotYet holder) × Adds before after (by owner act.Look ∷ [])
LookComesTo before after owner answer (looked.Dead dead) = IsReaping before after owner dead ask.Look answer

abbrev pub IsLooked : Recording → Recording → ℕ → Answer → Type 0
IsLooked before after owner answer = LookComesTo before after owner answer (answer_to_look (locks_in before) owner)

-- A withdrawal is told where there is nothing to withdraw, since it was granted before.
abbrev pub answer_to_withdrawal : Option Request → Answer
answer_to_withdrawal None = answers.Granted
answer_to_withdrawal (Some wait) = answers.Noted
