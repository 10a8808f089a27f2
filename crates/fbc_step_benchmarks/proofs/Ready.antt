-- What the owners are ready for after each step.
use Rattle.std.proofs.Common.{◌≡◌, ◌≢◌, ◌∙◌, ℕ, zero, suc, ◌+◌, ◌≤◌, ◌%◌, true, List, OnOk, Result, Ok, Err, sym, subst, refl, arith}
use Rattle.std.specs.List.{AllByRecursion}
use Rattle.fbc_levels.specs.declared.levels.Level.TheVariants.{Ex, Free}
use Rattle.fbc_levels.specs.declared.resources.Resource.{Resource}
use Rattle.fbc_levels.specs.LockState.{LockState}
use Rattle.fbc_lock_table.specs.declared.answers.Asked.TheVariants.{Granted}
use Rattle.fbc_lock_table.specs.Effects.{after_ask}
use Rattle.fbc_world.specs.declared.answers.Answer.{Answer}
use Rattle.fbc_world.specs.declared.answers.Answer.TheVariants as answers
use Rattle.fbc_world.specs.declared.asks.Ask.TheVariants as ask
use Rattle.fbc_world.specs.declared.events.LocalEvent.{LocalEvent}
use Rattle.fbc_levels.specs.Resources.{page_resource}
use Rattle.fbc_world.specs.History.{Recording, recorded}
use Rattle.fbc_world.specs.Owners.{is_alive}
use Rattle.fbc_region.specs.Shared.{HasReserved, locks_in}
use Rattle.fbc_region.specs.Stepping.{Performs}
use Rattle.fbc_step_benchmarks.specs.Steps.{HasOnlyPage, HoldsBelow, IsFree, IsHeldBelow, IsOthersOrPage, IsReadyFor}
use Rattle.fbc_step_benchmarks.proofs.Requests.{held_asked, held_others, only_asked}
use Rattle.fbc_step_benchmarks.proofs.Stepped.{locks_looked, others_lowered}

pub free_when : (step : ℕ) (journal : Recording) → step ≡ 0 → IsReadyFor step journal → IsFree journal
free_when step journal is ready = subst (λ n. IsReadyFor n journal) is ready

pub ready_free : (step : ℕ) (journal : Recording) → step ≡ 0 → IsFree journal → IsReadyFor step journal
ready_free step journal is free = rw is free

pub page_when : (step : ℕ) (journal : Recording) → (step ≡ 0 → ⊥) → IsReadyFor step journal → HasOnlyPage journal
page_when zero journal isnt ready = absurd (isnt refl)
page_when (suc step) journal isnt ready = ready

pub ready_page : (step : ℕ) (journal : Recording) → (step ≡ 0 → ⊥) → HasOnlyPage journal → IsReadyFor step journal
ready_page zero journal isnt has = absurd (isnt refl)
ready_page (suc step) journal isnt has = has

-- The second owner holds all its pages, and the first none.
pub free_beside : (page : ℕ) (journal : Recording) → HoldsBelow page journal → IsFree journal
free_beside page journal holds = record { alive = holds.first; none = held_others page (locks_in journal).requests holds.held }

module _ (before after : Recording) (stay : (other : ℕ) → is_alive (recorded before) other ≡ true → is_alive (recorded after) other ≡ true) where
  pub holds_more : (page : ℕ) → HoldsBelow page before → locks_in after ≡ after_ask (locks_in before) 2 (page_resource page) Ex 0 Granted → HoldsBelow (page + 1) after
  holds_more page holds is = record {
    first = stay 1 holds.first;
    second = stay 2 holds.second;
    held = subst (λ (s : LockState). AllByRecursion (IsHeldBelow (page + 1)) s.requests) (sym is) (held_asked page (locks_in before).requests holds.held);
  }

  pub has_page : IsFree before → locks_in after ≡ after_ask (locks_in before) 1 (page_resource 0) Ex 0 Granted → HasOnlyPage after
  has_page free is = record {
    alive = stay 1 free.alive;
    only = subst (λ (s : LockState). AllByRecursion IsOthersOrPage s.requests) (sym is) (only_asked (locks_in before).requests free.none);
  }

module _ (before after : Recording) (events : List LocalEvent) (answer : Answer) (has : HasOnlyPage before) where
  pub page_looked : Performs before after 1 events answer ask.Look → answer ≡ answers.Granted
      → (ask.Look ≢ ask.Leave → answer ≢ answers.WriteFault → (owner : ℕ) → is_alive (recorded before) owner ≡ true → is_alive (recorded after) owner ≡ true) → HasOnlyPage after
  page_looked done is stay = record {
    alive = stay (λ same. absurd cc) (λ same. absurd (let clash : answers.Granted ≡ answers.WriteFault = sym is ∙ same in cc)) 1 has.alive;
    only = subst (λ (s : LockState). AllByRecursion IsOthersOrPage s.requests) (sym (locks_looked before after 1 events answer done is)) has.only;
  }

  pub page_lowered : (resource : Resource) → resource ≡ page_resource 0 → Performs before after 1 events answer (ask.Lower resource Free)
      → (ask.Lower resource Free ≢ ask.Leave → answer ≢ answers.WriteFault → (owner : ℕ) → is_alive (recorded before) owner ≡ true → is_alive (recorded after) owner ≡ true) → IsFree after
  page_lowered resource is done stay = record {
    alive = stay (λ same. absurd cc) (λ same. absurd (let clash : answers.Noted ≡ answers.WriteFault = sym done.step.0 ∙ same in cc)) 1 has.alive;
    none = others_lowered before after events answer (subst (λ r. Performs before after 1 events answer (ask.Lower r Free)) is done) has.only;
  }

-- Who has reserved steps has reserved fewer.
pub fewer_steps : (journal : Recording) (steps fewer : ℕ) → fewer ≤ steps → HasReserved journal steps → HasReserved journal fewer
fewer_steps journal steps fewer few reserved = omega (arith, few, reserved)

-- What two facts of a success make.
pub on_both : {T E : Type 0} (result : Result T E) (A B C : Type 0) → (A → B → C) → OnOk result A → OnOk result B → OnOk result C
on_both (Ok x) A B C makes a b = makes a b
on_both (Err e) A B C makes a b = tt

-- After an ask comes a look.
pub look_next : (turn : ℕ) → turn % 3 ≡ 0 → (turn + 1) % 3 ≡ 0 → ⊥
look_next turn is next = let one : (turn + 1) % 3 ≡ 1 = omega (arith, is) in absurd (let clash : 0 ≡ 1 = sym next ∙ one in cc)
