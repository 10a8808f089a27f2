-- After its owner's step that asks for a lock, and the cache's taking of the answer, the cache fits.
use Rattle.std.proofs.Common.{◌≡◌, ◌∙◌, inl, inr, ap, ℕ, Bool, true, false, if◌then◌else◌, List, ◌∷◌, Some, None, refl, sym, subst}
use Rattle.fbc_levels.specs.declared.levels.Level.{Level}
use Rattle.fbc_levels.specs.declared.resources.Resource.{Resource}
use Rattle.fbc_levels.specs.LockState.{LockState, wait_of}
use Rattle.fbc_levels.specs.Resources.{page_resource}
use Rattle.fbc_lock_table.specs.declared.answers.Asked.{Asked}
use Rattle.fbc_lock_table.specs.declared.answers.Asked.TheVariants as asked
use Rattle.fbc_lock_table.specs.Answers.{answer_to_ask}
use Rattle.fbc_lock_table.specs.Effects.{after_ask}
use Rattle.fbc_owner_queues.specs.Circles.{circle_from}
use Rattle.fbc_owner_queues.proofs.Named.{page_asked-closes_none}
use Rattle.fbc_world.specs.declared.answers.Answer.{Answer}
use Rattle.fbc_world.specs.declared.answers.Answer.TheVariants as answers
use Rattle.fbc_world.specs.declared.asks.Ask.TheVariants as ask
use Rattle.fbc_world.specs.declared.events.Act.TheVariants as act
use Rattle.fbc_world.specs.History.{History, happens}
use Rattle.fbc_world.specs.Locks.{locks_of}
use Rattle.fbc_world.proofs.WorldLaws.{IsReplayed-world}
use Rattle.fbc_legal.specs.Legal.{IsLegal}
use Rattle.fbc_region.specs.Steps.{with_events}
use Rattle.fbc_cache.specs.Cache.{CacheState}
use Rattle.fbc_cache.specs.Takes.{after_lock}
use Rattle.fbc_cache.specs.Wants.{is_page_series}
use Rattle.fbc_fit.specs.Answered.{AskScene, FitsTaken, IsAnsweredOver, IsRefusal}
use Rattle.fbc_fit.specs.Fit.{IsRefused}
use Rattle.fbc_fit.proofs.AskedPages.{asked-queued}
use Rattle.fbc_fit.proofs.GrantedPages.{fits-asked, fits-granted_at_once}
use Rattle.fbc_fit.proofs.GrantsBehind.{resource-page, series-page}
use Rattle.fbc_fit.proofs.StepsTaken.{apart, behind, free-locks, left, legal-step, lives, past, taken, w}

module _ (at : AskScene) (c : CacheState) (later : History) where
  asked-in : (resource : Resource) (level : Level) (wait : Bool) (answer : Asked) → answer_to_ask (locks_of (past at c later)) at.who resource level wait ≡ answer → answer_to_ask (w at c later).locks at.who resource level wait ≡ answer
  asked-in resource level wait answer is = ap (λ (s : LockState). answer_to_ask s at.who resource level wait) (IsReplayed-world at.shape at.file (past at c later)).locks_is ∙ is

  -- What leaves the cache, whatever is locked.
  kept-cache : (resource : Resource) (level : Level) (answer : Answer) → after_lock c resource.key level answer ≡ c → (paged : Bool) → (if paged then after_lock c resource.key level answer else c) ≡ c
  kept-cache resource level answer same true = same
  kept-cache resource level answer same false = refl

  -- A lock of a page that is granted at once: the ask, and its grant.
  abbrev asking : ℕ → Level → Bool → ℕ → Bool → History
  asking page level wait word landed = happens at.who (act.Ask (page_resource page) level wait word) landed ∷ past at c later

  abbrev granting : ℕ → Level → Bool → ℕ → Bool → History
  granting page level wait word landed = happens at.who (act.Grant (page_resource page) level) false ∷ asking page level wait word landed

  pub granted-page : (page : ℕ) (level : Level) (wait : Bool) (word : ℕ) → IsAnsweredOver at c (ask.Lock (page_resource page) level wait word) answers.Granted later
      → FitsTaken at c (ask.Lock (page_resource page) level wait word) answers.Granted None later
  granted-page page level wait word s = subst (λ (h : History). FitsTaken at c (ask.Lock (page_resource page) level wait word) answers.Granted None h) (sym is) (go (subst (IsLegal at.shape at.file) is s.legal)) where
    is : later ≡ granting page level wait word s.step.landed
    is = s.step.later_is ∙ ap (with_events (asking page level wait word s.step.landed)) s.step.follow

    go : IsLegal at.shape at.file (granting page level wait word s.step.landed) → FitsTaken at c (ask.Lock (page_resource page) level wait word) answers.Granted None (granting page level wait word s.step.landed)
    go legal =
        taken at c (granting page level wait word s.step.landed) (ask.Lock (page_resource page) level wait word) answers.Granted None _ s.due refl
        (fits-granted_at_once at.shape (w at c later) at.who page level wait word s.step.landed c s.due s.fits false legal.0.1.guard.free legal.1.guard.wanted)

  -- A lock of a page that is waited for.
  pub queued-page : (page : ℕ) (level : Level) (wait : Bool) (word : ℕ) → IsAnsweredOver at c (ask.Lock (page_resource page) level wait word) answers.Queued later
      → FitsTaken at c (ask.Lock (page_resource page) level wait word) answers.Queued None later
  queued-page page level wait word s =
      let replayed = sym (IsReplayed-world at.shape at.file (past at c later)).locks_is in
      let answer = asked-in (page_resource page) level wait asked.Queued s.step.tells.queued in
      let circle = subst (λ (s : LockState). circle_from (after_ask s at.who (page_resource page) level word asked.Queued) at.who ≡ None) replayed s.step.tells.closes in
      taken at c later (ask.Lock (page_resource page) level wait word) answers.Queued None _ s.due refl
      (behind at c later (ask.Lock (page_resource page) level wait word) answers.Queued s _ (lives at c later (legal-step at c later (ask.Lock (page_resource page) level wait word) answers.Queued s).1.alive)
      (fits-asked at.shape (w at c later) at.who page level wait word s.step.landed c s.due s.fits (asked-queued (w at c later).locks at.who (page_resource page) level word wait answer circle)))

  module _ (resource : Resource) (level : Level) (wait : Bool) (word : ℕ) where
    pub busy : (holder : ℕ) (held : Level) → IsAnsweredOver at c (ask.Lock resource level wait word) (answers.Busy holder held) later → FitsTaken at c (ask.Lock resource level wait word) (answers.Busy holder held) None later
    busy holder held s =
        let refused : IsRefused (answer_to_ask (w at c later).locks at.who resource level wait) = subst IsRefused (sym (asked-in resource level wait (asked.Busy holder held) s.step.tells)) tt in
        taken at c later (ask.Lock resource level wait word) (answers.Busy holder held) None c s.due (kept-cache resource level (answers.Busy holder held) refl (is_page_series resource))
        (left at c later (ask.Lock resource level wait word) (answers.Busy holder held) s (lives at c later (legal-step at c later (ask.Lock resource level wait word) (answers.Busy holder held) s).1.alive) (inr refused))

    pub no_room : (used : ℕ) → IsAnsweredOver at c (ask.Lock resource level wait word) (answers.Room used) later → FitsTaken at c (ask.Lock resource level wait word) (answers.Room used) None later
    no_room used s =
        let refused : IsRefused (answer_to_ask (w at c later).locks at.who resource level wait) = subst IsRefused (sym (asked-in resource level wait (asked.Room used) s.step.tells)) tt in
        taken at c later (ask.Lock resource level wait word) (answers.Room used) None c s.due (kept-cache resource level (answers.Room used) refl (is_page_series resource))
        (left at c later (ask.Lock resource level wait word) (answers.Room used) s (lives at c later (legal-step at c later (ask.Lock resource level wait word) (answers.Room used) s).1.alive) (inr refused))

    pub reaped : (dead : ℕ) → IsAnsweredOver at c (ask.Lock resource level wait word) (answers.Reaped dead) later → FitsTaken at c (ask.Lock resource level wait word) (answers.Reaped dead) None later
    reaped dead s =
        let legal = legal-step at c later (ask.Lock resource level wait word) (answers.Reaped dead) s in
        taken at c later (ask.Lock resource level wait word) (answers.Reaped dead) None c s.due (kept-cache resource level (answers.Reaped dead) refl (is_page_series resource))
        (left at c later (ask.Lock resource level wait word) (answers.Reaped dead) s (lives at c later legal.1.alive) (apart at c later dead legal.1.guard.is_dead legal.1.alive))

    -- What is asked of no page, with each answer by which it is recorded as an ask.
    other-granted : is_page_series resource ≡ false → IsAnsweredOver at c (ask.Lock resource level wait word) answers.Granted later → FitsTaken at c (ask.Lock resource level wait word) answers.Granted None later
    other-granted is s =
        let legal = legal-step at c later (ask.Lock resource level wait word) answers.Granted s in
        taken at c later (ask.Lock resource level wait word) answers.Granted None c s.due (ap (λ (b : Bool). if b then after_lock c resource.key level answers.Granted else c) is)
        (left at c later (ask.Lock resource level wait word) answers.Granted s (lives at c later legal.1.alive) (inl (is, legal.1.guard.free)))

    other-queued : is_page_series resource ≡ false → IsAnsweredOver at c (ask.Lock resource level wait word) answers.Queued later → FitsTaken at c (ask.Lock resource level wait word) answers.Queued None later
    other-queued is s =
        let legal = legal-step at c later (ask.Lock resource level wait word) answers.Queued s in
        taken at c later (ask.Lock resource level wait word) answers.Queued None c s.due (ap (λ (b : Bool). if b then after_lock c resource.key level answers.Queued else c) is)
        (left at c later (ask.Lock resource level wait word) answers.Queued s (lives at c later legal.1.alive) (inl (is, legal.1.guard.free)))

    -- Who asks for a page closes no circle.
    page-closes-none : (cycle : List ℕ) → is_page_series resource ≡ true → wait_of (w at c later).locks at.who ≡ None → IsAnsweredOver at c (ask.Lock resource level wait word) (answers.Deadlock cycle) later → ⊥
    page-closes-none cycle is free s =
        let none = page_asked-closes_none at.who resource level (series-page resource.series is) (locks_of (past at c later)) word (free-locks at c later free) in
        let no : None ≡ Some cycle = sym none ∙ s.step.tells.closes in cc

    pub deadlocked : (cycle : List ℕ) → IsAnsweredOver at c (ask.Lock resource level wait word) (answers.Deadlock cycle) later → FitsTaken at c (ask.Lock resource level wait word) (answers.Deadlock cycle) None later
    deadlocked cycle s =
        let legal = legal-step at c later (ask.Lock resource level wait word) (answers.Deadlock cycle) s in
        go (is_page_series resource) refl legal.1.alive legal.1.guard.free where
          go : (paged : Bool) → is_page_series resource ≡ paged → (w at c later).is_alive at.who ≡ true → wait_of (w at c later).locks at.who ≡ None → FitsTaken at c (ask.Lock resource level wait word) (answers.Deadlock cycle) None later
          go true is alive free = absurd (page-closes-none cycle is free s)
          go false is alive free =
              taken at c later (ask.Lock resource level wait word) (answers.Deadlock cycle) None c s.due (kept-cache resource level (answers.Deadlock cycle) refl (is_page_series resource))
              (left at c later (ask.Lock resource level wait word) (answers.Deadlock cycle) s (lives at c later alive) (inl (is, free)))

    -- Any answer.
    pub granted : IsAnsweredOver at c (ask.Lock resource level wait word) answers.Granted later → FitsTaken at c (ask.Lock resource level wait word) answers.Granted None later
    granted s = go (is_page_series resource) refl where
      go : (paged : Bool) → is_page_series resource ≡ paged → FitsTaken at c (ask.Lock resource level wait word) answers.Granted None later
      go true is =
          subst (λ (r : Resource). IsAnsweredOver at c (ask.Lock r level wait word) answers.Granted later → FitsTaken at c (ask.Lock r level wait word) answers.Granted None later) (sym (resource-page resource is))
          (granted-page resource.key level wait word) s
      go false is = other-granted is s

    pub queued : IsAnsweredOver at c (ask.Lock resource level wait word) answers.Queued later → FitsTaken at c (ask.Lock resource level wait word) answers.Queued None later
    queued s = go (is_page_series resource) refl where
      go : (paged : Bool) → is_page_series resource ≡ paged → FitsTaken at c (ask.Lock resource level wait word) answers.Queued None later
      go true is =
          subst (λ (r : Resource). IsAnsweredOver at c (ask.Lock r level wait word) answers.Queued later → FitsTaken at c (ask.Lock r level wait word) answers.Queued None later) (sym (resource-page resource is))
          (queued-page resource.key level wait word) s
      go false is = other-queued is s

    pub refused : (answer : Answer) → IsRefusal answer → IsAnsweredOver at c (ask.Lock resource level wait word) answer later → FitsTaken at c (ask.Lock resource level wait word) answer None later
    refused (answers.Busy holder held) is s = busy holder held s
    refused (answers.Room used) is s = no_room used s
    refused (answers.Reaped dead) is s = reaped dead s
    refused _ is s = absurd is

    pub locked : (answer : Answer) → IsAnsweredOver at c (ask.Lock resource level wait word) answer later → FitsTaken at c (ask.Lock resource level wait word) answer None later
    locked answers.Granted s = granted s
    locked answers.Queued s = queued s
    locked (answers.Deadlock cycle) s = deadlocked cycle s
    locked (answers.Busy holder held) s = busy holder held s
    locked (answers.Room used) s = no_room used s
    locked (answers.Reaped dead) s = reaped dead s
    locked _ s = absurd s.step.tells
