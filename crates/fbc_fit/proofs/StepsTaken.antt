-- After its owner's step, and the cache's taking of the answer, the cache fits.
use Rattle.std.proofs.Common.{◌≡◌, ◌≢◌, ◌∙◌, ap, ℕ, Bool, true, false, ◌==◌, if◌then◌else◌, Option, Some, None, is_some, refl, sym, subst}
use Rattle.fbc_kinds.specs.declared.pages.Page.{Page}
use Rattle.fbc_levels.specs.declared.levels.Level.{Level}
use Rattle.fbc_levels.specs.declared.resources.Request.{Request}
use Rattle.fbc_levels.specs.declared.resources.Resource.{Resource}
use Rattle.fbc_levels.specs.LockState.{LockState, wait_of}
use Rattle.fbc_levels.specs.Resources.{page_resource}
use Rattle.fbc_lock_table.specs.declared.answers.Looked.TheVariants as looked
use Rattle.fbc_lock_table.specs.Answers.{answer_by_wait, answer_to_waiter, holder_of_wait}
use Rattle.fbc_world.specs.declared.answers.Answer.{Answer}
use Rattle.fbc_world.specs.declared.answers.Answer.TheVariants as answers
use Rattle.fbc_world.specs.declared.asks.Ask.{Ask}
use Rattle.fbc_world.specs.declared.asks.Ask.TheVariants as ask
use Rattle.fbc_world.specs.declared.asks.Cause.{Cause}
use Rattle.fbc_world.specs.declared.events.Act.TheVariants as act
use Rattle.fbc_world.specs.History.{History}
use Rattle.fbc_world.specs.Locks.{locks_of}
use Rattle.fbc_world.specs.Owners.{is_alive}
use Rattle.fbc_world.specs.PageCell.{kept}
use Rattle.fbc_world.specs.World.{World, world_of}
use Rattle.fbc_world.proofs.WorldLaws.{IsReplayed-world}
use Rattle.fbc_legal.specs.Legal.{IsLegal}
use Rattle.fbc_legal.proofs.Induction.{requests_true}
use Rattle.fbc_region.specs.Steps.{act_of}
use Rattle.fbc_region.specs.Stepping.{answers_read, answers_write}
use Rattle.fbc_cache.specs.Cache.{CacheState, IsCache}
use Rattle.fbc_cache.specs.Takes.{after_due, after_take}
use Rattle.fbc_cache.specs.Wants.{is_due, is_page_series}
use Rattle.fbc_fit.specs.After.{FitsAfter}
use Rattle.fbc_fit.specs.Answered.{AskScene, FitsTaken, IsAnsweredOver, IsBystander, IsHeldUp, WaitsForOne, before_ask}
use Rattle.fbc_fit.specs.Fit.{LeavesPages}
use Rattle.fbc_fit.proofs.GrantsBehind.{fits-step, legal-own, own_moment, resource-page, same-either}
use Rattle.fbc_fit.proofs.Idle.{due-idle}
use Rattle.fbc_fit.proofs.IdleWithdrawals.{fits-idle}
use Rattle.fbc_fit.proofs.LearntGrants.{fits-learnt}
use Rattle.fbc_fit.proofs.Lowered.{fits-lowered}
use Rattle.fbc_fit.proofs.OtherActs.{fits-acted}
use Rattle.fbc_fit.proofs.ReadPages.{fits-damaged, fits-read}
use Rattle.fbc_fit.proofs.WithdrawnPages.{fits-withdrawn}
use Rattle.fbc_fit.proofs.Written.{fits-written}

taken-due : (c : CacheState) (asked : Ask) (answer : Answer) (shown : Option Page) → is_due c asked ≡ true → after_take c asked answer shown ≡ after_due c asked answer shown
taken-due c asked answer shown due = ap (λ (b : Bool). if b then after_due c asked answer shown else c) due

-- What is held up is not granted.
held-up : (holder : Option Request) → is_some holder ≡ true → answer_to_waiter holder ≡ looked.Granted → ⊥
held-up None some answer = cc
held-up (Some holder) some answer = go holder.alive answer where
  go : (alive : Bool) → (if alive then looked.NotYet holder.owner else looked.Dead holder.owner) ≡ looked.Granted → ⊥
  go true is = cc
  go false is = cc

granted-free : (locks : LockState) (who : ℕ) (found : Option Request) → wait_of locks who ≡ found → IsHeldUp locks who → answer_by_wait locks who found ≡ looked.Granted → found ≡ None
granted-free locks who None is held answer = refl
granted-free locks who (Some wait) is held answer = absurd (held-up (holder_of_wait locks wait.resource wait.waiting who) (held wait is) answer)

-- Which answers a read and a write have.
abbrev pub IsReadAnswer : Answer → Type 0
IsReadAnswer (answers.PageIs length) = Unit {0}
IsReadAnswer answers.ReadFault = Unit {0}
IsReadAnswer _ = ⊥

pub read-answer : (answer : Answer) (fault : Bool) (length : ℕ) → answer ≡ answers_read fault length → IsReadAnswer answer
read-answer answer true length is = rw is tt
read-answer answer false length is = rw is tt

abbrev pub IsWriteAnswer : Answer → Type 0
IsWriteAnswer answers.Written = Unit {0}
IsWriteAnswer answers.WriteFault = Unit {0}
IsWriteAnswer _ = ⊥

pub write-answer : (answer : Answer) (failed : Bool) → answer ≡ answers_write failed → IsWriteAnswer answer
write-answer answer true is = rw is tt
write-answer answer false is = rw is tt

module _ (at : AskScene) (c : CacheState) (later : History) where
  abbrev pub past : History
  past = before_ask at

  abbrev pub w : World
  w = world_of at.shape at.file past

  free-before : wait_of (locks_of past) at.who ≡ None → wait_of w.locks at.who ≡ None
  free-before free = ap (λ (s : LockState). wait_of s at.who) (IsReplayed-world at.shape at.file past).locks_is ∙ free

  pub free-locks : wait_of w.locks at.who ≡ None → wait_of (locks_of past) at.who ≡ None
  free-locks free = ap (λ (s : LockState). wait_of s at.who) (sym (IsReplayed-world at.shape at.file past).locks_is) ∙ free

  -- The owner lives, before its own event and behind it.
  pub lives : w.is_alive at.who ≡ true → (if at.who == at.who then is_alive past at.who else is_alive past at.who) ≡ true
  lives alive = same-either (at.who == at.who) (is_alive past at.who) ∙ sym ((IsReplayed-world at.shape at.file past).alive_is at.who) ∙ alive

  pub taken : (asked : Ask) (answer : Answer) (shown : Option Page) (after : CacheState) → is_due c asked ≡ true → after_due c asked answer shown ≡ after → FitsAfter at.shape at.file later at.who after → FitsTaken at c asked answer shown later
  taken asked answer shown after due is = subst (λ (x : CacheState). FitsAfter at.shape at.file later at.who x) (sym (taken-due c asked answer shown due ∙ is))

  pub legal-step : (asked : Ask) (answer : Answer) (s : IsAnsweredOver at c asked answer later) → IsLegal at.shape at.file (own_moment at.shape at.file past later at.who answer asked s.step s.legal)
  legal-step asked answer s = legal-own at.shape at.file past later at.who answer asked s.step s.legal

  -- A cache that fits behind the owner's own event fits behind the step.
  pub behind : (asked : Ask) (answer : Answer) (s : IsAnsweredOver at c asked answer later) (after : CacheState) → is_alive (own_moment at.shape at.file past later at.who answer asked s.step s.legal) at.who ≡ true
      → FitsAfter at.shape at.file (own_moment at.shape at.file past later at.who answer asked s.step s.legal) at.who after → FitsAfter at.shape at.file later at.who after
  behind asked answer s after = fits-step at.shape at.file past later at.who answer asked s.step s.legal after

  -- A step that leaves the owner's pages.
  pub left : (asked : Ask) (answer : Answer) (s : IsAnsweredOver at c asked answer later) → is_alive (own_moment at.shape at.file past later at.who answer asked s.step s.legal) at.who ≡ true
      → LeavesPages w at.who (act_of answer asked) → FitsAfter at.shape at.file later at.who c
  left asked answer s alive leaves = behind asked answer s c alive (fits-acted at.shape w at.who s.step.landed c (act_of answer asked) leaves s.fits)

  pub apart : (dead : ℕ) → w.is_alive dead ≡ false → w.is_alive at.who ≡ true → dead ≢ at.who
  apart dead is_dead alive same = let no : false ≡ true = sym is_dead ∙ ap w.is_alive same ∙ alive in cc

  -- Who asks for no page, polls or notes.
  pub bystander : (asked : Ask) (answer : Answer) → IsBystander asked → IsAnsweredOver at c asked answer later → FitsTaken at c asked answer None later
  bystander (ask.Poll above) answer is s = taken (ask.Poll above) answer None c s.due refl (left (ask.Poll above) answer s (lives (legal-step (ask.Poll above) answer s).1.alive) tt)
  bystander ask.Least answer is s = taken ask.Least answer None c s.due refl (left ask.Least answer s (lives (legal-step ask.Least answer s).1.alive) tt)
  bystander (ask.Note reply) answer is s = taken (ask.Note reply) answer None c s.due refl (left (ask.Note reply) answer s (lives (legal-step (ask.Note reply) answer s).1.alive) tt)
  bystander _ answer is s = absurd is

  -- A page is written.
  pub written : (page : ℕ) (cause : Cause) → IsAnsweredOver at c (ask.Write page cause) answers.Written later → FitsTaken at c (ask.Write page cause) answers.Written None later
  written page cause s =
      taken (ask.Write page cause) answers.Written None _ s.due refl
      (behind (ask.Write page cause) answers.Written s _ (lives (legal-step (ask.Write page cause) answers.Written s).1.alive)
      (fits-written at.shape w at.who page cause s.step.landed c s.due s.fits))

  -- A page is read.
  pub read-shown : (page length : ℕ) (content : Page) → kept at.shape at.file past page ≡ Some content
      → IsAnsweredOver at c (ask.Read page) (answers.PageIs length) later → FitsTaken at c (ask.Read page) (answers.PageIs length) (Some content) later
  read-shown page length content kept s =
      taken (ask.Read page) (answers.PageIs length) (Some content) _ s.due refl
      (behind (ask.Read page) (answers.PageIs length) s _ (lives (legal-step (ask.Read page) (answers.PageIs length) s).1.alive)
      (fits-read at.shape w at.who page s.step.landed c s.due s.fits false (Some content) ((IsReplayed-world at.shape at.file past).kept_is page ∙ kept)))

  pub read-damaged : (page length : ℕ) → kept at.shape at.file past page ≡ None
      → IsAnsweredOver at c (ask.Read page) (answers.PageIs length) later → FitsAfter at.shape at.file later at.who c
  read-damaged page length kept s =
      behind (ask.Read page) (answers.PageIs length) s c (lives (legal-step (ask.Read page) (answers.PageIs length) s).1.alive)
      (fits-damaged at.shape w at.who page s.step.landed c s.due s.fits ((IsReplayed-world at.shape at.file past).kept_is page ∙ kept))

  pub read-failed : (page : ℕ) → IsAnsweredOver at c (ask.Read page) answers.ReadFault later → FitsTaken at c (ask.Read page) answers.ReadFault None later
  read-failed page s =
      taken (ask.Read page) answers.ReadFault None _ s.due refl
      (behind (ask.Read page) answers.ReadFault s _ (lives (legal-step (ask.Read page) answers.ReadFault s).1.alive)
      (fits-read at.shape w at.who page s.step.landed c s.due s.fits true None refl))

  -- A look.
  look-reaped : (dead : ℕ) → IsAnsweredOver at c ask.Look (answers.Reaped dead) later → FitsTaken at c ask.Look (answers.Reaped dead) None later
  look-reaped dead s =
      let legal = legal-step ask.Look (answers.Reaped dead) s in
      taken ask.Look (answers.Reaped dead) None c s.due refl (left ask.Look (answers.Reaped dead) s (lives legal.1.alive) (apart dead legal.1.guard.is_dead legal.1.alive))

  pub looked_at : (answer : Answer) → IsHeldUp (locks_of past) at.who → IsAnsweredOver at c ask.Look answer later → FitsTaken at c ask.Look answer None later
  looked_at answers.Granted held s =
      let free = free-before (granted-free (locks_of past) at.who (wait_of (locks_of past) at.who) refl held s.step.tells) in
      taken ask.Look answers.Granted None _ s.due refl
      (behind ask.Look answers.Granted s _ (lives (legal-step ask.Look answers.Granted s).1.alive)
      (fits-acted at.shape w at.who s.step.landed _ act.Look tt (fits-learnt at.shape w at.who c free s.fits)))
  looked_at (answers.NotYet holder) held s =
      taken ask.Look (answers.NotYet holder) None c s.due refl (left ask.Look (answers.NotYet holder) s (lives (legal-step ask.Look (answers.NotYet holder) s).1.alive) tt)
  looked_at (answers.Reaped dead) held s = look-reaped dead s
  looked_at _ held s = absurd s.step.tells

  -- A withdrawal.
  withdrawn-wait : (wait : Request) → wait_of (locks_of past) at.who ≡ Some wait → IsCache c → WaitsForOne (locks_of past) at.who c
      → IsAnsweredOver at c ask.Withdraw answers.Noted later → FitsTaken at c ask.Withdraw answers.Noted None later
  withdrawn-wait wait waits is one s =
      taken ask.Withdraw answers.Noted None _ s.due refl
      (behind ask.Withdraw answers.Noted s _ (lives (legal-step ask.Withdraw answers.Noted s).1.alive) (go (is_page_series wait.resource) refl)) where
        waiting : wait_of w.locks at.who ≡ Some wait
        waiting = ap (λ (s : LockState). wait_of s at.who) (IsReplayed-world at.shape at.file past).locks_is ∙ waits

        go : (paged : Bool) → is_page_series wait.resource ≡ paged
            → FitsAfter at.shape at.file (own_moment at.shape at.file past later at.who answers.Noted ask.Withdraw s.step s.legal) at.who (after_due c ask.Withdraw answers.Noted None)
        go true page = fits-withdrawn at.shape w at.who s.step.landed c wait waiting page (requests_true at.shape at.file past) is s.fits
        go false other = fits-idle at.shape w at.who s.step.landed c (one wait waits other) (requests_true at.shape at.file past) s.fits

  pub withdrawn : (answer : Answer) → IsCache c → WaitsForOne (locks_of past) at.who c → IsAnsweredOver at c ask.Withdraw answer later → FitsTaken at c ask.Withdraw answer None later
  withdrawn answers.Granted is one s =
      let free = free-before s.step.tells in
      taken ask.Withdraw answers.Granted None _ s.due refl
      (behind ask.Withdraw answers.Granted s _ (lives (legal-step ask.Withdraw answers.Granted s).1.alive)
      (fits-acted at.shape w at.who s.step.landed _ act.Withdraw free (fits-learnt at.shape w at.who c free s.fits)))
  withdrawn answers.Noted is one s = withdrawn-wait s.step.tells.0 s.step.tells.1 is one s
  withdrawn _ is one s = absurd s.step.tells

  -- A lowering.
  lowered-page : (page : ℕ) (level : Level) → IsAnsweredOver at c (ask.Lower (page_resource page) level) answers.Noted later → FitsTaken at c (ask.Lower (page_resource page) level) answers.Noted None later
  lowered-page page level s =
      taken (ask.Lower (page_resource page) level) answers.Noted None _ s.due refl
      (behind (ask.Lower (page_resource page) level) answers.Noted s _ (lives (legal-step (ask.Lower (page_resource page) level) answers.Noted s).1.alive)
      (fits-lowered at.shape w at.who page s.step.landed c (due-idle c page level s.due) (requests_true at.shape at.file past).apart s.fits level))

  pub lowered : (resource : Resource) (level : Level) → IsAnsweredOver at c (ask.Lower resource level) answers.Noted later → FitsTaken at c (ask.Lower resource level) answers.Noted None later
  lowered resource level s = go (is_page_series resource) refl where
    go : (paged : Bool) → is_page_series resource ≡ paged → FitsTaken at c (ask.Lower resource level) answers.Noted None later
    go true is =
        subst (λ (r : Resource). IsAnsweredOver at c (ask.Lower r level) answers.Noted later → FitsTaken at c (ask.Lower r level) answers.Noted None later) (sym (resource-page resource is)) (lowered-page resource.key level) s
    go false is =
        taken (ask.Lower resource level) answers.Noted None c s.due (rw is refl) (left (ask.Lower resource level) answers.Noted s (lives (legal-step (ask.Lower resource level) answers.Noted s).1.alive) is)
