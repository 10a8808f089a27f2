-- Whatever its owner asks and is answered: after the cache has taken the answer, it fits.
use Rattle.std.proofs.Common.{◌≡◌, ℕ, List, Option, Some, None, sym, subst}
use Rattle.fbc_kinds.specs.declared.pages.Page.{Page}
use Rattle.fbc_kinds.specs.declared.shapes.Shape.{Shape}
use Rattle.fbc_kinds.specs.File.{ShowsPage}
use Rattle.fbc_levels.specs.declared.levels.Level.{Level}
use Rattle.fbc_levels.specs.declared.resources.Resource.{Resource}
use Rattle.fbc_world.specs.declared.answers.Answer.{Answer}
use Rattle.fbc_world.specs.declared.answers.Answer.TheVariants as answers
use Rattle.fbc_world.specs.declared.asks.Ask.{Ask}
use Rattle.fbc_world.specs.declared.asks.Ask.TheVariants as ask
use Rattle.fbc_world.specs.History.{History}
use Rattle.fbc_cache.specs.Cache.{CacheState}
use Rattle.fbc_cache.specs.Takes.{IsShown, Takes, WasShown}
use Rattle.fbc_fit.specs.After.{FitsAfter}
use Rattle.fbc_fit.specs.Answered.{AskScene, FitsTaken, IsAnsweredOver, IsSupposed, ShowsKept, before_ask}
use Rattle.fbc_fit.proofs.LocksTaken.{locked}
use Rattle.fbc_fit.proofs.StepsTaken.{bystander, looked_at, lowered, read-answer, read-failed, read-shown, withdrawn, write-answer, written}

module _ (at : AskScene) (c : CacheState) (later : History) where
  -- No page was shown.
  unshown : (asked : Ask) (answer : Answer) (shown : Option Page) → shown ≡ None → FitsTaken at c asked answer None later → FitsTaken at c asked answer shown later
  unshown asked answer shown was = subst (λ (x : Option Page). FitsTaken at c asked answer x later) (sym was)

  read-image : (page length : ℕ) (image : List ℕ) (shown : Option Page) → ShowsKept at.shape at.file (before_ask at) page image → IsShown c.shape page image shown
      → IsAnsweredOver at c (ask.Read page) (answers.PageIs length) later → FitsTaken at c (ask.Read page) (answers.PageIs length) shown later
  read-image page length image None kept was s = absurd was
  read-image page length image (Some content) kept was s =
      read-shown at c later page length content (kept.shown content (subst (λ (shape : Shape). ShowsPage shape page image content) s.fits.shape_is was)) s

  lowered-by : (resource : Resource) (level : Level) (answer : Answer) → answer ≡ answers.Noted → IsAnsweredOver at c (ask.Lower resource level) answer later → FitsTaken at c (ask.Lower resource level) answer None later
  lowered-by resource level answer is =
      subst (λ (a : Answer). IsAnsweredOver at c (ask.Lower resource level) a later → FitsTaken at c (ask.Lower resource level) a None later) (sym is) (lowered at c later resource level)

  taken-shown : (asked : Ask) (answer : Answer) (image : List ℕ) (shown : Option Page) → IsAnsweredOver at c asked answer later → IsSupposed at c asked answer image → WasShown c.shape asked answer image shown
      → FitsTaken at c asked answer shown later
  taken-shown (ask.Enter buffers name) answer image shown s supposed was = absurd supposed
  taken-shown ask.Leave answer image shown s supposed was = absurd supposed
  taken-shown (ask.Lock resource level wait word) answer image shown s supposed was = unshown (ask.Lock resource level wait word) answer shown was (locked at c later resource level wait word answer s)
  taken-shown ask.Look answer image shown s supposed was = unshown ask.Look answer shown was (looked_at at c later answer supposed s)
  taken-shown ask.Withdraw answer image shown s supposed was = unshown ask.Withdraw answer shown was (withdrawn at c later answer supposed.0 supposed.1 s)
  taken-shown (ask.Lower resource level) answer image shown s supposed was = unshown (ask.Lower resource level) answer shown was (lowered-by resource level answer s.step.tells s)
  taken-shown (ask.Read page) (answers.PageIs length) image shown s supposed was = read-image page length image shown supposed was s
  taken-shown (ask.Read page) answers.ReadFault image shown s supposed was = unshown (ask.Read page) answers.ReadFault shown was (read-failed at c later page s)
  taken-shown (ask.Read page) answer image shown s supposed was = absurd (read-answer answer s.step.tells.0 s.step.tells.1 s.step.tells.2)
  taken-shown (ask.Write page cause) answers.Written image shown s supposed was = unshown (ask.Write page cause) answers.Written shown was (written at c later page cause s)
  taken-shown (ask.Write page cause) answers.WriteFault image shown s supposed was = absurd supposed
  taken-shown (ask.Write page cause) answer image shown s supposed was = absurd (write-answer answer s.step.tells.0 s.step.tells.1)
  taken-shown (ask.Poll above) answer image shown s supposed was = unshown (ask.Poll above) answer shown was (bystander at c later (ask.Poll above) answer tt s)
  taken-shown ask.Least answer image shown s supposed was = unshown ask.Least answer shown was (bystander at c later ask.Least answer tt s)
  taken-shown (ask.Note reply) answer image shown s supposed was = unshown (ask.Note reply) answer shown was (bystander at c later (ask.Note reply) answer tt s)

  pub taken-any : (asked : Ask) (answer : Answer) (image : List ℕ) (after : CacheState) → IsAnsweredOver at c asked answer later → IsSupposed at c asked answer image → Takes c after asked answer image
      → FitsAfter at.shape at.file later at.who after
  taken-any asked answer image after s supposed takes =
      subst (λ (x : CacheState). FitsAfter at.shape at.file later at.who x) (sym takes.is_after) (taken-shown asked answer image takes.shown s supposed takes.was_shown)
