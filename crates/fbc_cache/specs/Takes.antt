-- The cache after the answer to an ask.
use Rattle.std.specs.Prelude.{◌≡◌, ℕ, false, not, if◌then◌else◌, List, [], ◌∷◌, ◌++◌, Option, Some, None, Result, Ok, Err, map}
use Rattle.std.specs.List.{filter}
use Rattle.fbc_kinds.specs.declared.pages.Page.{Page}
use Rattle.fbc_kinds.specs.declared.rules.Rule.{Rule}
use Rattle.fbc_kinds.specs.declared.shapes.Shape.{Shape}
use Rattle.fbc_kinds.specs.File.{ShowsPage}
use Rattle.fbc_kinds.specs.Spelling.{first_broken_rule}
use Rattle.fbc_levels.specs.declared.levels.Level.{Level}
use Rattle.fbc_levels.specs.declared.levels.Level.TheVariants.{Free}
use Rattle.fbc_precedence.specs.Precedence.{is_without}
use Rattle.fbc_world.specs.declared.answers.Answer.{Answer}
use Rattle.fbc_world.specs.declared.answers.Answer.TheVariants as answers
use Rattle.fbc_world.specs.declared.asks.Ask.{Ask}
use Rattle.fbc_world.specs.declared.asks.Ask.TheVariants as ask
use Rattle.fbc_buffers.specs.Holding.{granted_buffer, granted_wait, is_waiting, waiting_buffer, with_blocking, with_copy, with_dirt, with_level, without}
use Rattle.fbc_cache.specs.declared.faults.CacheFault.{CacheFault}
use Rattle.fbc_cache.specs.declared.faults.CacheFault.TheVariants.{Damaged, Memory}
use Rattle.fbc_cache.specs.Cache.{CacheState}
use Rattle.fbc_cache.specs.Remembered.{remembered_after}
use Rattle.fbc_cache.specs.Wants.{is_due, is_page_series}

-- A lock on a page is granted, or waited for: its buffer is the last. Every other answer leaves the cache.
abbrev pub after_lock : CacheState → ℕ → Level → Answer → CacheState
after_lock c page level answers.Granted = record c { held = c.held ++ granted_buffer page level ∷ [] }
after_lock c page level answers.Queued = record c { held = c.held ++ waiting_buffer page level ∷ [] }
after_lock c page level _ = c

-- What is waited for is granted, as a look tells.
abbrev pub after_look : CacheState → Answer → CacheState
after_look c answers.Granted = record c { held = map granted_wait c.held }
after_look c _ = c

-- Nothing is waited for any more, or it was granted before.
abbrev pub after_withdrawal : CacheState → Answer → CacheState
after_withdrawal c answers.Noted = record c { held = filter (λ b. not (is_waiting b)) c.held }
after_withdrawal c answers.Granted = record c { held = map granted_wait c.held }
after_withdrawal c _ = c

-- A page is given up, or held in a lower level.
abbrev pub after_lowering : CacheState → ℕ → Level → CacheState
after_lowering c page Free = record c { held = without page c.held }
after_lowering c page level = record c { held = map (with_blocking page false) (map (with_level page level) c.held) }

-- A page was read, and its bytes show this page, or none.
abbrev pub after_read : CacheState → ℕ → Option Page → CacheState
after_read c page shown = record c { held = map (with_copy page shown) c.held; pointers = remembered_after page shown c.pointers }

-- A page is written: it is clean, and its pairs end.
abbrev pub after_write : CacheState → ℕ → Answer → CacheState
after_write c page answers.Written = record c { held = map (with_dirt page false) c.held; pairs = filter (is_without page) c.pairs }
after_write c page _ = c

-- After the answer to a step that is due.
abbrev pub after_due : CacheState → Ask → Answer → Option Page → CacheState
after_due c (ask.Lock r level wait word) answer shown = if is_page_series r then after_lock c r.key level answer else c
after_due c ask.Look answer shown = after_look c answer
after_due c ask.Withdraw answer shown = after_withdrawal c answer
after_due c (ask.Lower r level) answer shown = if is_page_series r then after_lowering c r.key level else c
after_due c (ask.Read page) answer shown = after_read c page shown
after_due c (ask.Write page cause) answer shown = after_write c page answer
after_due c _ answer shown = c

-- A step that is not due leaves the cache.
abbrev pub after_take : CacheState → Ask → Answer → Option Page → CacheState
after_take c asked answer shown = if is_due c asked then after_due c asked answer shown else c

-- The page that was read: what the bytes show, or none.
abbrev pub IsShown : Shape → ℕ → List ℕ → Option Page → Type 0
IsShown shape page bytes (Some content) = ShowsPage shape page bytes content
IsShown shape page bytes None = ⊥

abbrev pub WasShown : Shape → Ask → Answer → List ℕ → Option Page → Type 0
WasShown shape (ask.Read page) (answers.PageIs length) bytes shown = IsShown shape page bytes shown
WasShown shape asked answer bytes shown = shown ≡ None

-- The answer is taken.
pub record Takes (before after : CacheState) (asked : Ask) (answer : Answer) (bytes : List ℕ) : Type 0 where
  pub shown : Option Page
  pub was_shown : WasShown before.shape asked answer bytes shown
  pub is_after : after ≡ after_take before asked answer shown

-- The rule that the bytes of a page that was read break.
abbrev pub broken_by : Shape → Ask → Answer → List ℕ → Option Rule
broken_by shape (ask.Read page) (answers.PageIs length) bytes = first_broken_rule shape page bytes
broken_by shape asked answer bytes = None

-- The page that an ask reads.
abbrev pub page_read : Ask → ℕ
page_read (ask.Read page) = page
page_read _ = 0

-- An answer is taken where the bytes break no rule. Damage names the page and the first rule that they break.
abbrev pub Judges : {X : Type 0} → Result X CacheFault → ℕ → Option Rule → Type 0
Judges (Ok done) page broken = broken ≡ None
Judges (Err (Damaged damaged rule)) page broken = (damaged ≡ page) × (broken ≡ Some rule)
Judges (Err Memory) page broken = Unit {0}
