-- The buffer of a pinned page through each answer.
use Rattle.std.proofs.Common.{◌≡◌, ℕ, ◌==◌, Bool, true, false, not, ◌&&◌, ◌||◌, if◌then◌else◌, Option, Some, None, IfSome, refl, subst, arith}
use Rattle.std.specs.Option.{option_map_or}
use Rattle.fbc_kinds.specs.declared.pages.Page.{Page}
use Rattle.fbc_levels.specs.declared.levels.Level.{Level}
use Rattle.fbc_levels.specs.declared.levels.Level.TheVariants.{Ex, Free, Null, Pr, Pw, Sr, Sw}
use Rattle.fbc_world.specs.declared.answers.Answer.{Answer}
use Rattle.fbc_world.specs.declared.answers.Answer.TheVariants as answers
use Rattle.fbc_world.specs.declared.asks.Ask.{Ask}
use Rattle.fbc_world.specs.declared.asks.Ask.TheVariants as ask
use Rattle.fbc_buffers.specs.declared.buffers.Buffer.{Buffer}
use Rattle.fbc_buffers.specs.Holding.{buffer_of, granted_buffer, is_waiting, waiting_buffer}
use Rattle.fbc_cache.specs.Cache.{CacheState, IsBuffer, IsCache, level_in}
use Rattle.fbc_cache.specs.Takes.{after_due, after_lock, after_look, after_lowering, after_take, after_withdrawal, after_write}
use Rattle.fbc_cache.specs.Wants.{is_due, is_idle, is_lowering_due, is_page_series, is_part}
use Rattle.fbc_precedence.specs.Search.{is_blocked}
use Rattle.fbc_cache.proofs.Headers.{is_buffer-found}
use Rattle.fbc_cache.proofs.PinnedBuffers.{IsPinnedAs, filtered, given-up, granted, lowered, not-idle, other-page, pushed, read, same, written}

module _ (c : CacheState) (page : ℕ) (b : Buffer) (is : IsCache c) (found : buffer_of c.held page ≡ Some b) (pinned : b.is_pinned ≡ true) where
  none-wanted : b.wanted ≡ None
  none-wanted = go (buffer_of c.held page) found (is_buffer-found c.shape c.held page is.buffers) where
    go : (at : Option Buffer) → at ≡ Some b → IfSome at (IsBuffer c.shape) → b.wanted ≡ None
    go None none known = absurd (cc)
    go (Some x) same known = let equal : x ≡ b = cc in (subst (IsBuffer c.shape) equal known).pinned pinned

  stays : IsPinnedAs b (buffer_of c.held page)
  stays = same c.held page b found pinned

  after-lock : (key : ℕ) (level : Level) (answer : Answer) → IsPinnedAs b (buffer_of (after_lock c key level answer).held page)
  after-lock key level answers.Granted = pushed c.held page b found pinned (granted_buffer key level)
  after-lock key level answers.Queued = pushed c.held page b found pinned (waiting_buffer key level)
  after-lock key level _ = stays

  after-look : (answer : Answer) → IsPinnedAs b (buffer_of (after_look c answer).held page)
  after-look answers.Granted = granted c.held page b found pinned none-wanted
  after-look _ = stays

  after-withdrawal : (answer : Answer) → IsPinnedAs b (buffer_of (after_withdrawal c answer).held page)
  after-withdrawal answers.Granted = granted c.held page b found pinned none-wanted
  after-withdrawal answers.Noted = filtered c.held page b found pinned (λ x. not (is_waiting x)) (rw none-wanted refl)
  after-withdrawal _ = stays

  after-write : (other : ℕ) (answer : Answer) → IsPinnedAs b (buffer_of (after_write c other answer).held page)
  after-write other answers.Written = written c.held page b found pinned other
  after-write other _ = stays

  first : (s t u v : Bool) → (s && not t && u && v) ≡ true → s ≡ true
  first s t u v all = grind (arith, all)

  after-lowering : (other : ℕ) (level : Level) → is_lowering_due c other level ≡ true → IsPinnedAs b (buffer_of (after_lowering c other level).held page)
  after-lowering other level due = go level where
    idle : option_map_or is_idle (buffer_of c.held other) false ≡ true
    idle = first (option_map_or is_idle (buffer_of c.held other) false) (is_blocked c.pairs other) _ (is_part level (level_in c.held other)) due

    differs : (other == page) ≡ false
    differs = other-page c.held page b found pinned is_idle other (not-idle c.held page b found pinned) idle

    go : (l : Level) → IsPinnedAs b (buffer_of (after_lowering c other l).held page)
    go Free = given-up c.held page b found pinned other differs
    go Null = lowered c.held page b found pinned other Null differs
    go Sr = lowered c.held page b found pinned other Sr differs
    go Pr = lowered c.held page b found pinned other Pr differs
    go Sw = lowered c.held page b found pinned other Sw differs
    go Pw = lowered c.held page b found pinned other Pw differs
    go Ex = lowered c.held page b found pinned other Ex differs

  after-due : (asked : Ask) (answer : Answer) (shown : Option Page) → is_due c asked ≡ true → IsPinnedAs b (buffer_of (after_due c asked answer shown).held page)
  after-due (ask.Lock r level wait word) answer shown due = go (is_page_series r) where
    go : (t : Bool) → IsPinnedAs b (buffer_of (if t then after_lock c r.key level answer else c).held page)
    go true = after-lock r.key level answer
    go false = stays
  after-due (ask.Lower r level) answer shown due = go (is_page_series r) refl due where
    go : (t : Bool) → is_page_series r ≡ t → (not t || is_lowering_due c r.key level) ≡ true → IsPinnedAs b (buffer_of (if t then after_lowering c r.key level else c).held page)
    go true _ due' = after-lowering r.key level due'
    go false _ due' = stays
  after-due ask.Look answer shown due = after-look answer
  after-due ask.Withdraw answer shown due = after-withdrawal answer
  after-due (ask.Read other) answer shown due = read c.held page b found pinned other shown due
  after-due (ask.Write other cause) answer shown due = after-write other answer
  after-due _ answer shown due = stays

  pub after-answer : (asked : Ask) (answer : Answer) (shown : Option Page) → IsPinnedAs b (buffer_of (after_take c asked answer shown).held page)
  after-answer asked answer shown = go (is_due c asked) refl where
    go : (t : Bool) → is_due c asked ≡ t → IsPinnedAs b (buffer_of (if t then after_due c asked answer shown else c).held page)
    go true due = after-due asked answer shown due
    go false _ = stays

-- A pinned page has a buffer.
pub record HasPin (found : Option Buffer) : Type 0 where
  pub buffer : Buffer
  pub is : found ≡ Some buffer
  pub pinned : buffer.is_pinned ≡ true

pub has-pin : (found : Option Buffer) → option_map_or (λ (b : Buffer). b.is_pinned) found false ≡ true → HasPin found
has-pin None pinned = absurd (cc)
has-pin (Some b) pinned = record { buffer = b; is = refl; pinned = pinned }
