-- What is true of a page whose lowering is due.
use Rattle.std.proofs.Common.{◌≡◌, ℕ, Bool, true, false, not, ◌&&◌, ◌||◌, ◌==◌, List, Option, Some, None, is_none, is_some, refl, subst, arith}
use Rattle.std.proofs.lemmas.Bool.Decides.{nat_tests}
use Rattle.std.specs.Option.{option_map_or}
use Rattle.fbc_levels.specs.declared.levels.Level.{Level}
use Rattle.fbc_levels.specs.Levels.{is_free, is_page_level}
use Rattle.fbc_buffers.specs.declared.buffers.Buffer.{Buffer}
use Rattle.fbc_buffers.specs.Holding.{buffer_of}
use Rattle.fbc_cache.specs.Cache.{CacheState, level_in}
use Rattle.fbc_cache.specs.Wants.{is_idle, is_lowering_due, is_part}
use Rattle.fbc_precedence.specs.Search.{is_blocked}

-- The buffer is there, is clean and is not in use.
abbrev pub IsIdle : Option Buffer → Type 0
IsIdle found = option_map_or is_idle found false ≡ true

pub idle-there : (found : Option Buffer) → IsIdle found → is_some found ≡ true
idle-there None idle = absurd (cc)
idle-there (Some b) idle = refl

pub idle-clean : (found : Option Buffer) → IsIdle found → option_map_or (λ (b : Buffer). b.is_dirty) found false ≡ false
idle-clean None idle = absurd (cc)
idle-clean (Some b) idle = grind (arith, idle)

pub idle-loose : (found : Option Buffer) → IsIdle found → option_map_or (λ (b : Buffer). b.is_pinned) found false ≡ false
idle-loose None idle = absurd (cc)
idle-loose (Some b) idle = grind (arith, idle)

pub idle-granted : (found : Option Buffer) → IsIdle found → option_map_or (λ (b : Buffer). is_none b.wanted) found false ≡ true
idle-granted None idle = absurd (cc)
idle-granted (Some b) idle = grind (arith, idle)

-- It waits for nothing.
pub idle-learnt : (b : Buffer) (level : Level) → IsIdle (Some b) → b.wanted ≡ Some level → ⊥
idle-learnt b level idle waits = grind (arith, idle, waits)

-- The page under another number that is the same.
pub same-idle : (held : List Buffer) (page number : ℕ) → page == number ≡ true → IsIdle (buffer_of held page) → IsIdle (buffer_of held number)
same-idle held page number is idle =
    let same : page ≡ number = grind (arith, nat_tests, is) in
    subst (λ n. IsIdle (buffer_of held n)) same idle

pub due-idle : (c : CacheState) (page : ℕ) (level : Level) → is_lowering_due c page level ≡ true → IsIdle (buffer_of c.held page)
due-idle c page level due = first (option_map_or is_idle (buffer_of c.held page) false) (is_blocked c.pairs page) (is_free level || is_page_level level) (is_part level (level_in c.held page)) due where
  first : (s t u v : Bool) → (s && not t && u && v) ≡ true → s ≡ true
  first s t u v all = grind (arith, all)
