-- What a buffer shows after its page is held in a lower level.
use Rattle.std.proofs.Common.{◌≡◌, ◌∙◌, inl, inr, ℕ, Bool, true, false, ◌==◌, if◌then◌else◌, Option, Some, None, IfSome, refl, sym, subst, arith}
use Rattle.std.proofs.lemmas.Bool.Decides.{nat_tests}
use Rattle.std.specs.Option.{option_map}
use Rattle.fbc_kinds.specs.declared.pages.Page.{Page}
use Rattle.fbc_levels.specs.declared.levels.Level.{Level}
use Rattle.fbc_levels.specs.declared.resources.Request.{Request}
use Rattle.fbc_lock_table.specs.Effects.{with_granted}
use Rattle.fbc_levels.specs.Resources.{page_resource}
use Rattle.fbc_buffers.specs.declared.buffers.Buffer.{Buffer}
use Rattle.fbc_buffers.specs.Holding.{is_of as is_buffer_of, with_blocking, with_level}
use Rattle.fbc_fit.specs.Fit.{ShowsBuffer}
use Rattle.fbc_fit.proofs.Idle.{IsIdle, idle-learnt}
use Rattle.fbc_fit.proofs.Shown.{Shows, shows-request}

-- The buffer of the page, and one of another page.
abbrev pub lowered : ℕ → Level → Buffer → Buffer
lowered page level b = with_blocking page false (with_level page level b)

lowered-here : (page : ℕ) (level : Level) (b : Buffer) → is_buffer_of page b ≡ true → lowered page level b ≡ record b { level = level; is_blocking = false }
lowered-here page level b here = grind (arith, nat_tests, here)

lowered-there : (page : ℕ) (level : Level) (b : Buffer) → is_buffer_of page b ≡ false → lowered page level b ≡ b
lowered-there page level b there = grind (arith, nat_tests, there)

pub lowered-both : (page : ℕ) (level : Level) (found : Option Buffer) → option_map (with_blocking page false) (option_map (with_level page level) found) ≡ option_map (lowered page level) found
lowered-both page level None = refl
lowered-both page level (Some b) = refl

module _ (owner page : ℕ) (level : Level) where
  abbrev pub lowered_request : Request → Request
  lowered_request = with_granted owner (page_resource page) level

  other_lock : (granted : Level) (asked : Option Request) (found : Option Buffer) → ShowsBuffer granted asked found → ShowsBuffer granted (option_map lowered_request asked) found
  other_lock granted None found shows = shows
  other_lock granted (Some r) found shows = shows-request r (lowered_request r) refl granted found shows

  own_lock : (granted : Level) (asked : Option Request) (b after : Buffer) → after.level ≡ level → after.wanted ≡ b.wanted → IsIdle (Some b) → ShowsBuffer granted asked (Some b) → ShowsBuffer level (option_map lowered_request asked) (Some after)
  own_lock granted None b after is waits idle shows = absurd shows
  own_lock granted (Some r) b after is waits idle (inl lock) = inl (sym is, lock.1 ∙ sym waits)
  own_lock granted (Some r) b after is waits idle (inr late) = absurd (idle-learnt b granted idle late.0)

  pub shows-lowered : (number : ℕ) (same : Bool) → page == number ≡ same → (found : Option Buffer) → IfSome found (λ b. b.page ≡ number) → (same ≡ true → IsIdle found)
      → (granted : Level) (asked : Option Request) (copied : Option Page) (drafted pinned : Bool) → Shows granted asked copied drafted pinned found
      → Shows (if same then level else granted) (option_map lowered_request asked) copied drafted pinned (option_map (lowered page level) found)
  shows-lowered number true is None of idle granted asked copied drafted pinned shows = absurd (let no : false ≡ true = idle refl in cc)
  shows-lowered number true is (Some b) of idle granted asked copied drafted pinned shows =
      let here : is_buffer_of page b ≡ true = grind (arith, nat_tests, is, of) in
      subst (λ (x : Buffer). Shows level (option_map lowered_request asked) copied drafted pinned (Some x)) (sym (lowered-here page level b here))
      (record { lock = own_lock granted asked b (record b { level = level; is_blocking = false }) refl refl (idle refl) shows.lock; copy = shows.copy; draft = shows.draft; pin = shows.pin })
  shows-lowered number false is None of idle granted asked copied drafted pinned shows =
      record { lock = other_lock granted asked None shows.lock; copy = shows.copy; draft = shows.draft; pin = shows.pin }
  shows-lowered number false is (Some b) of idle granted asked copied drafted pinned shows =
      let there : is_buffer_of page b ≡ false = grind (arith, nat_tests, is, of) in
      subst (λ (x : Buffer). Shows granted (option_map lowered_request asked) copied drafted pinned (Some x)) (sym (lowered-there page level b there))
      (record { lock = other_lock granted asked (Some b) shows.lock; copy = shows.copy; draft = shows.draft; pin = shows.pin })
