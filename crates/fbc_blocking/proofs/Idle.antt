-- Where no request waits, the owner keeps nobody out.
use Rattle.std.proofs.Common.{◌≡◌, ℕ, ◌+◌, Bool, true, false, cond, List, [], ◌∷◌, Option, Some, None, is_some, refl, sym, ◌∙◌, ap, arith}
use Rattle.std.specs.List.{find}
use Rattle.std.specs.Option.{option_map}
use Rattle.std.proofs.lemmas.List.Sums.{sum_by-cons}
use Rattle.std.proofs.lemmas.Bool.{and_right}
use Rattle.fbc_levels.specs.declared.levels.Level.{Level}
use Rattle.fbc_levels.specs.declared.resources.Request.{Request}
use Rattle.fbc_levels.specs.LockState.{LockState, granted_of}
use Rattle.fbc_lock_table.specs.Waiters.{is_waiting, waiting_of, waiters}
use Rattle.fbc_blocking.specs.Callbacks.{is_against, is_kept_out, is_of_other, page_of, KeepsNobodyOut}

-- What does not wait is not kept out.
not_kept : (owner page : ℕ) (held : Level) (r : Request) → is_waiting r ≡ false → is_kept_out owner page held r ≡ false
not_kept owner page held r idle = and_right (is_of_other owner page r) _ (none r.waiting idle) where
  none : (waiting : Option Level) → is_some waiting ≡ false → is_against held (record r { waiting = waiting }) ≡ false
  none None is = refl
  none (Some level) is = absurd (cc)

-- What a request adds to the number of those that wait.
abbrev one : Request → ℕ
one r = cond (is_waiting r) 1 0

-- None of the requests is kept out.
none_kept : (owner page : ℕ) (held : Level) (rs : List Request) → waiting_of rs ≡ 0 → find (is_kept_out owner page held) rs ≡ None
none_kept owner page held [] idle = refl
none_kept owner page held (r ∷ rs) idle = step (is_waiting r) refl (none_kept owner page held rs) where
  count : one r + waiting_of rs ≡ 0
  count = sym (sum_by-cons one r rs) ∙ idle

  step : (b : Bool) → is_waiting r ≡ b → (waiting_of rs ≡ 0 → find (is_kept_out owner page held) rs ≡ None) → find (is_kept_out owner page held) (r ∷ rs) ≡ None
  step true is rest =
      let here : one r ≡ 1 = ap (λ b. cond b 1 0) is in
      absurd (omega (arith, count, here))
  step false is rest = rw (not_kept owner page held r is) (rest (omega (arith, count)))

pub none_waits : (s : LockState) (owner : ℕ) (above : Option ℕ) → waiters s ≡ 0 → KeepsNobodyOut s owner above
none_waits s owner above idle page past =
    ap (option_map (λ (r : Request). r.owner)) (none_kept owner page (granted_of s owner (page_of page)) s.requests idle)
