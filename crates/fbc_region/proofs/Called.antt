-- A callback stands where the owner keeps somebody out of a page.
use Rattle.std.proofs.Common.{◌≡◌, ◌↔◌, ℕ, Option, Some, None, MatchOption, IsTrue, IsSome, is_some, Bool, sym, subst, refl}
use Rattle.fbc_levels.specs.declared.resources.Callback.{Callback}
use Rattle.fbc_levels.specs.LockState.{LockState}
use Rattle.fbc_blocking.specs.Callbacks.{IsNextCallback, KeepsNobodyOut, blocked_by}

nobody_waits : (found : Option ℕ) → found ≡ None → IsSome found → ⊥
nobody_waits None none some = cc
nobody_waits (Some owner) none some = cc

no_callback : (s : LockState) (who : ℕ) → KeepsNobodyOut s who None → ((page : ℕ) × IsSome (blocked_by s who page)) → ⊥
no_callback s who keeps some = nobody_waits (blocked_by s who some.0) (keeps some.0 tt) some.1

pub is_called : (s : LockState) (who : ℕ) (found : Option Callback) → MatchOption found (KeepsNobodyOut s who None) (IsNextCallback s who None)
    → IsTrue (is_some found) ↔ ((page : ℕ) × IsSome (blocked_by s who page))
is_called s who None keeps = (λ is. absurd cc, λ some. absurd (no_callback s who keeps some))
is_called s who (Some callback) next = (λ is. (callback.page, next.page.blocks), λ some. refl)

-- The same of a table that is known by another name.
pub is_called_by : (table s : LockState) → table ≡ s → (who : ℕ) (found : Option Callback) → MatchOption found (KeepsNobodyOut table who None) (IsNextCallback table who None)
    → (called : Bool) → called ≡ is_some found → IsTrue called ↔ ((page : ℕ) × IsSome (blocked_by s who page))
is_called_by table s same who found next called is =
    subst (λ t. IsTrue called ↔ ((page : ℕ) × IsSome (blocked_by t who page))) same (subst (λ b. IsTrue b ↔ ((page : ℕ) × IsSome (blocked_by table who page))) (sym is) (is_called table who found next))
