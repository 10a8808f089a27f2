-- The landings of a device in memory, one write on.
use Rattle.std.proofs.Common.{◌≡◌, ℕ, suc, ◌-◌, ◌^◌, ◌≤◌, List, [], Bool, Option, Some, None, Result, Ok, Err, OnOk, OnErr, refl, ap, ◌∙◌, sym, arith, inl, inr}
use Rattle.std.specs.Prelude.{is_some, is_err}
use Rattle.std.proofs.lemmas.Bool.{cases_lt, le-ltb}
use Rattle.fbc_outside.specs.declared.fault.CallKind.TheVariants.{Write}
use Rattle.fbc_outside.specs.declared.fault.Fail.{Fail}
use Rattle.fbc_outside.specs.Fails.{failure, landings_of, with_landing}
use Rattle.fbc_outside.specs.Faults.{bump}
use Rattle.fbc_outside.specs.Landings.{LandedOrNot}
use Rattle.fbc_outside.specs.Memory.{bytes_after}

-- Before the first write there are none.
pub landings_none : (fails : List Fail) → landings_of fails 0 ≡ []
unfolding landings_of
landings_none fails = refl

-- One write on.
landings_more : (fails : List Fail) (n : ℕ) → landings_of fails (suc n) ≡ with_landing (landings_of fails n) (failure fails Write n)
unfolding landings_of
landings_more fails n = refl

-- At the counter's end no call fails.
failure_at_end : (fails : List Fail) (n : ℕ) → 2 ^ 64 - 1 ≤ n → failure fails Write n ≡ None
failure_at_end fails n h = rw (le-ltb n (2 ^ 64 - 1) h)

-- The landings after one more write, also at the counter's end.
pub landings_next : (fails : List Fail) (n m : ℕ) → m ≡ bump n → landings_of fails m ≡ with_landing (landings_of fails n) (failure fails Write n)
landings_next fails n m e =
    elim (cases_lt n (2 ^ 64 - 1)) [
      | inl below ↦ (let next : m ≡ suc n = omega arith in ap (landings_of fails) next ∙ landings_more fails n)
      | inr at_end ↦
          (let same : m ≡ n = omega arith in
          ap (landings_of fails) same ∙ ap (with_landing (landings_of fails n)) (sym (failure_at_end fails n at_end)))
    ]

-- A write that is not answered Failed adds no landing.
pub none_added : {T E : Type 0} (result : Result T E) (failing : Option Bool) (before now : List Bool) → is_err result ≡ is_some failing → now ≡ with_landing before failing → OnOk result (now ≡ before)
none_added (Ok x) None before now listed l = l
none_added (Ok x) (Some landed) before now listed l = cc
none_added (Err e) failing before now listed l = tt

-- A write that is answered Failed adds its own, which says what stands after it.
pub one_added : {T E : Type 0} (result : Result T E) (failing : Option Bool) (bytes after : List ℕ) (before now : List Bool) (at : ℕ) (from : List ℕ) → is_err result ≡ is_some failing → after ≡ bytes_after failing at from bytes → now ≡ with_landing before failing → OnErr result (LandedOrNot (Some bytes) (Some after) before now at from)
one_added (Ok x) failing bytes after before now at from listed b l = tt
one_added (Err e) None bytes after before now at from listed b l = cc
one_added (Err e) (Some landed) bytes after before now at from listed b l = (landed, l, ap Some b)
