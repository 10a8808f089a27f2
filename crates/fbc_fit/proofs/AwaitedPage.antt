-- An owner that waits for a page waits for the one whose buffer waits.
use Rattle.std.proofs.Common.{◌≡◌, ◌∙◌, inl, inr, ℕ, ◌≤◌, Bool, true, false, ◌==◌, cond, List, [], ◌∷◌, length, get_or, Option, Some, None, IfSome, is_some, refl, sym, subst, arith}
use Rattle.std.proofs.lemmas.Bool.Decides.{nat_tests}
use Rattle.std.proofs.lemmas.List.Elements.{All-head, All-tail}
use Rattle.std.specs.List.{All, AllByRecursion, filter, find}
use Rattle.fbc_kinds.specs.declared.shapes.Shape.{Shape}
use Rattle.fbc_levels.specs.declared.levels.Level.{Level}
use Rattle.fbc_levels.specs.declared.levels.Level.TheVariants.{Free}
use Rattle.fbc_levels.specs.declared.resources.Request.{Request}
use Rattle.fbc_levels.specs.LockState.{is_of, is_wait_of, request_of, wait_of}
use Rattle.fbc_lock_table.specs.Effects.{is_bare_wait_of}
use Rattle.fbc_lock_table.proofs.Pairs.{find-only}
use Rattle.fbc_world.specs.Holdings.{is_page_request_of}
use Rattle.fbc_levels.specs.Resources.{page_resource}
use Rattle.fbc_world.specs.World.{World}
use Rattle.fbc_world.proofs.Apart.{once}
use Rattle.fbc_world.proofs.Found.{find_passes}
use Rattle.fbc_legal.proofs.Exclusion.{AreRequestsTrue}
use Rattle.fbc_buffers.specs.declared.buffers.Buffer.{Buffer}
use Rattle.fbc_buffers.specs.Holding.{buffer_of, is_waiting}
use Rattle.fbc_cache.specs.Cache.{IsBuffer}
use Rattle.fbc_cache.specs.Wants.{is_page_series}
use Rattle.fbc_cache.proofs.HeldPairs.{found-is}
use Rattle.fbc_fit.specs.Fit.{FitsPage, ShowsBuffer}
use Rattle.fbc_fit.proofs.Covering.{own_key}
use Rattle.fbc_fit.proofs.WaitingBuffers.{bare-level, is_awaited, one-waits}

-- What is found is among all.
found-all : {X : Type 0} (p : X → Bool) (P : X → Type 0) (xs : List X) → All P xs → (x : X) → find p xs ≡ Some x → P x
found-all p P [] all x found = absurd (cc)
found-all {X} p P (y ∷ ys) all x found = go (p y) found (found-all p P ys (All-tail P y ys all) x) where
  go : (t : Bool) → cond t (Some y) (find p ys) ≡ Some x → (find p ys ≡ Some x → P x) → P x
  go true is rest = let same : y ≡ x = cc in subst P same (All-head P y ys all)
  go false is rest = rest is

-- The buffer of a request that waits, and of one that does not.
shows-waiting : (granted : Level) (r : Request) (found : Option Buffer) → ShowsBuffer granted (Some r) found → is_some r.waiting ≡ true → is_awaited found ≡ true
shows-waiting granted r None shows waits = absurd shows
shows-waiting granted r (Some b) (inl same) waits = rw same.1 at waits
shows-waiting granted r (Some b) (inr late) waits = absurd (let no : false ≡ true = rw late.1 at waits in cc)

pub shows-idle : (granted : Level) (r : Request) (found : Option Buffer) → ShowsBuffer granted (Some r) found → is_awaited found ≡ false → is_some r.waiting ≡ false
shows-idle granted r None shows idle = absurd shows
shows-idle granted r (Some b) (inl same) idle = rw same.1 idle
shows-idle granted r (Some b) (inr late) idle = rw late.1 refl

-- What is waited for is not granted yet.
shows-bare : (shape : Shape) (granted : Level) (r : Request) (found : Option Buffer) → IfSome found (IsBuffer shape) → ShowsBuffer granted (Some r) found → is_some r.waiting ≡ true → granted ≡ Free
shows-bare shape granted r None is shows waits = absurd shows
shows-bare shape granted r (Some b) is (inl same) waits = same.0 ∙ bare-level b.level b.wanted is.level (rw same.1 at waits)
shows-bare shape granted r (Some b) is (inr late) waits = absurd (let no : false ≡ true = rw late.1 at waits in cc)

module _ (shape : Shape) (w : World) (owner : ℕ) (wait : Request) (held : List Buffer) (waiting : wait_of w.locks owner ≡ Some wait) (of_page : is_page_series wait.resource ≡ true) (t : AreRequestsTrue w)
    (one : length (filter is_waiting held) ≤ 1) (buffers : AllByRecursion (IsBuffer shape) held) (pages : (number : ℕ) → FitsPage w owner held number) where
  abbrev pub page : ℕ
  page = wait.resource.key

  -- Each request for a page is found under its page.
  pub found-own : All (λ (r : Request). is_page_request_of owner r ≡ true → request_of w.locks owner (page_resource r.resource.key) ≡ Some r) w.locks.requests
  found-own i d within is =
      let r = get_or w.locks.requests i d in
      find-only (is_of owner (page_resource r.resource.key)) w.locks.requests (once owner (page_resource r.resource.key) w.locks.requests t.apart) i d within (own_key owner r is)

  passes : is_wait_of owner wait ≡ true
  passes = find_passes (is_wait_of owner) w.locks.requests wait waiting

  found-wait : request_of w.locks owner (page_resource page) ≡ Some wait
  found-wait =
      found-all (is_wait_of owner) (λ (r : Request). is_page_request_of owner r ≡ true → request_of w.locks owner (page_resource r.resource.key) ≡ Some r) w.locks.requests found-own wait waiting
      (grind (arith, passes, of_page))

  waits : is_some wait.waiting ≡ true
  waits = grind (arith, passes)

  shows-wait : ShowsBuffer (w.granted owner (page_resource page)) (Some wait) (buffer_of held page)
  shows-wait = subst (λ (r : Option Request). ShowsBuffer (w.granted owner (page_resource page)) r (buffer_of held page)) found-wait (pages page).lock

  pub awaited-here : is_awaited (buffer_of held page) ≡ true
  awaited-here = shows-waiting _ wait (buffer_of held page) shows-wait waits

  pub awaited-is : (number : ℕ) → is_awaited (buffer_of held number) ≡ (number == page)
  awaited-is number = go (is_awaited (buffer_of held number)) refl (number == page) refl where
    go : (s : Bool) → is_awaited (buffer_of held number) ≡ s → (b : Bool) → number == page ≡ b → s ≡ b
    go true is true same = refl
    go true is false other = absurd (let same = one-waits held one number page is awaited-here in grind (arith, nat_tests, same, other))
    go false is false other = refl
    go false is true same =
        let at : page ≡ number = grind (arith, nat_tests, same) in
        absurd (let no : true ≡ false = sym (subst (λ n. is_awaited (buffer_of held n) ≡ true) at awaited-here) ∙ is in cc)

  pub free-here : w.granted owner (page_resource page) ≡ Free
  free-here = shows-bare shape _ wait (buffer_of held page) (found-is (IsBuffer shape) held page buffers) shows-wait waits

  -- Its request is the one that is bare.
  bare-here : is_bare_wait_of owner wait ≡ true
  bare-here =
      let agrees : wait.granted ≡ Free = rw found-wait at (t.agrees owner (page_resource page) ∙ free-here) in
      grind (arith, passes, agrees)

  pub idle-there : (number : ℕ) (r : Request) → request_of w.locks owner (page_resource number) ≡ Some r → number == page ≡ false → is_some r.waiting ≡ false
  idle-there number r found other =
      shows-idle _ r (buffer_of held number) (subst (λ (x : Option Request). ShowsBuffer (w.granted owner (page_resource number)) x (buffer_of held number)) found (pages number).lock) (awaited-is number ∙ other)

  pub bare-is : (number : ℕ) (r : Request) → request_of w.locks owner (page_resource number) ≡ Some r → is_bare_wait_of owner r ≡ (number == page)
  bare-is number r found = go (number == page) refl where
    go : (same : Bool) → number == page ≡ same → is_bare_wait_of owner r ≡ same
    go true is =
        let at : page ≡ number = grind (arith, nat_tests, is) in
        let found' : request_of w.locks owner (page_resource number) ≡ Some wait = subst (λ n. request_of w.locks owner (page_resource n) ≡ Some wait) at found-wait in
        let same : Some wait ≡ Some r = sym found' ∙ found in
        let its : wait ≡ r = cc in
        subst (λ (x : Request). is_bare_wait_of owner x ≡ true) its bare-here
    go false other = grind (arith, idle-there number r found other)
