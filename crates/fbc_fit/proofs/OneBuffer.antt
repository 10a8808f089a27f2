-- A page that has a buffer has one alone, where each page that is asked for has one, and there are as many buffers as requests.
use Rattle.std.proofs.Common.{◌≡◌, ◌∙◌, ℕ, suc, ◌<◌, Bool, true, false, not, ◌==◌, if◌then◌else◌, cond, List, [], ◌∷◌, length, Option, Some, None, is_some, refl, sym, arith}
use Rattle.std.proofs.lemmas.Bool.Decides.{nat_tests}
use Rattle.std.proofs.lemmas.Grind.{common_steps}
use Rattle.std.proofs.lemmas.List.Kept.{AllPairs-filter}
use Rattle.std.specs.List.{filter, find}
use Rattle.fbc_levels.specs.declared.resources.Request.{Request}
use Rattle.fbc_levels.specs.LockState.{AreApart, is_of, request_of}
use Rattle.fbc_world.specs.Holdings.{is_page_request_of}
use Rattle.fbc_levels.specs.Resources.{page_resource}
use Rattle.fbc_world.specs.World.{World}
use Rattle.fbc_world.proofs.Apart.{IsApart, once}
use Rattle.fbc_world.proofs.Found.{find_filter-all, find_filter-none}
use Rattle.fbc_buffers.specs.declared.buffers.Buffer.{Buffer}
use Rattle.fbc_buffers.specs.Holding.{buffer_of, is_of as is_buffer_of, without}
use Rattle.fbc_buffers.proofs.Found.{buffer_of-filter, buffer_of-without}
use Rattle.fbc_fit.specs.Fit.{FitsPage}
use Rattle.fbc_fit.proofs.Counts.{one_less}
use Rattle.fbc_fit.proofs.Covering.{Covers, asked_few, fewer_buffers}
use Rattle.fbc_fit.proofs.Shown.{buffer-asked}

module _ (w : World) (owner page : ℕ) (held : List Buffer) (there : is_some (buffer_of held page) ≡ true) (apart : IsApart w.locks)
    (pages : (number : ℕ) → FitsPage w owner held number) (count : length held ≡ length (filter (is_page_request_of owner) w.locks.requests)) where
  abbrev pub stays : Request → Bool
  stays r = not (is_of owner (page_resource page) r)

  pub asked-without : (number : ℕ) → find (is_of owner (page_resource number)) (filter stays w.locks.requests) ≡ (if page == number then None else request_of w.locks owner (page_resource number))
  asked-without number = go (page == number) refl where
    stays_if : (r : Request) (same : Bool) → page == number ≡ same → is_of owner (page_resource number) r ≡ true → stays r ≡ not same
    stays_if r same is passes = grind (arith, nat_tests, is, passes)

    go : (same : Bool) → page == number ≡ same → find (is_of owner (page_resource number)) (filter stays w.locks.requests) ≡ (if same then None else request_of w.locks owner (page_resource number))
    go true is = find_filter-none (is_of owner (page_resource number)) stays (λ r. stays_if r true is) w.locks.requests
    go false is = find_filter-all (is_of owner (page_resource number)) stays (λ r. stays_if r false is) w.locks.requests

  -- Each page that is asked for still has its buffer.
  covered : Covers owner (without page held) (filter stays w.locks.requests)
  covered number asked = rw (buffer_of-without page held number) (go (page == number) (rw (asked-without number) at asked)) where
    go : (same : Bool) → is_some (if same then None else request_of w.locks owner (page_resource number)) ≡ true → is_some (if same then None else buffer_of held number) ≡ true
    go true asked' = absurd (cc)
    go false asked' = buffer-asked _ _ (buffer_of held number) (pages number).lock ∙ asked'

  asked_there : is_some (request_of w.locks owner (page_resource page)) ≡ true
  asked_there = sym (buffer-asked _ _ (buffer_of held page) (pages page).lock) ∙ there

  -- One request less is left, and one buffer.
  pub one-asked : length (filter (is_page_request_of owner) w.locks.requests) ≡ suc (length (filter (is_page_request_of owner) (filter stays w.locks.requests)))
  one-asked = one_less (is_page_request_of owner) (is_of owner (page_resource page)) (λ r is. grind (arith, nat_tests, is)) w.locks.requests (once owner (page_resource page) w.locks.requests apart) asked_there

  pub count-without : length (without page held) ≡ length (filter (is_page_request_of owner) (filter stays w.locks.requests))
  count-without =
      let few = asked_few owner (filter stays w.locks.requests) (without page held) (AllPairs-filter AreApart stays w.locks.requests apart) covered in
      let fewer = fewer_buffers page held there in
      omega (arith, few, fewer, one-asked, count)

  pub one-buffer : length held ≡ suc (length (without page held))
  one-buffer = omega (arith, count-without, one-asked, count)

-- Where the first buffer of the page goes, none is left.
none_more : (page : ℕ) (held : List Buffer) → length held ≡ length (without page held) → buffer_of held page ≡ None
none_more page held same = go (buffer_of held page) (fewer_buffers page held) where
  go : (found : Option Buffer) → (is_some found ≡ true → length (without page held) < length held) → found ≡ None
  go None fewer = refl
  go (Some b) fewer = absurd (omega (arith, fewer refl, same))

pub none-left : (q : Buffer → Bool) (page : ℕ) (held : List Buffer) (b : Buffer) → length held ≡ suc (length (without page held)) → buffer_of held page ≡ Some b → q b ≡ false → buffer_of (filter q held) page ≡ None
none-left q page [] b one found goes = refl
none-left q page (x ∷ xs) b one found goes = go (is_buffer_of page x) refl one found (none-left q page xs b) where
  go : (here : Bool) → is_buffer_of page x ≡ here → suc (length xs) ≡ suc (length (cond (not here) (x ∷ without page xs) (without page xs))) → cond here (Some x) (buffer_of xs page) ≡ Some b
      → (length xs ≡ suc (length (without page xs)) → buffer_of xs page ≡ Some b → q b ≡ false → buffer_of (filter q xs) page ≡ None)
      → buffer_of (filter q (x ∷ xs)) page ≡ None
  go true is one' found' rest =
      let same : x ≡ b = cc in
      let out : q x ≡ false = rw same goes in
      rw out (buffer_of-filter q xs page (none_more page xs (omega (arith, one'))))
  go false is one' found' rest = step (q x) (rest (grind (arith, common_steps, one')) found' goes) where
    step : (kept : Bool) → buffer_of (filter q xs) page ≡ None → buffer_of (cond kept (x ∷ filter q xs) (filter q xs)) page ≡ None
    step true none = rw is none
    step false none = none
