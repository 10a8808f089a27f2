-- After its owner withdraws what it waits for, its cache fits.
use Rattle.std.proofs.Common.{◌≡◌, ◌∙◌, ap, ℕ, Bool, true, false, not, ◌==◌, if◌then◌else◌, List, length, get_or, Option, Some, None, is_some, refl, subst, arith}
use Rattle.std.proofs.lemmas.Bool.Decides.{nat_tests}
use Rattle.std.specs.List.{All, filter}
use Rattle.std.specs.Option.{option_and_then, option_map}
use Rattle.fbc_kinds.specs.declared.shapes.Shape.{Shape}
use Rattle.fbc_levels.specs.declared.levels.Level.TheVariants.{Free}
use Rattle.fbc_levels.specs.declared.resources.Request.{Request}
use Rattle.fbc_levels.specs.LockState.{is_of, request_of, wait_of}
use Rattle.fbc_lock_table.specs.Effects.{is_bare_wait_of}
use Rattle.fbc_world.specs.declared.events.Act.TheVariants as act
use Rattle.fbc_world.specs.Holdings.{is_page_request_of}
use Rattle.fbc_levels.specs.Resources.{page_resource}
use Rattle.fbc_world.specs.World.{World, acted}
use Rattle.fbc_world.proofs.Apart.{once}
use Rattle.fbc_world.proofs.Found.{find_filter-once, find_map}
use Rattle.fbc_legal.proofs.Exclusion.{AreRequestsTrue}
use Rattle.fbc_buffers.specs.declared.buffers.Buffer.{Buffer}
use Rattle.fbc_buffers.specs.Holding.{buffer_of, is_waiting}
use Rattle.fbc_buffers.proofs.Found.{buffer_of-filter}
use Rattle.fbc_cache.specs.Cache.{CacheState, IsBuffer, IsCache}
use Rattle.fbc_cache.specs.Wants.{is_page_series}
use Rattle.fbc_cache.proofs.HeldPairs.{found-is}
use Rattle.fbc_fit.specs.Fit.{Fits, FitsPage}
use Rattle.fbc_fit.proofs.AwaitedPage.{awaited-here, awaited-is, bare-is, found-own, free-here, idle-there}
use Rattle.fbc_fit.proofs.Counts.{agree-counted, count-map}
use Rattle.fbc_fit.proofs.EndedWaits.{ends, shows-withdrawn}
use Rattle.fbc_fit.proofs.OneBuffer.{none-left, one-asked, one-buffer}
use Rattle.fbc_fit.proofs.Pages.{page-shows, shows-page}
use Rattle.fbc_fit.proofs.WaitingBuffers.{both-counted, first-left, is_awaited, some-waits}
use Rattle.fbc_fit.proofs.Shown.{shows-by}

-- A request that goes, or is left.
still-none : (found : Option Request) (same : Bool) → found ≡ None → found ≡ (if same then None else found)
still-none found true none = none
still-none found false none = refl

gone-or-left : (r : Request) (same : Bool) → (if not same then Some r else None) ≡ (if same then None else Some r)
gone-or-left r true = refl
gone-or-left r false = refl

module _ (shape : Shape) (w : World) (owner : ℕ) (landed : Bool) (c : CacheState) (wait : Request) (waiting : wait_of w.locks owner ≡ Some wait) (of_page : is_page_series wait.resource ≡ true)
    (t : AreRequestsTrue w) (is : IsCache c) (fits : Fits shape w owner c) where
  abbrev after : World
  after = acted shape w owner act.Withdraw landed

  abbrev page : ℕ
  page = wait.resource.key

  abbrev left : List Buffer
  left = filter (λ b. not (is_waiting b)) c.held

  awaited : (number : ℕ) → is_awaited (buffer_of c.held number) ≡ (number == page)
  awaited = awaited-is c.shape w owner wait c.held waiting of_page t is.one_wait is.buffers fits.pages

  awaited_page : is_awaited (buffer_of c.held page) ≡ true
  awaited_page = awaited-here c.shape w owner wait c.held waiting of_page t is.one_wait is.buffers fits.pages

  bare_is : (number : ℕ) (r : Request) → request_of w.locks owner (page_resource number) ≡ Some r → is_bare_wait_of owner r ≡ (number == page)
  bare_is = bare-is c.shape w owner wait c.held waiting of_page t is.one_wait is.buffers fits.pages

  asked_after : (number : ℕ) → request_of after.locks owner (page_resource number) ≡ option_map (ends owner) (if number == page then None else request_of w.locks owner (page_resource number))
  asked_after number =
      find_map (is_of owner (page_resource number)) (ends owner) (λ r. refl) (filter (λ r. not (is_bare_wait_of owner r)) w.locks.requests)
      ∙ ap (option_map (ends owner)) (find_filter-once (is_of owner (page_resource number)) (λ r. not (is_bare_wait_of owner r)) w.locks.requests (once owner (page_resource number) w.locks.requests t.apart)
      ∙ go (request_of w.locks owner (page_resource number)) refl) where
        go : (found : Option Request) → request_of w.locks owner (page_resource number) ≡ found → option_and_then (λ r. if not (is_bare_wait_of owner r) then Some r else None) found ≡ (if number == page then None else found)
        go None found = still-none None (number == page) refl
        go (Some r) found = ap (λ (b : Bool). if not b then Some r else None) (bare_is number r found) ∙ gone-or-left r (number == page)

  found_after : (number : ℕ) → buffer_of left number ≡ (if number == page then None else buffer_of c.held number)
  found_after number = go (number == page) refl (buffer_of c.held number) refl where
    go : (same : Bool) → number == page ≡ same → (found : Option Buffer) → buffer_of c.held number ≡ found → buffer_of left number ≡ (if same then None else found)
    go true same None found = buffer_of-filter (λ b. not (is_waiting b)) c.held number found
    go true same (Some b) found =
        let waits : is_waiting b ≡ true = rw found at (awaited number ∙ same) in
        let one = one-buffer w owner number c.held (rw found refl) t.apart fits.pages fits.count in
        none-left (λ b. not (is_waiting b)) number c.held b one found (rw waits refl)
    go false other None found = buffer_of-filter (λ b. not (is_waiting b)) c.held number found
    go false other (Some b) found =
        let idle : is_waiting b ≡ false = rw found at (awaited number ∙ other) in
        first-left (λ b. not (is_waiting b)) number c.held b found (rw idle refl)

  free_at : (number : ℕ) → number == page ≡ true → w.granted owner (page_resource number) ≡ Free
  free_at number same =
      let at : page ≡ number = grind (arith, nat_tests, same) in
      subst (λ n. w.granted owner (page_resource n) ≡ Free) at (free-here c.shape w owner wait c.held waiting of_page t is.one_wait is.buffers fits.pages)

  page_after : (number : ℕ) → FitsPage after owner left number
  page_after number =
      shows-page after owner number left _ (found_after number)
      (shows-by _ _ _ _ _ _ _ _ _ refl (asked_after number) refl
      (shows-withdrawn owner c.shape (number == page) (request_of w.locks owner (page_resource number)) (buffer_of c.held number) (found-is (IsBuffer c.shape) c.held number is.buffers) (awaited number)
      (idle-there c.shape w owner wait c.held waiting of_page t is.one_wait is.buffers fits.pages number) _ (free_at number) _ _ _ (page-shows w owner number c.held (fits.pages number))))

  -- Among the requests for pages the one for the awaited page is bare.
  agree : All (λ (r : Request). is_page_request_of owner r ≡ true → is_bare_wait_of owner r ≡ is_of owner (page_resource page) r) w.locks.requests
  agree i d within own =
      let r = get_or w.locks.requests i d in
      let found = found-own c.shape w owner wait c.held waiting of_page t is.one_wait is.buffers fits.pages i d within own in
      bare_is r.resource.key r found ∙ key r own where
        key : (r : Request) → is_page_request_of owner r ≡ true → r.resource.key == page ≡ is_of owner (page_resource page) r
        key r own' = grind (arith, nat_tests, own')

  there : is_some (buffer_of c.held page) ≡ true
  there = go (buffer_of c.held page) awaited_page where
    go : (found : Option Buffer) → is_awaited found ≡ true → is_some found ≡ true
    go None waits = absurd (cc)
    go (Some b) waits = refl

  count_after : length left ≡ length (filter (is_page_request_of owner) after.locks.requests)
  count_after =
      let parts = both-counted c.held in
      let few = is.one_wait in
      let some = some-waits c.held page awaited_page in
      let one = one-asked w owner page c.held there t.apart fits.pages fits.count in
      let same = agree-counted (is_page_request_of owner) (is_bare_wait_of owner) (is_of owner (page_resource page)) w.locks.requests agree in
      let kept = count-map (is_page_request_of owner) (ends owner) (λ r. refl) (filter (λ r. not (is_bare_wait_of owner r)) w.locks.requests) in
      omega (arith, parts, few, some, one, same, kept, fits.count)

  pub fits-withdrawn : Fits shape after owner (record c { held = left })
  fits-withdrawn = record {
    shape_is = fits.shape_is;
    room = fits.room;
    count = count_after;
    pages = page_after;
    pairs = fits.pairs;
  }
