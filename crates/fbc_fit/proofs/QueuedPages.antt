-- After a page is asked for and is waited for, its cache fits.
use Rattle.std.proofs.Common.{◌≡◌, ◌∙◌, inl, ap, ℕ, Bool, true, false, ◌==◌, if◌then◌else◌, cond, List, [], ◌∷◌, ◌++◌, map, length, Option, Some, None, is_some, refl, sym, subst, arith}
use Rattle.std.proofs.lemmas.Bool.Decides.{nat_tests}
use Rattle.std.proofs.lemmas.Grind.{common_steps}
use Rattle.std.specs.List.{filter}
use Rattle.std.specs.Option.{option_map, option_or}
use Rattle.fbc_kinds.specs.declared.pages.Page.{Page}
use Rattle.fbc_kinds.specs.declared.shapes.Shape.{Shape}
use Rattle.fbc_levels.specs.declared.levels.Level.{Level}
use Rattle.fbc_levels.specs.declared.levels.Level.TheVariants.{Free}
use Rattle.fbc_levels.specs.declared.resources.Request.{Request}
use Rattle.fbc_levels.specs.LockState.{LockState, is_of, request_of}
use Rattle.fbc_lock_table.specs.declared.answers.Asked.TheVariants.{Queued}
use Rattle.fbc_lock_table.specs.Effects.{after_ask, entered, new_request, with_waiting}
use Rattle.fbc_world.specs.Holdings.{is_page_request_of}
use Rattle.fbc_levels.specs.Resources.{page_resource}
use Rattle.fbc_world.specs.World.{World}
use Rattle.fbc_world.proofs.Found.{find_map, find_passes}
use Rattle.fbc_world.proofs.Requests.{find_entered, is_key}
use Rattle.fbc_buffers.specs.declared.buffers.Buffer.{Buffer}
use Rattle.fbc_buffers.specs.Holding.{buffer_of, waiting_buffer}
use Rattle.fbc_buffers.proofs.Found.{buffer_of-push}
use Rattle.fbc_cache.specs.Cache.{CacheState}
use Rattle.fbc_fit.specs.Fit.{Fits, FitsPage, ShowsBuffer}
use Rattle.fbc_fit.proofs.Counts.{count-append, count-map}
use Rattle.fbc_fit.proofs.Pages.{page-shows, shows-page}
use Rattle.fbc_fit.proofs.Shown.{Shows, buffer-asked, shows-by}

-- A page that has no buffer is not asked for.
unheld-free : (granted : Level) (asked : Option Request) → ShowsBuffer granted asked None → granted ≡ Free
unheld-free granted None shows = shows
unheld-free granted (Some r) shows = absurd shows

none-found : (asked : Option Request) → is_some asked ≡ false → asked ≡ None
none-found None none = refl
none-found (Some r) none = absurd (cc)

-- The page that is asked for, and another one.
shows-queued : (page : ℕ) (level : Level) (new : Request) → new.waiting ≡ Some level → (same : Bool) (found : Option Buffer) → (same ≡ true → found ≡ None)
    → (granted : Level) (asked : Option Request) (copied : Option Page) (drafted pinned : Bool) → Shows granted asked copied drafted pinned found
    → Shows granted (if same then Some new else asked) copied drafted pinned (cond same (Some (waiting_buffer page level)) found)
shows-queued page level new waits true None none granted asked copied drafted pinned shows =
    record { lock = inl (unheld-free granted asked shows.lock, waits); copy = shows.copy; draft = shows.draft; pin = shows.pin }
shows-queued page level new waits true (Some b) none granted asked copied drafted pinned shows = absurd (let no : Some b ≡ None = none refl in cc)
shows-queued page level new waits false found none granted asked copied drafted pinned shows = shows

module _ (shape : Shape) (w : World) (owner page : ℕ) (level : Level) (word : ℕ) (c : CacheState) (new : buffer_of c.held page ≡ None) (fits : Fits shape w owner c) where
  abbrev pub queued : LockState
  queued = after_ask w.locks owner (page_resource page) level word Queued

  abbrev after : World
  after = record w { locks = queued }

  abbrev waits : Request → Request
  waits = with_waiting owner (page_resource page) level

  abbrev fresh : Request
  fresh = waits (new_request owner (page_resource page) word)

  pub unasked : request_of w.locks owner (page_resource page) ≡ None
  unasked = none-found (request_of w.locks owner (page_resource page)) (sym (buffer-asked _ _ (buffer_of c.held page) (fits.pages page).lock) ∙ rw new refl)

  requests_are : queued.requests ≡ map waits (w.locks.requests ++ new_request owner (page_resource page) word ∷ [])
  requests_are = rw unasked refl

  fresh_waits : fresh.waiting ≡ Some level
  fresh_waits = grind (arith, nat_tests)

  asked_after : (number : ℕ) → request_of queued owner (page_resource number) ≡ (if page == number then Some fresh else request_of w.locks owner (page_resource number))
  asked_after number =
      find_map (is_of owner (page_resource number)) waits (λ r. refl) (entered w.locks.requests owner (page_resource page) word)
      ∙ ap (option_map waits) (find_entered owner (page_resource number) w.locks.requests owner (page_resource page) word)
      ∙ go (page == number) refl (request_of w.locks owner (page_resource number)) refl where
        key : is_key owner (page_resource page) owner (page_resource number) ≡ (page == number)
        key = grind (arith, nat_tests)

        left : (r : Request) → page == number ≡ false → is_of owner (page_resource number) r ≡ true → waits r ≡ r
        left r other is = grind (arith, nat_tests, other, is)

        go : (same : Bool) → page == number ≡ same → (found : Option Request) → request_of w.locks owner (page_resource number) ≡ found
            → option_map waits (option_or found (if is_key owner (page_resource page) owner (page_resource number) then Some (new_request owner (page_resource page) word) else None)) ≡ (if same then Some fresh else found)
        go true is None found = rw (key, is) refl
        go true is (Some r) found =
            let at : page ≡ number = grind (arith, nat_tests, is) in
            absurd (let no : None ≡ Some r = sym (subst (λ n. request_of w.locks owner (page_resource n) ≡ None) at unasked) ∙ found in cc)
        go false is None found = rw (key, is) refl
        go false is (Some r) found = ap Some (left r is (find_passes (is_of owner (page_resource number)) w.locks.requests r found))

  abbrev buffers : List Buffer
  buffers = c.held ++ waiting_buffer page level ∷ []

  new-same : (number : ℕ) → page == number ≡ true → buffer_of c.held number ≡ None
  new-same number is =
      let same : page ≡ number = grind (arith, nat_tests, is) in
      rw (← same) new

  page_after : (number : ℕ) → FitsPage after owner buffers number
  page_after number =
      shows-page after owner number buffers _ (buffer_of-push c.held (waiting_buffer page level) number new)
      (shows-by _ _ _ _ _ _ _ _ _ refl (asked_after number) refl
      (shows-queued page level fresh fresh_waits (page == number) (buffer_of c.held number) (new-same number) _ _ _ _ _ (page-shows w owner number c.held (fits.pages number))))

  own : is_page_request_of owner (new_request owner (page_resource page) word) ≡ true
  own = grind (arith, nat_tests)

  count_after : length buffers ≡ length (filter (is_page_request_of owner) queued.requests)
  count_after =
      let is = ap (λ (rs : List Request). length (filter (is_page_request_of owner) rs)) requests_are in
      let kept = count-map (is_page_request_of owner) waits (λ r. refl) (w.locks.requests ++ new_request owner (page_resource page) word ∷ []) in
      let both = count-append (is_page_request_of owner) w.locks.requests (new_request owner (page_resource page) word ∷ []) in
      grind (arith, common_steps, is, kept, both, own, fits.count)

  pub fits-queued : Fits shape after owner (record c { held = buffers })
  fits-queued = record {
    shape_is = fits.shape_is;
    room = fits.room;
    count = count_after;
    pages = page_after;
    pairs = fits.pairs;
  }
