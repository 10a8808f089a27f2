-- After a grant that its cache waits for, and before the cache learns of it, the cache fits.
use Rattle.std.proofs.Common.{◌≡◌, ◌∙◌, inl, inr, ap, ℕ, Bool, true, false, ◌==◌, if◌then◌else◌, List, map, length, Option, Some, None, is_some, refl, sym, subst, arith}
use Rattle.std.proofs.lemmas.Bool.Decides.{nat_tests}
use Rattle.std.specs.List.{filter, find}
use Rattle.std.specs.Option.{option_and_then, option_map}
use Rattle.fbc_kinds.specs.declared.shapes.Shape.{Shape}
use Rattle.fbc_levels.specs.declared.levels.Level.{Level}
use Rattle.fbc_levels.specs.declared.resources.Request.{Request}
use Rattle.fbc_levels.specs.LockState.{is_of, request_of}
use Rattle.fbc_world.specs.declared.events.Act.TheVariants as act
use Rattle.fbc_world.specs.Holdings.{is_page_request_of}
use Rattle.fbc_levels.specs.Resources.{page_resource}
use Rattle.fbc_world.specs.Locks.{waiting_of, with_grant}
use Rattle.fbc_world.specs.World.{World, acted}
use Rattle.fbc_world.proofs.Found.{find_map, find_passes}
use Rattle.fbc_buffers.specs.declared.buffers.Buffer.{Buffer}
use Rattle.fbc_buffers.specs.Holding.{buffer_of}
use Rattle.fbc_cache.specs.Cache.{CacheState}
use Rattle.fbc_fit.specs.Fit.{Fits, FitsPage, ShowsBuffer}
use Rattle.fbc_fit.proofs.ChangedLevels.{changed-level}
use Rattle.fbc_fit.proofs.Counts.{count-map}
use Rattle.fbc_fit.proofs.Entering.{entered-there}
use Rattle.fbc_fit.proofs.Shown.{shows-request}

-- Who waits has asked.
pub waits-asked : (found : Option Request) (level : Level) → option_and_then (λ (r : Request). r.waiting) found ≡ Some level → is_some found ≡ true
waits-asked None level waits = absurd (cc)
waits-asked (Some r) level waits = refl

module _ (owner page : ℕ) (level : Level) where
  abbrev granted_request : Request → Request
  granted_request = with_grant owner (page_resource page) level

  own : (r : Request) → is_of owner (page_resource page) r ≡ true → (granted_request r).waiting ≡ None
  own r is = rw is refl

  -- The lock that is granted.
  shows-granted : (before : Level) (asked : Option Request) (found : Option Buffer) → ((r : Request) → asked ≡ Some r → is_of owner (page_resource page) r ≡ true) → option_and_then (λ (r : Request). r.waiting) asked ≡ Some level
      → ShowsBuffer before asked found → ShowsBuffer level (option_map granted_request asked) found
  shows-granted before None found its waits shows = absurd (cc)
  shows-granted before (Some r) None its waits shows = absurd shows
  shows-granted before (Some r) (Some b) its waits (inl same) = inr (sym same.1 ∙ waits, own r (its r refl))
  shows-granted before (Some r) (Some b) its waits (inr late) = absurd (let no : None ≡ Some level = sym late.1 ∙ waits in cc)

module _ (shape : Shape) (w : World) (owner page : ℕ) (level : Level) (landed : Bool) (c : CacheState) (wanted : waiting_of w.locks owner (page_resource page) ≡ Some level) (fits : Fits shape w owner c) where
  abbrev after : World
  after = acted shape w owner (act.Grant (page_resource page) level) landed

  abbrev changes : Request → Request
  changes = granted_request owner page level

  -- Its request is there, and nothing is entered.
  requests_are : after.locks.requests ≡ map changes w.locks.requests
  requests_are = ap (map changes) (entered-there w.locks.requests owner (page_resource page) 0 (waits-asked (request_of w.locks owner (page_resource page)) level wanted))

  asked_is : (number : ℕ) → request_of after.locks owner (page_resource number) ≡ option_map changes (request_of w.locks owner (page_resource number))
  asked_is number = ap (find (is_of owner (page_resource number))) requests_are ∙ find_map (is_of owner (page_resource number)) changes (λ r. refl) w.locks.requests

  -- The lock of a page.
  lock-after : (number : ℕ) (same : Bool) → page == number ≡ same → ShowsBuffer (if same then level else w.granted owner (page_resource number)) (option_map changes (request_of w.locks owner (page_resource number))) (buffer_of c.held number)
  lock-after number true is =
      let here : page ≡ number = grind (arith, nat_tests, is) in
      subst (λ n. ShowsBuffer level (option_map changes (request_of w.locks owner (page_resource n))) (buffer_of c.held n)) here
      (shows-granted owner page level (w.granted owner (page_resource page)) (request_of w.locks owner (page_resource page)) (buffer_of c.held page) (λ r found. find_passes (is_of owner (page_resource page)) w.locks.requests r found) wanted (fits.pages page).lock)
  lock-after number false is = shows-other (request_of w.locks owner (page_resource number)) (λ r found. find_passes (is_of owner (page_resource number)) w.locks.requests r found) (buffer_of c.held number) (fits.pages number).lock where
    waits_same : (r : Request) → is_of owner (page_resource number) r ≡ true → (changes r).waiting ≡ r.waiting
    waits_same r passes = grind (arith, nat_tests, is, passes)

    shows-other : (asked : Option Request) → ((r : Request) → asked ≡ Some r → is_of owner (page_resource number) r ≡ true) → (found : Option Buffer) → ShowsBuffer (w.granted owner (page_resource number)) asked found
        → ShowsBuffer (w.granted owner (page_resource number)) (option_map changes asked) found
    shows-other None its found shows = shows
    shows-other (Some r) its found shows = shows-request r (changes r) (waits_same r (its r refl)) (w.granted owner (page_resource number)) found shows

  fits_after : (number : ℕ) → FitsPage after owner c.held number
  fits_after number = record {
    lock = subst (λ (r : Option Request). ShowsBuffer (after.granted owner (page_resource number)) r (buffer_of c.held number)) (sym (asked_is number))
        (subst (λ (l : Level). ShowsBuffer l (option_map changes (request_of w.locks owner (page_resource number))) (buffer_of c.held number)) (sym (changed-level owner page number level (w.granted owner (page_resource number)))) (lock-after number (page == number) refl));
    copy = (fits.pages number).copy;
    draft = (fits.pages number).draft;
    pin = (fits.pages number).pin;
  }

  pub fits-granted : Fits shape after owner c
  fits-granted = record {
    shape_is = fits.shape_is;
    room = fits.room;
    count = fits.count ∙ sym (ap (λ (rs : List Request). length (filter (is_page_request_of owner) rs)) requests_are ∙ count-map (is_page_request_of owner) changes (λ r. refl) w.locks.requests);
    pages = fits_after;
    pairs = fits.pairs;
  }
