-- An owner's requests for pages, after each change of the requests that leaves them.
use Rattle.std.proofs.Common.{◌≡◌, ◌∙◌, ap, ℕ, Bool, true, false, not, ◌&&◌, if◌then◌else◌, List, [], ◌∷◌, ◌++◌, map, length, Option, Some, None, is_some, refl, sym, arith}
use Rattle.std.proofs.lemmas.Bool.Decides.{nat_tests}
use Rattle.std.proofs.lemmas.Grind.{common_steps}
use Rattle.std.specs.List.{filter, find, list_any}
use Rattle.std.specs.Option.{option_map, option_or}
use Rattle.fbc_levels.specs.declared.resources.Request.{Request}
use Rattle.fbc_levels.specs.declared.resources.Resource.{Resource}
use Rattle.fbc_levels.specs.LockState.{is_of}
use Rattle.fbc_lock_table.specs.Effects.{entered, is_bare_wait_of, new_request, without_wait}
use Rattle.fbc_world.specs.Holdings.{is_page_request_of}
use Rattle.fbc_levels.specs.Resources.{page_resource}
use Rattle.fbc_world.proofs.FirstOf.{filter-kept}
use Rattle.fbc_world.proofs.Found.{find_filter-all, find_map, find_passes}
use Rattle.fbc_world.proofs.Requests.{find_entered, is_key}
use Rattle.fbc_cache.specs.Wants.{is_page_series}
use Rattle.fbc_fit.proofs.Counts.{count-append, count-map}
use Rattle.fbc_fit.proofs.SamePages.{HasSameRequests}

-- Whether the owner waits for a page by it.
abbrev pub is_page_wait : ℕ → Request → Bool
is_page_wait owner r = is_page_request_of owner r && is_some r.waiting

module _ (owner : ℕ) where
  -- A request that is found under a page is one for a page.
  pub own-page : (page : ℕ) (r : Request) → is_of owner (page_resource page) r ≡ true → is_page_request_of owner r ≡ true
  own-page page r is = grind (arith, nat_tests, is)

  pub same-self : (rs : List Request) → HasSameRequests owner rs rs
  same-self rs = record { asked = λ page. refl; count = refl }

  pub same-both : (rs ss ts : List Request) → HasSameRequests owner rs ss → HasSameRequests owner ss ts → HasSameRequests owner rs ts
  same-both rs ss ts first second = record { asked = λ page. second.asked page ∙ first.asked page; count = second.count ∙ first.count }

  -- A change that leaves the requests for pages.
  pub same-map : (f : Request → Request) → ((r : Request) → (f r).owner ≡ r.owner) → ((r : Request) → (f r).resource ≡ r.resource) → ((r : Request) → is_page_request_of owner r ≡ true → f r ≡ r)
      → (rs : List Request) → HasSameRequests owner rs (map f rs)
  same-map f by of keeps rs = record {
    asked = λ page. find_map (is_of owner (page_resource page)) f (λ r. rw (by r, of r) refl) rs
        ∙ go page (find (is_of owner (page_resource page)) rs) (λ r found. find_passes (is_of owner (page_resource page)) rs r found);
    count = count-map (is_page_request_of owner) f (λ r. rw (by r, of r) refl) rs;
  } where
    go : (page : ℕ) (found : Option Request) → ((r : Request) → found ≡ Some r → is_of owner (page_resource page) r ≡ true) → option_map f found ≡ found
    go page None its = refl
    go page (Some r) its = ap Some (keeps r (own-page page r (its r refl)))

  -- Those that are left are all those for pages.
  pub same-filter : (q : Request → Bool) → ((r : Request) → is_page_request_of owner r ≡ true → q r ≡ true) → (rs : List Request) → HasSameRequests owner rs (filter q rs)
  same-filter q stay rs = record {
    asked = λ page. find_filter-all (is_of owner (page_resource page)) q (λ r is. stay r (own-page page r is)) rs;
    count = ap (λ (ts : List Request). length ts) (filter-kept (is_page_request_of owner) q stay rs);
  }

  -- A request for no page is entered.
  pub same-entered : (resource : Resource) (word : ℕ) → is_page_series resource ≡ false → (rs : List Request) → HasSameRequests owner rs (entered rs owner resource word)
  same-entered resource word other rs = record { asked = asked_is; count = count_is (is_some (find (is_of owner resource) rs)) } where
    or_none : (found : Option Request) → option_or found None ≡ found
    or_none None = refl
    or_none (Some r) = refl

    differs : (page : ℕ) → is_key owner resource owner (page_resource page) ≡ false
    differs page = grind (arith, nat_tests, other)

    asked_is : (page : ℕ) → find (is_of owner (page_resource page)) (entered rs owner resource word) ≡ find (is_of owner (page_resource page)) rs
    asked_is page =
        find_entered owner (page_resource page) rs owner resource word
        ∙ ap (λ (b : Bool). option_or (find (is_of owner (page_resource page)) rs) (if b then Some (new_request owner resource word) else None)) (differs page)
        ∙ or_none (find (is_of owner (page_resource page)) rs)

    no_page : is_page_request_of owner (new_request owner resource word) ≡ false
    no_page = grind (arith, nat_tests, other)

    count_is : (there : Bool) → length (filter (is_page_request_of owner) (if there then rs else rs ++ new_request owner resource word ∷ [])) ≡ length (filter (is_page_request_of owner) rs)
    count_is true = refl
    count_is false = grind (arith, common_steps, no_page, count-append (is_page_request_of owner) rs (new_request owner resource word ∷ []))

  -- The owner's waits end where it waits for no page.
  not_bare : (r : Request) → is_page_wait owner r ≡ false → is_page_request_of owner r ≡ true → is_bare_wait_of owner r ≡ false
  not_bare r none is = grind (arith, none, is)

  left_alone : (r : Request) → is_page_wait owner r ≡ false → is_page_request_of owner r ≡ true → without_wait owner r ≡ r
  left_alone r none is = go r.waiting refl where
    go : (waits : Option _) → r.waiting ≡ waits → without_wait owner r ≡ r
    go None waits = grind (arith, nat_tests, waits)
    go (Some level) waits = absurd (let no : true ≡ false = rw (waits, is) at none in cc)

  abbrev pub ends : List Request → List Request
  ends rs = map (without_wait owner) (filter (λ r. not (is_bare_wait_of owner r)) rs)

  pub same-withdrawn : (rs : List Request) → list_any (is_page_wait owner) rs ≡ false → HasSameRequests owner rs (ends rs)
  same-withdrawn [] none = record { asked = λ page. refl; count = refl }
  same-withdrawn (r ∷ rs) none = go (is_page_request_of owner r) refl (is_bare_wait_of owner r) refl (same-withdrawn rs (grind (arith, none))) where
    here : is_page_wait owner r ≡ false
    here = grind (arith, none)

    not_found : (page : ℕ) → is_page_request_of owner r ≡ false → is_of owner (page_resource page) r ≡ false
    not_found page other = grind (arith, nat_tests, other)

    go : (own : Bool) → is_page_request_of owner r ≡ own → (bare : Bool) → is_bare_wait_of owner r ≡ bare → HasSameRequests owner rs (ends rs) → HasSameRequests owner (r ∷ rs) (ends (r ∷ rs))
    go true own true bare rest = absurd (let no : true ≡ false = sym bare ∙ not_bare r here own in cc)
    go true own false bare rest = rw bare (record {
      asked = λ page. grind (arith, left_alone r here own, rest.asked page);
      count = grind (arith, common_steps, own, rest.count);
    })
    go false other true bare rest = rw bare (record {
      asked = λ page. grind (arith, not_found page other, rest.asked page);
      count = grind (arith, common_steps, other, rest.count);
    })
    go false other false bare rest = rw bare (record {
      asked = λ page. grind (arith, not_found page other, rest.asked page);
      count = grind (arith, common_steps, other, rest.count);
    })
