-- Where each page that is asked for has a buffer, there are no fewer buffers than requests for pages.
use Rattle.std.proofs.Common.{◌≡◌, ℕ, ◌≤◌, ◌<◌, Bool, true, false, ◌==◌, cond, List, [], ◌∷◌, length, None, is_some, refl, subst, arith}
use Rattle.std.proofs.lemmas.Bool.Decides.{nat_tests}
use Rattle.std.proofs.lemmas.Grind.{common_steps}
use Rattle.std.specs.List.{AllPairs, filter, find}
use Rattle.fbc_levels.specs.declared.resources.Request.{Request}
use Rattle.fbc_levels.specs.LockState.{AreApart, is_of}
use Rattle.fbc_lock_table.proofs.Pairs.{AllPairs-tail}
use Rattle.fbc_world.specs.Holdings.{is_page_request_of}
use Rattle.fbc_levels.specs.Resources.{page_resource}
use Rattle.fbc_world.proofs.Apart.{once}
use Rattle.fbc_buffers.specs.declared.buffers.Buffer.{Buffer}
use Rattle.fbc_buffers.specs.Holding.{buffer_of, without}
use Rattle.fbc_buffers.proofs.Found.{buffer_of-without}
use Rattle.fbc_fit.proofs.Counts.{no_more}

-- The buffers of a page are left out.
no_more_buffers : (page : ℕ) (held : List Buffer) → length (without page held) ≤ length held
no_more_buffers page [] = grind (arith)
no_more_buffers page (b ∷ bs) = grind (arith, common_steps, no_more_buffers page bs)

pub fewer_buffers : (page : ℕ) (held : List Buffer) → is_some (buffer_of held page) ≡ true → length (without page held) < length held
fewer_buffers page [] there = absurd (cc)
fewer_buffers page (b ∷ bs) there = grind (arith, nat_tests, common_steps, there, no_more_buffers page bs, fewer_buffers page bs)

module _ (owner : ℕ) where
  -- Each page that the owner asks for has a buffer.
  abbrev pub Covers : List Buffer → List Request → Type 0
  Covers held requests = (page : ℕ) → is_some (find (is_of owner (page_resource page)) requests) ≡ true → is_some (buffer_of held page) ≡ true

  -- The key of a request for a page.
  pub own_key : (r : Request) → is_page_request_of owner r ≡ true → is_of owner (page_resource r.resource.key) r ≡ true
  own_key r is = grind (arith, nat_tests, is)

  module _ (held : List Buffer) (x : Request) (xs : List Request) (covers : Covers held (x ∷ xs)) where
    covers-rest : Covers held xs
    covers-rest page there = covers page (grind (arith, there))

    module _ (apart : AllPairs AreApart (x ∷ xs)) (is : is_page_request_of owner x ≡ true) where
      abbrev key : ℕ
      key = x.resource.key

      behind : find (is_of owner (page_resource key)) xs ≡ None
      behind = no_more (is_of owner (page_resource key)) x xs (once owner (page_resource key) (x ∷ xs) apart) (own_key x is)

      other : (page : ℕ) → is_some (find (is_of owner (page_resource page)) xs) ≡ true → key == page ≡ false
      other page there = go (key == page) refl where
        go : (t : Bool) → key == page ≡ t → t ≡ false
        go true same =
            let at : key ≡ page = grind (arith, nat_tests, same) in
            absurd (let no : false ≡ true = rw (subst (λ n. find (is_of owner (page_resource n)) xs ≡ None) at behind) at there in cc)
        go false differs = refl

      covers-without : Covers (without key held) xs
      covers-without page there = grind (arith, nat_tests, buffer_of-without key held page, other page there, covers-rest page there)

      covers-here : is_some (buffer_of held key) ≡ true
      covers-here = covers key (grind (arith, own_key x is))

  pub asked_few : (requests : List Request) (held : List Buffer) → AllPairs AreApart requests → Covers held requests → length (filter (is_page_request_of owner) requests) ≤ length held
  asked_few [] held apart covers = grind (arith)
  asked_few (x ∷ xs) held apart covers = go (is_page_request_of owner x) refl (λ fewer covered. asked_few xs fewer (AllPairs-tail AreApart x xs apart) covered) where
    go : (t : Bool) → is_page_request_of owner x ≡ t → ((fewer : List Buffer) → Covers fewer xs → length (filter (is_page_request_of owner) xs) ≤ length fewer)
        → length (cond t (x ∷ filter (is_page_request_of owner) xs) (filter (is_page_request_of owner) xs)) ≤ length held
    go false other' few = few held (covers-rest held x xs covers)
    go true is few =
        let rest = few (without x.resource.key held) (covers-without held x xs covers apart is) in
        let fewer = fewer_buffers x.resource.key held (covers-here held x xs covers apart is) in
        grind (arith, common_steps, rest, fewer)
