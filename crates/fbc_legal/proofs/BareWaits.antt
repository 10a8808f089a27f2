-- What the changes of a lock state do with the request of an owner for a resource that a test does not take, whatever the test.
use Rattle.std.proofs.Common.{◌≡◌, ◌∙◌, ap, ℕ, Bool, true, false, if◌then◌else◌, List, map, Option, Some, None, refl, arith}
use Rattle.std.specs.List.{AllPairs, filter, find}
use Rattle.std.specs.Option.{option_and_then, option_map, option_map_or, option_or}
use Rattle.std.proofs.lemmas.Bool.Decides.{nat_tests}
use Rattle.fbc_levels.specs.declared.resources.Request.{Request}
use Rattle.fbc_levels.specs.declared.resources.Resource.{Resource}
use Rattle.fbc_levels.specs.LockState.{is_of}
use Rattle.fbc_lock_table.specs.Effects.{entered, new_request}
use Rattle.fbc_world.proofs.Found.{find_filter-once, find_map, find_passes}
use Rattle.fbc_world.proofs.Requests.{find_entered, is_key, level_in, same_key}

own_new : (o : ℕ) (r : Resource) (word : ℕ) → is_of o r (new_request o r word) ≡ true
own_new o r word = grind (arith, nat_tests)

-- What is found, or else a new request, has the level that is found.
pub level_found : (found : Option Request) (o : ℕ) (r : Resource) (word : ℕ) (x : Request) → option_or found (Some (new_request o r word)) ≡ Some x → level_in found ≡ x.granted
level_found None o r word x is = cc
level_found (Some y) o r word x is = cc

module _ (test : Request → Bool) where
  -- A request is found, and the test takes it.
  abbrev pub is_found : Option Request → Bool
  is_found found = option_map_or test found false

  -- The test does not take the owner's request for the resource.
  abbrev pub IsBare : ℕ → Resource → List Request → Type 0
  IsBare owner resource requests = is_found (find (is_of owner resource) requests) ≡ false

  module _ (owner : ℕ) (resource : Resource) where
    -- A change after which the test takes a request only where it did.
    pub bare_map : (f : Request → Request) → ((x : Request) → is_of owner resource (f x) ≡ is_of owner resource x) → ((x : Request) → test x ≡ false → test (f x) ≡ false)
        → (rs : List Request) → IsBare owner resource rs → IsBare owner resource (map f rs)
    bare_map f same keeps rs bare = ap is_found (find_map (is_of owner resource) f same rs) ∙ go (find (is_of owner resource) rs) bare where
      go : (found : Option Request) → is_found found ≡ false → is_found (option_map f found) ≡ false
      go None is = refl
      go (Some x) is = keeps x is

    -- A change of one request, entered where there was none.
    pub bare_set : (o : ℕ) (r : Resource) (word : ℕ) (f : Request → Request) → ((x : Request) → is_of owner resource (f x) ≡ is_of owner resource x)
        → ((x : Request) → is_of o r x ≡ false → test x ≡ false → test (f x) ≡ false)
        → (rs : List Request)
        → (is_key o r owner resource ≡ true → (x : Request) → is_of o r x ≡ true → option_or (find (is_of owner resource) rs) (Some (new_request o r word)) ≡ Some x → test x ≡ false → test (f x) ≡ false)
        → test (new_request o r word) ≡ false → IsBare owner resource rs → IsBare owner resource (map f (entered rs o r word))
    bare_set o r word f same keeps rs own new bare =
        ap is_found (find_map (is_of owner resource) f same (entered rs o r word)) ∙ ap (λ found. is_found (option_map f found)) (find_entered owner resource rs o r word)
        ∙ go (find (is_of owner resource) rs) refl (is_key o r owner resource) refl own bare where
          go : (found : Option Request) → find (is_of owner resource) rs ≡ found → (b : Bool) → is_key o r owner resource ≡ b
              → (b ≡ true → (x : Request) → is_of o r x ≡ true → option_or found (Some (new_request o r word)) ≡ Some x → test x ≡ false → test (f x) ≡ false)
              → is_found found ≡ false → is_found (option_map f (option_or found (if b then Some (new_request o r word) else None))) ≡ false
          go None is true key mine was = mine refl (new_request o r word) (own_new o r word) refl new
          go None is false key mine was = refl
          go (Some x) is true key mine was = mine refl x (same_key owner resource o r x (find_passes (is_of owner resource) rs x is) ∙ key) refl was
          go (Some x) is false key mine was = keeps x (same_key owner resource o r x (find_passes (is_of owner resource) rs x is) ∙ key) was

    -- Some requests are taken out.
    pub bare_filter : (q : Request → Bool) (rs : List Request) → AllPairs (λ x y. is_of owner resource x ≡ true → is_of owner resource y ≡ true → ⊥) rs → IsBare owner resource rs → IsBare owner resource (filter q rs)
    bare_filter q rs apart bare = ap is_found (find_filter-once (is_of owner resource) q rs apart) ∙ go (find (is_of owner resource) rs) bare where
      keep : (x : Request) (b : Bool) → test x ≡ false → is_found (if b then Some x else None) ≡ false
      keep x true is = is
      keep x false is = refl

      go : (found : Option Request) → is_found found ≡ false → is_found (option_and_then (λ x. if q x then Some x else None) found) ≡ false
      go None is = refl
      go (Some x) is = keep x (q x) is
