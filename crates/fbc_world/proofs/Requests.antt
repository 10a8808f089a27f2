-- One owner's request for one resource, after each change of the list of requests.
use Rattle.std.proofs.Common.{◌≡◌, ◌∙◌, ap, ℕ, Bool, true, false, not, ◌==◌, ◌&&◌, if◌then◌else◌, List, [], ◌∷◌, ◌++◌, map, Option, Some, None, is_some, refl, sym, arith}
use Rattle.std.specs.List.{AllPairs, filter, find}
use Rattle.std.specs.Option.{option_and_then, option_map, option_map_or, option_or}
use Rattle.std.proofs.lemmas.Bool.Decides.{nat_tests}
use Rattle.std.proofs.lemmas.List.Folds.{find-append}
use Rattle.fbc_levels.specs.declared.levels.Level.{Level}
use Rattle.fbc_levels.specs.declared.levels.Level.TheVariants.{Free}
use Rattle.fbc_levels.specs.declared.resources.Request.{Request}
use Rattle.fbc_levels.specs.declared.resources.Resource.{Resource}
use Rattle.fbc_levels.specs.LockState.{is_of}
use Rattle.fbc_levels.specs.Resources.{is_same_resource}
use Rattle.fbc_lock_table.specs.Effects.{entered, is_bare_wait_of, new_request}
use Rattle.fbc_lock_table.proofs.Pairs.{NotBoth}
use Rattle.fbc_world.proofs.Found.{find_filter-all, find_filter-none, find_filter-once, find_map, find_passes}

-- Whether both the owners and the resources are the same.
abbrev pub is_key : ℕ → Resource → ℕ → Resource → Bool
is_key o r owner resource = (o == owner) && is_same_resource r resource

-- An owner's request for a resource is one for another key where that is the same.
pub same_key : (owner : ℕ) (resource : Resource) (o : ℕ) (r : Resource) (x : Request) → is_of owner resource x ≡ true → is_of o r x ≡ is_key o r owner resource
same_key owner resource o r x is = grind (arith, nat_tests, is)

-- What is found under a key is found under one that is the same.
same_find : (owner : ℕ) (resource : Resource) (o : ℕ) (r : Resource) → is_key o r owner resource ≡ true → (x : Request) → is_of owner resource x ≡ is_of o r x
same_find owner resource o r is x = grind (arith, nat_tests, is)

find-same : (p q : Request → Bool) → ((x : Request) → p x ≡ q x) → (rs : List Request) → find p rs ≡ find q rs
find-same p q same [] = refl
find-same p q same (x ∷ rs) = grind (arith, same x, find-same p q same rs)

-- The level of a request, if there is one.
abbrev pub level_in : Option Request → Level
level_in found = option_map_or (λ (r : Request). r.granted) found Free

or_none : (found : Option Request) → option_or found None ≡ found
or_none None = refl
or_none (Some x) = refl

module _ (owner : ℕ) (resource : Resource) where
  abbrev level : List Request → Level
  level rs = level_in (find (is_of owner resource) rs)

  -- What is found among requests with one more.
  pub find_entered : (rs : List Request) (o : ℕ) (r : Resource) (word : ℕ)
      → find (is_of owner resource) (entered rs o r word) ≡ option_or (find (is_of owner resource) rs) (if is_key o r owner resource then Some (new_request o r word) else None)
  find_entered rs o r word = go (find (is_of o r) rs) refl (is_key o r owner resource) refl where
    go : (found : Option Request) → find (is_of o r) rs ≡ found → (b : Bool) → is_key o r owner resource ≡ b
        → find (is_of owner resource) (if is_some found then rs else rs ++ new_request o r word ∷ []) ≡ option_or (find (is_of owner resource) rs) (if b then Some (new_request o r word) else None)
    go None is b key = find-append (is_of owner resource) rs (new_request o r word ∷ []) ∙ grind (arith, key)
    go (Some x) is true key = grind (arith, find-same (is_of owner resource) (is_of o r) (same_find owner resource o r key) rs, is)
    go (Some x) is false key = sym (or_none (find (is_of owner resource) rs))

  -- A new request has no level yet.
  pub level-entered : (rs : List Request) (o : ℕ) (r : Resource) (word : ℕ) → level (entered rs o r word) ≡ level rs
  level-entered rs o r word = ap level_in (find_entered rs o r word) ∙ go (find (is_of owner resource) rs) (is_key o r owner resource) where
    go : (found : Option Request) (b : Bool) → level_in (option_or found (if b then Some (new_request o r word) else None)) ≡ level_in found
    go None true = refl
    go None false = refl
    go (Some x) b = refl

  -- A change that leaves levels.
  pub level-map : (f : Request → Request) → ((x : Request) → is_of owner resource (f x) ≡ is_of owner resource x) → ((x : Request) → (f x).granted ≡ x.granted)
      → (rs : List Request) → level (map f rs) ≡ level rs
  level-map f same keeps rs = ap level_in (find_map (is_of owner resource) f same rs) ∙ go (find (is_of owner resource) rs) where
    go : (found : Option Request) → level_in (option_map f found) ≡ level_in found
    go None = refl
    go (Some x) = keeps x

  -- A change of one owner's level for one resource, by which a request is entered where there was none.
  pub level-set : (o : ℕ) (r : Resource) (word : ℕ) (new : Level) (f : Request → Request) → ((x : Request) → is_of owner resource (f x) ≡ is_of owner resource x)
      → ((x : Request) → (f x).granted ≡ (if is_of o r x then new else x.granted))
      → (rs : List Request) → level (map f (entered rs o r word)) ≡ (if is_key o r owner resource then new else level rs)
  level-set o r word new f same sets rs =
      ap level_in (find_map (is_of owner resource) f same (entered rs o r word)) ∙ ap (λ found. level_in (option_map f found)) (find_entered rs o r word)
      ∙ go (find (is_of owner resource) rs) refl (is_key o r owner resource) refl where
        own : is_key o r owner resource ≡ true → is_of o r (new_request o r word) ≡ true
        own key = grind (arith, nat_tests)

        go : (found : Option Request) → find (is_of owner resource) rs ≡ found → (b : Bool) → is_key o r owner resource ≡ b
            → level_in (option_map f (option_or found (if b then Some (new_request o r word) else None))) ≡ (if b then new else level_in found)
        go None is true key = grind (arith, sets (new_request o r word), own key)
        go None is false key = refl
        go (Some x) is b key = grind (arith, sets x, same_key owner resource o r x (find_passes (is_of owner resource) rs x is), key)

  -- One owner's request for one resource is taken out.
  pub level-without : (o : ℕ) (r : Resource) (rs : List Request) → level (filter (λ x. not (is_of o r x)) rs) ≡ (if is_key o r owner resource then Free else level rs)
  level-without o r rs = go (is_key o r owner resource) refl where
    out : (x : Request) (b : Bool) → is_key o r owner resource ≡ b → is_of owner resource x ≡ true → not (is_of o r x) ≡ not b
    out x b key is = grind (arith, same_key owner resource o r x is, key)

    go : (b : Bool) → is_key o r owner resource ≡ b → level (filter (λ x. not (is_of o r x)) rs) ≡ (if b then Free else level rs)
    go true key = ap level_in (find_filter-none (is_of owner resource) (λ x. not (is_of o r x)) (λ x. out x true key) rs)
    go false key = ap level_in (find_filter-all (is_of owner resource) (λ x. not (is_of o r x)) (λ x. out x false key) rs)

  -- One owner's requests are taken out.
  pub level-without_owner : (o : ℕ) (rs : List Request) → level (filter (λ x. not (x.owner == o)) rs) ≡ (if o == owner then Free else level rs)
  level-without_owner o rs = go (o == owner) refl where
    out : (x : Request) (b : Bool) → o == owner ≡ b → is_of owner resource x ≡ true → not (x.owner == o) ≡ not b
    out x b key is = grind (arith, nat_tests, key, is)

    go : (b : Bool) → o == owner ≡ b → level (filter (λ x. not (x.owner == o)) rs) ≡ (if b then Free else level rs)
    go true key = ap level_in (find_filter-none (is_of owner resource) (λ x. not (x.owner == o)) (λ x. out x true key) rs)
    go false key = ap level_in (find_filter-all (is_of owner resource) (λ x. not (x.owner == o)) (λ x. out x false key) rs)

  -- Requests by which an owner waits with no level yet are taken out.
  pub level-without_bare : (o : ℕ) (rs : List Request) → AllPairs (NotBoth (is_of owner resource)) rs → level (filter (λ x. not (is_bare_wait_of o x)) rs) ≡ level rs
  level-without_bare o rs once = ap level_in (find_filter-once (is_of owner resource) (λ x. not (is_bare_wait_of o x)) rs once) ∙ go (find (is_of owner resource) rs) where
    go : (found : Option Request) → level_in (option_and_then (λ x. if not (is_bare_wait_of o x) then Some x else None) found) ≡ level_in found
    go None = refl
    go (Some x) = grind (arith)
