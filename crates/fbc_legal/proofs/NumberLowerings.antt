-- Lowered levels keep nobody waiting whom they did not keep before.
use Rattle.std.proofs.Common.{◌≡◌, ℕ, Bool, true, false, not, ◌==◌, ◌&&◌, ◌||◌, if◌then◌else◌, List, [], ◌∷◌, ◌++◌, map, Option, Some, None, is_some, refl, ap, sym, ◌∙◌, subst, arith}
use Rattle.std.specs.List.{All, find, list_any}
use Rattle.std.specs.Option.{option_map_or}
use Rattle.std.proofs.lemmas.List.Elements.{All-head, All-tail}
use Rattle.fbc_levels.specs.declared.levels.Level.{Level}
use Rattle.fbc_levels.specs.declared.levels.Level.TheVariants.{Free}
use Rattle.fbc_levels.specs.declared.resources.Request.{Request}
use Rattle.fbc_levels.specs.declared.resources.Resource.{Resource}
use Rattle.fbc_levels.specs.Levels.{is_compatible, join}
use Rattle.fbc_levels.specs.Resources.{is_same_resource}
use Rattle.fbc_levels.specs.LockState.{LockState, granted_of, is_of, request_of}
use Rattle.fbc_levels.specs.Waits.{is_waited_for}
use Rattle.fbc_lock_table.specs.Effects.{entered, new_request, with_granted}
use Rattle.fbc_lock_table.proofs.Pairs.{find-only}
use Rattle.fbc_lock_table.proofs.Ways.{compatible-sym, lower_beside}
use Rattle.fbc_world.specs.Locks.{lowered_to}
use Rattle.fbc_world.proofs.Apart.{IsApart, once}
use Rattle.fbc_world.proofs.Requests.{level_in}
use Rattle.fbc_legal.specs.Scene.{Scene}
use Rattle.fbc_legal.proofs.ListTests.{list_any-map}
use Rattle.fbc_legal.proofs.NumberEdges.{filtered, has_edge, holders_left, waiters_map}
use Rattle.fbc_legal.proofs.Pins.{clash}

-- The test of a changed element, of which something more is known.
any_of_all : {X : Type 0} (p q : X → Bool) (P : X → Type 0) → ((x : X) → P x → p x ≡ true → q x ≡ true) → (xs : List X) → All P xs → list_any p xs ≡ true → list_any q xs ≡ true
any_of_all p q P from [] all is = is
any_of_all {X} p q P from (x ∷ xs) all is =
    go (p x) (q x) (from x (All-head P x xs all)) (list_any p xs) (list_any q xs) (any_of_all p q P from xs (All-tail P x xs all)) is where
      go : (a b : Bool) → (a ≡ true → b ≡ true) → (c d : Bool) → (c ≡ true → d ≡ true) → a || c ≡ true → b || d ≡ true
      go a b first c d rest is' = grind (arith, first, rest, is')

module _ (at : Scene) (apart : IsApart at.world.locks) (agrees : (owner : ℕ) (resource : Resource) → granted_of at.world.locks owner resource ≡ at.world.granted owner resource) (actor : ℕ) where
  abbrev s : LockState
  s = at.world.locks

  -- A lowering: a weaker level is in the way of no more.
  module _ (r : Resource) (level : Level) (part : join (at.world.granted actor r) level ≡ at.world.granted actor r) where
    abbrev HasLevel : Request → Type 0
    HasLevel x = is_of actor r x ≡ true → x.granted ≡ at.world.granted actor r

    have_level : All HasLevel s.requests
    have_level i d within is =
        let found = find-only (is_of actor r) s.requests (once actor r s.requests apart) i d within is in
        sym (ap level_in found) ∙ agrees actor r

    less_in_way : (wanted held : Level) → held ≡ at.world.granted actor r → is_compatible wanted level ≡ false → is_compatible wanted held ≡ false
    less_in_way wanted held has is = go (is_compatible wanted held) refl where
      go : (b : Bool) → is_compatible wanted held ≡ b → b ≡ false
      go false goes = refl
      go true goes =
          let below : is_compatible level wanted ≡ true = lower_beside held level wanted (rw has part) (compatible-sym held wanted ∙ goes) in
          absurd (clash _ is (compatible-sym wanted level ∙ below))

    fewer_in_way : (a b c d less more : Bool) → (less ≡ false → more ≡ false) → a && ((b && c && not less) && d) ≡ true → a && ((b && c && not more) && d) ≡ true
    fewer_in_way a b c d less more from is = grind (arith, from, is)

    stops_less : (other : ℕ) (wait x : Request) → HasLevel x → (x.owner == other) && is_waited_for wait (with_granted actor r level x) ≡ true → (x.owner == other) && is_waited_for wait x ≡ true
    stops_less other wait x has is = go (is_of actor r x) refl has is where
      lowered_way : (waiting : Option Level) → x.granted ≡ at.world.granted actor r
          → (x.owner == other) && (option_map_or (λ l. is_same_resource x.resource wait.resource && not (x.owner == wait.owner) && not (is_compatible l level)) waiting false && x.alive) ≡ true
          → (x.owner == other) && (option_map_or (λ l. is_same_resource x.resource wait.resource && not (x.owner == wait.owner) && not (is_compatible l x.granted)) waiting false && x.alive) ≡ true
      lowered_way None its is' = absurd (grind (arith, is'))
      lowered_way (Some l) its is' =
          fewer_in_way (x.owner == other) (is_same_resource x.resource wait.resource) (not (x.owner == wait.owner)) x.alive (is_compatible l level) (is_compatible l x.granted) (less_in_way l x.granted its) is'

      go : (b : Bool) → is_of actor r x ≡ b → (b ≡ true → x.granted ≡ at.world.granted actor r)
          → (x.owner == other) && (option_map_or (λ l. is_same_resource x.resource wait.resource && not (x.owner == wait.owner) && not (is_compatible l (if b then level else x.granted))) wait.waiting false && x.alive) ≡ true
          → (x.owner == other) && is_waited_for wait x ≡ true
      go true its has' is' = lowered_way wait.waiting (has' refl) is'
      go false its has' is' = is'

    lowers_map : (owner other : ℕ) → has_edge (map (with_granted actor r level) s.requests) (map (with_granted actor r level) s.requests) owner other ≡ true → has_edge s.requests s.requests owner other ≡ true
    lowers_map owner other is =
        let all = s.requests in
        waiters_map owner other (with_granted actor r level) (λ x. refl) (λ x. refl) (λ x waits. refl) all all
        (holders_left owner other all (map (with_granted actor r level) all)
        (λ wait stops.
        any_of_all (λ x. (x.owner == other) && is_waited_for wait (with_granted actor r level x)) (λ x. (x.owner == other) && is_waited_for wait x) HasLevel (stops_less other wait) all have_level
        (rw (list_any-map (λ x. (x.owner == other) && is_waited_for wait x) (with_granted actor r level) all) at stops))
        (map (with_granted actor r level) all) is)

    -- What is lowered, and not to none, was asked for.
    none_lowered : request_of s actor r ≡ None → level ≡ Free
    none_lowered found =
        let nothing : at.world.granted actor r ≡ Free = sym (agrees actor r) ∙ ap level_in found in
        let less : join Free level ≡ Free = subst (λ (l : Level). join l level ≡ l) nothing part in
        grind (arith, less)

    lowers_to : (level ≡ Free → ⊥) → (owner other : ℕ) → has_edge (map (with_granted actor r level) (entered s.requests actor r 0)) (map (with_granted actor r level) (entered s.requests actor r 0)) owner other ≡ true
        → has_edge s.requests s.requests owner other ≡ true
    lowers_to some owner other = go (find (is_of actor r) s.requests) refl where
      go : (found : Option Request) → find (is_of actor r) s.requests ≡ found
          → has_edge (map (with_granted actor r level) (if is_some found then s.requests else s.requests ++ new_request actor r 0 ∷ [])) (map (with_granted actor r level) (if is_some found then s.requests else s.requests ++ new_request actor r 0 ∷ [])) owner other ≡ true
          → has_edge s.requests s.requests owner other ≡ true
      go None is = absurd (some (none_lowered is))
      go (Some x) is = lowers_map owner other

  pub lowers : (r : Resource) (level : Level) → join (at.world.granted actor r) level ≡ at.world.granted actor r → (owner other : ℕ) → has_edge (lowered_to s actor r level).requests (lowered_to s actor r level).requests owner other ≡ true → has_edge s.requests s.requests owner other ≡ true
  lowers r Free part owner other = filtered (λ x. not (is_of actor r x)) s.requests owner other
  lowers r _ part owner other = lowers_to r _ part (λ is. cc) owner other
