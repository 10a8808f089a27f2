-- The page that gives its buffer up is not waited for.
use Rattle.std.proofs.Common.{◌≡◌, ◌≤◌, ◌<◌, ℕ, suc, not, Bool, true, false, cond, ◌==◌, List, [], ◌∷◌, length, Option, Some, None, subst, refl, arith}
use Rattle.std.proofs.lemmas.Bool.Decides.{nat_tests}
use Rattle.std.proofs.lemmas.Grind.{common_steps}
use Rattle.std.specs.List.{filter, find, list_any}
use Rattle.std.specs.Option.{option_map, option_map_or}
use Rattle.fbc_buffers.specs.declared.buffers.Buffer.{Buffer}
use Rattle.fbc_buffers.specs.Holding.{AreApart, buffer_of, is_loose, is_pinned, is_waiting, victim_of}
use Rattle.fbc_buffers.proofs.Victim.{buffer_of-found}
use Rattle.fbc_cache.specs.declared.needs.Need.{Need}
use Rattle.fbc_cache.specs.Cache.{CacheState}
use Rattle.fbc_cache.specs.Wants.{MayWant}

-- Where a test finds none, no buffer passes it.
pub any-none : (p : Buffer → Bool) (held : List Buffer) → find p held ≡ None → list_any p held ≡ false
any-none p [] none = refl
any-none p (b ∷ bs) none = grind (arith, none, any-none p bs)

pub found-fails : (p q : Buffer → Bool) (held : List Buffer) (b : Buffer) → find p held ≡ None → find q held ≡ Some b → p b ≡ false
found-fails p q [] b none is = absurd (cc)
found-fails p q (a ∷ bs) b none is = go (p a) refl none (q a) refl is (found-fails p q bs b) where
  go : (t : Bool) → p a ≡ t → cond t (Some a) (find p bs) ≡ None → (u : Bool) → q a ≡ u → cond u (Some a) (find q bs) ≡ Some b → (find p bs ≡ None → find q bs ≡ Some b → p b ≡ false) → p b ≡ false
  go true _ none' u _ is' later = absurd (cc)
  go false fails none' true _ is' later = let same : a ≡ b = cc in subst (λ x. p x ≡ false) same fails
  go false fails none' false _ is' later = later none' is'

-- No page is waited for, where one that has no buffer may be wanted.
pub none-waits : (c : CacheState) (need : Need) → AreApart c.held → MayWant c need → buffer_of c.held need.page ≡ None → find is_waiting c.held ≡ None
none-waits c need apart may absent = go (find is_waiting c.held) refl may.alone where
  go : (found : Option Buffer) → find is_waiting c.held ≡ found → option_map_or (λ (b : Buffer). b.page == need.page) found true ≡ true → found ≡ None
  go None is alone = refl
  go (Some b) is alone =
      let same : b.page ≡ need.page = grind (arith, nat_tests, alone) in
      let there : buffer_of c.held need.page ≡ Some b = subst (λ page. buffer_of c.held page ≡ Some b) same (buffer_of-found is_waiting c.held b apart is).0 in
      absurd (cc)

-- What is known of the victim's buffer.
pub record IsVictim (held : List Buffer) (page : ℕ) : Type 0 where
  pub buffer : Buffer
  pub found : buffer_of held page ≡ Some buffer
  pub loose : buffer.is_pinned ≡ false
  pub granted : is_waiting buffer ≡ false

pub is_victim : (held : List Buffer) (page : ℕ) → AreApart held → find is_waiting held ≡ None → victim_of held ≡ Some page → IsVictim held page
is_victim held page apart none is = go (find is_loose held) refl is where
  go : (found : Option Buffer) → find is_loose held ≡ found → option_map (λ (b : Buffer). b.page) found ≡ Some page → IsVictim held page
  go None found is' = absurd (cc)
  go (Some b) found is' =
      let same : b.page ≡ page = cc in
      let known = buffer_of-found is_loose held b apart found in
      record {
        buffer = b;
        found = subst (λ page. buffer_of held page ≡ Some b) same known.0;
        loose = grind (arith, known.1);
        granted = found-fails is_waiting is_loose held b none found;
      }

-- No more are pinned than there are.
pub pinned-few : (held : List Buffer) → length (filter is_pinned held) ≤ length held
pinned-few [] = omega (arith)
pinned-few (b ∷ bs) = grind (arith, common_steps, pinned-few bs)

-- A page gives way exactly where fewer are pinned than there are.
pub victim-loose : (held : List Buffer) (page : ℕ) → victim_of held ≡ Some page → length (filter is_pinned held) < length held
victim-loose [] page is = absurd (cc)
victim-loose (b ∷ bs) page is = go b.is_pinned refl is (victim-loose bs page) where
  go : (t : Bool) → b.is_pinned ≡ t → option_map (λ (b : Buffer). b.page) (cond (not t) (Some b) (find is_loose bs)) ≡ Some page → (victim_of bs ≡ Some page → length (filter is_pinned bs) < length bs) → length (filter is_pinned (b ∷ bs)) < suc (length bs)
  go true pinned is' later = grind (arith, common_steps, pinned, later is')
  go false loose is' later = grind (arith, common_steps, loose, pinned-few bs)
