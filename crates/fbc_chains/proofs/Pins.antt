-- Which pages are in use after a hold and an unpin.
use Rattle.std.proofs.Common.{◌≡◌, ◌≢◌, ◌==◌, ℕ, Bool, true, false, cond, if◌then◌else◌, List, map, Option, Some, None, IfSome, is_none, option_map, refl, sym, subst, inl, inr, ◌⊎◌, arith}
use Rattle.std.proofs.lemmas.Bool.Decides.{nat_tests}
use Rattle.std.specs.Option.{option_map_or}
use Rattle.fbc_kinds.specs.declared.rules.Rule.TheVariants as rule
use Rattle.fbc_buffers.specs.declared.buffers.Buffer.{Buffer}
use Rattle.fbc_buffers.specs.Holding.{buffer_of, touched, with_pin}
use Rattle.fbc_buffers.proofs.Found.{buffer_of-map, buffer_of-page, buffer_of-touched}
use Rattle.fbc_cache.specs.declared.needs.Need.{Need}
use Rattle.fbc_cache.specs.Cache.{CacheState, is_granted_in, is_pinned_in}
use Rattle.fbc_cache.specs.Use as use_of
use Rattle.fbc_cache.specs.Wants.{IsHere}
use Rattle.fbc_desk.specs.declared.holding.Held.{Held}
use Rattle.fbc_desk.specs.declared.holding.Held.TheVariants as held
use Rattle.fbc_desk.specs.Calls.{PinnedOrNot, UnpinsIfPinned, after_look, after_pin, pinned_anew}
use Rattle.fbc_desk.specs.Desk.{DeskState}
use Rattle.fbc_desk.specs.Holds.{Holds, after_hold, after_looking}
use Rattle.fbc_chains.specs.Using.{IsUsed}
use Rattle.fbc_chains.proofs.Showing.{pin-page}

-- Whether what is found is pinned.
abbrev pinned-in : Option Buffer → Bool
pinned-in found = option_map_or (λ (b : Buffer). b.is_pinned) found false

found-used : (held : List Buffer) (page other : ℕ) → pinned-in (option_map (with_pin page true) (buffer_of held other)) ≡ true → is_pinned_in (touched page (map (with_pin page true) held)) other ≡ true
found-used held page other is =
    subst (λ (found : Option Buffer). pinned-in found ≡ true) (sym (buffer_of-touched page (map (with_pin page true) held) other))
    (subst (λ (found : Option Buffer). pinned-in found ≡ true) (sym (buffer_of-map (with_pin page true) (pin-page page true) held other)) is)

pin-found : (page : ℕ) (found : Option Buffer) → pinned-in found ≡ true → pinned-in (option_map (with_pin page true) found) ≡ true
pin-found page None is = is
pin-found page (Some b) is = go (b.page == page) where
  go : (t : Bool) → (cond t (record b { is_pinned = true }) b).is_pinned ≡ true
  go true = refl
  go false = is

cache-keeps : (c : CacheState) (page other : ℕ) → is_pinned_in c.held other ≡ true → is_pinned_in (use_of.after_pin c page).held other ≡ true
cache-keeps c page other is = go (is_granted_in c.held page) where
  go : (t : Bool) → is_pinned_in (if t then record c { held = touched page (map (with_pin page true) c.held) } else c).held other ≡ true
  go true = found-used c.held page other (pin-found page (buffer_of c.held other) is)
  go false = is

pin-keeps : (d : DeskState) (page other : ℕ) → IsUsed d other → IsUsed (after_pin d page) other
pin-keeps d page other is = go (is_granted_in d.cache.held page) where
  go : (t : Bool) → is_pinned_in (if t then record (pinned_anew page d) { cache = use_of.after_pin d.cache page } else d).cache.held other ≡ true
  go true = cache-keeps d.cache page other is
  go false = is

-- A hold leaves what is in use so.
hold-leaves : (d : DeskState) (need : Need) (answer : Held) (other : ℕ) → IsUsed d other → IsUsed (after_hold d need answer) other
hold-leaves d need held.Here other is = pin-keeps d need.page other is
hold-leaves d need (held.Miss missed) other is = is
hold-leaves d need (held.Damaged page rule.Taken) other is = is
hold-leaves d need (held.Damaged page _) other is = pin-keeps d need.page other is

pub hold-keeps : (before after : DeskState) (need : Need) (answer : Held) → after ≡ after_hold before need answer → (other : ℕ) → IsUsed before other → IsUsed after other
hold-keeps before after need answer is other used = subst (λ (d : DeskState). IsUsed d other) (sym is) (hold-leaves before need answer other used)

-- A page that was there is in use after it was held.
found-pinned : (page : ℕ) (b : Buffer) → b.page ≡ page → (with_pin page true b).is_pinned ≡ true
found-pinned page b is = grind (arith, nat_tests, is)

here-used : (d : DeskState) (page : ℕ) (b : Buffer) → buffer_of d.cache.held page ≡ Some b → b.wanted ≡ None → IsUsed (after_pin d page) page
here-used d page b found granted = go (is_granted_in d.cache.held page) is_granted where
  is_granted : is_granted_in d.cache.held page ≡ true
  is_granted =
      subst (λ (f : Option Buffer). option_map_or (λ (x : Buffer). is_none x.wanted) f false ≡ true) (sym found)
      (subst (λ w. is_none w ≡ true) (sym granted) refl)

  of_page : b.page ≡ page
  of_page = subst (λ (f : Option Buffer). IfSome f (λ x. x.page ≡ page)) found (buffer_of-page d.cache.held page)

  used : is_pinned_in (touched page (map (with_pin page true) d.cache.held)) page ≡ true
  used = found-used d.cache.held page page (subst (λ (f : Option Buffer). pinned-in (option_map (with_pin page true) f) ≡ true) (sym found) (found-pinned page b of_page))

  go : (t : Bool) → t ≡ true → is_pinned_in (if t then record (pinned_anew page d) { cache = if t then record d.cache { held = touched page (map (with_pin page true) d.cache.held) } else d.cache } else d).cache.held page ≡ true
  go true is = used
  go false is = absurd (cc)

pub held-used : (before after : DeskState) (page : ℕ) (need : Need) (answer : Held) → need.page ≡ page → answer ≡ held.Here → Holds before need answer → after ≡ after_hold before need answer → IsUsed after page
held-used before after page need answer is_page here holds is =
    subst (λ (p : ℕ). IsUsed after p) is_page
    (subst (λ (d : DeskState). IsUsed d need.page) (sym (subst (λ (a : Held). after ≡ after_hold before need a) here is))
    (here-used before need.page there.buffer there.found there.granted)) where
      there : IsHere before.cache need
      there = (subst (λ (a : Held). Holds before need a) here holds).1

-- An unpin leaves other pages in use.
other-found : (page other : ℕ) (b : Buffer) → b.page ≡ other → other ≢ page → (with_pin page false b).is_pinned ≡ b.is_pinned
other-found page other b is differs = grind (arith, nat_tests, is, differs)

unpin-found : (page other : ℕ) (found : Option Buffer) → IfSome found (λ b. b.page ≡ other) → other ≢ page → pinned-in found ≡ true → pinned-in (option_map (with_pin page false) found) ≡ true
unpin-found page other None of differs is = is
unpin-found page other (Some b) of differs is = subst (λ (t : Bool). t ≡ true) (sym (other-found page other b of differs)) is

pub unpin-keeps : (before after : DeskState) (page : ℕ) → UnpinsIfPinned before page after → (other : ℕ) → other ≢ page → IsUsed before other → IsUsed after other
unpin-keeps before after page unpins other differs used = go (is_pinned_in before.cache.held page) unpins where
  kept : is_pinned_in (map (with_pin page false) before.cache.held) other ≡ true
  kept =
      subst (λ (found : Option Buffer). pinned-in found ≡ true) (sym (buffer_of-map (with_pin page false) (pin-page page false) before.cache.held other))
      (unpin-found page other (buffer_of before.cache.held other) (buffer_of-page before.cache.held other) differs used)

  go : (t : Bool) → PinnedOrNot t before page after → IsUsed after other
  go true is = subst (λ (d : DeskState). IsUsed d other) (sym is.is_after) kept
  go false same = subst (λ (d : DeskState). IsUsed d other) (sym same) used

-- A look changes nothing of what is in use.
looked-used : (d : DeskState) (page other : ℕ) → IsUsed (after_look d page) other → IsUsed d other
looked-used d page other is = subst (λ (found : Option Buffer). pinned-in found ≡ true) (buffer_of-touched page d.cache.held other) is

look-adds : (d : DeskState) (need : Need) (answer : Held) (other : ℕ) → IsUsed (after_looking d need answer) other → IsUsed d other
look-adds d need held.Here other is = looked-used d need.page other is
look-adds d need (held.Miss missed) other is = is
look-adds d need (held.Damaged page rule.Taken) other is = is
look-adds d need (held.Damaged page _) other is = looked-used d need.page other is

pub looks-add : (before after : DeskState) (need : Need) (answer : Held) → after ≡ after_looking before need answer → (other : ℕ) → IsUsed after other → IsUsed before other
looks-add before after need answer is other used = look-adds before need answer other (subst (λ (d : DeskState). IsUsed d other) is used)

-- A hold adds the page alone.
back-found : (page other : ℕ) (found : Option Buffer) → IfSome found (λ b. b.page ≡ other) → pinned-in (option_map (with_pin page true) found) ≡ true → (pinned-in found ≡ true) ⊎ (other ≡ page)
back-found page other None of is = inl is
back-found page other (Some b) of is = go (b.page == page) refl is where
  go : (t : Bool) → (b.page == page) ≡ t → (cond t (record b { is_pinned = true }) b).is_pinned ≡ true → (b.is_pinned ≡ true) ⊎ (other ≡ page)
  go true e is' = inr (grind (arith, nat_tests, e, of))
  go false e is' = inl is'

cache-adds : (c : CacheState) (page other : ℕ) → is_pinned_in (use_of.after_pin c page).held other ≡ true → (is_pinned_in c.held other ≡ true) ⊎ (other ≡ page)
cache-adds c page other = go (is_granted_in c.held page) where
  go : (t : Bool) → is_pinned_in (if t then record c { held = touched page (map (with_pin page true) c.held) } else c).held other ≡ true → (is_pinned_in c.held other ≡ true) ⊎ (other ≡ page)
  go true is =
      back-found page other (buffer_of c.held other) (buffer_of-page c.held other)
      (subst (λ (found : Option Buffer). pinned-in found ≡ true) (buffer_of-map (with_pin page true) (pin-page page true) c.held other)
      (subst (λ (found : Option Buffer). pinned-in found ≡ true) (buffer_of-touched page (map (with_pin page true) c.held) other) is))
  go false is = inl is

pin-adds : (d : DeskState) (page other : ℕ) → IsUsed (after_pin d page) other → IsUsed d other ⊎ (other ≡ page)
pin-adds d page other = go (is_granted_in d.cache.held page) where
  go : (t : Bool) → is_pinned_in (if t then record (pinned_anew page d) { cache = use_of.after_pin d.cache page } else d).cache.held other ≡ true → IsUsed d other ⊎ (other ≡ page)
  go true is = cache-adds d.cache page other is
  go false is = inl is

hold-adds : (d : DeskState) (need : Need) (answer : Held) (other : ℕ) → IsUsed (after_hold d need answer) other → IsUsed d other ⊎ (other ≡ need.page)
hold-adds d need held.Here other is = pin-adds d need.page other is
hold-adds d need (held.Miss missed) other is = inl is
hold-adds d need (held.Damaged page rule.Taken) other is = inl is
hold-adds d need (held.Damaged page _) other is = pin-adds d need.page other is

pub holds-add : (before after : DeskState) (page : ℕ) (need : Need) (answer : Held) → need.page ≡ page → after ≡ after_hold before need answer → (other : ℕ) → IsUsed after other → IsUsed before other ⊎ (other ≡ page)
holds-add before after page need answer is_page is other used =
    subst (λ (p : ℕ). IsUsed before other ⊎ (other ≡ p)) is_page (hold-adds before need answer other (subst (λ (d : DeskState). IsUsed d other) is used))

-- After an unpin the page is not in use, and no other one is that was not.
gone-found : (page other : ℕ) (found : Option Buffer) → IfSome found (λ b. b.page ≡ other) → pinned-in (option_map (with_pin page false) found) ≡ true → (pinned-in found ≡ true) × (other ≢ page)
gone-found page other None of is = absurd (cc)
gone-found page other (Some b) of is = go (b.page == page) refl is where
  go : (t : Bool) → (b.page == page) ≡ t → (cond t (record b { is_pinned = false }) b).is_pinned ≡ true → (b.is_pinned ≡ true) × (other ≢ page)
  go true e is' = absurd (cc)
  go false e is' = (is', grind (arith, nat_tests, e, of))

pub unpin-takes : (before after : DeskState) (page : ℕ) → UnpinsIfPinned before page after → (other : ℕ) → IsUsed after other → IsUsed before other × (other ≢ page)
unpin-takes before after page unpins other used = go (is_pinned_in before.cache.held page) refl unpins where
  go : (t : Bool) → is_pinned_in before.cache.held page ≡ t → PinnedOrNot t before page after → IsUsed before other × (other ≢ page)
  go true e is =
      gone-found page other (buffer_of before.cache.held other) (buffer_of-page before.cache.held other)
      (subst (λ (found : Option Buffer). pinned-in found ≡ true) (buffer_of-map (with_pin page false) (pin-page page false) before.cache.held other)
      (subst (λ (d : DeskState). IsUsed d other) is.is_after used))
  go false e same =
      let was : IsUsed before other = subst (λ (d : DeskState). IsUsed d other) same used in
      (was, λ equal. absurd (differ (is_pinned_in before.cache.held page) e (subst (λ (p : ℕ). IsUsed before p) equal was))) where
        differ : (t : Bool) → t ≡ false → t ≡ true → ⊥
        differ t isnt is' = grind (arith, isnt, is')

pub same-or-not : (a b : ℕ) → (a ≡ b) ⊎ (a ≢ b)
same-or-not a b = go (a == b) refl where
  go : (t : Bool) → (a == b) ≡ t → (a ≡ b) ⊎ (a ≢ b)
  go true e = inl (grind (arith, nat_tests, e))
  go false e = inr (grind (arith, nat_tests, e))
