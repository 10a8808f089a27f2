-- What stays of a desk while pages are used, one after the other.
use Rattle.std.proofs.Common.{◌≡◌, ◌∙◌, ◌==◌, ℕ, Bool, true, false, if◌then◌else◌, ◌++◌, ◌∷◌, [], List, map, length, Option, Some, None, IfSome, inl, inr, ap, refl, sym, subst, arith}
use Rattle.std.proofs.lemmas.Bool.Decides.{nat_tests}
use Rattle.std.specs.Option.{option_and_then, option_map, option_map_or}
use Rattle.fbc_kinds.specs.declared.rules.Rule.{Rule}
use Rattle.fbc_kinds.specs.declared.rules.Rule.TheVariants as rule
use Rattle.fbc_world.specs.declared.events.LocalEvent.{LocalEvent}
use Rattle.fbc_world.specs.declared.events.LocalEvent.TheVariants as local
use Rattle.fbc_buffers.specs.declared.buffers.Buffer.{Buffer}
use Rattle.fbc_buffers.specs.Holding.{buffer_of, touched, with_pin}
use Rattle.fbc_buffers.proofs.Found.{buffer_of-map, buffer_of-page, buffer_of-touched}
use Rattle.fbc_cache.specs.declared.needs.Need.{Need}
use Rattle.fbc_cache.specs.declared.readers.Place.{Place}
use Rattle.fbc_cache.specs.Cache.{CacheState, copy_in, is_granted_in, is_pinned_in}
use Rattle.fbc_cache.specs.Wants.{IsHere}
use Rattle.fbc_desk.specs.declared.holding.Held.{Held}
use Rattle.fbc_desk.specs.declared.holding.Held.TheVariants as held
use Rattle.fbc_desk.specs.Calls.{after_look, after_pin, pinned_anew, with_event}
use Rattle.fbc_desk.specs.Desk.{DeskState, event_limit}
use Rattle.fbc_desk.specs.Holds.{Holds, HoldsAs, after_hold, after_looking}
use Rattle.fbc_tip.specs.Using.{OnlyUses, StaysOrIsUsed, in_use}

-- A use of a use is one.
twice : (found : Option Buffer) → option_map in_use (option_map in_use found) ≡ option_map in_use found
twice None = refl
twice (Some b) = refl

used-then : (x y z : Option Buffer) → StaysOrIsUsed x y → StaysOrIsUsed y z → StaysOrIsUsed x z
used-then x y z (inl first) (inl second) = inl (second ∙ first)
used-then x y z (inl first) (inr second) = inr (second ∙ ap (option_map in_use) first)
used-then x y z (inr first) (inl second) = inr (second ∙ first)
used-then x y z (inr first) (inr second) = inr (second ∙ ap (option_map in_use) first ∙ twice x)

-- No use is one, and one after another is one.
pub uses-none : (d : DeskState) → OnlyUses d d
uses-none d = record { buffers = λ page. inl refl; cache = refl; rest = refl }

pub uses-then : (a b c : DeskState) → OnlyUses a b → OnlyUses b c → OnlyUses a c
uses-then a b c first second = record {
  buffers = λ page. used-then (buffer_of a.cache.held page) (buffer_of b.cache.held page) (buffer_of c.cache.held page) (first.buffers page) (second.buffers page);
  cache = second.cache ∙ ap (λ (x : CacheState). record x { held = c.cache.held }) first.cache;
  rest = second.rest ∙ ap (λ (x : DeskState). record x { cache = c.cache; unsent = c.unsent; is_spilled = c.is_spilled }) first.rest;
}

-- A pin.
pinned-or-stays : (page : ℕ) (found : Option Buffer) → StaysOrIsUsed found (option_map (with_pin page true) found)
pinned-or-stays page None = inl refl
pinned-or-stays page (Some b) = go (b.page == page) where
  go : (t : Bool) → StaysOrIsUsed (Some b) (Some (if t then record b { is_pinned = true } else b))
  go true = inr refl
  go false = inl refl

found-pinned : (held : List Buffer) (page other : ℕ) → buffer_of (touched page (map (with_pin page true) held)) other ≡ option_map (with_pin page true) (buffer_of held other)
found-pinned held page other = buffer_of-touched page (map (with_pin page true) held) other ∙ buffer_of-map (with_pin page true) (λ b. grind (arith)) held other

pinned-found : (held : List Buffer) (page other : ℕ) → StaysOrIsUsed (buffer_of held other) (buffer_of (touched page (map (with_pin page true) held)) other)
pinned-found held page other = subst (StaysOrIsUsed (buffer_of held other)) (sym (found-pinned held page other)) (pinned-or-stays page (buffer_of held other))

event-rest : (event : LocalEvent) (d : DeskState) → with_event event d ≡ record d { unsent = (with_event event d).unsent; is_spilled = (with_event event d).is_spilled }
event-rest event d = go (length d.unsent == event_limit) where
  added : Bool → DeskState
  added t = if t then record d { is_spilled = true } else record d { unsent = d.unsent ++ event ∷ [] }

  go : (t : Bool) → added t ≡ record d { unsent = (added t).unsent; is_spilled = (added t).is_spilled }
  go true = refl
  go false = refl

anew-rest : (page : ℕ) (d : DeskState) → pinned_anew page d ≡ record d { unsent = (pinned_anew page d).unsent; is_spilled = (pinned_anew page d).is_spilled }
anew-rest page d = go (is_pinned_in d.cache.held page) where
  anew : Bool → DeskState
  anew t = if t then d else with_event (local.Pin page) d

  go : (t : Bool) → anew t ≡ record d { unsent = (anew t).unsent; is_spilled = (anew t).is_spilled }
  go true = refl
  go false = event-rest (local.Pin page) d

pub uses-pin : (d : DeskState) (page : ℕ) → OnlyUses d (after_pin d page)
uses-pin d page = go (is_granted_in d.cache.held page) where
  cache_after : Bool → CacheState
  cache_after t = if t then record d.cache { held = touched page (map (with_pin page true) d.cache.held) } else d.cache

  go : (t : Bool) → OnlyUses d (if t then record (pinned_anew page d) { cache = cache_after t } else d)
  go true = record {
    buffers = pinned-found d.cache.held page;
    cache = refl;
    rest = ap (λ (x : DeskState). record x { cache = cache_after true }) (anew-rest page d);
  }
  go false = uses-none d

-- A look.
pub uses-look : (d : DeskState) (page : ℕ) → OnlyUses d (after_look d page)
uses-look d page = record { buffers = λ other. inl (buffer_of-touched page d.cache.held other); cache = refl; rest = refl }

-- What holds a page, or looks at it.
pub uses-hold : (d : DeskState) (need : Need) (answer : Held) → OnlyUses d (after_hold d need answer)
uses-hold d need held.Here = uses-pin d need.page
uses-hold d need (held.Miss missed) = uses-none d
uses-hold d need (held.Damaged page rule.Taken) = uses-none d
uses-hold d need (held.Damaged page _) = uses-pin d need.page

pub uses-looking : (d : DeskState) (need : Need) (answer : Held) → OnlyUses d (after_looking d need answer)
uses-looking d need held.Here = uses-look d need.page
uses-looking d need (held.Miss missed) = uses-none d
uses-looking d need (held.Damaged page rule.Taken) = uses-none d
uses-looking d need (held.Damaged page _) = uses-look d need.page

-- What stays of a page.
same-copy : (found after : Option Buffer) → StaysOrIsUsed found after → option_and_then (λ (b : Buffer). b.copy) after ≡ option_and_then (λ (b : Buffer). b.copy) found
same-copy found after (inl is) = ap (option_and_then (λ (b : Buffer). b.copy)) is
same-copy None after (inr is) = ap (option_and_then (λ (b : Buffer). b.copy)) is
same-copy (Some b) after (inr is) = ap (option_and_then (λ (b : Buffer). b.copy)) is

same-pin : (found after : Option Buffer) → StaysOrIsUsed found after → option_map_or (λ (b : Buffer). b.is_pinned) found false ≡ true → option_map_or (λ (b : Buffer). b.is_pinned) after false ≡ true
same-pin found after (inl is) pinned = ap (λ (x : Option Buffer). option_map_or (λ (b : Buffer). b.is_pinned) x false) is ∙ pinned
same-pin None after (inr is) pinned = absurd (cc)
same-pin (Some b) after (inr is) pinned = ap (λ (x : Option Buffer). option_map_or (λ (b : Buffer). b.is_pinned) x false) is

module _ (a b : DeskState) (uses : OnlyUses a b) where
  pub same_tips : b.tips ≡ a.tips
  same_tips = ap (λ (d : DeskState). d.tips) uses.rest

  pub same_shape : b.cache.shape ≡ a.cache.shape
  same_shape = ap (λ (c : CacheState). c.shape) uses.cache

  pub same_copies : (page : ℕ) → copy_in b.cache.held page ≡ copy_in a.cache.held page
  same_copies page = same-copy (buffer_of a.cache.held page) (buffer_of b.cache.held page) (uses.buffers page)

  pub pins_stay : (page : ℕ) → is_pinned_in a.cache.held page ≡ true → is_pinned_in b.cache.held page ≡ true
  pins_stay page pinned = same-pin (buffer_of a.cache.held page) (buffer_of b.cache.held page) (uses.buffers page) pinned

  pub here_stays : (need : Need) → IsHere a.cache need → IsHere b.cache need
  here_stays need here = go (uses.buffers need.page) where
    go : StaysOrIsUsed (buffer_of a.cache.held need.page) (buffer_of b.cache.held need.page) → IsHere b.cache need
    go (inl is) = record { buffer = here.buffer; found = is ∙ here.found; granted = here.granted; level = here.level; valid = here.valid }
    go (inr is) = record { buffer = in_use here.buffer; found = is ∙ ap (option_map in_use) here.found; granted = here.granted; level = here.level; valid = here.valid }

  pub holds_here : (need : Need) → Holds a need held.Here → Holds b need held.Here
  holds_here need holds = (rw same_shape holds.0, here_stays need holds.1)

  pub as_here : (need : Need) (due : Place) → HoldsAs a need due held.Here → HoldsAs b need due held.Here
  as_here need due holds = (holds_here need holds.0, rw (same_copies need.page) holds.1)

  pub as_damaged : (need : Need) (due : Place) (page : ℕ) (broken : Rule) → HoldsAs a need due (held.Damaged page broken) → HoldsAs b need due (held.Damaged page broken)
  as_damaged need due page broken (inl past) = inl (rw same_shape past)
  as_damaged need due page broken (inr wrong) = inr (holds_here need wrong.0, wrong.1, rw (same_copies need.page) wrong.2)

-- A page that is there is in use after it was held.
pub held-pinned : (d : DeskState) (need : Need) → IsHere d.cache need → is_pinned_in (after_pin d need.page).cache.held need.page ≡ true
held-pinned d need here = go (is_granted_in d.cache.held need.page) granted where
  granted : is_granted_in d.cache.held need.page ≡ true
  granted = rw here.found (rw here.granted refl)

  of-page : here.buffer.page ≡ need.page
  of-page = at (buffer_of d.cache.held need.page) here.found (buffer_of-page d.cache.held need.page) where
    at : (found : Option Buffer) → found ≡ Some here.buffer → IfSome found (λ b. b.page ≡ need.page) → here.buffer.page ≡ need.page
    at None none is = absurd (cc)
    at (Some x) same is = let equal : x ≡ here.buffer = cc in subst (λ (y : Buffer). y.page ≡ need.page) equal is

  found : buffer_of (touched need.page (map (with_pin need.page true) d.cache.held)) need.page ≡ Some (with_pin need.page true here.buffer)
  found = found-pinned d.cache.held need.page need.page ∙ ap (option_map (with_pin need.page true)) here.found

  pinned : (with_pin need.page true here.buffer).is_pinned ≡ true
  pinned = grind (arith, nat_tests, of-page)

  go : (t : Bool) → t ≡ true → is_pinned_in (if t then record (pinned_anew need.page d) { cache = if t then record d.cache { held = touched need.page (map (with_pin need.page true) d.cache.held) } else d.cache } else d).cache.held need.page ≡ true
  go true _ = rw found pinned
  go false fails = absurd (cc)

-- A page that is there, or is damaged, is so after it was looked at too. What is needed and due may be told by equal words.
module _ (a b : DeskState) (need need' : Need) (due due' : Place) (same_need : need' ≡ need) (same_due : due' ≡ due) where
  pub looked-here : b ≡ after_looking a need' held.Here → HoldsAs a need' due' held.Here → HoldsAs b need due held.Here
  looked-here is holds =
      subst (λ (n : Need). HoldsAs b n due held.Here) same_need (subst (λ (p : Place). HoldsAs b need' p held.Here) same_due
      (as_here a b (subst (OnlyUses a) (sym is) (uses-looking a need' held.Here)) need' due' holds))

  pub looked-damaged : (page : ℕ) (broken : Rule) → b ≡ after_looking a need' (held.Damaged page broken) → HoldsAs a need' due' (held.Damaged page broken) → HoldsAs b need due (held.Damaged page broken)
  looked-damaged page broken is holds =
      subst (λ (n : Need). HoldsAs b n due (held.Damaged page broken)) same_need (subst (λ (p : Place). HoldsAs b need' p (held.Damaged page broken)) same_due
      (as_damaged a b (subst (OnlyUses a) (sym is) (uses-looking a need' (held.Damaged page broken))) need' due' page broken holds))
