-- What a read goes by stays through pins, looks and unpins; and a page may be read exactly where a copy of it is at hand.
use Rattle.std.proofs.Common.{◌≡◌, ◌==◌, ◌||◌, ℕ, Bool, true, false, cond, if◌then◌else◌, List, map, Option, Some, None, IfSome, is_some, option_map, option_and_then, refl, ap, sym, subst, inl, inr}
use Rattle.fbc_kinds.specs.declared.pages.Page.{Page}
use Rattle.fbc_kinds.specs.declared.rules.Rule.TheVariants as rule
use Rattle.fbc_levels.specs.declared.levels.Level.{Level}
use Rattle.fbc_levels.specs.declared.levels.Level.TheVariants.{Ex, Free, Null, Pr, Pw, Sr, Sw}
use Rattle.fbc_levels.specs.Levels.{is_page_level}
use Rattle.fbc_buffers.specs.declared.buffers.Buffer.{Buffer}
use Rattle.fbc_buffers.specs.Holding.{KeepsPage, buffer_of, touched, with_pin}
use Rattle.fbc_buffers.proofs.Found.{buffer_of-map, buffer_of-touched}
use Rattle.fbc_cache.specs.declared.needs.Need.{Need}
use Rattle.fbc_cache.specs.declared.readers.Place.{Place}
use Rattle.fbc_cache.specs.Cache.{CacheState, HasCopy, HasLevel, IsBuffer, IsCache, copy_in, is_granted_in, is_pinned_in}
use Rattle.fbc_cache.specs.Use as use_of
use Rattle.fbc_cache.specs.Wants.{IsHere, suffices}
use Rattle.fbc_cache.proofs.Headers.{is_buffer-found}
use Rattle.fbc_desk.specs.declared.holding.Held.{Held}
use Rattle.fbc_desk.specs.declared.holding.Held.TheVariants as held
use Rattle.fbc_desk.specs.Calls.{PinnedOrNot, UnpinsIfPinned, after_look, after_pin, pinned_anew}
use Rattle.fbc_desk.specs.Desk.{DeskState}
use Rattle.fbc_desk.specs.Holds.{Holds, HoldsAs, after_hold, after_looking}
use Rattle.fbc_chains.specs.Pages.{HoldsToRead, LooksAt, to_read}
use Rattle.fbc_chains.specs.Showing.{shown_by}

-- Buffers with the same copies show the same.
shown-held : (c : CacheState) (held' : List Buffer) → ((page : ℕ) → copy_in held' page ≡ copy_in c.held page) → shown_by (record c { held = held' }) ≡ shown_by c
shown-held c held' same = λ i. record { shape = c.shape; pointers = c.pointers; copies = λ page. same page i }

copy-map : (f : Buffer → Buffer) → KeepsPage f → ((b : Buffer) → (f b).copy ≡ b.copy) → (held : List Buffer) (page : ℕ) → copy_in (map f held) page ≡ copy_in held page
copy-map f keeps copies held page =
    subst (λ (found : Option Buffer). option_and_then (λ (b : Buffer). b.copy) found ≡ copy_in held page) (sym (buffer_of-map f keeps held page)) (go (buffer_of held page)) where
      go : (found : Option Buffer) → option_and_then (λ (b : Buffer). b.copy) (option_map f found) ≡ option_and_then (λ (b : Buffer). b.copy) found
      go None = refl
      go (Some b) = copies b

copy-touched : (held : List Buffer) (used page : ℕ) → copy_in (touched used held) page ≡ copy_in held page
copy-touched held used page = ap (option_and_then (λ (b : Buffer). b.copy)) (buffer_of-touched used held page)

pub pin-page : (page : ℕ) (pinned : Bool) (b : Buffer) → (with_pin page pinned b).page ≡ b.page
pin-page page pinned b = go (b.page == page) where
  go : (t : Bool) → (cond t (record b { is_pinned = pinned }) b).page ≡ b.page
  go true = refl
  go false = refl

pin-copy : (page : ℕ) (pinned : Bool) (b : Buffer) → (with_pin page pinned b).copy ≡ b.copy
pin-copy page pinned b = go (b.page == page) where
  go : (t : Bool) → (cond t (record b { is_pinned = pinned }) b).copy ≡ b.copy
  go true = refl
  go false = refl

copy-pin : (held : List Buffer) (page : ℕ) (pinned : Bool) (other : ℕ) → copy_in (map (with_pin page pinned) held) other ≡ copy_in held other
copy-pin held page pinned other = copy-map (with_pin page pinned) (pin-page page pinned) (pin-copy page pinned) held other

copy-used : (held : List Buffer) (page other : ℕ) → copy_in (touched page (map (with_pin page true) held)) other ≡ copy_in held other
copy-used held page other =
    subst (λ (copy : Option Page). copy ≡ copy_in held other) (sym (copy-touched (map (with_pin page true) held) page other)) (copy-pin held page true other)

-- A pin, a look, and an unpin.
cache-pin : (c : CacheState) (page : ℕ) → shown_by (use_of.after_pin c page) ≡ shown_by c
cache-pin c page = go (is_granted_in c.held page) where
  go : (t : Bool) → shown_by (if t then record c { held = touched page (map (with_pin page true) c.held) } else c) ≡ shown_by c
  go true = shown-held c (touched page (map (with_pin page true) c.held)) (copy-used c.held page)
  go false = refl

cache-look : (c : CacheState) (page : ℕ) → shown_by (use_of.after_touch c page) ≡ shown_by c
cache-look c page = shown-held c (touched page c.held) (copy-touched c.held page)

cache-unpin : (c : CacheState) (page : ℕ) → shown_by (use_of.after_unpin c page) ≡ shown_by c
cache-unpin c page = shown-held c (map (with_pin page false) c.held) (copy-pin c.held page false)

shown-pin : (d : DeskState) (page : ℕ) → shown_by (after_pin d page).cache ≡ shown_by d.cache
shown-pin d page = go (is_granted_in d.cache.held page) where
  go : (t : Bool) → shown_by (if t then record (pinned_anew page d) { cache = use_of.after_pin d.cache page } else d).cache ≡ shown_by d.cache
  go true = cache-pin d.cache page
  go false = refl

shown-look : (d : DeskState) (page : ℕ) → shown_by (after_look d page).cache ≡ shown_by d.cache
shown-look d page = cache-look d.cache page

shown-hold : (d : DeskState) (need : Need) (answer : Held) → shown_by (after_hold d need answer).cache ≡ shown_by d.cache
shown-hold d need held.Here = shown-pin d need.page
shown-hold d need (held.Miss missed) = refl
shown-hold d need (held.Damaged page rule.Taken) = refl
shown-hold d need (held.Damaged page _) = shown-pin d need.page

shown-looking : (d : DeskState) (need : Need) (answer : Held) → shown_by (after_looking d need answer).cache ≡ shown_by d.cache
shown-looking d need held.Here = shown-look d need.page
shown-looking d need (held.Miss missed) = refl
shown-looking d need (held.Damaged page rule.Taken) = refl
shown-looking d need (held.Damaged page _) = shown-look d need.page

pub shown-unpin : (before after : DeskState) (page : ℕ) → UnpinsIfPinned before page after → shown_by after.cache ≡ shown_by before.cache
shown-unpin before after page = go (is_pinned_in before.cache.held page) where
  go : (t : Bool) → PinnedOrNot t before page after → shown_by after.cache ≡ shown_by before.cache
  go true unpins = subst (λ (d : DeskState). shown_by d.cache ≡ shown_by before.cache) (sym unpins.is_after) (cache-unpin before.cache page)
  go false same = subst (λ (d : DeskState). shown_by d.cache ≡ shown_by before.cache) (sym same) refl

-- A page that may be read has a copy at hand.
or-false : (b : Bool) → (b || false) ≡ true → b ≡ true
or-false true is = refl
or-false false is = is

copy-here : (c : CacheState) (page : ℕ) (wait : Bool) → IsHere c (to_read page wait) → is_some (copy_in c.held page) ≡ true
copy-here c page wait here =
    subst (λ (found : Option Buffer). is_some (option_and_then (λ (b : Buffer). b.copy) found) ≡ true) (sym here.found) (or-false (is_some here.buffer.copy) here.valid)

-- A page of which a copy is at hand may be read.
pr-level : (level : Level) → is_page_level level ≡ true → suffices level Pr ≡ true
pr-level Pr is = refl
pr-level Ex is = refl
pr-level Free is = absurd (cc)
pr-level Null is = absurd (cc)
pr-level Sr is = absurd (cc)
pr-level Sw is = absurd (cc)
pr-level Pw is = absurd (cc)

here-copy : (c : CacheState) (page : ℕ) (wait : Bool) (b : Buffer) (copy : Page) → IsBuffer c.shape b → buffer_of c.held page ≡ Some b → b.copy ≡ Some copy → IsHere c (to_read page wait)
here-copy c page wait b copy is found has = record {
  buffer = b;
  found = found;
  granted = granted;
  level = pr-level b.level (subst (HasLevel b.level) granted is.level);
  valid = subst (λ (at : Option Page). (is_some at || false) ≡ true) (sym has) refl;
} where
  granted : b.wanted ≡ None
  granted = (subst (HasCopy c.shape b.wanted) has is.copy).0

missing-copy : (c : CacheState) (page : ℕ) (wait : Bool) → IsCache c → ¬ IsHere c (to_read page wait) → copy_in c.held page ≡ None
missing-copy c page wait is away = go (buffer_of c.held page) refl (is_buffer-found c.shape c.held page is.buffers) where
  go : (found : Option Buffer) → buffer_of c.held page ≡ found → IfSome found (IsBuffer c.shape) → option_and_then (λ (b : Buffer). b.copy) found ≡ None
  go None at known = refl
  go (Some b) at known = of b.copy refl where
    of : (copy : Option Page) → b.copy ≡ copy → copy ≡ None
    of None has = refl
    of (Some copy) has = absurd (away (here-copy c page wait b copy known at has))

-- So the desk's answers are told by the copies.
read-held : (d : DeskState) (page : ℕ) (wait : Bool) (answer : Held) → IsCache d.cache → Holds d (to_read page wait) answer → HoldsToRead (shown_by d.cache) page answer
read-held d page wait held.Here is holds = record { below = holds.0; copy = copy-here d.cache page wait holds.1 }
read-held d page wait (held.Miss missed) is holds = record {
  below = holds.1;
  missing = missing-copy d.cache page wait is holds.2;
  is_need = subst (λ (need : Need). need ≡ to_read page need.wait) (sym holds.0) refl;
}
read-held d page wait (held.Damaged damaged broken) is holds = record { past = holds.0; is_page = holds.1; is_rule = holds.2 }

read-looked : (d : DeskState) (page : ℕ) (due : Place) (answer : Held) → IsCache d.cache → HoldsAs d (to_read page true) due answer → LooksAt (shown_by d.cache) page due answer
read-looked d page due held.Here is looks = record { there = read-held d page true held.Here is looks.0; placed = looks.1 }
read-looked d page due (held.Miss missed) is looks =
    (read-held d page true (held.Miss missed) is looks, subst (λ (need : Need). need.wait ≡ true) (sym looks.0) refl)
read-looked d page due (held.Damaged damaged broken) is (inl holds) = inl (read-held d page true (held.Damaged damaged broken) is holds)
read-looked d page due (held.Damaged damaged broken) is (inr elsewhere) =
    inr (record { there = read-held d page true held.Here is elsewhere.0; is_page = elsewhere.1; misplaced_by = elsewhere.2 })

pub holds-told : (d : DeskState) (page : ℕ) (wait : Bool) (need : Need) (answer : Held) → need ≡ to_read page wait → IsCache d.cache → Holds d need answer → HoldsToRead (shown_by d.cache) page answer
holds-told d page wait need answer is_need is holds = read-held d page wait answer is (subst (λ (n : Need). Holds d n answer) is_need holds)

pub looks-told : (d : DeskState) (page : ℕ) (due : Place) (need : Need) (answer : Held) → need ≡ to_read page true → IsCache d.cache → HoldsAs d need due answer → LooksAt (shown_by d.cache) page due answer
looks-told d page due need answer is_need is looks = read-looked d page due answer is (subst (λ (n : Need). HoldsAs d n due answer) is_need looks)

pub held-shows : (before after : DeskState) (need : Need) (answer : Held) → after ≡ after_hold before need answer → shown_by after.cache ≡ shown_by before.cache
held-shows before after need answer is = subst (λ (d : DeskState). shown_by d.cache ≡ shown_by before.cache) (sym is) (shown-hold before need answer)

pub looked-shows : (before after : DeskState) (need : Need) (answer : Held) → after ≡ after_looking before need answer → shown_by after.cache ≡ shown_by before.cache
looked-shows before after need answer is = subst (λ (d : DeskState). shown_by d.cache ≡ shown_by before.cache) (sym is) (shown-looking before need answer)

-- What is shown by a cache that is lent, after calls that left it.
pub lent-shows : (lent now before : CacheState) → lent ≡ now → shown_by now ≡ shown_by before → shown_by lent ≡ shown_by before
lent-shows lent now before is same = subst (λ (c : CacheState). shown_by c ≡ shown_by before) (sym is) same

pub lent-is : (lent now : CacheState) → lent ≡ now → shown_by lent ≡ shown_by now
lent-is lent now is = lent-shows lent now now is refl
