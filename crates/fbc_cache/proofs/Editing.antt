-- The page after an edit, and the cache with it.
use Rattle.std.proofs.Common.{◌≡◌, ℕ, Bool, true, false, cond, List, [], ◌∷◌, map, Option, Some, None, Result, Ok, Err, IfOk, IfSome, refl, sym, ap, ◌∙◌, subst, arith}
use Rattle.std.proofs.lemmas.Bool.Decides.{nat_tests}
use Rattle.std.specs.List.{AllByRecursion}
use Rattle.std.specs.Option.{option_and_then, option_map, option_map_or}
use Rattle.fbc_kinds.specs.declared.edges.Edge.{Edge}
use Rattle.fbc_kinds.specs.declared.edits.Edit.{Edit}
use Rattle.fbc_kinds.specs.declared.edits.Edit.TheVariants.{Format}
use Rattle.fbc_kinds.specs.declared.pages.Page.{Page}
use Rattle.fbc_kinds.specs.declared.pages.Page.TheVariants.{Blank}
use Rattle.fbc_kinds.specs.declared.shapes.Shape.{Shape}
use Rattle.fbc_kinds.specs.Edits.{IsWithinLimits, applied}
use Rattle.fbc_levels.specs.declared.levels.Level.{Level}
use Rattle.fbc_levels.specs.declared.levels.Level.TheVariants.{Ex, Free}
use Rattle.fbc_world.specs.PageCell.{edited}
use Rattle.fbc_buffers.specs.declared.buffers.Buffer.{Buffer}
use Rattle.fbc_buffers.specs.Holding.{AreApart, KeepsPage, buffer_of, is_of, with_copy, with_dirt}
use Rattle.fbc_buffers.proofs.Found.{buffer_of-map}
use Rattle.fbc_cache.specs.Cache.{CacheState, HasCopy, HasLevel, IsBuffer, IsCache, copy_in, level_in}
use Rattle.fbc_cache.proofs.Buffers.{AreBuffers}
use Rattle.fbc_cache.proofs.Changes.{Holds, cache-holds, holds-cache}
use Rattle.fbc_cache.proofs.HeldPairs.{Keep, pairs-keep}
use Rattle.fbc_cache.proofs.Lists.{all-both, all-map}
use Rattle.fbc_cache.proofs.Waiting.{waits-map}

-- Each edit makes the same of no copy and of a blank page.
pub edited-blank : (shape : Shape) (edit : Edit) → edited shape edit None ≡ applied shape edit Blank
edited-blank shape (Format kind number relation sequence) = refl
edited-blank shape _ = refl

-- The copy of a page is within its limits.
pub copy-limits : (shape : Shape) (held : List Buffer) (page : ℕ) → AreBuffers shape held → IfSome (copy_in held page) (IsWithinLimits shape)
copy-limits shape [] page all = tt
copy-limits shape (b ∷ bs) page all = step (is_of page b) (copy-limits shape bs page all.1) where
  own : (wanted : Option Level) (copy : Option Page) → HasCopy shape wanted copy → IfSome copy (IsWithinLimits shape)
  own wanted None has = tt
  own wanted (Some content) has = has.1

  step : (t : Bool) → IfSome (copy_in bs page) (IsWithinLimits shape) → IfSome (option_and_then (λ (a : Buffer). a.copy) (cond t (Some b) (buffer_of bs page))) (IsWithinLimits shape)
  step true rest = own b.wanted b.copy all.0.copy
  step false rest = rest

pub used-limits : (shape : Shape) (held : List Buffer) (page : ℕ) (content : Page) → AreBuffers shape held → copy_in held page ≡ Some content → IsWithinLimits shape content
used-limits shape held page content all is = subst (λ copy. IfSome copy (IsWithinLimits shape)) is (copy-limits shape held page all)

-- The buffers of a page that is held in EX.
no_buffer : (page : ℕ) (held : List Buffer) → buffer_of held page ≡ None → AllByRecursion (λ b. is_of page b ≡ true → b.level ≡ Ex) held
no_buffer page [] none = tt
no_buffer page (b ∷ bs) none = grind (arith, nat_tests, none, no_buffer page bs)

in_ex : (page : ℕ) (held : List Buffer) → AreApart held → level_in held page ≡ Ex → AllByRecursion (λ b. is_of page b ≡ true → b.level ≡ Ex) held
in_ex page [] apart exclusive = tt
in_ex page (b ∷ bs) apart exclusive = grind (arith, nat_tests, apart.0, exclusive, no_buffer page bs, in_ex page bs apart.1)

-- The buffer of a page that has this content, which is not written.
abbrev pub with_content : ℕ → Page → Buffer → Buffer
with_content page content b = cond (is_of page b) (record b { copy = Some content; is_dirty = true }) b

content-keeps : (shape : Shape) (page : ℕ) (content : Page) → IsWithinLimits shape content → (b : Buffer) → IsBuffer shape b × (is_of page b ≡ true → b.level ≡ Ex) → IsBuffer shape (with_content page content b)
content-keeps shape page content limits b both = step (is_of page b) both.1 where
  not_wanted : (level : Level) (wanted : Option Level) → HasLevel level wanted → level ≡ Ex → wanted ≡ None
  not_wanted level None has exclusive = refl
  not_wanted level (Some wanted) has exclusive =
      let free : level ≡ Free = has.0 in
      absurd (cc)

  step : (t : Bool) → (t ≡ true → b.level ≡ Ex) → IsBuffer shape (cond t (record b { copy = Some content; is_dirty = true }) b)
  step true exclusive = record {
    level = both.0.level;
    copy = (not_wanted b.level b.wanted both.0.level (exclusive refl), limits);
    dirty = λ is. (exclusive refl, refl);
    pinned = both.0.pinned;
  }
  step false exclusive = both.0

-- Two changes come to it.
module _ (page : ℕ) (content : Page) where
  at-once : (b : Buffer) → with_dirt page true (with_copy page (Some content) b) ≡ with_content page content b
  at-once b = step (is_of page b) refl where
    step : (t : Bool) → is_of page b ≡ t → with_dirt page true (cond t (record b { copy = Some content }) b) ≡ cond t (record b { copy = Some content; is_dirty = true }) b
    step true same = ap (λ t. cond t (record b { copy = Some content; is_dirty = true }) (record b { copy = Some content })) same
    step false other = ap (λ t. cond t (record b { is_dirty = true }) b) other

  all-at-once : (held : List Buffer) → map (with_dirt page true) (map (with_copy page (Some content)) held) ≡ map (with_content page content) held
  all-at-once [] = refl
  all-at-once (b ∷ bs) = λ i. at-once b i ∷ all-at-once bs i

-- No page is less dirty by that, and each keeps its level.
module _ (page : ℕ) (content : Page) where
  content-page : KeepsPage (with_content page content)
  content-page b = grind (arith)

  dirt-stays : (found : Option Buffer) → option_map_or (λ (b : Buffer). b.is_dirty) found false ≡ true → option_map_or (λ (b : Buffer). b.is_dirty) (option_map (with_content page content) found) false ≡ true
  dirt-stays None is = is
  dirt-stays (Some b) is = grind (arith, is)

  level-stays : (found : Option Buffer) → option_map_or (λ (b : Buffer). b.level) (option_map (with_content page content) found) Free ≡ option_map_or (λ (b : Buffer). b.level) found Free
  level-stays None = refl
  level-stays (Some b) = grind (arith)

  content-keep : (held : List Buffer) → Keep held (map (with_content page content) held)
  content-keep held = record {
    dirty = λ other is. ap (λ found. option_map_or (λ (b : Buffer). b.is_dirty) found false) (buffer_of-map (with_content page content) content-page held other) ∙ dirt-stays (buffer_of held other) is;
    level = λ other is. ap (λ found. option_map_or (λ (b : Buffer). b.level) found Free) (buffer_of-map (with_content page content) content-page held other) ∙ level-stays (buffer_of held other) ∙ is;
  }

-- The buffers and the pairs with the content.
pub holds-content : (shape : Shape) (held : List Buffer) (pairs : List Edge) → Holds shape held pairs → AreApart held → (page : ℕ) (content : Page) → level_in held page ≡ Ex → IsWithinLimits shape content → Holds shape (map (with_dirt page true) (map (with_copy page (Some content)) held)) pairs
holds-content shape held pairs is apart page content exclusive limits = subst (λ after. Holds shape after pairs) (sym (all-at-once page content held)) (record {
  buffers = all-map (λ b. IsBuffer shape b × (is_of page b ≡ true → b.level ≡ Ex)) (IsBuffer shape) (with_content page content) (content-keeps shape page content limits) held
      (all-both (IsBuffer shape) (λ b. is_of page b ≡ true → b.level ≡ Ex) held is.buffers (in_ex page held apart exclusive));
  one_wait = omega (arith, waits-map (with_content page content) (λ b. grind (arith)) held, is.one_wait);
  pairs = pairs-keep held (map (with_content page content) held) (content-keep page content held) pairs is.pairs;
})

-- A copy of a page has its limits.
pub copied-limits : {E : Type 0} (shape : Shape) (page : Page) (copied : Result Page E) → IsWithinLimits shape page → IfOk copied (λ copy. copy ≡ page) → IfOk copied (IsWithinLimits shape)
copied-limits shape page (Ok copy) limits same = rw same limits
copied-limits shape page (Err e) limits same = tt

-- The cache with the content.
pub cache-content : (before now : CacheState) (pointers : List (List ℕ)) → now ≡ record before { pointers = pointers } → (page : ℕ) (content : Page) → level_in before.held page ≡ Ex → IsWithinLimits before.shape content → AreApart before.held → IsCache now → IsCache (record now { held = map (with_dirt page true) (map (with_copy page (Some content)) now.held) })
cache-content before now pointers same page content exclusive limits apart is =
    let held-is : now.held ≡ before.held = ap (λ (s : CacheState). s.held) same in
    let shape-is : now.shape ≡ before.shape = ap (λ (s : CacheState). s.shape) same in
    cache-holds _ (holds-content now.shape now.held now.pairs (holds-cache now is) (subst AreApart (sym held-is) apart) page content
    (subst (λ held. level_in held page ≡ Ex) (sym held-is) exclusive) (subst (λ shape. IsWithinLimits shape content) (sym shape-is) limits))
