-- The pairs stay of dirty pages with pages held in EX.
use Rattle.std.proofs.Common.{◌≡◌, ℕ, Bool, true, false, not, ◌&&◌, ◌||◌, ◌==◌, cond, nat_eq, List, [], ◌∷◌, ◌++◌, map, Option, Some, None, IfSome, is_some, unwrap_or, refl, ap, ◌∙◌, arith}
use Rattle.std.proofs.lemmas.Bool.Decides.{nat_tests}
use Rattle.std.specs.List.{AllByRecursion, filter}
use Rattle.std.specs.Option.{option_map, option_map_or}
use Rattle.fbc_kinds.specs.declared.edges.Edge.{Edge}
use Rattle.fbc_kinds.specs.declared.shapes.Shape.{Shape}
use Rattle.fbc_levels.specs.declared.levels.Level.{Level}
use Rattle.fbc_levels.specs.declared.levels.Level.TheVariants.{Ex, Free}
use Rattle.fbc_precedence.specs.Precedence.{is_without}
use Rattle.fbc_buffers.specs.declared.buffers.Buffer.{Buffer}
use Rattle.fbc_buffers.specs.Holding.{KeepsPage, buffer_of, granted_wait, is_of, is_waiting, touched, without}
use Rattle.fbc_buffers.proofs.Found.{buffer_of-map, buffer_of-page, buffer_of-push, buffer_of-touched, buffer_of-without}
use Rattle.fbc_cache.specs.Cache.{HasLevel, IsBuffer, IsHeldPair, is_dirty_in, level_in}
use Rattle.fbc_precedence.specs.Search.{is_blocked}
use Rattle.fbc_cache.proofs.Lists.{all-filter, all-implied}

-- All pairs, over these buffers.
abbrev pub ArePairs : List Buffer → List Edge → Type 0
ArePairs held pairs = AllByRecursion (IsHeldPair held) pairs

-- What is dirty stays dirty, and what is held in EX stays so.
pub record Keep (before after : List Buffer) : Type 0 where
  pub dirty : (page : ℕ) → is_dirty_in before page ≡ true → is_dirty_in after page ≡ true
  pub level : (page : ℕ) → level_in before page ≡ Ex → level_in after page ≡ Ex

pub pairs-keep : (before after : List Buffer) → Keep before after → (pairs : List Edge) → ArePairs before pairs → ArePairs after pairs
pairs-keep before after keep pairs all =
    all-implied (IsHeldPair before) (IsHeldPair after) (λ pair is. record { high = keep.dirty pair.high is.high; low = keep.level pair.low is.low }) pairs all

-- A change that keeps the page, the level and the dirt.
pub record KeepsHeld (f : Buffer → Buffer) : Type 0 where
  pub page : (b : Buffer) → (f b).page ≡ b.page
  pub level : (b : Buffer) → (f b).level ≡ b.level
  pub dirty : (b : Buffer) → (f b).is_dirty ≡ b.is_dirty

-- A reading of a buffer that a change keeps.
mapped : {X : Type 0} (get : Buffer → X) (f : Buffer → Buffer) → ((b : Buffer) → get (f b) ≡ get b) → (found : Option Buffer) (d : X) → option_map_or get (option_map f found) d ≡ option_map_or get found d
mapped get f keeps None d = refl
mapped get f keeps (Some b) d = keeps b

read-map : {X : Type 0} (get : Buffer → X) (f : Buffer → Buffer) → KeepsPage f → ((b : Buffer) → get (f b) ≡ get b) → (held : List Buffer) (page : ℕ) (d : X) → option_map_or get (buffer_of (map f held) page) d ≡ option_map_or get (buffer_of held page) d
read-map get f page keeps held other d = ap (λ found. option_map_or get found d) (buffer_of-map f page held other) ∙ mapped get f keeps (buffer_of held other) d

pub keep-map : (f : Buffer → Buffer) → KeepsHeld f → (held : List Buffer) → Keep held (map f held)
keep-map f keeps held = record {
  dirty = λ page is. read-map (λ (b : Buffer). b.is_dirty) f keeps.page keeps.dirty held page false ∙ is;
  level = λ page is. read-map (λ (b : Buffer). b.level) f keeps.page keeps.level held page Free ∙ is;
}

pub keep-touched : (page : ℕ) (held : List Buffer) → Keep held (touched page held)
keep-touched page held = record {
  dirty = λ other is. ap (λ found. option_map_or (λ (b : Buffer). b.is_dirty) found false) (buffer_of-touched page held other) ∙ is;
  level = λ other is. ap (λ found. option_map_or (λ (b : Buffer). b.level) found Free) (buffer_of-touched page held other) ∙ is;
}

-- One more buffer.
pub keep-push : (held : List Buffer) (b : Buffer) → buffer_of held b.page ≡ None → Keep held (held ++ b ∷ [])
keep-push held b none = record {
  dirty = λ page is. grind (arith, nat_tests, none, is, buffer_of-push held b page none);
  level = λ page is. grind (arith, nat_tests, none, is, buffer_of-push held b page none);
}

-- What is true of every buffer is true of what is found.
pub found-is : (P : Buffer → Type 0) (held : List Buffer) (page : ℕ) → AllByRecursion P held → IfSome (buffer_of held page) P
found-is P [] page all = tt
found-is P (b ∷ bs) page all = go (is_of page b) (found-is P bs page all.1) where
  go : (t : Bool) → IfSome (buffer_of bs page) P → IfSome (cond t (Some b) (buffer_of bs page)) P
  go true rest = all.0
  go false rest = rest

-- A page held in EX is not waited for.
granted : (level : Level) (wanted : Option Level) → HasLevel level wanted → level ≡ Ex → (unwrap_or wanted level ≡ Ex) × (not (is_some wanted) ≡ true)
granted level None fits ex = (ex, refl)
granted level (Some wanted) fits ex =
    let free : level ≡ Free = fits.0 in
    absurd (cc)

-- What is waited for is granted.
pub keep-granted : (shape : Shape) (held : List Buffer) → AllByRecursion (IsBuffer shape) held → Keep held (map granted_wait held)
keep-granted shape held all = record {
  dirty = λ page is. read-map (λ (b : Buffer). b.is_dirty) granted_wait (λ b. refl) (λ b. refl) held page false ∙ is;
  level = λ page is. ap (λ found. option_map_or (λ (b : Buffer). b.level) found Free) (buffer_of-map granted_wait (λ b. refl) held page) ∙ in_ex (buffer_of held page) (found-is (IsBuffer shape) held page all) is;
} where
  in_ex : (found : Option Buffer) → IfSome found (IsBuffer shape) → option_map_or (λ (b : Buffer). b.level) found Free ≡ Ex → option_map_or (λ (b : Buffer). b.level) (option_map granted_wait found) Free ≡ Ex
  in_ex None is ex = ex
  in_ex (Some b) is ex = (granted b.level b.wanted is.level ex).0

-- What is found and passes a test is found among those that pass it.
stays : (q : Buffer → Bool) (held : List Buffer) (page : ℕ) → option_map_or q (buffer_of held page) false ≡ true → buffer_of (filter q held) page ≡ buffer_of held page
stays q [] page passes = refl
stays q (b ∷ bs) page passes = grind (arith, nat_tests, passes, stays q bs page)

-- Nothing is waited for any more.
pub keep-withdrawn : (shape : Shape) (held : List Buffer) → AllByRecursion (IsBuffer shape) held → Keep held (filter (λ b. not (is_waiting b)) held)
keep-withdrawn shape held all = record {
  dirty = λ page is. ap (λ found. option_map_or (λ (b : Buffer). b.is_dirty) found false) (stays (λ b. not (is_waiting b)) held page (if_dirty (buffer_of held page) (found-is (IsBuffer shape) held page all) is)) ∙ is;
  level = λ page is. ap (λ found. option_map_or (λ (b : Buffer). b.level) found Free) (stays (λ b. not (is_waiting b)) held page (if_ex (buffer_of held page) (found-is (IsBuffer shape) held page all) is)) ∙ is;
} where
  if_ex : (found : Option Buffer) → IfSome found (IsBuffer shape) → option_map_or (λ (b : Buffer). b.level) found Free ≡ Ex → option_map_or (λ (b : Buffer). not (is_waiting b)) found false ≡ true
  if_ex None is ex = absurd (cc)
  if_ex (Some b) is ex = (granted b.level b.wanted is.level ex).1

  if_dirty : (found : Option Buffer) → IfSome found (IsBuffer shape) → option_map_or (λ (b : Buffer). b.is_dirty) found false ≡ true → option_map_or (λ (b : Buffer). not (is_waiting b)) found false ≡ true
  if_dirty None is dirt = absurd (cc)
  if_dirty (Some b) is dirt = (granted b.level b.wanted is.level (is.dirty dirt).0).1

-- A page of which nothing is dirty and that is the second of no pair: the pairs are those of other pages.
pub others : (held : List Buffer) (page : ℕ) (pairs : List Edge) → is_dirty_in held page ≡ false → is_blocked pairs page ≡ false → ArePairs held pairs → AllByRecursion (λ pair. (is_without page pair ≡ true) × IsHeldPair held pair) pairs
others held page [] clean low all = tt
others held page (pair ∷ pairs) clean low all =
    let parts : (pair.low == page ≡ false) × (is_blocked pairs page ≡ false) = or-parts (pair.low == page) (is_blocked pairs page) low in
    ((without_it (nat_eq pair.high page) refl parts.0 all.0.high, all.0), others held page pairs clean parts.1 all.1) where
      or-parts : (s t : Bool) → (s || t) ≡ false → (s ≡ false) × (t ≡ false)
      or-parts s t neither = grind (arith, neither)

      not_page : nat_eq pair.high page ≡ true → is_dirty_in held pair.high ≡ true → ⊥
      not_page same dirt =
          let at : pair.high ≡ page = grind (arith, nat_tests, same) in
          grind (arith, at, dirt, clean)

      without_it : (t : Bool) → nat_eq pair.high page ≡ t → pair.low == page ≡ false → is_dirty_in held pair.high ≡ true → is_without page pair ≡ true
      without_it true same low dirt = absurd (not_page same dirt)
      without_it false same low dirt = grind (arith, same, low)

-- A change that leaves the buffers of other pages.
pub record KeepOthers (page : ℕ) (before after : List Buffer) : Type 0 where
  pub dirty : (other : ℕ) → nat_eq other page ≡ false → is_dirty_in before other ≡ true → is_dirty_in after other ≡ true
  pub level : (other : ℕ) → nat_eq other page ≡ false → level_in before other ≡ Ex → level_in after other ≡ Ex

pair-others : (page : ℕ) (before after : List Buffer) → KeepOthers page before after → (pair : Edge) → is_without page pair ≡ true → IsHeldPair before pair → IsHeldPair after pair
pair-others page before after keep pair other is =
    let parts : (nat_eq pair.high page ≡ false) × (nat_eq pair.low page ≡ false) = neither (nat_eq pair.high page) (nat_eq pair.low page) other in
    record { high = keep.dirty pair.high parts.0 is.high; low = keep.level pair.low parts.1 is.low } where
      neither : (s t : Bool) → (not s && not t) ≡ true → (s ≡ false) × (t ≡ false)
      neither s t both = grind (arith, both)

-- All pairs stay where they are of other pages.
pub pairs-others : (page : ℕ) (before after : List Buffer) → KeepOthers page before after → (pairs : List Edge) → is_dirty_in before page ≡ false → is_blocked pairs page ≡ false → ArePairs before pairs → ArePairs after pairs
pairs-others page before after keep pairs clean low all =
    all-implied (λ pair. (is_without page pair ≡ true) × IsHeldPair before pair) (IsHeldPair after) (λ pair both. pair-others page before after keep pair both.0 both.1) pairs (others before page pairs clean low all)

-- Those of other pages stay.
pub pairs-cleared : (page : ℕ) (before after : List Buffer) → KeepOthers page before after → (pairs : List Edge) → ArePairs before pairs → ArePairs after (filter (is_without page) pairs)
pairs-cleared page before after keep pairs all =
    all-filter (IsHeldPair before) (IsHeldPair after) (is_without page) (λ pair other is. pair-others page before after keep pair other is) pairs all

-- The page is given up.
pub others-without : (page : ℕ) (held : List Buffer) → KeepOthers page held (without page held)
others-without page held = record {
  dirty = λ other differs is. grind (arith, nat_tests, differs, is, buffer_of-without page held other);
  level = λ other differs is. grind (arith, nat_tests, differs, is, buffer_of-without page held other);
}

-- The buffers of the page change.
pub others-map : (page : ℕ) (f : Buffer → Buffer) → KeepsPage f → ((b : Buffer) → nat_eq b.page page ≡ false → f b ≡ b) → (held : List Buffer) → KeepOthers page held (map f held)
others-map page f keeps leaves held = record {
  dirty = λ other differs is. ap (λ found. option_map_or (λ (b : Buffer). b.is_dirty) found false) (found other differs) ∙ is;
  level = λ other differs is. ap (λ found. option_map_or (λ (b : Buffer). b.level) found Free) (found other differs) ∙ is;
} where
  same : (other : ℕ) → nat_eq other page ≡ false → (found : Option Buffer) → IfSome found (λ b. b.page ≡ other) → option_map f found ≡ found
  same other differs None of = refl
  same other differs (Some b) of = ap Some (leaves b (rw of differs))

  found : (other : ℕ) → nat_eq other page ≡ false → buffer_of (map f held) other ≡ buffer_of held other
  found other differs = buffer_of-map f keeps held other ∙ same other differs (buffer_of held other) (buffer_of-page held other)
