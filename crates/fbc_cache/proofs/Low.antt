-- The pages before which others are to be written.
use Rattle.std.proofs.Common.{◌≡◌, ◌↔◌, IsTrue, ℕ, Bool, true, false, ◌==◌, ◌||◌, List, [], ◌∷◌, sym, subst, refl, arith}
use Rattle.std.proofs.lemmas.Bool.Decides.{nat_tests}
use Rattle.std.specs.List.{AllByRecursion, list_any}
use Rattle.fbc_kinds.specs.declared.edges.Edge.{Edge}
use Rattle.fbc_levels.specs.declared.levels.Level.TheVariants.{Ex}
use Rattle.fbc_buffers.specs.declared.buffers.Buffer.{Buffer}
use Rattle.fbc_kinds.specs.Order.{straight, through}
use Rattle.fbc_precedence.specs.Precedence.{IsBlocked, IsPair, ComesBefore, is_pair}
use Rattle.fbc_cache.specs.Cache.{IsHeldPair, is_dirty_in, level_in}
use Rattle.fbc_precedence.specs.Search.{is_blocked}

low-pair : (pairs : List Edge) (page : ℕ) → is_blocked pairs page ≡ true → (high : ℕ) × IsPair pairs high page
low-pair [] page is = absurd (cc)
low-pair (e ∷ es) page is = go (e.low == page) refl is (low-pair es page) where
  go : (t : Bool) → (e.low == page) ≡ t → (t || is_blocked es page) ≡ true → (is_blocked es page ≡ true → (high : ℕ) × IsPair es high page) → (high : ℕ) × IsPair (e ∷ es) high page
  go true same first later = (e.high, grind (arith, nat_tests, same))
  go false differ rest later = let found = later rest in (found.0, grind (arith, nat_tests, found.1))

pair-low : (pairs : List Edge) (high low : ℕ) → IsPair pairs high low → is_blocked pairs low ≡ true
pair-low [] high low is = absurd (cc)
pair-low (e ∷ es) high low is = grind (arith, nat_tests, is, pair-low es high low)

-- A page is the low one of a pair exactly where some page stands before it.
pub low-blocked : (pairs : List Edge) (page : ℕ) → is_blocked pairs page ≡ true → IsBlocked pairs page
low-blocked pairs page is = let found = low-pair pairs page is in (found.0, straight found.0 page found.1)

pub path-low : (pairs : List Edge) (high low : ℕ) → ComesBefore pairs high low → is_blocked pairs low ≡ true
path-low pairs _ _ (straight high low is) = pair-low pairs high low is
path-low pairs _ _ (through high between low is rest) = path-low pairs between low rest

-- The pages of a pair are held as the pairs say.
high-dirty : (held : List Buffer) (pairs : List Edge) (high low : ℕ) → AllByRecursion (IsHeldPair held) pairs → IsPair pairs high low → is_dirty_in held high ≡ true
high-dirty held [] high low all is = absurd (cc)
high-dirty held (e ∷ es) high low all is = go (is_pair high low e) refl is (high-dirty held es high low all.1) where
  go : (t : Bool) → is_pair high low e ≡ t → (t || list_any (is_pair high low) es) ≡ true → (IsPair es high low → is_dirty_in held high ≡ true) → is_dirty_in held high ≡ true
  go true same first later = let equal : e.high ≡ high = grind (arith, nat_tests, same) in subst (λ page. is_dirty_in held page ≡ true) equal all.0.high
  go false differ rest later = later rest

pub low-held : (held : List Buffer) (pairs : List Edge) (page : ℕ) → AllByRecursion (IsHeldPair held) pairs → is_blocked pairs page ≡ true → level_in held page ≡ Ex
low-held held [] page all is = absurd (cc)
low-held held (e ∷ es) page all is = go (e.low == page) refl is (low-held held es page all.1) where
  go : (t : Bool) → (e.low == page) ≡ t → (t || is_blocked es page) ≡ true → (is_blocked es page ≡ true → level_in held page ≡ Ex) → level_in held page ≡ Ex
  go true same first later = let equal : e.low ≡ page = grind (arith, nat_tests, same) in subst (λ low. level_in held low ≡ Ex) equal all.0.low
  go false differ rest later = later rest

-- A page that stands before another is dirty.
pub path-dirty : (held : List Buffer) (pairs : List Edge) (high low : ℕ) → AllByRecursion (IsHeldPair held) pairs → ComesBefore pairs high low → is_dirty_in held high ≡ true
path-dirty held pairs _ _ all (straight high low is) = high-dirty held pairs high low all is
path-dirty held pairs _ _ all (through high between low is rest) = high-dirty held pairs high between all is

-- What tells whether some page stands before it is whether it is a low page.
pub low-told : (pairs : List Edge) (page : ℕ) (blocked : Bool) → (IsTrue blocked ↔ IsBlocked pairs page) → blocked ≡ is_blocked pairs page
low-told pairs page true tells = let some = tells.0 refl in sym (path-low pairs some.0 page some.1)
low-told pairs page false tells = go (is_blocked pairs page) refl where
  go : (t : Bool) → is_blocked pairs page ≡ t → false ≡ t
  go true low = absurd (let yes : false ≡ true = tells.1 (low-blocked pairs page low) in cc)
  go false low = refl
