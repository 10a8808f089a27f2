-- The least of the pages whose buffers pass a test.
use Rattle.std.proofs.Common.{◌≡◌, ◌≤◌, ℕ, min, nat_lt, Bool, true, false, ◌&&◌, if◌then◌else◌, cond, List, [], ◌∷◌, map, length, take, Option, Some, None, IfSome, ◌∙◌, ap, sym, refl, subst, arith}
use Rattle.std.proofs.lemmas.Bool.Decides.{nat_tests}
use Rattle.std.proofs.Math.Seq.{take-length}
use Rattle.std.specs.List.{AllByRecursion, filter, fold, reduce}
use Rattle.std.specs.Option.{option_map_or}
use Rattle.fbc_buffers.specs.declared.buffers.Buffer.{Buffer}
use Rattle.fbc_buffers.specs.Holding.{AreApart, buffer_of, is_of}
use Rattle.fbc_precedence.specs.Search.{lesser}
use Rattle.fbc_cache.specs.Least.{IsLeast, is_past}
use Rattle.fbc_cache.proofs.Lists.{all-implied}

-- The least of some numbers is no more than each, and is one of them.
fold-first : (ns : List ℕ) (n : ℕ) → fold min n ns ≤ n
fold-first [] n = omega arith
fold-first (m ∷ ns) n = omega (arith, fold-first ns (min n m))

fold-bounds : (ns : List ℕ) (n : ℕ) → AllByRecursion (λ k. fold min n ns ≤ k) ns
fold-bounds [] n = tt
fold-bounds (m ∷ ns) n = (omega (arith, fold-first ns (min n m)), fold-bounds ns (min n m))

fold-among : (P : ℕ → Type 0) (ns : List ℕ) (n : ℕ) → P n → AllByRecursion P ns → P (fold min n ns)
fold-among P [] n here all = here
fold-among P (m ∷ ns) n here all = fold-among P ns (min n m) (go (nat_lt n m) refl) all.1 where
  go : (t : Bool) → nat_lt n m ≡ t → P (min n m)
  go true less = let same : min n m ≡ n = grind (arith, nat_tests, less) in rw same here
  go false more = let same : min n m ≡ m = grind (arith, nat_tests, more) in rw same all.0

reduce-bounds : (ns : List ℕ) → IfSome (reduce min ns) (λ least. AllByRecursion (λ k. least ≤ k) ns)
reduce-bounds [] = tt
reduce-bounds (n ∷ ns) = (fold-first ns n, fold-bounds ns n)

reduce-among : (P : ℕ → Type 0) (ns : List ℕ) → AllByRecursion P ns → IfSome (reduce min ns) P
reduce-among P [] all = tt
reduce-among P (n ∷ ns) all = fold-among P ns n all.0 all.1

reduce-none : (ns : List ℕ) → reduce min ns ≡ None → ns ≡ []
reduce-none [] none = refl
reduce-none (n ∷ ns) none = absurd (cc)

never : (t : Bool) → (t ≡ true → ⊥) → t ≡ false
never true wrong = absurd (wrong refl)
never false wrong = refl

module _ (q : Buffer → Bool) (above : Option ℕ) where
  -- A page past `above` whose buffer passes, and all such pages.
  abbrev passes : List Buffer → ℕ → Bool
  passes held page = option_map_or q (buffer_of held page) false && is_past above page

  abbrev pages : List Buffer → List ℕ
  pages held = map (λ (b : Buffer). b.page) (filter (λ (b : Buffer). q b && is_past above b.page) held)

  -- The least page so far, with that of the buffer if it passes, and the least of all.
  abbrev with_page : Option ℕ → Buffer → Option ℕ
  with_page least b = if q b && is_past above b.page then Some (lesser least b.page) else least

  abbrev pub least_of : List Buffer → Option ℕ
  least_of held = fold with_page None held

  past-some : (n : ℕ) (held : List Buffer) → fold with_page (Some n) held ≡ Some (fold min n (pages held))
  past-some n [] = refl
  past-some n (b ∷ bs) = go (q b && is_past above b.page) (past-some (min n b.page) bs) (past-some n bs) where
    go : (t : Bool) → fold with_page (Some (min n b.page)) bs ≡ Some (fold min (min n b.page) (pages bs)) → fold with_page (Some n) bs ≡ Some (fold min n (pages bs)) → fold with_page (if t then Some (min n b.page) else Some n) bs ≡ Some (fold min n (map (λ (a : Buffer). a.page) (cond t (b ∷ filter (λ (a : Buffer). q a && is_past above a.page) bs) (filter (λ (a : Buffer). q a && is_past above a.page) bs))))
    go true with without = with
    go false with without = without

  past-none : (held : List Buffer) → least_of held ≡ reduce min (pages held)
  past-none [] = refl
  past-none (b ∷ bs) = go (q b && is_past above b.page) (past-some b.page bs) (past-none bs) where
    go : (t : Bool) → fold with_page (Some b.page) bs ≡ Some (fold min b.page (pages bs)) → least_of bs ≡ reduce min (pages bs) → fold with_page (if t then Some b.page else None) bs ≡ reduce min (map (λ (a : Buffer). a.page) (cond t (b ∷ filter (λ (a : Buffer). q a && is_past above a.page) bs) (filter (λ (a : Buffer). q a && is_past above a.page) bs)))
    go true with without = with
    go false with without = without

  later : (b : Buffer) (bs : List Buffer) → buffer_of bs b.page ≡ None → (page : ℕ) → passes bs page ≡ true → passes (b ∷ bs) page ≡ true
  later b bs none page is = go (is_of page b) refl where
    go : (t : Bool) → is_of page b ≡ t → (option_map_or q (cond t (Some b) (buffer_of bs page)) false && is_past above page) ≡ true
    go true same =
        let page-is : b.page ≡ page = grind (arith, nat_tests, same) in
        let gone : buffer_of bs page ≡ None = subst (λ p. buffer_of bs p ≡ None) page-is none in
        absurd (let gets : (option_map_or q None false && is_past above page) ≡ true = rw gone at is in cc)
    go false differs = is

  own : (b : Buffer) (bs : List Buffer) → (q b && is_past above b.page) ≡ true → passes (b ∷ bs) b.page ≡ true
  own b bs is = grind (arith, nat_tests, is)

  all-pass : (held : List Buffer) → AreApart held → AllByRecursion (λ page. passes held page ≡ true) (pages held)
  all-pass [] apart = tt
  all-pass (b ∷ bs) apart = go (q b && is_past above b.page) refl (all-implied (λ page. passes bs page ≡ true) (λ page. passes (b ∷ bs) page ≡ true) (later b bs apart.0) (pages bs) (all-pass bs apart.1)) where
    go : (t : Bool) → (q b && is_past above b.page) ≡ t → AllByRecursion (λ page. passes (b ∷ bs) page ≡ true) (pages bs) → AllByRecursion (λ page. passes (b ∷ bs) page ≡ true) (map (λ (a : Buffer). a.page) (cond t (b ∷ filter (λ (a : Buffer). q a && is_past above a.page) bs) (filter (λ (a : Buffer). q a && is_past above a.page) bs)))
    go true is rest = (own b bs is, rest)
    go false is rest = rest

  each : (P : ℕ → Type 0) (held : List Buffer) (page : ℕ) → passes held page ≡ true → AllByRecursion P (pages held) → P page
  each P [] page is all = absurd (cc)
  each P (b ∷ bs) page is all = go (is_of page b) (q b && is_past above b.page) refl refl is all (each P bs page) where
    go : (t u : Bool) → is_of page b ≡ t → (q b && is_past above b.page) ≡ u → (option_map_or q (cond t (Some b) (buffer_of bs page)) false && is_past above page) ≡ true → AllByRecursion P (map (λ (a : Buffer). a.page) (cond u (b ∷ filter (λ (a : Buffer). q a && is_past above a.page) bs) (filter (λ (a : Buffer). q a && is_past above a.page) bs))) → (passes bs page ≡ true → AllByRecursion P (pages bs) → P page) → P page
    go true true same holds is' all' rest =
        let page-is : b.page ≡ page = grind (arith, nat_tests, same) in
        subst P page-is all'.0
    go true false same fails is' all' rest =
        let page-is : b.page ≡ page = grind (arith, nat_tests, same) in
        absurd (let out : (q b && is_past above page) ≡ false = subst (λ p. (q b && is_past above p) ≡ false) page-is fails in cc)
    go false true differs holds is' all' rest = rest is' all'.1
    go false false differs fails is' all' rest = rest is' all'

  -- The least of them is the least page that passes.
  least-past : (held : List Buffer) → AreApart held → IsLeast (passes held) (least_of held)
  least-past held apart = rw (past-none held) (go (reduce min (pages held)) refl (reduce-among (λ page. passes held page ≡ true) (pages held) (all-pass held apart)) (reduce-bounds (pages held))) where
    go : (least : Option ℕ) → reduce min (pages held) ≡ least → IfSome least (λ page. passes held page ≡ true) → IfSome least (λ page. AllByRecursion (λ other. page ≤ other) (pages held)) → IsLeast (passes held) least
    go (Some page) is one bounds = (one, λ other passed. each (λ k. page ≤ k) held other passed bounds)
    go None is one bounds =
        let empty : pages held ≡ [] = reduce-none (pages held) is in
        λ page. never (passes held page) (λ passed. each (λ k. ⊥) held page passed (rw empty tt))

  -- The same where all buffers are seen.
  pub least-seen : (held : List Buffer) (i : ℕ) (least : Option ℕ) → length held ≤ i → i ≤ length held → least ≡ least_of (take i held) → AreApart held → IsLeast (passes held) least
  least-seen held i least end within is apart =
      let at : i ≡ length held = omega (arith, end, within) in
      let all : take i held ≡ held = ap (λ n. take n held) at ∙ take-length held in
      subst (IsLeast (passes held)) (sym (is ∙ ap least_of all)) (least-past held apart)
