-- The least page past `above` on which somebody is kept out, among the requests so far.
use Rattle.std.proofs.Common.{◌≡◌, ℕ, zero, suc, ◌+◌, ◌≤◌, min, Bool, true, false, not, ◌||◌, ◌&&◌, ◌==◌, if◌then◌else◌, List, [], ◌∷◌, take, Option, Some, None, slice_get, IfSome, IsSome, MatchOption, ◌⊎◌, inl, inr, add-one, refl, sym, ◌∙◌, ap, subst, arith}
use Rattle.std.specs.List.{find, fold, list_any, AllByRecursion}
use Rattle.std.specs.Option.{option_map, option_map_or}
use Rattle.std.proofs.lemmas.Bool.Decides.{nat_tests}
use Rattle.std.proofs.lemmas.Bool.{and_from}
use Rattle.std.proofs.Math.Bool.{or-true}
use Rattle.fbc_levels.specs.declared.resources.Series.TheVariants.{Page}
use Rattle.fbc_levels.specs.declared.resources.Resource.{Resource}
use Rattle.fbc_levels.specs.declared.resources.Request.{Request}
use Rattle.fbc_levels.specs.Resources.{is_same_series, is_same_resource}
use Rattle.fbc_levels.specs.LockState.{LockState, granted_of}
use Rattle.fbc_lock_table.proofs.Ways.{same_resource}
use Rattle.fbc_blocking.specs.Callbacks.{page_of, is_of_other, is_against, is_kept_out, IsPast, is_past, is_called, with_called, IsNextPage, KeepsNobodyOut}

-- One more request.
fold_next : {X Y : Type 0} (f : Y → X → Y) (xs : List X) (y : Y) (k : ℕ) (x : X) → slice_get xs k ≡ Some x → f (fold f y (take k xs)) x ≡ fold f y (take (suc k) xs)
fold_next f [] y k x at = absurd (cc)
fold_next f (z ∷ xs) y zero x at =
    let same : z ≡ x = cc in
    rw same refl
fold_next f (z ∷ xs) y (suc k) x at = fold_next f xs (f y z) k x at

pub fold_step : {X Y : Type 0} (f : Y → X → Y) (xs : List X) (y : Y) (k : ℕ) (x : X) → slice_get xs k ≡ Some x → f (fold f y (take k xs)) x ≡ fold f y (take (k + 1) xs)
fold_step f xs y k x at = rw add-one (fold_next f xs y k x at)

module _ (s : LockState) (owner : ℕ) (above : Option ℕ) where
  -- The request waits for this page.
  abbrev at_page : ℕ → Request → Bool
  at_page page r = is_called s owner above r && (r.resource.key == page)

  -- The page is called for, here or before, and no request is called for a lesser one.
  record IsLeast (before : Option ℕ) (rs : List Request) (page : ℕ) : Type 0 where
    source : (before ≡ Some page) ⊎ (list_any (at_page page) rs ≡ true)
    below : AllByRecursion (λ r. is_called s owner above r ≡ true → page ≤ r.resource.key) rs
    kept : IfSome before (λ other. page ≤ other)

  -- None is called for.
  abbrev NoneCalled : Option ℕ → List Request → Type 0
  NoneCalled before rs = (before ≡ None) × AllByRecursion (λ r. is_called s owner above r ≡ false) rs

  -- The two together, by what the fold gives.
  abbrev Folds : Option ℕ → List Request → Option ℕ → Type 0
  Folds before rs after = MatchOption after (NoneCalled before rs) (IsLeast before rs)

  passed_over : (before : Option ℕ) (r : Request) (rs : List Request) (after : Option ℕ) → is_called s owner above r ≡ false → Folds before rs after → Folds before (r ∷ rs) after
  passed_over before r rs None not_here folds = (folds.0, (not_here, folds.1))
  passed_over before r rs (Some page) not_here folds = record {
    source = source folds.source;
    below = ((λ yes. absurd (cc)), folds.below);
    kept = folds.kept;
  } where
    source : (before ≡ Some page) ⊎ (list_any (at_page page) rs ≡ true) → (before ≡ Some page) ⊎ (list_any (at_page page) (r ∷ rs) ≡ true)
    source (inl is) = inl is
    source (inr any) = inr (rw (not_here, any) refl)

  -- Of two pages the lesser is one of them.
  one_of : (a b : ℕ) → (min a b ≡ a) ⊎ (min a b ≡ b)
  one_of a b = grind (arith)

  self_page : (page : ℕ) → page == page ≡ true
  self_page page = grind (arith, nat_tests)

  -- The request is called for: the page so far is replaced if its own is less.
  taken : (before : Option ℕ) (r : Request) (rs : List Request) (least : ℕ) (after : Option ℕ) → is_called s owner above r ≡ true → (before ≡ Some least) ⊎ (r.resource.key ≡ least) → least ≤ r.resource.key → IfSome before (λ other. least ≤ other) → Folds (Some least) rs after → Folds before (r ∷ rs) after
  taken before r rs least None is from own other folds = absurd (let none : Some least ≡ None = folds.0 in cc)
  taken before r rs least (Some page) is from own other folds = record {
    source = source folds.source;
    below = ((λ _. omega (arith, folds.kept)), folds.below);
    kept = kept before other;
  } where
    here : least ≡ page → (before ≡ Some least) ⊎ (r.resource.key ≡ least) → (before ≡ Some page) ⊎ (list_any (at_page page) (r ∷ rs) ≡ true)
    here same (inl was) = inl (was ∙ ap (λ (n : ℕ). Some n) same)
    here same (inr key) = inr (rw (is, key, same, self_page page) refl)

    source : (Some least ≡ Some page) ⊎ (list_any (at_page page) rs ≡ true) → (before ≡ Some page) ⊎ (list_any (at_page page) (r ∷ rs) ≡ true)
    source (inl so) = here (let same : least ≡ page = cc in same) from
    source (inr any) = inr (rw any (or-true (at_page page r)))

    kept : (o : Option ℕ) → IfSome o (λ n. least ≤ n) → IfSome o (λ n. page ≤ n)
    kept None bound = tt
    kept (Some n) bound = omega (arith, folds.kept)

  folds_all : (rs : List Request) (before : Option ℕ) → Folds before rs (fold (with_called s owner above) before rs)
  folds_all [] None = (refl, tt)
  folds_all [] (Some page) = record { source = inl refl; below = tt; kept = omega arith }
  folds_all (r ∷ rs) before = step before (is_called s owner above r) refl (folds_all rs) where
    step : (o : Option ℕ) (b : Bool) → is_called s owner above r ≡ b → ((o' : Option ℕ) → Folds o' rs (fold (with_called s owner above) o' rs)) → Folds o (r ∷ rs) (fold (with_called s owner above) (if b then Some (option_map_or (λ page. min page r.resource.key) o r.resource.key) else o) rs)
    step o false is rest = passed_over o r rs _ is (rest o)
    step None true is rest = taken None r rs r.resource.key _ is (inr refl) (omega arith) tt (rest (Some r.resource.key))
    step (Some l) true is rest = taken (Some l) r rs (min l r.resource.key) _ is (from (one_of l r.resource.key)) (omega arith) (omega arith) (rest (Some (min l r.resource.key))) where
      from : (min l r.resource.key ≡ l) ⊎ (min l r.resource.key ≡ r.resource.key) → (Some l ≡ Some (min l r.resource.key)) ⊎ (r.resource.key ≡ min l r.resource.key)
      from (inl is') = inl (ap (λ (n : ℕ). Some n) (sym is'))
      from (inr is') = inr (sym is')

  -- Parts of a test.
  left : (b c : Bool) → (b && c) ≡ true → b ≡ true
  left true c is = refl
  left false c is = absurd (cc)

  right : (b c : Bool) → (b && c) ≡ true → c ≡ true
  right true c is = is
  right false c is = absurd (cc)

  comes_past : (o : Option ℕ) (page : ℕ) → IsPast o page → is_past o page ≡ true
  comes_past None page past = refl
  comes_past (Some n) page past = grind (arith, nat_tests)

  is_past_page : (o : Option ℕ) (page : ℕ) → is_past o page ≡ true → IsPast o page
  is_past_page None page is = tt
  is_past_page (Some n) page is = grind (arith, nat_tests)

  -- What waits for a page past `above` is called for there.
  kept_out_is_called : (page : ℕ) (r : Request) → IsPast above page → is_kept_out owner page (granted_of s owner (page_of page)) r ≡ true → at_page page r ≡ true
  kept_out_is_called page r past out =
      let other = left (is_of_other owner page r) (is_against (granted_of s owner (page_of page)) r) out in
      let here = left (is_same_resource r.resource (page_of page)) _ (left (is_same_resource r.resource (page_of page) && not (r.owner == owner)) r.alive other) in
      let same : page_of page ≡ r.resource = sym (same_resource r.resource (page_of page) here) in
      let Series' : Resource → Type 0 = λ a. is_same_series a.series Page ≡ true in
      let Past : Resource → Type 0 = λ a. is_past above a.key ≡ true in
      let Out : Resource → Type 0 = λ a. is_kept_out owner a.key (granted_of s owner a) r ≡ true in
      let At : Resource → Type 0 = λ a. a.key == page ≡ true in
      and_from _ _ (and_from _ _ (and_from _ _ (subst Series' same refl) (subst Past same (comes_past above page past))) (subst Out same out)) (subst At same (self_page page))

  -- And the other way round.
  called_page : (page : ℕ) (r : Request) → at_page page r ≡ true → r.resource ≡ page_of page
  called_page page r is =
      let series = left (is_same_series r.resource.series Page) (is_past above r.resource.key) (left _ (is_kept_out owner r.resource.key (granted_of s owner r.resource) r) (left (is_called s owner above r) (r.resource.key == page) is)) in
      same_resource r.resource (page_of page) (and_from _ _ series (right (is_called s owner above r) (r.resource.key == page) is))

  called_is_kept_out : (page : ℕ) (r : Request) → at_page page r ≡ true → is_kept_out owner page (granted_of s owner (page_of page)) r ≡ true
  called_is_kept_out page r is =
      let out = right (is_same_series r.resource.series Page && is_past above r.resource.key) (is_kept_out owner r.resource.key (granted_of s owner r.resource) r) (left (is_called s owner above r) (r.resource.key == page) is) in
      let Out : Resource → Type 0 = λ a. is_kept_out owner a.key (granted_of s owner a) r ≡ true in
      subst Out (called_page page r is) out

  called_is_past : (page : ℕ) (r : Request) → at_page page r ≡ true → IsPast above page
  called_is_past page r is =
      let past = right (is_same_series r.resource.series Page) (is_past above r.resource.key) (left _ (is_kept_out owner r.resource.key (granted_of s owner r.resource) r) (left (is_called s owner above r) (r.resource.key == page) is)) in
      let Past : Resource → Type 0 = λ a. is_past above a.key ≡ true in
      is_past_page above page (subst Past (called_page page r is) past)

  -- A search finds one where a test does.
  some_found : (a q : Request → Bool) → ((r : Request) → a r ≡ true → q r ≡ true) → (rs : List Request) → list_any a rs ≡ true → IsSome (option_map (λ (r : Request). r.owner) (find q rs))
  some_found a q gives [] any = absurd (cc)
  some_found a q gives (r ∷ rs) any = step (q r) refl (a r) refl any (some_found a q gives rs) where
    step : (b : Bool) → q r ≡ b → (c : Bool) → a r ≡ c → c || list_any a rs ≡ true → (list_any a rs ≡ true → IsSome (option_map (λ (t : Request). t.owner) (find q rs))) → IsSome (option_map (λ (t : Request). t.owner) (if b then Some r else find q rs))
    step true is c also any' rest = refl
    step false is true also any' rest = absurd (let yes : q r ≡ true = gives r also in cc)
    step false is false also any' rest = rest any'

  none_found : (q : Request → Bool) → ((r : Request) → is_called s owner above r ≡ false → q r ≡ false) → (rs : List Request) → AllByRecursion (λ r. is_called s owner above r ≡ false) rs → find q rs ≡ None
  none_found q gives [] none = refl
  none_found q gives (r ∷ rs) none = rw (gives r none.0) (none_found q gives rs none.1)

  -- What follows from each that passes follows where one does.
  from_any : (G : Type 0) (a : Request → Bool) → ((r : Request) → a r ≡ true → G) → (rs : List Request) → list_any a rs ≡ true → G
  from_any G a gives [] any = absurd (cc)
  from_any G a gives (r ∷ rs) any = step (a r) refl any (from_any G a gives rs) where
    step : (b : Bool) → a r ≡ b → b || list_any a rs ≡ true → (list_any a rs ≡ true → G) → G
    step true is any' rest = gives r is
    step false is any' rest = rest any'

  -- The least page is not past one on which a search finds somebody.
  below_found : (page other : ℕ) (q : Request → Bool) → ((r : Request) → q r ≡ true → at_page other r ≡ true) → (rs : List Request) → AllByRecursion (λ r. is_called s owner above r ≡ true → page ≤ r.resource.key) rs → IsSome (option_map (λ (r : Request). r.owner) (find q rs)) → page ≤ other
  below_found page other q gives [] below some = absurd (cc)
  below_found page other q gives (r ∷ rs) below some = step (q r) refl some (below_found page other q gives rs below.1) where
    at : r.resource.key == other ≡ true → r.resource.key ≡ other
    at is = grind (arith, nat_tests)

    step : (b : Bool) → q r ≡ b → IsSome (option_map (λ (t : Request). t.owner) (if b then Some r else find q rs)) → (IsSome (option_map (λ (t : Request). t.owner) (find q rs)) → page ≤ other) → page ≤ other
    step true is some' rest =
        let here = gives r is in
        let bound = below.0 (left (is_called s owner above r) (r.resource.key == other) here) in
        omega (arith, bound, at (right (is_called s owner above r) (r.resource.key == other) here))
    step false is some' rest = rest some'

  not_out : (page : ℕ) → IsPast above page → (r : Request) → is_called s owner above r ≡ false → is_kept_out owner page (granted_of s owner (page_of page)) r ≡ false
  not_out page past r none = step (is_kept_out owner page (granted_of s owner (page_of page)) r) refl where
    step : (b : Bool) → is_kept_out owner page (granted_of s owner (page_of page)) r ≡ b → b ≡ false
    step true out = absurd (let yes : is_called s owner above r ≡ true = left (is_called s owner above r) (r.resource.key == page) (kept_out_is_called page r past out) in cc)
    step false out = refl

  pub next_page_is : (after : Option ℕ) → after ≡ fold (with_called s owner above) None s.requests → MatchOption after (KeepsNobodyOut s owner above) (IsNextPage s owner above)
  next_page_is after is = step after (rw is (folds_all s.requests None)) where
    step : (o : Option ℕ) → Folds None s.requests o → MatchOption o (KeepsNobodyOut s owner above) (IsNextPage s owner above)
    step None folds = λ page past. rw (none_found (is_kept_out owner page (granted_of s owner (page_of page))) (not_out page past) s.requests folds.1) refl
    step (Some page) least = record {
      past = from_any (IsPast above page) (at_page page) (called_is_past page) s.requests (any least.source);
      blocks = some_found (at_page page) (is_kept_out owner page (granted_of s owner (page_of page))) (called_is_kept_out page) s.requests (any least.source);
      least = λ other past some. below_found page other (is_kept_out owner other (granted_of s owner (page_of other))) (λ r out. kept_out_is_called other r past out) s.requests least.below some;
    } where
      any : (None ≡ Some page) ⊎ (list_any (at_page page) s.requests ≡ true) → list_any (at_page page) s.requests ≡ true
      any (inl none) = absurd (let no_page : None ≡ Some page = none in cc)
      any (inr is') = is'
