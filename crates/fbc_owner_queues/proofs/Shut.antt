-- A search that finds no path leaves each owner that it entered without a way to the goal.
use Rattle.std.proofs.Common.{◌≡◌, ℕ, zero, suc, ◌<◌, ◌≤◌, Bool, true, false, ◌==◌, if◌then◌else◌, List, [], ◌∷◌, length, Ok, Err, refl, ◌∙◌, ap, arith}
use Rattle.std.specs.List.{AllByRecursion}
use Rattle.std.proofs.lemmas.Bool.Decides.{nat_tests}
use Rattle.fbc_owner_queues.specs.Living.{has}
use Rattle.fbc_owner_queues.specs.Search.{Outcome, leaving, begun, entered, onward, stepped, tried, searched}
use Rattle.fbc_levels.specs.Waits.{Leads}
use Rattle.fbc_owner_queues.proofs.Lists.{at_member, has-leaving_self, has-leaving_none, has-leaving_other, length-leaving}

module _ (waits : ℕ → ℕ → Bool) (owners : List ℕ) (goal : ℕ) where
  -- It is not the goal, and it was entered or never free.
  pub record IsPast (free : List ℕ) (k : ℕ) : Type 0 where
    pub no_goal : k == goal ≡ false
    pub taken : has free k ≡ false

  -- Those of the list that it waits for are past.
  abbrev pub IsShutFor : List ℕ → ℕ → List ℕ → Type 0
  IsShutFor free x ks = AllByRecursion (λ k. waits x k ≡ true → IsPast free k) ks

  abbrev pub IsShut : List ℕ → ℕ → Type 0
  IsShut free x = IsShutFor free x owners

  -- Between these moments owners were entered, each of which is shut now.
  pub record Went (before after : List ℕ) : Type 0 where
    pub taken : (x : ℕ) → has before x ≡ false → has after x ≡ false
    pub shorter : length after ≤ length before
    pub shut : (x : ℕ) → has before x ≡ true → has after x ≡ false → IsShut after x

  -- What is past stays past.
  past_later : (before after : List ℕ) (k : ℕ) → Went before after → IsPast before k → IsPast after k
  past_later before after k went past = record { no_goal = past.no_goal; taken = went.taken k past.taken }

  later : (before after : List ℕ) (x : ℕ) (ks : List ℕ) → Went before after → IsShutFor before x ks → IsShutFor after x ks
  later before after x [] went past = tt
  later before after x (k ∷ ks) went past = ((λ waited. past_later before after k went (past.0 waited)), later before after x ks went past.1)

  -- Nothing was entered.
  still : (free : List ℕ) → Went free free
  still free = record {
    taken = λ x none. none;
    shorter = omega arith;
    shut = λ x there none. absurd (cc);
  }

  -- One moment after another.
  on : (before between after : List ℕ) → Went before between → Went between after → Went before after
  on before between after first second = record {
    taken = λ x none. second.taken x (first.taken x none);
    shorter = omega (arith, first.shorter, second.shorter);
    shut = λ x was gone. step x was gone (has between x) refl;
  } where
    step : (x : ℕ) → has before x ≡ true → has after x ≡ false → (c : Bool) → has between x ≡ c → IsShut after x
    step x was gone true held = second.shut x held gone
    step x was gone false held = later between after x owners second (first.shut x was held)

  -- An owner that was free is entered, and shut afterwards.
  into : (free after : List ℕ) (k : ℕ) → has free k ≡ true → Went (leaving free k) after → IsShut after k → Went free after
  into free after k there went shut = record {
    taken = λ x none. went.taken x (has-leaving_none free k x none);
    shorter = omega (arith, went.shorter, length-leaving free k there);
    shut = λ x was gone. step x was gone (x == k) refl;
  } where
    same : (x : ℕ) → x == k ≡ true → x ≡ k
    same x is = grind (arith, nat_tests)

    step : (x : ℕ) → has free x ≡ true → has after x ≡ false → (b : Bool) → x == k ≡ b → IsShut after x
    step x was gone true is = rw (same x is) shut
    step x was gone false is = went.shut x (has-leaving_other free k x is was) gone

  -- What enters an owner while few are free ends with that owner shut, where it finds no path.
  abbrev pub Ends : ℕ → (ℕ → List ℕ → Outcome) → Type 0
  Ends n enter = (k : ℕ) (free after : List ℕ) → length free < n → enter k free ≡ Err after → Went free after × IsShut after k

  entered_ends : (n : ℕ) (enter : ℕ → List ℕ → Outcome) → Ends n enter → (k : ℕ) (free after : List ℕ) → length free ≤ n → entered enter k free ≡ Err after → Went free after × (has after k ≡ false)
  entered_ends n enter ends k free after few found = step (has free k) refl (enter k (leaving free k)) refl found where
    step : (c : Bool) → has free k ≡ c → (r : Outcome) → enter k (leaving free k) ≡ r → (if c then begun k r else Err free) ≡ Err after → Went free after × (has after k ≡ false)
    step true there (Ok p) gave found' = absurd (cc)
    step true there (Err rest) gave found' =
        let same : rest ≡ after = cc in
        let here = ends k (leaving free k) after (omega (arith, length-leaving free k there)) (gave ∙ ap (λ (f : List ℕ). Err f) same) in
        (into free after k there here.0 here.1, here.0.taken k (has-leaving_self free k))
    step false there r gave found' =
        let same : free ≡ after = cc in
        rw (← same) (still free, there)

  stepped_ends : (n : ℕ) (enter : ℕ → List ℕ → Outcome) → Ends n enter → (x k : ℕ) (free after : List ℕ) → length free ≤ n → stepped (waits x) goal enter k free ≡ Err after → Went free after × (waits x k ≡ true → IsPast after k)
  stepped_ends n enter ends x k free after few found = step (waits x k) refl (k == goal) refl found where
    step : (b : Bool) → waits x k ≡ b → (c : Bool) → k == goal ≡ c → (if b then (if c then Ok [] else entered enter k free) else Err free) ≡ Err after → Went free after × (waits x k ≡ true → IsPast after k)
    step true waited true is found' = absurd (cc)
    step true waited false is found' =
        let here = entered_ends n enter ends k free after few found' in
        (here.0, λ _. record { no_goal = is; taken = here.1 })
    step false waited c is found' =
        let same : free ≡ after = cc in
        (rw (← same) (still free), λ does. absurd (cc))

  tried_ends : (n : ℕ) (enter : ℕ → List ℕ → Outcome) → Ends n enter → (x : ℕ) (ks free after : List ℕ) → length free ≤ n → tried (waits x) goal enter ks free ≡ Err after → Went free after × IsShutFor after x ks
  tried_ends n enter ends x [] free after few found =
      let same : free ≡ after = cc in
      rw (← same) (still free, tt)
  tried_ends n enter ends x (k ∷ ks) free after few found =
      step (stepped (waits x) goal enter k free) refl (λ free' few' found'. tried_ends n enter ends x ks free' after few' found') found where
        step : (r : Outcome) → stepped (waits x) goal enter k free ≡ r → ((free' : List ℕ) → length free' ≤ n → tried (waits x) goal enter ks free' ≡ Err after → Went free' after × IsShutFor after x ks) → onward (tried (waits x) goal enter ks) r ≡ Err after → Went free after × IsShutFor after x (k ∷ ks)
        step (Ok p) gave rest found' = absurd (cc)
        step (Err first) gave rest found' =
            let here = stepped_ends n enter ends x k free first few gave in
            let others = rest first (omega (arith, here.0.shorter)) found' in
            (on free first after here.0 others.0, ((λ waited. past_later first after k others.0 (here.1 waited)), others.1))

  pub searched_ends : (depth : ℕ) → Ends depth (searched waits owners goal depth)
  searched_ends zero owner free after few found = absurd (omega arith)
  searched_ends (suc depth) owner free after few found =
      tried_ends depth (searched waits owners goal depth) (searched_ends depth) owner owners free after (omega arith) found

  -- An owner that is shut leads to the goal by no path of owners that were free, and none of the list leads outside it.
  pub no_way : (before after : List ℕ) → Went before after → ((x y : ℕ) → waits x y ≡ true → has owners y ≡ true) → ((y : ℕ) → has owners y ≡ true → y == goal ≡ false → has before y ≡ true) → (x : ℕ) → IsShut after x → (rest : List ℕ) → Leads (λ a b. waits a b ≡ true) x rest goal → ⊥
  no_way before after went inside free x shut [] leads =
      let past = at_member owners (λ k. waits x k ≡ true → IsPast after k) goal shut (inside x goal leads) leads in
      absurd (grind (arith, nat_tests, past.no_goal))
  no_way before after went inside free x shut (y ∷ ys) leads =
      let there = inside x y leads.0 in
      let past = at_member owners (λ k. waits x k ≡ true → IsPast after k) y shut there leads.0 in
      no_way before after went inside free y (went.shut y (free y there past.no_goal) past.taken) ys leads.1
