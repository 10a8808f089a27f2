-- A path that is found leads to the goal, and a circle may begin at any of its owners.
use Rattle.std.proofs.Common.{◌≡◌, ℕ, zero, suc, Bool, true, false, ◌==◌, if◌then◌else◌, List, [], ◌∷◌, ◌++◌, take, drop, Ok, Err, refl, sym, ◌∙◌, subst, arith}
use Rattle.std.proofs.lemmas.Bool.Decides.{nat_tests}
use Rattle.std.proofs.lemmas.List.{take-append-drop, append-nil}
use Rattle.fbc_levels.specs.Waits.{Leads, IsCircle}
use Rattle.fbc_owner_queues.specs.Living.{has}
use Rattle.fbc_owner_queues.specs.Search.{Outcome, leaving, begun, entered, onward, stepped, tried, searched}

module _ (waits : ℕ → ℕ → Bool) (goal : ℕ) where
  -- The one owner waits for the other.
  abbrev W : ℕ → ℕ → Type 0
  W owner other = waits owner other ≡ true

  -- What enters an owner answers only with paths from there to the goal.
  abbrev LeadsOn : (ℕ → List ℕ → Outcome) → Type 0
  LeadsOn enter = (k : ℕ) (free path : List ℕ) → enter k free ≡ Ok path → Leads W k path goal

  equal : (k : ℕ) → k == goal ≡ true → k ≡ goal
  equal k is = grind (arith, nat_tests)

  entered_leads : (enter : ℕ → List ℕ → Outcome) → LeadsOn enter → (owner k : ℕ) (free path : List ℕ) → W owner k → entered enter k free ≡ Ok path → Leads W owner path goal
  entered_leads enter on owner k free path waited found = step (has free k) (enter k (leaving free k)) refl found where
    step : (c : Bool) (r : Outcome) → enter k (leaving free k) ≡ r → (if c then begun k r else Err free) ≡ Ok path → Leads W owner path goal
    step true (Ok p) gave found' =
        let all : path ≡ k ∷ p = cc in
        rw all (waited, on k (leaving free k) p gave)
    step true (Err rest) gave found' = absurd (cc)
    step false r gave found' = absurd (cc)

  stepped_leads : (enter : ℕ → List ℕ → Outcome) → LeadsOn enter → (owner k : ℕ) (free path : List ℕ) → stepped (waits owner) goal enter k free ≡ Ok path → Leads W owner path goal
  stepped_leads enter on owner k free path found = step (waits owner k) refl (k == goal) refl found where
    step : (b : Bool) → waits owner k ≡ b → (c : Bool) → k == goal ≡ c → (if b then (if c then Ok [] else entered enter k free) else Err free) ≡ Ok path → Leads W owner path goal
    step true waited true is found' =
        let none : path ≡ [] = cc in
        let here : W owner goal = subst (W owner) (equal k is) waited in
        rw none here
    step true waited false is found' = entered_leads enter on owner k free path waited found'
    step false waited c is found' = absurd (cc)

  tried_leads : (enter : ℕ → List ℕ → Outcome) → LeadsOn enter → (owner : ℕ) (ks free path : List ℕ) → tried (waits owner) goal enter ks free ≡ Ok path → Leads W owner path goal
  tried_leads enter on owner [] free path found = absurd (cc)
  tried_leads enter on owner (k ∷ ks) free path found =
      step (stepped (waits owner) goal enter k free) refl (λ free' found'. tried_leads enter on owner ks free' path found') found where
        step : (r : Outcome) → stepped (waits owner) goal enter k free ≡ r → ((free' : List ℕ) → tried (waits owner) goal enter ks free' ≡ Ok path → Leads W owner path goal) → onward (tried (waits owner) goal enter ks) r ≡ Ok path → Leads W owner path goal
        step (Ok p) gave rest found' = stepped_leads enter on owner k free path (gave ∙ found')
        step (Err f) gave rest found' = rest f found'

  pub searched_leads : (owners : List ℕ) (depth owner : ℕ) (free path : List ℕ) → searched waits owners goal depth owner free ≡ Ok path → Leads (λ x y. waits x y ≡ true) owner path goal
  searched_leads owners zero owner free path found = absurd (cc)
  searched_leads owners (suc depth) owner free path found =
      tried_leads (searched waits owners goal depth) (searched_leads owners depth) owner owners free path found

-- A path through an owner is a path to it and a path from it.
pub Leads-split : (R : ℕ → ℕ → Type 0) (x : ℕ) (xs : List ℕ) (y : ℕ) (ys : List ℕ) (z : ℕ) → Leads R x (xs ++ y ∷ ys) z → Leads R x xs y × Leads R y ys z
Leads-split R x [] y ys z leads = (leads.0, leads.1)
Leads-split R x (w ∷ xs) y ys z leads =
    let rest = Leads-split R w xs y ys z leads.1 in
    ((leads.0, rest.0), rest.1)

pub Leads-join : (R : ℕ → ℕ → Type 0) (x : ℕ) (xs : List ℕ) (y : ℕ) (ys : List ℕ) (z : ℕ) → Leads R x xs y → Leads R y ys z → Leads R x (xs ++ y ∷ ys) z
Leads-join R x [] y ys z first second = (first, second)
Leads-join R x (w ∷ xs) y ys z first second = (first.0, Leads-join R w xs y ys z first.1 second)

-- A circle stays one where its front is put behind it.
pub IsCircle-turned : (R : ℕ → ℕ → Type 0) (front back : List ℕ) → IsCircle R (front ++ back) → IsCircle R (back ++ front)
IsCircle-turned R [] back circle = subst (IsCircle R) (sym (append-nil back)) circle
IsCircle-turned R (a ∷ as') [] circle = subst (IsCircle R) (append-nil (a ∷ as')) circle
IsCircle-turned R (a ∷ as') (b ∷ bs) circle =
    let parts = Leads-split R a as' b bs a circle in
    Leads-join R b bs a as' b parts.1 parts.0

pub IsCircle-rotated : (R : ℕ → ℕ → Type 0) (n : ℕ) (owners : List ℕ) → IsCircle R owners → IsCircle R (drop n owners ++ take n owners)
IsCircle-rotated R n owners circle = IsCircle-turned R (take n owners) (drop n owners) (subst (IsCircle R) (sym (take-append-drop n owners)) circle)
