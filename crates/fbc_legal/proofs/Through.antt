-- Circles that no step closes: where none leads through an owner, and all other steps were there before.
use Rattle.std.proofs.Common.{◌≡◌, ◌⊎◌, inl, inr, ℕ, Bool, true, false, ◌==◌, List, [], ◌∷◌, ◌++◌, refl, subst}
use Rattle.fbc_levels.specs.Waits.{IsCircle, Leads}
use Rattle.fbc_owner_queues.proofs.Paths.{Leads-join}
use Rattle.fbc_legal.proofs.Exclusion.{same_number}

abbrev pub HasNoCircle : (ℕ → ℕ → Type 0) → Type 0
HasNoCircle R = (owners : List ℕ) → IsCircle R owners → ⊥

-- Fewer steps close no circle.
module _ (R S : ℕ → ℕ → Type 0) (from : (owner other : ℕ) → S owner other → R owner other) where
  led : (first : ℕ) (rest : List ℕ) (last : ℕ) → Leads S first rest last → Leads R first rest last
  led first [] last leads = from first last leads
  led first (next ∷ rest) last leads = (from first next leads.0, led next rest last leads.1)

  pub fewer : HasNoCircle R → HasNoCircle S
  fewer none [] circle = circle
  fewer none (owner ∷ rest) circle = none (owner ∷ rest) (led owner rest owner circle)

module _ (R S : ℕ → ℕ → Type 0) (a : ℕ) (from : (owner other : ℕ) → owner == a ≡ false → other == a ≡ false → S owner other → R owner other) where
  -- A path goes through the owner, or was there before.
  record GoesThrough (first last : ℕ) : Type 0 where
    front : List ℕ
    back : List ℕ
    to : Leads S first front a
    onward : Leads S a back last

  walk : (first : ℕ) (rest : List ℕ) (last : ℕ) → first == a ≡ false → last == a ≡ false → Leads S first rest last → Leads R first rest last ⊎ GoesThrough first last
  walk first [] last begins ends leads = inl (from first last begins ends leads)
  walk first (next ∷ rest) last begins ends leads = go (next == a) refl (λ is. walk next rest last is ends leads.1) where
    beside : next == a ≡ false → Leads R next rest last ⊎ GoesThrough next last → Leads R first (next ∷ rest) last ⊎ GoesThrough first last
    beside is (inl path) = inl (from first next begins is leads.0, path)
    beside is (inr through) = inr (record { front = next ∷ through.front; back = through.back; to = (leads.0, through.to); onward = through.onward })

    go : (b : Bool) → next == a ≡ b → (next == a ≡ false → Leads R next rest last ⊎ GoesThrough next last) → Leads R first (next ∷ rest) last ⊎ GoesThrough first last
    go true is later =
        let here : next ≡ a = same_number next a is in
        inr (record { front = []; back = rest; to = subst (λ n. S first n) here leads.0; onward = subst (λ n. Leads S n rest last) here leads.1 })
    go false is later = beside is (later is)

  pub none_through : ((others : List ℕ) → Leads S a others a → ⊥) → HasNoCircle R → HasNoCircle S
  none_through never none [] circle = circle
  none_through never none (owner ∷ rest) circle = go (owner == a) refl where
    beside : Leads R owner rest owner ⊎ GoesThrough owner owner → ⊥
    beside (inl path) = none (owner ∷ rest) path
    beside (inr through) = never (through.back ++ owner ∷ through.front) (Leads-join S a through.back owner through.front a through.onward through.to)

    go : (b : Bool) → owner == a ≡ b → ⊥
    go true is = never rest (subst (λ n. Leads S n rest n) (same_number owner a is) circle)
    go false is = beside (walk owner rest owner is is circle)

-- Who steps nowhere is on no path back to itself.
pub no_way_back : (S : ℕ → ℕ → Type 0) (a : ℕ) → ((other : ℕ) → S a other → ⊥) → (others : List ℕ) → Leads S a others a → ⊥
no_way_back S a none [] leads = none a leads
no_way_back S a none (next ∷ others) leads = none next leads.0

-- A path begins with a step.
pub first_step : (S : ℕ → ℕ → Type 0) (first : ℕ) (rest : List ℕ) (last : ℕ) → Leads S first rest last → (next : ℕ) × S first next
first_step S first [] last leads = (last, leads)
first_step S first (next ∷ rest) last leads = (next, leads.0)
