-- Pairs form no circle, after each event.
use Rattle.std.proofs.Common.{◌≡◌, ℕ, Bool, true, false, ◌==◌, ◌&&◌, ◌⊎◌, inl, inr, if◌then◌else◌, refl, sym, subst, arith}
use Rattle.std.proofs.lemmas.Bool.Decides.{nat_tests}
use Rattle.fbc_world.specs.declared.events.Act.{Act}
use Rattle.fbc_world.specs.declared.events.Act.TheVariants.{Die, Local, Write}
use Rattle.fbc_world.specs.declared.events.LocalEvent.TheVariants as local
use Rattle.fbc_world.specs.World.{World, IsPairIn, acted}
use Rattle.fbc_kinds.specs.Order.{StandsBefore}
use Rattle.fbc_legal.specs.Coherent.{IsCoherent, PairsFormNoCircle}
use Rattle.fbc_legal.specs.Guards.{Guard, GuardOfBefore}
use Rattle.fbc_legal.specs.Scene.{Scene}
use Rattle.fbc_legal.proofs.Exclusion.{is_plain}

-- What stands before another by some pairs does so by more.
pub stands_by_more : (P Q : ℕ → ℕ → Type 0) → ((x y : ℕ) → P x y → Q x y) → (x y : ℕ) → StandsBefore P x y → StandsBefore Q x y
stands_by_more P Q more x y (StandsBefore.straight high low pair) = StandsBefore.straight high low (more high low pair)
stands_by_more P Q more x y (StandsBefore.through high between low pair rest) = StandsBefore.through high between low (more high between pair) (stands_by_more P Q more between low rest)

module _ (P : ℕ → ℕ → Type 0) where
  -- The one is the other, or stands before it.
  abbrev pub Leads : ℕ → ℕ → Type 0
  Leads x y = (x ≡ y) ⊎ StandsBefore P x y

  pub stands_on : (x y z : ℕ) → StandsBefore P x y → StandsBefore P y z → StandsBefore P x z
  stands_on x y z (StandsBefore.straight high low pair) after = StandsBefore.through high low z pair after
  stands_on x y z (StandsBefore.through high between low pair rest) after = StandsBefore.through high between z pair (stands_on between low z rest after)

  after_pair : (x y z : ℕ) → P x y → Leads y z → Leads x z
  after_pair x y z pair (inl same) = inr (StandsBefore.straight x z (subst (P x) same pair))
  after_pair x y z pair (inr path) = inr (StandsBefore.through x y z pair path)

  leads_on : (x y z : ℕ) → Leads x y → Leads y z → Leads x z
  leads_on x y z (inl same) rest = subst (λ a. Leads a z) (sym same) rest
  leads_on x y z (inr path) (inl same) = inr (subst (λ a. StandsBefore P x a) same path)
  leads_on x y z (inr path) (inr rest) = inr (stands_on x y z path rest)

  module _ (Q : ℕ → ℕ → Type 0) (high low : ℕ) (known : (x y : ℕ) → Q x y → P x y ⊎ ((x ≡ high) × (y ≡ low))) where
    -- A path by one pair more is one without it, or one on both sides of it.
    abbrev Outcome : ℕ → ℕ → Type 0
    Outcome x y = StandsBefore P x y ⊎ (Leads x high × Leads low y)

    one : (x y : ℕ) → P x y ⊎ ((x ≡ high) × (y ≡ low)) → Outcome x y
    one x y (inl pair) = inl (StandsBefore.straight x y pair)
    one x y (inr is) = inr (inl is.0, inl (sym is.1))

    more : (x y z : ℕ) → P x y ⊎ ((x ≡ high) × (y ≡ low)) → Outcome y z → Outcome x z
    more x y z (inl pair) (inl path) = inl (StandsBefore.through x y z pair path)
    more x y z (inl pair) (inr sides) = inr (after_pair x y high pair sides.0, sides.1)
    more x y z (inr is) (inl path) = inr (inl is.0, inr (subst (λ a. StandsBefore P a z) is.1 path))
    more x y z (inr is) (inr sides) = inr (inl is.0, sides.1)

    pub new_path : (x y : ℕ) → StandsBefore Q x y → Outcome x y
    new_path x y (StandsBefore.straight a b pair) = one a b (known a b pair)
    new_path x y (StandsBefore.through a b c pair rest) = more a b c (known a b pair) (new_path b c rest)

module _ (at : Scene) (h : IsCoherent at.world) (owner : ℕ) (landed : Bool) where
  abbrev w : World
  w = at.world

  -- Where no pair is new, no circle is.
  fewer : (act : Act) → ((o x y : ℕ) → (acted at.shape w owner act landed).has_pair o x y ≡ true → w.has_pair o x y ≡ true) → PairsFormNoCircle (acted at.shape w owner act landed)
  fewer act less page circle = h.order page (stands_by_more (IsPairIn (acted at.shape w owner act landed)) (IsPairIn w) (λ x y pair. (pair.0, less pair.0 x y pair.1)) page page circle)

  before : (high low : ℕ) → GuardOfBefore at owner high low → PairsFormNoCircle (acted at.shape w owner (Local (local.Before high low)) landed)
  before high low g page circle = end (new_path (IsPairIn w) (IsPairIn (acted at.shape w owner (Local (local.Before high low)) landed)) high low known page page circle) where
    known : (x y : ℕ) → IsPairIn (acted at.shape w owner (Local (local.Before high low)) landed) x y → IsPairIn w x y ⊎ ((x ≡ high) × (y ≡ low))
    known x y pair = go ((pair.0 == owner) && (x == high) && (y == low)) refl pair.1 where
      go : (b : Bool) → (pair.0 == owner) && (x == high) && (y == low) ≡ b → (if b then true else w.has_pair pair.0 x y) ≡ true → IsPairIn w x y ⊎ ((x ≡ high) × (y ≡ low))
      go true key is = inr (grind (arith, nat_tests, key), grind (arith, nat_tests, key))
      go false key is = inl (pair.0, is)

    meet : Leads (IsPairIn w) low high → ⊥
    meet (inl same) = g.apart (sym same)
    meet (inr path) = g.order path

    end : StandsBefore (IsPairIn w) page page ⊎ (Leads (IsPairIn w) page high × Leads (IsPairIn w) low page) → ⊥
    end (inl old) = h.order page old
    end (inr sides) = meet (leads_on (IsPairIn w) low page high sides.1 sides.0)

  pub order-acted : (act : Act) → Guard at owner act → is_plain act ≡ true → PairsFormNoCircle (acted at.shape w owner act landed)
  order-acted Die g plain = fewer Die (λ o x y has. grind (arith, nat_tests, has))
  order-acted (Write page reason true) g plain = absurd cc
  order-acted (Write page reason false) g plain = fewer (Write page reason false) (λ o x y has. grind (arith, nat_tests, has))
  order-acted (Local (local.Edit page e)) g plain = h.order
  order-acted (Local (local.Before high low)) g plain = before high low g
  order-acted (Local (local.Pin page)) g plain = h.order
  order-acted (Local (local.Unpin page)) g plain = h.order
  order-acted _ g plain = h.order
