-- Before a page that its owner may use only the owner's own pairs lead to it.
use Rattle.std.proofs.Common.{◌≡◌, ◌∙◌, ℕ, Bool, true, false, ◌==◌, refl, sym, subst, arith}
use Rattle.std.proofs.lemmas.Bool.Decides.{nat_tests}
use Rattle.fbc_kinds.specs.declared.shapes.Shape.{Shape}
use Rattle.fbc_levels.specs.declared.levels.Level.TheVariants.{Ex}
use Rattle.fbc_kinds.specs.Order.{straight, through, StandsBefore}
use Rattle.fbc_precedence.specs.Precedence.{IsBlocked, IsPair, ComesBefore}
use Rattle.fbc_levels.specs.Resources.{page_resource}
use Rattle.fbc_world.specs.World.{World, IsPairIn}
use Rattle.fbc_legal.specs.Coherent.{IsCoherent}
use Rattle.fbc_levels.specs.Levels.{is_page_level}
use Rattle.fbc_legal.proofs.Exclusion.{excluded, same_number}
use Rattle.fbc_legal.proofs.Pins.{clash}
use Rattle.fbc_cache.specs.Cache.{CacheState}
use Rattle.fbc_fit.specs.Fit.{Fits}

-- The last pair on a way to this page, and whose it is.
record LastPair (w : World) (page : ℕ) : Type 0 where
  owner : ℕ
  high : ℕ
  has : w.has_pair owner high page ≡ true

last_pair : (w : World) (high low : ℕ) → StandsBefore (IsPairIn w) high low → LastPair w low
last_pair w high low (StandsBefore.straight a b pair) = record { owner = pair.0; high = a; has = pair.1 }
last_pair w high low (StandsBefore.through a between b pair rest) = last_pair w between b rest

module _ (shape : Shape) (w : World) (owner : ℕ) (c : CacheState) (fits : Fits shape w owner c) where
  pub own_pair : (high low : ℕ) → w.has_pair owner high low ≡ true → IsPair c.pairs high low
  own_pair high low has = sym (fits.pairs high low) ∙ has

  -- What the cache puts before a page stands before it.
  pub stands_before : (high low : ℕ) → ComesBefore c.pairs high low → StandsBefore (IsPairIn w) high low
  stands_before high low (straight a b is) = StandsBefore.straight a b (owner, fits.pairs a b ∙ is)
  stands_before high low (through a between b is rest) = StandsBefore.through a between b (owner, fits.pairs a between ∙ is) (stands_before between b rest)

  module _ (h : IsCoherent w) (page : ℕ) (usable : is_page_level (w.granted owner (page_resource page)) ≡ true) where
    pub its_owner : (other : ℕ) → w.granted other (page_resource page) ≡ Ex → other ≡ owner
    its_owner other exclusive = go (other == owner) refl where
      go : (t : Bool) → other == owner ≡ t → other ≡ owner
      go true its = same_number other owner its
      go false its = absurd (clash _ (excluded w h other owner (page_resource page) (λ e. grind (arith, nat_tests, e, its)) exclusive) usable)

    -- Where the cache puts nothing before it, nothing stands before it.
    pub none_before : (IsBlocked c.pairs page → ⊥) → (high : ℕ) → StandsBefore (IsPairIn w) high page → ⊥
    none_before free high path = go (last_pair w high page path) where
      go : LastPair w page → ⊥
      go last =
          let its : last.owner ≡ owner = its_owner last.owner (h.pairs last.owner last.high page last.has).2 in
          let has : w.has_pair owner last.high page ≡ true = subst (λ o. w.has_pair o last.high page ≡ true) its last.has in
          free (last.high, straight last.high page (own_pair last.high page has))
