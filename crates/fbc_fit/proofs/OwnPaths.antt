-- Where pairs lead to a page that its owner may use, they are the owner's own.
use Rattle.std.proofs.Common.{◌≡◌, ◌∙◌, ap, ℕ, Bool, true, false, not, ◌==◌, ◌&&◌, refl, subst, arith}
use Rattle.std.proofs.lemmas.Bool.Decides.{nat_tests}
use Rattle.fbc_kinds.specs.declared.shapes.Shape.{Shape}
use Rattle.fbc_kinds.specs.View.{View}
use Rattle.fbc_levels.specs.declared.levels.Level.TheVariants.{Ex}
use Rattle.fbc_kinds.specs.Order.{straight, through, StandsBefore}
use Rattle.fbc_precedence.specs.Precedence.{ComesBefore}
use Rattle.fbc_world.specs.History.{History}
use Rattle.fbc_world.specs.Holdings.{is_draft_of}
use Rattle.fbc_levels.specs.Resources.{page_resource}
use Rattle.fbc_world.specs.World.{World, IsPairIn, world_of}
use Rattle.fbc_legal.specs.Coherent.{IsCoherent}
use Rattle.fbc_levels.specs.Levels.{is_page_level}
use Rattle.fbc_legal.specs.Guards.{GuardOfBefore, IsFreeToAct}
use Rattle.fbc_legal.specs.Legal.{IsLegal}
use Rattle.fbc_legal.specs.Scene.{scene_of}
use Rattle.fbc_legal.proofs.Induction.{IsCoherent-legal}
use Rattle.fbc_cache.specs.Cache.{CacheState, IsCache, is_dirty_in, level_in}
use Rattle.fbc_cache.specs.Edits.{needs_pair}
use Rattle.fbc_fit.specs.Fit.{Fits}
use Rattle.fbc_fit.proofs.DraftHolders.{drafted_exclusive}
use Rattle.fbc_fit.proofs.HeldPages.{exclusive-is}
use Rattle.fbc_fit.proofs.LastPairs.{its_owner, own_pair}

module _ (shape : Shape) (w : World) (owner : ℕ) (c : CacheState) (fits : Fits shape w owner c) (h : IsCoherent w) where
  -- The page with which a way of the cache begins.
  first_drafted : (high low : ℕ) → ComesBefore c.pairs high low → is_draft_of owner (w.draft high) ≡ true
  first_drafted high low (straight a b is) = (h.pairs owner a b (fits.pairs a b ∙ is)).1
  first_drafted high low (through a between b is rest) = (h.pairs owner a between (fits.pairs a between ∙ is)).1

  drafted_usable : (page : ℕ) → is_draft_of owner (w.draft page) ≡ true → is_page_level (w.granted owner (page_resource page)) ≡ true
  drafted_usable page drafted = ap is_page_level (drafted_exclusive w h owner page drafted)

  -- A pair whose low page the owner may use.
  its_pair : (high low : ℕ) → IsPairIn w high low → is_page_level (w.granted owner (page_resource low)) ≡ true → w.has_pair owner high low ≡ true
  its_pair high low pair usable =
      subst (λ o. w.has_pair o high low ≡ true) (its_owner shape w owner c fits h low usable pair.0 (h.pairs pair.0 high low pair.1).2) pair.1

  pub comes_before : (high low : ℕ) → StandsBefore (IsPairIn w) high low → is_page_level (w.granted owner (page_resource low)) ≡ true → ComesBefore c.pairs high low
  comes_before high low (StandsBefore.straight a b pair) usable = straight a b (own_pair shape w owner c fits a b (its_pair a b pair usable))
  comes_before high low (StandsBefore.through a between b pair rest) usable = go (comes_before between b rest usable) where
    go : ComesBefore c.pairs between b → ComesBefore c.pairs a b
    go way = through a between b (own_pair shape w owner c fits a between (its_pair a between pair (drafted_usable between (first_drafted between b way)))) way

-- A pair that an edit needs.
needed : (dirty same : Bool) → (dirty && not same) ≡ true → (dirty ≡ true) × (same ≡ false)
needed true false is = (refl, refl)
needed true true is = absurd (cc)
needed false same is = absurd (cc)

pub pair-guard : (shape : Shape) (file : View) (history : History) (owner : ℕ) (c : CacheState) (page high : ℕ) → IsLegal shape file history → IsCache c → Fits shape (world_of shape file history) owner c
    → IsFreeToAct (scene_of shape file history) owner → level_in c.held page ≡ Ex → needs_pair c.held page high ≡ true → (ComesBefore c.pairs page high → ⊥) → GuardOfBefore (scene_of shape file history) owner high page
pair-guard shape file history owner c page high legal is fits free exclusive needs before =
    let w = world_of shape file history in
    let h = IsCoherent-legal shape file history legal in
    let both = needed (is_dirty_in c.held high) (high == page) needs in
    let drafted : is_draft_of owner (w.draft high) ≡ true = (fits.pages high).draft ∙ both.0 in
    record {
      free = free;
      apart = λ same. grind (arith, nat_tests, both.1, same);
      drafted = drafted;
      exclusive = exclusive-is shape w owner c is fits page exclusive;
      order = λ way. before (comes_before shape w owner c fits h page high way (ap is_page_level (drafted_exclusive w h owner high drafted)));
    }
