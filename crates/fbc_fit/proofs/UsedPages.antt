-- After a further use of a page that is pinned its cache fits.
use Rattle.std.proofs.Common.{◌≡◌, ◌∙◌, ℕ, Bool, true, false, ◌==◌, if◌then◌else◌, map, refl, sym, subst, arith}
use Rattle.std.proofs.lemmas.Bool.Decides.{nat_tests}
use Rattle.fbc_kinds.specs.declared.shapes.Shape.{Shape}
use Rattle.fbc_world.specs.World.{World, pinned}
use Rattle.fbc_buffers.specs.Holding.{touched, with_pin}
use Rattle.fbc_cache.specs.Cache.{CacheState, is_granted_in, is_pinned_in}
use Rattle.fbc_cache.specs.Use.{after_pin}
use Rattle.fbc_fit.specs.Fit.{Fits}
use Rattle.fbc_fit.proofs.OwnPlaces.{own_place}
use Rattle.fbc_fit.proofs.PinnedPages.{fits-pinned}

module _ (shape : Shape) (w : World) (owner page : ℕ) (c : CacheState) (fits : Fits shape w owner c) where
  -- The page was pinned before.
  pinned_before : is_pinned_in c.held page ≡ true → (number : ℕ) → (if number == page then true else w.is_pinned owner number) ≡ w.is_pinned owner number
  pinned_before pin number = go (number == page) refl where
    go : (same : Bool) → number == page ≡ same → (if same then true else w.is_pinned owner number) ≡ w.is_pinned owner number
    go true same =
        let at : page ≡ number = grind (arith, nat_tests, same) in
        sym (subst (λ n. w.is_pinned owner n ≡ true) at ((fits.pages page).pin ∙ pin))
    go false differs = refl

  same_pins : Fits shape (pinned w owner page true) owner (record c { held = touched page (map (with_pin page true) c.held) }) → is_pinned_in c.held page ≡ true → Fits shape w owner (record c { held = touched page (map (with_pin page true) c.held) })
  same_pins after pin = record {
    shape_is = after.shape_is;
    room = after.room;
    count = after.count;
    pages = λ number. record {
      lock = (after.pages number).lock;
      copy = (after.pages number).copy;
      draft = (after.pages number).draft;
      pin = sym (own_place owner (number == page) true (w.is_pinned owner number) ∙ pinned_before pin number) ∙ (after.pages number).pin;
    };
    pairs = after.pairs;
  }

  pub fits-used : is_pinned_in c.held page ≡ true → Fits shape w owner (after_pin c page)
  fits-used pin = go (is_granted_in c.held page) refl where
    go : (granted : Bool) → is_granted_in c.held page ≡ granted → Fits shape w owner (if granted then record c { held = touched page (map (with_pin page true) c.held) } else c)
    go true granted = same_pins (fits-pinned shape w owner page c fits granted) pin
    go false waits = fits
