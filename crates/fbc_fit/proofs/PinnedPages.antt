-- After a page is pinned, or is pinned no more, its cache fits.
use Rattle.std.proofs.Common.{◌≡◌, ◌∙◌, ℕ, Bool, true, false, ◌==◌, List, map, is_some, refl, subst, arith}
use Rattle.std.proofs.lemmas.Bool.Decides.{nat_tests}
use Rattle.std.proofs.lemmas.List.{length-map}
use Rattle.std.specs.Option.{option_map}
use Rattle.fbc_kinds.specs.declared.shapes.Shape.{Shape}
use Rattle.fbc_world.specs.World.{World, pinned}
use Rattle.fbc_buffers.specs.declared.buffers.Buffer.{Buffer}
use Rattle.fbc_buffers.specs.Holding.{buffer_of, touched, with_pin}
use Rattle.fbc_buffers.proofs.Found.{buffer_of-map, buffer_of-page, buffer_of-touched}
use Rattle.fbc_cache.specs.Cache.{CacheState, is_granted_in}
use Rattle.fbc_cache.specs.Use.{after_unpin}
use Rattle.fbc_fit.specs.Fit.{Fits, FitsPage}
use Rattle.fbc_fit.proofs.OwnPlaces.{own_place}
use Rattle.fbc_fit.proofs.Pages.{page-shows, shows-page}
use Rattle.fbc_fit.proofs.ShownPins.{granted-there, shows-pinned}
use Rattle.fbc_fit.proofs.Touched.{length-touched}

module _ (shape : Shape) (w : World) (owner page : ℕ) (c : CacheState) (fits : Fits shape w owner c) where
  there : is_granted_in c.held page ≡ true → (number : ℕ) → number == page ≡ true → is_some (buffer_of c.held number) ≡ true
  there granted number same =
      let at : page ≡ number = grind (arith, nat_tests, same) in
      subst (λ n. is_some (buffer_of c.held n) ≡ true) at (granted-there (buffer_of c.held page) granted)

  page_after : (pins : Bool) → (pins ≡ true → is_granted_in c.held page ≡ true) → (held : List Buffer) → ((number : ℕ) → buffer_of held number ≡ option_map (with_pin page pins) (buffer_of c.held number)) → (number : ℕ) → FitsPage (pinned w owner page pins) owner held number
  page_after pins granted held found number =
      let shows = shows-pinned page number pins (number == page) refl (buffer_of c.held number) (buffer_of-page c.held number) (λ same on. there (granted on) number same) _ _ _ _ _ (page-shows w owner number c.held (fits.pages number)) in
      shows-page (pinned w owner page pins) owner number held _ (found number)
      (record { lock = shows.lock; copy = shows.copy; draft = shows.draft; pin = own_place owner (number == page) pins (w.is_pinned owner number) ∙ shows.pin })

  found_map : (pins : Bool) (number : ℕ) → buffer_of (map (with_pin page pins) c.held) number ≡ option_map (with_pin page pins) (buffer_of c.held number)
  found_map pins number = buffer_of-map (with_pin page pins) (λ b. grind (arith)) c.held number

  found_touched : (number : ℕ) → buffer_of (touched page (map (with_pin page true) c.held)) number ≡ option_map (with_pin page true) (buffer_of c.held number)
  found_touched number = buffer_of-touched page (map (with_pin page true) c.held) number ∙ found_map true number

  -- The page is pinned.
  pub fits-pinned : is_granted_in c.held page ≡ true → Fits shape (pinned w owner page true) owner (record c { held = touched page (map (with_pin page true) c.held) })
  fits-pinned granted = record {
    shape_is = fits.shape_is;
    room = fits.room;
    count = length-touched page (map (with_pin page true) c.held) ∙ length-map c.held (with_pin page true) ∙ fits.count;
    pages = page_after true (λ on. granted) (touched page (map (with_pin page true) c.held)) found_touched;
    pairs = fits.pairs;
  }

  -- The page is pinned no more.
  pub fits-unpinned : Fits shape (pinned w owner page false) owner (after_unpin c page)
  fits-unpinned = record {
    shape_is = fits.shape_is;
    room = fits.room;
    count = length-map c.held (with_pin page false) ∙ fits.count;
    pages = page_after false (λ on. absurd (cc)) (map (with_pin page false) c.held) (found_map false);
    pairs = fits.pairs;
  }
