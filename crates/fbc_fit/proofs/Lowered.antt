-- After a page is held in a lower level its cache fits.
use Rattle.std.proofs.Common.{◌≡◌, ◌∙◌, ap, ℕ, Bool, true, false, ◌==◌, List, map, length, is_some, refl, sym, arith}
use Rattle.std.proofs.lemmas.Bool.Decides.{nat_tests}
use Rattle.std.proofs.lemmas.List.{length-map}
use Rattle.std.specs.List.{filter, find}
use Rattle.std.specs.Option.{option_map}
use Rattle.fbc_kinds.specs.declared.shapes.Shape.{Shape}
use Rattle.fbc_levels.specs.declared.levels.Level.{Level}
use Rattle.fbc_levels.specs.declared.levels.Level.TheVariants.{Free}
use Rattle.fbc_levels.specs.declared.resources.Request.{Request}
use Rattle.fbc_levels.specs.declared.resources.Resource.{Resource}
use Rattle.fbc_levels.specs.Levels.{is_free}
use Rattle.fbc_levels.specs.LockState.{LockState, is_of, request_of}
use Rattle.fbc_lock_table.specs.Effects.{entered, with_granted}
use Rattle.fbc_world.specs.declared.events.Act.TheVariants as act
use Rattle.fbc_world.specs.Holdings.{is_page_request_of}
use Rattle.fbc_levels.specs.Resources.{page_resource}
use Rattle.fbc_world.specs.Locks.{lowered_to}
use Rattle.fbc_world.specs.World.{World, acted}
use Rattle.fbc_world.proofs.Apart.{IsApart}
use Rattle.fbc_world.proofs.Found.{find_map}
use Rattle.fbc_buffers.specs.declared.buffers.Buffer.{Buffer}
use Rattle.fbc_buffers.specs.Holding.{buffer_of, with_blocking, with_level}
use Rattle.fbc_buffers.proofs.Found.{buffer_of-map, buffer_of-page}
use Rattle.fbc_cache.specs.Cache.{CacheState}
use Rattle.fbc_cache.specs.Takes.{after_lowering}
use Rattle.fbc_fit.specs.Fit.{Fits, FitsPage}
use Rattle.fbc_fit.proofs.ChangedLevels.{changed-level}
use Rattle.fbc_fit.proofs.Counts.{count-map}
use Rattle.fbc_fit.proofs.Entering.{entered-there}
use Rattle.fbc_fit.proofs.GivenUp.{fits-given_up}
use Rattle.fbc_fit.proofs.Idle.{IsIdle, idle-there, same-idle}
use Rattle.fbc_fit.proofs.Pages.{page-shows, shows-page}
use Rattle.fbc_fit.proofs.Shown.{buffer-asked, shows-by}
use Rattle.fbc_fit.proofs.LoweredPages.{lowered, lowered-both, lowered_request, shows-lowered}

-- Where some lock is left, its request stays.
lowered-requests : (s : LockState) (owner : ℕ) (resource : Resource) (level : Level) → is_free level ≡ false → (lowered_to s owner resource level).requests ≡ map (with_granted owner resource level) (entered s.requests owner resource 0)
lowered-requests s owner resource Free held = absurd (cc)
lowered-requests s owner resource _ held = refl

module _ (shape : Shape) (w : World) (owner page : ℕ) (landed : Bool) (c : CacheState) (idle : IsIdle (buffer_of c.held page)) (apart : IsApart w.locks) (fits : Fits shape w owner c) where
  module _ (level : Level) (held : is_free level ≡ false) where
    abbrev after : World
    after = acted shape w owner (act.Lower (page_resource page) level) landed

    abbrev changes : Request → Request
    changes = lowered_request owner page level

    asked_there : is_some (request_of w.locks owner (page_resource page)) ≡ true
    asked_there = sym (buffer-asked _ _ (buffer_of c.held page) (fits.pages page).lock) ∙ idle-there (buffer_of c.held page) idle

    requests_are : after.locks.requests ≡ map changes w.locks.requests
    requests_are = lowered-requests w.locks owner (page_resource page) level held ∙ ap (map changes) (entered-there w.locks.requests owner (page_resource page) 0 asked_there)

    asked_after : (number : ℕ) → request_of after.locks owner (page_resource number) ≡ option_map changes (request_of w.locks owner (page_resource number))
    asked_after number = ap (find (is_of owner (page_resource number))) requests_are ∙ find_map (is_of owner (page_resource number)) changes (λ r. refl) w.locks.requests

    copy_after : (number : ℕ) → after.copy owner number ≡ w.copy owner number
    copy_after number = grind (arith, nat_tests, held)

    abbrev buffers : List Buffer
    buffers = map (with_blocking page false) (map (with_level page level) c.held)

    found_after : (number : ℕ) → buffer_of buffers number ≡ option_map (lowered page level) (buffer_of c.held number)
    found_after number =
        buffer_of-map (with_blocking page false) (λ b. grind (arith)) (map (with_level page level) c.held) number
        ∙ ap (option_map (with_blocking page false)) (buffer_of-map (with_level page level) (λ b. grind (arith)) c.held number)
        ∙ lowered-both page level (buffer_of c.held number)

    page_after : (number : ℕ) → FitsPage after owner buffers number
    page_after number =
        shows-page after owner number buffers _ (found_after number)
        (shows-by _ _ _ _ _ _ _ _ _ (changed-level owner page number level (w.granted owner (page_resource number))) (asked_after number) (copy_after number)
        (shows-lowered owner page level number (page == number) refl (buffer_of c.held number) (buffer_of-page c.held number) (λ same. same-idle c.held page number same idle) _ _ _ _ _ (page-shows w owner number c.held (fits.pages number))))

    count_after : length buffers ≡ length (filter (is_page_request_of owner) after.locks.requests)
    count_after =
        length-map (map (with_level page level) c.held) (with_blocking page false) ∙ length-map c.held (with_level page level) ∙ fits.count
        ∙ sym (ap (λ (rs : List Request). length (filter (is_page_request_of owner) rs)) requests_are ∙ count-map (is_page_request_of owner) changes (λ r. refl) w.locks.requests)

    fits-held : Fits shape after owner (record c { held = buffers })
    fits-held = record {
      shape_is = fits.shape_is;
      room = fits.room;
      count = count_after;
      pages = page_after;
      pairs = fits.pairs;
    }

  pub fits-lowered : (level : Level) → Fits shape (acted shape w owner (act.Lower (page_resource page) level) landed) owner (after_lowering c page level)
  fits-lowered Free = fits-given_up shape w owner page landed c idle apart fits
  fits-lowered level = fits-held level refl
