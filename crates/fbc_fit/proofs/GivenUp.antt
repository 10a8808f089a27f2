-- After a page is given up its cache fits.
use Rattle.std.proofs.Common.{◌≡◌, ◌∙◌, ℕ, Bool, true, false, ◌==◌, if◌then◌else◌, Option, None, is_some, refl, arith}
use Rattle.std.proofs.lemmas.Bool.Decides.{nat_tests}
use Rattle.fbc_kinds.specs.declared.pages.Page.{Page}
use Rattle.fbc_kinds.specs.declared.shapes.Shape.{Shape}
use Rattle.fbc_levels.specs.declared.levels.Level.{Level}
use Rattle.fbc_levels.specs.declared.levels.Level.TheVariants.{Free}
use Rattle.fbc_levels.specs.declared.resources.Request.{Request}
use Rattle.fbc_levels.specs.LockState.{request_of}
use Rattle.fbc_world.specs.declared.events.Act.TheVariants as act
use Rattle.fbc_levels.specs.Resources.{page_resource}
use Rattle.fbc_world.specs.World.{World, acted}
use Rattle.fbc_world.proofs.Apart.{IsApart}
use Rattle.fbc_buffers.specs.declared.buffers.Buffer.{Buffer}
use Rattle.fbc_buffers.specs.Holding.{buffer_of, without}
use Rattle.fbc_buffers.proofs.Found.{buffer_of-without}
use Rattle.fbc_cache.specs.Cache.{CacheState}
use Rattle.fbc_fit.specs.Fit.{Fits, FitsPage}
use Rattle.fbc_fit.proofs.ChangedLevels.{changed-level}
use Rattle.fbc_fit.proofs.Idle.{IsIdle, idle-clean, idle-loose, idle-there, same-idle}
use Rattle.fbc_fit.proofs.OneBuffer.{asked-without, count-without}
use Rattle.fbc_fit.proofs.Pages.{page-shows, shows-page}
use Rattle.fbc_fit.proofs.Shown.{Shows, shows-by}

-- A page that is given up, and another one.
shows-given_up : (same : Bool) (found : Option Buffer) → (same ≡ true → IsIdle found) → (granted : Level) (asked : Option Request) (copied : Option Page) (drafted pinned : Bool) → Shows granted asked copied drafted pinned found
    → Shows (if same then Free else granted) (if same then None else asked) (if same then None else copied) drafted pinned (if same then None else found)
shows-given_up true found idle granted asked copied drafted pinned shows =
    record { lock = refl; copy = refl; draft = shows.draft ∙ idle-clean found (idle refl); pin = shows.pin ∙ idle-loose found (idle refl) }
shows-given_up false found idle granted asked copied drafted pinned shows = shows

module _ (shape : Shape) (w : World) (owner page : ℕ) (landed : Bool) (c : CacheState) (idle : IsIdle (buffer_of c.held page)) (apart : IsApart w.locks) (fits : Fits shape w owner c) where
  abbrev after : World
  after = acted shape w owner (act.Lower (page_resource page) Free) landed

  there : is_some (buffer_of c.held page) ≡ true
  there = idle-there (buffer_of c.held page) idle

  -- What stands of each page.
  copy_after : (number : ℕ) → after.copy owner number ≡ (if page == number then None else w.copy owner number)
  copy_after number = grind (arith, nat_tests)

  asked_after : (number : ℕ) → request_of after.locks owner (page_resource number) ≡ (if page == number then None else request_of w.locks owner (page_resource number))
  asked_after number = asked-without w owner page c.held there apart fits.pages fits.count number

  found_after : (number : ℕ) → buffer_of (without page c.held) number ≡ (if page == number then None else buffer_of c.held number)
  found_after number = buffer_of-without page c.held number

  page_after : (number : ℕ) → FitsPage after owner (without page c.held) number
  page_after number =
      shows-page after owner number (without page c.held) _ (found_after number)
      (shows-by _ _ _ _ _ _ _ _ _ (changed-level owner page number Free (w.granted owner (page_resource number))) (asked_after number) (copy_after number)
      (shows-given_up (page == number) (buffer_of c.held number) (λ same. same-idle c.held page number same idle) _ _ _ _ _ (page-shows w owner number c.held (fits.pages number))))

  pub fits-given_up : Fits shape after owner (record c { held = without page c.held })
  fits-given_up = record {
    shape_is = fits.shape_is;
    room = fits.room;
    count = count-without w owner page c.held there apart fits.pages fits.count;
    pages = page_after;
    pairs = fits.pairs;
  }
