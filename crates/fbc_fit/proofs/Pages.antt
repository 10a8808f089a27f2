-- One page of a cache, by its buffer alone.
use Rattle.std.proofs.Common.{◌≡◌, ℕ, List, Option, sym, subst}
use Rattle.fbc_buffers.specs.declared.buffers.Buffer.{Buffer}
use Rattle.fbc_buffers.specs.Holding.{buffer_of}
use Rattle.fbc_levels.specs.LockState.{request_of}
use Rattle.fbc_world.specs.Holdings.{is_draft_of}
use Rattle.fbc_levels.specs.Resources.{page_resource}
use Rattle.fbc_world.specs.World.{World}
use Rattle.fbc_fit.specs.Fit.{FitsPage}
use Rattle.fbc_fit.proofs.Shown.{Shows}

-- What is said of the page where this is its buffer.
abbrev pub ShowsPage : World → ℕ → ℕ → Option Buffer → Type 0
ShowsPage w owner page found =
    Shows (w.granted owner (page_resource page)) (request_of w.locks owner (page_resource page)) (w.copy owner page) (is_draft_of owner (w.draft page)) (w.is_pinned owner page) found

pub page-shows : (w : World) (owner page : ℕ) (held : List Buffer) → FitsPage w owner held page → ShowsPage w owner page (buffer_of held page)
page-shows w owner page held fits = record { lock = fits.lock; copy = fits.copy; draft = fits.draft; pin = fits.pin }

pub shows-page : (w : World) (owner page : ℕ) (held : List Buffer) (found : Option Buffer) → buffer_of held page ≡ found → ShowsPage w owner page found → FitsPage w owner held page
shows-page w owner page held found is shows =
    let here : ShowsPage w owner page (buffer_of held page) = subst (ShowsPage w owner page) (sym is) shows in
    record { lock = here.lock; copy = here.copy; draft = here.draft; pin = here.pin }
