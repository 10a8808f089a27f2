-- After the mark that somebody asks for a page its cache fits.
use Rattle.std.proofs.Common.{◌≡◌, ◌∙◌, ℕ, Bool, true, false, map, Option, Some, None, refl, arith}
use Rattle.std.proofs.lemmas.List.{length-map}
use Rattle.std.specs.Option.{option_map}
use Rattle.fbc_kinds.specs.declared.pages.Page.{Page}
use Rattle.fbc_kinds.specs.declared.shapes.Shape.{Shape}
use Rattle.fbc_levels.specs.declared.levels.Level.{Level}
use Rattle.fbc_levels.specs.declared.resources.Request.{Request}
use Rattle.fbc_world.specs.World.{World}
use Rattle.fbc_buffers.specs.declared.buffers.Buffer.{Buffer}
use Rattle.fbc_buffers.specs.Holding.{buffer_of, is_of, with_blocking}
use Rattle.fbc_buffers.proofs.Found.{buffer_of-map}
use Rattle.fbc_cache.specs.Cache.{CacheState}
use Rattle.fbc_cache.specs.Use.{after_mark}
use Rattle.fbc_fit.specs.Fit.{Fits}
use Rattle.fbc_fit.proofs.Pages.{page-shows, shows-page}
use Rattle.fbc_fit.proofs.Shown.{Shows, shows-buffer}

-- The mark is no matter of the lock, the copy, the draft and the pin.
shows-marked : (page : ℕ) (granted : Level) (asked : Option Request) (copied : Option Page) (drafted pinned : Bool) (found : Option Buffer) → Shows granted asked copied drafted pinned found → Shows granted asked copied drafted pinned (option_map (with_blocking page true) found)
shows-marked page granted asked copied drafted pinned None shows = shows
shows-marked page granted asked copied drafted pinned (Some b) shows = go (is_of page b) refl where
  go : (here : Bool) → is_of page b ≡ here → Shows granted asked copied drafted pinned (Some (with_blocking page true b))
  go true here = rw here (record { lock = shows-buffer b (record b { is_blocking = true }) refl refl granted asked shows.lock; copy = shows.copy; draft = shows.draft; pin = shows.pin })
  go false there = rw there shows

pub fits-marked : (shape : Shape) (w : World) (owner page : ℕ) (c : CacheState) → Fits shape w owner c → Fits shape w owner (after_mark c page)
fits-marked shape w owner page c fits = record {
  shape_is = fits.shape_is;
  room = fits.room;
  count = length-map c.held (with_blocking page true) ∙ fits.count;
  pages = λ number. shows-page w owner number (map (with_blocking page true) c.held) _ (buffer_of-map (with_blocking page true) (λ b. grind (arith)) c.held number)
      (shows-marked page _ _ _ _ _ (buffer_of c.held number) (page-shows w owner number c.held (fits.pages number)));
  pairs = fits.pairs;
}
