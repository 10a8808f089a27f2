-- After a page is written that was due, its cache fits.
use Rattle.std.proofs.Common.{◌≡◌, ◌∙◌, ℕ, Bool, true, false, ◌==◌, if◌then◌else◌, List, [], ◌∷◌, map, Option, Some, None, IfSome, refl, sym, ap, arith}
use Rattle.std.proofs.lemmas.Bool.Decides.{nat_tests}
use Rattle.std.proofs.lemmas.List.{length-map}
use Rattle.std.specs.List.{filter, list_any}
use Rattle.std.specs.Option.{option_map}
use Rattle.fbc_kinds.specs.declared.edges.Edge.{Edge}
use Rattle.fbc_kinds.specs.declared.pages.Page.{Page}
use Rattle.fbc_kinds.specs.declared.shapes.Shape.{Shape}
use Rattle.fbc_levels.specs.declared.levels.Level.{Level}
use Rattle.fbc_levels.specs.declared.resources.Request.{Request}
use Rattle.fbc_precedence.specs.Precedence.{is_pair, is_without}
use Rattle.fbc_world.specs.declared.asks.Cause.{Cause}
use Rattle.fbc_world.specs.declared.events.Act.TheVariants as act
use Rattle.fbc_world.specs.declared.drafts.Draft.{Draft}
use Rattle.fbc_world.specs.Holdings.{is_draft_of}
use Rattle.fbc_world.specs.PageCell.{without}
use Rattle.fbc_world.specs.World.{World, acted}
use Rattle.fbc_buffers.specs.declared.buffers.Buffer.{Buffer}
use Rattle.fbc_buffers.specs.Holding.{buffer_of, is_of, with_dirt}
use Rattle.fbc_buffers.proofs.Found.{buffer_of-map, buffer_of-page}
use Rattle.fbc_cache.specs.Cache.{CacheState}
use Rattle.fbc_cache.specs.Wants.{is_write_due}
use Rattle.fbc_precedence.specs.Search.{is_blocked}
use Rattle.fbc_fit.specs.Fit.{Fits}
use Rattle.fbc_fit.proofs.Pages.{page-shows, shows-page}
use Rattle.fbc_fit.proofs.Shown.{Shows, shows-buffer}

-- A page that is the low one of no pair: its pairs are those of which it is the high page.
cleared-pairs : (page high low : ℕ) (pairs : List Edge) → is_blocked pairs page ≡ false → list_any (is_pair high low) (filter (is_without page) pairs) ≡ (if high == page then false else list_any (is_pair high low) pairs)
cleared-pairs page high low [] free = grind (arith, nat_tests)
cleared-pairs page high low (e ∷ es) free = grind (arith, nat_tests, free, cleared-pairs page high low es)

-- An owner has no draft that was taken from it.
none_own : (owner : ℕ) (draft : Option Draft) → is_draft_of owner (without owner draft) ≡ false
none_own owner None = refl
none_own owner (Some d) = grind (arith, nat_tests)

-- The buffer of the page that is written, and one of another page.
shows-written : (owner page number : ℕ) (same : Bool) → number == page ≡ same → (granted : Level) (asked : Option Request) (copied : Option Page) (draft : Option Draft) (pinned : Bool) (found : Option Buffer)
    → IfSome found (λ b. b.page ≡ number) → Shows granted asked copied (is_draft_of owner draft) pinned found
    → Shows granted asked copied (is_draft_of owner (if same then without owner draft else draft)) pinned (option_map (with_dirt page false) found)
shows-written owner page number true is granted asked copied draft pinned None of shows = record { lock = shows.lock; copy = shows.copy; draft = none_own owner draft; pin = shows.pin }
shows-written owner page number true is granted asked copied draft pinned (Some b) of shows =
    let here : is_of page b ≡ true = rw of is in
    rw here (record { lock = shows-buffer b (record b { is_dirty = false }) refl refl granted asked shows.lock; copy = shows.copy; draft = none_own owner draft; pin = shows.pin })
shows-written owner page number false is granted asked copied draft pinned None of shows = shows
shows-written owner page number false is granted asked copied draft pinned (Some b) of shows =
    let there : is_of page b ≡ false = rw of is in
    rw there shows

module _ (shape : Shape) (w : World) (owner page : ℕ) (cause : Cause) (landed : Bool) (c : CacheState) (due : is_write_due c page ≡ true) (fits : Fits shape w owner c) where
  abbrev after : World
  after = acted shape w owner (act.Write page cause false) landed

  free : is_blocked c.pairs page ≡ false
  free = grind (arith, due)

  pub fits-written : Fits shape after owner (record c { held = map (with_dirt page false) c.held; pairs = filter (is_without page) c.pairs })
  fits-written = record {
    shape_is = fits.shape_is;
    room = fits.room;
    count = length-map c.held (with_dirt page false) ∙ fits.count;
    pages = λ p. shows-page after owner p (map (with_dirt page false) c.held) _ (buffer_of-map (with_dirt page false) (λ b. grind (arith)) c.held p)
        (shows-written owner page p (p == page) refl _ _ _ (w.draft p) _ (buffer_of c.held p) (buffer_of-page c.held p) (page-shows w owner p c.held (fits.pages p)));
    pairs = λ high low. ap (λ (b : Bool). if high == page then false else b) (fits.pairs high low) ∙ sym (cleared-pairs page high low c.pairs free);
  }
