-- After a page is read its cache fits.
use Rattle.std.proofs.Common.{◌≡◌, ◌∙◌, ℕ, Bool, true, false, ◌==◌, ◌&&◌, if◌then◌else◌, map, Option, Some, None, IfSome, refl, sym, subst, arith}
use Rattle.std.proofs.lemmas.Bool.Decides.{nat_tests}
use Rattle.std.proofs.lemmas.List.{length-map}
use Rattle.std.specs.Option.{option_and_then, option_map, option_map_or}
use Rattle.fbc_kinds.specs.declared.pages.Page.{Page}
use Rattle.fbc_kinds.specs.declared.shapes.Shape.{Shape}
use Rattle.fbc_levels.specs.declared.levels.Level.{Level}
use Rattle.fbc_levels.specs.declared.resources.Request.{Request}
use Rattle.fbc_world.specs.declared.events.Act.TheVariants as act
use Rattle.fbc_world.specs.World.{World, acted}
use Rattle.fbc_buffers.specs.declared.buffers.Buffer.{Buffer}
use Rattle.fbc_buffers.specs.Holding.{buffer_of, is_of, with_copy}
use Rattle.fbc_buffers.proofs.Found.{buffer_of-map, buffer_of-page}
use Rattle.fbc_cache.specs.Cache.{CacheState}
use Rattle.fbc_cache.specs.Takes.{after_read}
use Rattle.fbc_cache.specs.Wants.{is_unread}
use Rattle.fbc_fit.specs.Fit.{Fits, FitsPage}
use Rattle.fbc_fit.proofs.Pages.{page-shows, shows-page}
use Rattle.fbc_fit.proofs.Shown.{Shows, shows-buffer, shows-by}

-- The page is held and has no copy.
abbrev pub IsUnread : Option Buffer → Type 0
IsUnread found = option_map_or is_unread found false ≡ true

unread-bare : (found : Option Buffer) → IsUnread found → option_and_then (λ (b : Buffer). b.copy) found ≡ None
unread-bare None unread = refl
unread-bare (Some b) unread = go b.copy refl where
  go : (copy : Option Page) → b.copy ≡ copy → copy ≡ None
  go None is = refl
  go (Some content) is = absurd (grind (arith, unread, is))

-- The buffer of the page that is read, and one of another page.
shows-read : (page number : ℕ) (shown : Option Page) (same : Bool) → number == page ≡ same → (found : Option Buffer) → IfSome found (λ b. b.page ≡ number) → (same ≡ true → IsUnread found)
    → (granted : Level) (asked : Option Request) (copied : Option Page) (drafted pinned : Bool) → Shows granted asked copied drafted pinned found
    → Shows granted asked (if same then shown else copied) drafted pinned (option_map (with_copy page shown) found)
shows-read page number shown true is None of unread granted asked copied drafted pinned shows = absurd (let no : false ≡ true = unread refl in cc)
shows-read page number shown true is (Some b) of unread granted asked copied drafted pinned shows =
    let here : is_of page b ≡ true = rw of is in
    rw here (record { lock = shows-buffer b (record b { copy = shown }) refl refl granted asked shows.lock; copy = refl; draft = shows.draft; pin = shows.pin })
shows-read page number shown false is None of unread granted asked copied drafted pinned shows = shows
shows-read page number shown false is (Some b) of unread granted asked copied drafted pinned shows =
    let there : is_of page b ≡ false = rw of is in
    rw there shows

module _ (shape : Shape) (w : World) (owner page : ℕ) (landed : Bool) (c : CacheState) (unread : IsUnread (buffer_of c.held page)) (fits : Fits shape w owner c) where
  -- The page under another number that is the same.
  same-unread : (number : ℕ) → number == page ≡ true → IsUnread (buffer_of c.held number)
  same-unread number is =
      let same : page ≡ number = grind (arith, nat_tests, is) in
      subst (λ n. IsUnread (buffer_of c.held n)) same unread

  module _ (fault : Bool) (shown : Option Page) (shows : (if fault then None else w.kept page) ≡ shown) where
    abbrev after : World
    after = acted shape w owner (act.Read page fault) landed

    copy_after : (number : ℕ) → after.copy owner number ≡ (if number == page then shown else w.copy owner number)
    copy_after number = go (number == page) refl where
      go : (same : Bool) → number == page ≡ same → (if (owner == owner) && same then (if fault then None else w.kept number) else w.copy owner number) ≡ (if same then shown else w.copy owner number)
      go true is =
          let same : page ≡ number = grind (arith, nat_tests, is) in
          let read : (if fault then None else w.kept number) ≡ shown = subst (λ n. (if fault then None else w.kept n) ≡ shown) same shows in
          grind (arith, nat_tests, read)
      go false is = grind (arith, nat_tests)

    page_after : (number : ℕ) → FitsPage after owner (map (with_copy page shown) c.held) number
    page_after number =
        shows-page after owner number (map (with_copy page shown) c.held) _ (buffer_of-map (with_copy page shown) (λ b. grind (arith)) c.held number)
        (shows-by _ _ _ _ _ _ _ _ _ refl refl (copy_after number)
        (shows-read page number shown (number == page) refl (buffer_of c.held number) (buffer_of-page c.held number) (same-unread number) _ _ _ _ _ (page-shows w owner number c.held (fits.pages number))))

    pub fits-read : Fits shape after owner (after_read c page shown)
    fits-read = record {
      shape_is = fits.shape_is;
      room = fits.room;
      count = length-map c.held (with_copy page shown) ∙ fits.count;
      pages = page_after;
      pairs = fits.pairs;
    }

  -- Where the bytes spell no page the owner still has no copy.
  module _ (damaged : w.kept page ≡ None) where
    abbrev unchanged : World
    unchanged = acted shape w owner (act.Read page false) landed

    copy_left : (number : ℕ) → unchanged.copy owner number ≡ w.copy owner number
    copy_left number = copy_after false None damaged number ∙ go (number == page) refl where
      go : (same : Bool) → number == page ≡ same → (if same then None else w.copy owner number) ≡ w.copy owner number
      go true is = sym ((fits.pages number).copy ∙ unread-bare (buffer_of c.held number) (same-unread number is))
      go false is = refl

    page_left : (number : ℕ) → FitsPage unchanged owner c.held number
    page_left number = record { lock = (fits.pages number).lock; copy = copy_left number ∙ (fits.pages number).copy; draft = (fits.pages number).draft; pin = (fits.pages number).pin }

    pub fits-damaged : Fits shape unchanged owner c
    fits-damaged = record { shape_is = fits.shape_is; room = fits.room; count = fits.count; pages = page_left; pairs = fits.pairs }
