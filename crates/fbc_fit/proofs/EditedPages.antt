-- After a page is edited its cache fits.
use Rattle.std.proofs.Common.{◌≡◌, ◌∙◌, ap, ℕ, Bool, true, false, ◌==◌, if◌then◌else◌, List, map, Option, Some, None, IfSome, is_some, refl, sym, subst, arith}
use Rattle.std.proofs.lemmas.Bool.Decides.{nat_tests}
use Rattle.std.proofs.lemmas.List.{length-map}
use Rattle.std.specs.Option.{option_map, option_map_or}
use Rattle.fbc_kinds.specs.declared.edits.Edit.{Edit}
use Rattle.fbc_kinds.specs.declared.pages.Page.{Page}
use Rattle.fbc_kinds.specs.declared.shapes.Shape.{Shape}
use Rattle.fbc_levels.specs.declared.levels.Level.{Level}
use Rattle.fbc_levels.specs.declared.levels.Level.TheVariants.{Ex, Free}
use Rattle.fbc_levels.specs.declared.resources.Request.{Request}
use Rattle.fbc_world.specs.declared.drafts.Draft.{Draft}
use Rattle.fbc_world.specs.Holdings.{is_draft_of}
use Rattle.fbc_world.specs.PageCell.{drafted}
use Rattle.fbc_world.specs.World.{World, with_edit as world_with_edit}
use Rattle.fbc_buffers.specs.declared.buffers.Buffer.{Buffer}
use Rattle.fbc_buffers.specs.Holding.{buffer_of, is_of, with_copy, with_dirt}
use Rattle.fbc_buffers.proofs.Found.{buffer_of-map, buffer_of-page}
use Rattle.fbc_cache.specs.Cache.{CacheState, level_in}
use Rattle.fbc_cache.specs.Edits.{with_edit}
use Rattle.fbc_fit.specs.Fit.{Fits, FitsPage}
use Rattle.fbc_fit.proofs.OwnPlaces.{own_place}
use Rattle.fbc_fit.proofs.Pages.{page-shows, shows-page}
use Rattle.fbc_fit.proofs.Shown.{Shows, shows-buffer}

-- The buffer of the page with the new content, and one of another page.
abbrev edited_buffer : ℕ → Option Page → Buffer → Buffer
edited_buffer page content b = with_dirt page true (with_copy page content b)

edited-here : (page : ℕ) (content : Option Page) (b : Buffer) → is_of page b ≡ true → edited_buffer page content b ≡ record b { copy = content; is_dirty = true }
edited-here page content b here = grind (arith, nat_tests, here)

edited-there : (page : ℕ) (content : Option Page) (b : Buffer) → is_of page b ≡ false → edited_buffer page content b ≡ b
edited-there page content b there = grind (arith, nat_tests, there)

edited-both : (page : ℕ) (content : Option Page) (found : Option Buffer) → option_map (with_dirt page true) (option_map (with_copy page content) found) ≡ option_map (edited_buffer page content) found
edited-both page content None = refl
edited-both page content (Some b) = refl

own_draft : (owner : ℕ) (content : Page) → is_draft_of owner (Some (record { owner = owner; content = content })) ≡ true
own_draft owner content = grind (arith, nat_tests)

exclusive-there : (found : Option Buffer) → option_map_or (λ (b : Buffer). b.level) found Free ≡ Ex → is_some found ≡ true
exclusive-there None exclusive = absurd (cc)
exclusive-there (Some b) exclusive = refl

module _ (owner page : ℕ) (content : Page) where
  shows-edited : (number : ℕ) (same : Bool) → number == page ≡ same → (found : Option Buffer) → IfSome found (λ b. b.page ≡ number) → (same ≡ true → is_some found ≡ true)
      → (granted : Level) (asked : Option Request) (copied : Option Page) (draft : Option Draft) (pinned : Bool) → Shows granted asked copied (is_draft_of owner draft) pinned found
      → Shows granted asked (if same then Some content else copied) (is_draft_of owner (if same then drafted owner draft (Some content) else draft)) pinned (option_map (edited_buffer page (Some content)) found)
  shows-edited number true is None of there granted asked copied draft pinned shows = absurd (let no : false ≡ true = there refl in cc)
  shows-edited number true is (Some b) of there granted asked copied draft pinned shows =
      let here : is_of page b ≡ true = rw of is in
      subst (λ (x : Buffer). Shows granted asked (Some content) (is_draft_of owner (drafted owner draft (Some content))) pinned (Some x)) (sym (edited-here page (Some content) b here))
      (record { lock = shows-buffer b (record b { copy = Some content; is_dirty = true }) refl refl granted asked shows.lock; copy = refl; draft = own_draft owner content; pin = shows.pin })
  shows-edited number false is None of there granted asked copied draft pinned shows = shows
  shows-edited number false is (Some b) of there granted asked copied draft pinned shows =
      let elsewhere : is_of page b ≡ false = rw of is in
      subst (λ (x : Buffer). Shows granted asked copied (is_draft_of owner draft) pinned (Some x)) (sym (edited-there page (Some content) b elsewhere)) shows

module _ (shape : Shape) (w : World) (owner page : ℕ) (edit : Edit) (c : CacheState) (fits : Fits shape w owner c) (exclusive : level_in c.held page ≡ Ex) where
  there : (number : ℕ) → number == page ≡ true → is_some (buffer_of c.held number) ≡ true
  there number same =
      let at : page ≡ number = grind (arith, nat_tests, same) in
      subst (λ n. is_some (buffer_of c.held n) ≡ true) at (exclusive-there (buffer_of c.held page) exclusive)

  module _ (content : Page) where
    abbrev buffers : List Buffer
    buffers = map (with_dirt page true) (map (with_copy page (Some content)) c.held)

    found_after : (number : ℕ) → buffer_of buffers number ≡ option_map (edited_buffer page (Some content)) (buffer_of c.held number)
    found_after number =
        buffer_of-map (with_dirt page true) (λ b. grind (arith)) (map (with_copy page (Some content)) c.held) number
        ∙ ap (option_map (with_dirt page true)) (buffer_of-map (with_copy page (Some content)) (λ b. grind (arith)) c.held number)
        ∙ edited-both page (Some content) (buffer_of c.held number)

    page_after : (number : ℕ) → FitsPage (world_with_edit w owner page edit (Some content)) owner buffers number
    page_after number =
        let shows = shows-edited owner page content number (number == page) refl (buffer_of c.held number) (buffer_of-page c.held number) (there number) _ _ _ (w.draft number) _ (page-shows w owner number c.held (fits.pages number)) in
        shows-page (world_with_edit w owner page edit (Some content)) owner number buffers _ (found_after number)
        (record { lock = shows.lock; copy = own_place owner (number == page) (Some content) (w.copy owner number) ∙ shows.copy; draft = shows.draft; pin = shows.pin })

    fits-content : Fits shape (world_with_edit w owner page edit (Some content)) owner (with_edit c page (Some content))
    fits-content = record {
      shape_is = fits.shape_is;
      room = fits.room;
      count = length-map (map (with_copy page (Some content)) c.held) (with_dirt page true) ∙ length-map c.held (with_copy page (Some content)) ∙ fits.count;
      pages = page_after;
      pairs = fits.pairs;
    }

  -- An edit that fits.
  pub fits-edited : (after : Option Page) → is_some after ≡ true → Fits shape (world_with_edit w owner page edit after) owner (with_edit c page after)
  fits-edited None fitting = absurd (cc)
  fits-edited (Some content) fitting = fits-content content
