-- Where all stays that is said of an owner's pages, its cache still fits.
use Rattle.std.proofs.Common.{◌≡◌, ◌∙◌, ℕ, List, Option, length, sym, subst}
use Rattle.std.specs.List.{filter, find}
use Rattle.fbc_kinds.specs.declared.shapes.Shape.{Shape}
use Rattle.fbc_levels.specs.declared.levels.Level.{Level}
use Rattle.fbc_levels.specs.declared.resources.Request.{Request}
use Rattle.fbc_levels.specs.LockState.{is_of, request_of}
use Rattle.fbc_world.specs.Holdings.{is_draft_of, is_page_request_of}
use Rattle.fbc_levels.specs.Resources.{page_resource}
use Rattle.fbc_world.specs.World.{World}
use Rattle.fbc_buffers.specs.Holding.{buffer_of}
use Rattle.fbc_cache.specs.Cache.{CacheState}
use Rattle.fbc_fit.specs.Fit.{Fits, FitsPage, ShowsBuffer}

-- The owner's requests for pages are the same in both lists.
pub record HasSameRequests (owner : ℕ) (before after : List Request) : Type 0 where
  pub asked : (page : ℕ) → find (is_of owner (page_resource page)) after ≡ find (is_of owner (page_resource page)) before
  pub count : length (filter (is_page_request_of owner) after) ≡ length (filter (is_page_request_of owner) before)

-- All that is said of the owner's pages is the same in both worlds.
pub record HasSamePages (owner : ℕ) (w v : World) : Type 0 where
  pub granted : (page : ℕ) → v.granted owner (page_resource page) ≡ w.granted owner (page_resource page)
  pub requests : HasSameRequests owner w.locks.requests v.locks.requests
  pub copy : (page : ℕ) → v.copy owner page ≡ w.copy owner page
  pub draft : (page : ℕ) → is_draft_of owner (v.draft page) ≡ is_draft_of owner (w.draft page)
  pub pin : (page : ℕ) → v.is_pinned owner page ≡ w.is_pinned owner page
  pub pair : (high low : ℕ) → v.has_pair owner high low ≡ w.has_pair owner high low
  pub room : v.buffers owner ≡ w.buffers owner

module _ (shape : Shape) (owner : ℕ) (w v : World) (c : CacheState) (same : HasSamePages owner w v) (fits : Fits shape w owner c) where
  same_page : (page : ℕ) → FitsPage v owner c.held page
  same_page page = record {
    lock = subst (λ (r : Option Request). ShowsBuffer (v.granted owner (page_resource page)) r (buffer_of c.held page)) (sym (same.requests.asked page))
        (subst (λ (level : Level). ShowsBuffer level (request_of w.locks owner (page_resource page)) (buffer_of c.held page)) (sym (same.granted page)) (fits.pages page).lock);
    copy = same.copy page ∙ (fits.pages page).copy;
    draft = same.draft page ∙ (fits.pages page).draft;
    pin = same.pin page ∙ (fits.pages page).pin;
  }

  pub fits-same : Fits shape v owner c
  fits-same = record {
    shape_is = fits.shape_is;
    room = fits.room ∙ sym same.room;
    count = fits.count ∙ sym same.requests.count;
    pages = same_page;
    pairs = λ high low. same.pair high low ∙ fits.pairs high low;
  }
