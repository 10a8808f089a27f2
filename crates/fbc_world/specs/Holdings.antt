-- What one owner holds of the pages and of their locks.
use Rattle.std.specs.Prelude.{ℕ, Bool, false, ◌==◌, ◌&&◌, if◌then◌else◌, Option, None, length, filter}
use Rattle.std.specs.Option.{option_and_then, option_map, option_map_or}
use Rattle.fbc_kinds.specs.declared.pages.Page.{Page}
use Rattle.fbc_levels.specs.declared.levels.Level.{Level}
use Rattle.fbc_levels.specs.declared.resources.Request.{Request}
use Rattle.fbc_levels.specs.declared.resources.Series.TheVariants as series
use Rattle.fbc_levels.specs.LockState.{wait_of}
use Rattle.fbc_levels.specs.Resources.{is_same_series, page_resource}
use Rattle.fbc_world.specs.declared.drafts.Draft.{Draft}
use Rattle.fbc_world.specs.World.{World}

-- A page, and the level in which it is waited for.
pub record Want : Type 0 where
  pub page : ℕ
  pub level : Level

-- What one owner holds.
pub record Holdings : Type 0 where
  -- The level that it is granted on each page.
  pub level : ℕ → Level
  -- What it may use of each page.
  pub copy : ℕ → Option Page
  -- Whether each page's draft is its own.
  pub is_draft : ℕ → Bool
  -- Whether it has each page pinned.
  pub is_pinned : ℕ → Bool
  -- Whether its pair of two pages stands; the first is to be written before the second.
  pub has_pair : ℕ → ℕ → Bool
  -- The page that it waits for, if it waits for one.
  pub wanted : Option Want
  -- How many requests for pages it has, the one by which it waits among them.
  pub count : ℕ
  -- For how many pages it has room.
  pub buffers : ℕ

-- Whether it is a draft of this owner.
abbrev pub is_draft_of : ℕ → Option Draft → Bool
is_draft_of owner draft = option_map_or (λ (d : Draft). d.owner == owner) draft false

-- Whether it is a request of this owner for a page.
abbrev pub is_page_request_of : ℕ → Request → Bool
is_page_request_of owner r = (r.owner == owner) && is_same_series r.resource.series series.Page

-- The page that a request waits for, if it is for a page.
abbrev pub want_of : Request → Option Want
want_of r =
    if is_same_series r.resource.series series.Page then option_map (λ level. record { page = r.resource.key; level = level }) r.waiting else None

-- What the owner holds where this stands.
abbrev pub holdings_of : World → ℕ → Holdings
holdings_of w owner = record {
  level = λ page. w.granted owner (page_resource page);
  copy = w.copy owner;
  is_draft = λ page. is_draft_of owner (w.draft page);
  is_pinned = w.is_pinned owner;
  has_pair = w.has_pair owner;
  wanted = option_and_then want_of (wait_of w.locks owner);
  count = length (filter (is_page_request_of owner) w.locks.requests);
  buffers = w.buffers owner;
}
