-- What holds of locks, copies, drafts and pairs where a legal history led.
use Rattle.std.specs.Prelude.{◌≡◌, ◌≢◌, ◌&&◌, ℕ, Bool, true, false, not, Option, Some, None, is_some}
use Rattle.std.specs.Option.{option_map_or}
use Rattle.fbc_kinds.specs.declared.pages.Page.{Page}
use Rattle.fbc_levels.specs.declared.levels.Level.TheVariants.{Ex}
use Rattle.fbc_levels.specs.declared.resources.Request.{Request}
use Rattle.fbc_levels.specs.declared.resources.Resource.{Resource}
use Rattle.fbc_levels.specs.Levels.{is_compatible, is_free, is_page_level}
use Rattle.fbc_levels.specs.LockState.{request_of}
use Rattle.fbc_world.specs.declared.drafts.Draft.{Draft}
use Rattle.fbc_world.specs.Holdings.{is_draft_of}
use Rattle.fbc_levels.specs.Resources.{page_resource}
use Rattle.fbc_world.specs.World.{World, IsPairIn, newest_of}
use Rattle.fbc_kinds.specs.Order.{StandsBefore}

-- Levels of different owners on one resource go beside each other.
abbrev pub LevelsGoBeside : World → Type 0
LevelsGoBeside w = (owner other : ℕ) (resource : Resource) → owner ≢ other → is_compatible (w.granted owner resource) (w.granted other resource) ≡ true

-- Whether a request waits for more than the level that it has.
abbrev pub is_raise : Request → Bool
is_raise r = is_some r.waiting && not (is_free r.granted)

-- Who waits for a page has no level on it yet.
abbrev pub WaitsAreBare : World → Type 0
WaitsAreBare w = (owner page : ℕ) → option_map_or is_raise (request_of w.locks owner (page_resource page)) false ≡ false

-- Who has a copy is alive, and may use the page.
abbrev pub IsCopyHeld : World → ℕ → ℕ → Option Page → Type 0
IsCopyHeld w owner page None = Unit {0}
IsCopyHeld w owner page (Some content) = (w.is_alive owner ≡ true) × (is_page_level (w.granted owner (page_resource page)) ≡ true)

abbrev pub CopiesAreHeld : World → Type 0
CopiesAreHeld w = (owner page : ℕ) → IsCopyHeld w owner page (w.copy owner page)

-- Who has a draft is alive, has the page in EX, and uses the draft.
abbrev pub IsDraftHeld : World → ℕ → Option Draft → Type 0
IsDraftHeld w page None = Unit {0}
IsDraftHeld w page (Some draft) =
    (w.is_alive draft.owner ≡ true) × (w.granted draft.owner (page_resource page) ≡ Ex) × (w.copy draft.owner page ≡ Some draft.content)

abbrev pub DraftsAreHeld : World → Type 0
DraftsAreHeld w = (page : ℕ) → IsDraftHeld w page (w.draft page)

-- A copy is the newest content.
abbrev pub IsNewest : Option Page → Option Page → Type 0
IsNewest None newest = Unit {0}
IsNewest (Some content) newest = newest ≡ Some content

abbrev pub CopiesAreNewest : World → Type 0
CopiesAreNewest w = (owner page : ℕ) → IsNewest (w.copy owner page) (newest_of w page)

-- Who has a pair is alive, has the high page's draft, and has the low page in EX.
abbrev pub IsPairHeld : World → ℕ → ℕ → ℕ → Type 0
IsPairHeld w owner high low =
    (w.is_alive owner ≡ true) × (is_draft_of owner (w.draft high) ≡ true) × (w.granted owner (page_resource low) ≡ Ex)

abbrev pub PairsAreHeld : World → Type 0
PairsAreHeld w = (owner high low : ℕ) → w.has_pair owner high low ≡ true → IsPairHeld w owner high low

-- No page is to be written before itself.
abbrev pub PairsFormNoCircle : World → Type 0
PairsFormNoCircle w = (page : ℕ) → ¬ StandsBefore (IsPairIn w) page page

pub record IsCoherent (w : World) : Type 0 where
  pub beside : LevelsGoBeside w
  pub bare : WaitsAreBare w
  pub held : CopiesAreHeld w
  pub drafts : DraftsAreHeld w
  pub newest : CopiesAreNewest w
  pub pairs : PairsAreHeld w
  pub order : PairsFormNoCircle w
