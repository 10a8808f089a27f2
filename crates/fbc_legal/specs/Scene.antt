-- Where an event happens: the file over which the history began, what happened before, and what stands after that.
use Rattle.std.specs.Prelude.{◌≡◌, ℕ, true}
use Rattle.fbc_kinds.specs.declared.shapes.Shape.{Shape}
use Rattle.fbc_kinds.specs.View.{View}
use Rattle.fbc_levels.specs.declared.levels.Level.TheVariants.{Ex}
use Rattle.fbc_levels.specs.declared.resources.Resource.{Resource}
use Rattle.fbc_levels.specs.declared.resources.Series.TheVariants as series
use Rattle.fbc_world.specs.Holdings.{is_draft_of}
use Rattle.fbc_levels.specs.Resources.{page_resource}
use Rattle.fbc_world.specs.History.{History}
use Rattle.fbc_world.specs.World.{World, IsPairIn, newest_of, world_of}
use Rattle.fbc_kinds.specs.Order.{StandsBefore}
use Rattle.fbc_legal.specs.Stamps.{PageStamps, born_in_newest, meant_in_newest, stamps_of}

pub record Scene : Type 0 where
  pub shape : Shape
  pub file : View
  pub past : History
  pub world : World
  pub stamps : PageStamps

-- The scene after a history over a file.
abbrev pub scene_of : Shape → View → History → Scene
scene_of shape file past = record { shape = shape; file = file; past = past; world = world_of shape file past; stamps = stamps_of shape file past }

-- The newest pages.
abbrev pub newest_at : Scene → View
newest_at at = newest_of at.world

-- The newest pages after a history.
abbrev pub newest_after : Shape → View → History → View
newest_after shape file past = newest_of (world_of shape file past)

-- The stamp of a cell of the newest pages.
abbrev pub born_at : Scene → ℕ → ℕ → ℕ
born_at at page cell = born_in_newest at.world at.stamps page cell

-- What a cell of the newest pages meant by its link.
abbrev pub meant_at : Scene → ℕ → ℕ → ℕ
meant_at at page cell = meant_in_newest at.world at.stamps page cell

-- The transaction of this number as what is locked.
abbrev pub number_resource : ℕ → Resource
number_resource number = record { series = series.Transaction; key = number }

-- The owner has the page in EX.
abbrev pub HasExclusive : Scene → ℕ → ℕ → Type 0
HasExclusive at owner page = at.world.granted owner (page_resource page) ≡ Ex

-- The draft of the page is the owner's.
abbrev pub HasDraft : Scene → ℕ → ℕ → Type 0
HasDraft at owner page = is_draft_of owner (at.world.draft page) ≡ true

-- The first page is to be written before the second.
abbrev pub IsBefore : Scene → ℕ → ℕ → Type 0
IsBefore at high low = StandsBefore (IsPairIn at.world) high low
