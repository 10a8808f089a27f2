-- What stands in the journal while the first owner takes its steps beside the second, which holds other pages.
use Rattle.std.specs.Prelude.{◌≡◌, ◌<◌, ℕ, zero, suc, true, false, List, [], ◌∷◌, None}
use Rattle.std.specs.List.{AllByRecursion}
use Rattle.fbc_levels.specs.declared.resources.Request.{Request}
use Rattle.fbc_levels.specs.LockState.{is_of}
use Rattle.fbc_owner_queues.specs.Grants.{is_by}
use Rattle.fbc_region.specs.Adding.{by}
use Rattle.fbc_region.specs.Shared.{locks_in}
use Rattle.fbc_world.specs.declared.asks.Ask.{Ask}
use Rattle.fbc_world.specs.declared.asks.Ask.TheVariants.{Look, Note, Poll}
use Rattle.fbc_world.specs.declared.events.Act.TheVariants.{Opened}
use Rattle.fbc_world.specs.declared.events.Event.{Event}
use Rattle.fbc_levels.specs.Resources.{page_resource}
use Rattle.fbc_world.specs.History.{Recording, recorded}
use Rattle.fbc_world.specs.Owners.{is_alive}

-- The events of a file that was opened and no more, with room for so many lock requests.
abbrev pub has_opened : ℕ → List Event
has_opened locks = by 0 (Opened locks) ∷ []

-- A request of the second owner, which lives, for something below this page; it does not wait.
abbrev pub IsHeldBelow : ℕ → Request → Type 0
IsHeldBelow page r = (r.owner ≡ 2) × (r.resource.key < page) × (r.waiting ≡ None) × (r.alive ≡ true)

-- Both owners are alive, and all requests are the second owner's, for pages below this one.
pub record HoldsBelow (page : ℕ) (journal : Recording) : Type 0 where
  pub first : is_alive (recorded journal) 1 ≡ true
  pub second : is_alive (recorded journal) 2 ≡ true
  pub held : AllByRecursion (IsHeldBelow page) (locks_in journal).requests

-- Not a request of the first owner.
abbrev pub IsOthers : Request → Type 0
IsOthers r = is_by 1 r ≡ false

-- The first owner is alive and has no request.
pub record IsFree (journal : Recording) : Type 0 where
  pub alive : is_alive (recorded journal) 1 ≡ true
  pub none : AllByRecursion IsOthers (locks_in journal).requests

-- A request of the first owner only if it is for page 0.
abbrev pub IsOthersOrPage : Request → Type 0
IsOthersOrPage r = is_by 1 r ≡ true → is_of 1 (page_resource 0) r ≡ true

-- The first owner is alive and has no request but one for page 0.
pub record HasOnlyPage (journal : Recording) : Type 0 where
  pub alive : is_alive (recorded journal) 1 ≡ true
  pub only : AllByRecursion IsOthersOrPage (locks_in journal).requests

-- What the first owner needs for its ask, its look and its lowering: these are the steps 0, 1 and 2.
abbrev pub IsReadyFor : ℕ → Recording → Type 0
IsReadyFor zero journal = IsFree journal
IsReadyFor (suc step) journal = HasOnlyPage journal

-- The ask changes no request, and nothing is owed for it but that its owner is alive.
abbrev pub IsIdle : Ask → Type 0
IsIdle (Poll above) = Unit {0}
IsIdle Look = Unit {0}
IsIdle (Note reply) = Unit {0}
IsIdle _ = ⊥
