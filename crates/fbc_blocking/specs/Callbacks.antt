-- Who waits for what an owner holds on a page, and which page the owner is called for next.
use Rattle.std.specs.Prelude.{◌≡◌, ℕ, ◌<◌, ◌≤◌, Bool, true, false, not, nat_lt, min, ◌&&◌, ◌==◌, if◌then◌else◌, List, Option, Some, None, IsSome}
use Rattle.std.specs.List.{find, filter_map}
use Rattle.std.specs.Option.{option_map, option_map_or}
use Rattle.fbc_levels.specs.declared.levels.Level.{Level}
use Rattle.fbc_levels.specs.declared.resources.Series.TheVariants.{Page}
use Rattle.fbc_levels.specs.declared.resources.Resource.{Resource}
use Rattle.fbc_levels.specs.declared.resources.Request.{Request}
use Rattle.fbc_levels.specs.declared.resources.Callback.{Callback}
use Rattle.fbc_levels.specs.Levels.{is_compatible, highest_beside}
use Rattle.fbc_levels.specs.Resources.{is_same_series, is_same_resource}
use Rattle.fbc_levels.specs.LockState.{LockState, granted_of}

-- The page of this number.
abbrev pub page_of : ℕ → Resource
page_of page = record { series = Page; key = page }

-- Whether it is a request of another owner, who lives, for this page.
abbrev pub is_of_other : ℕ → ℕ → Request → Bool
is_of_other owner page r = is_same_resource r.resource (page_of page) && not (r.owner == owner) && r.alive

-- Whether it waits for a level that conflicts with this one.
abbrev pub is_against : Level → Request → Bool
is_against held r = option_map_or (λ wanted. not (is_compatible wanted held)) r.waiting false

-- Whether it is a request of another living owner that waits for this page against this level.
abbrev pub is_kept_out : ℕ → ℕ → Level → Request → Bool
is_kept_out owner page held r = is_of_other owner page r && is_against held r

-- The first in the order of asking that waits for the page against what the owner is granted there.
abbrev pub kept_out : LockState → ℕ → ℕ → Option Request
kept_out s owner page = find (is_kept_out owner page (granted_of s owner (page_of page))) s.requests

-- The owner of that request.
abbrev pub blocked_by : LockState → ℕ → ℕ → Option ℕ
blocked_by s owner page = option_map (λ (r : Request). r.owner) (kept_out s owner page)

-- What a request of another living owner for this page waits for.
abbrev pub wanted_by : ℕ → ℕ → Request → Option Level
wanted_by owner page r = if is_of_other owner page r then r.waiting else None

-- The levels that other living owners wait for on the page.
abbrev pub wanted_levels : LockState → ℕ → ℕ → List Level
wanted_levels s owner page = filter_map (wanted_by owner page) s.requests

-- Whether the level goes beside what the request waits for on this page, if another living owner waits by it.
abbrev pub leaves_room : ℕ → ℕ → Level → Request → Bool
leaves_room owner page level r = option_map_or (is_compatible level) (wanted_by owner page r) true

-- The page comes after this one, if one is named.
abbrev pub IsPast : Option ℕ → ℕ → Type 0
IsPast None page = Unit {0}
IsPast (Some above) page = above < page

-- The least page past `above` on which the owner keeps somebody out.
pub record IsNextPage (s : LockState) (owner : ℕ) (above : Option ℕ) (page : ℕ) : Type 0 where
  pub past : IsPast above page
  pub blocks : IsSome (blocked_by s owner page)
  pub least : (other : ℕ) → IsPast above other → IsSome (blocked_by s owner other) → page ≤ other

-- The callback is for that page; it names whom the owner keeps out there, and asks for what all who wait there need.
pub record IsNextCallback (s : LockState) (owner : ℕ) (above : Option ℕ) (callback : Callback) : Type 0 where
  pub page : IsNextPage s owner above callback.page
  pub asker : blocked_by s owner callback.page ≡ Some callback.asker
  pub keep : callback.keep ≡ highest_beside (wanted_levels s owner callback.page)

-- The owner keeps nobody out of a page past `above`.
abbrev pub KeepsNobodyOut : LockState → ℕ → Option ℕ → Type 0
KeepsNobodyOut s owner above = (page : ℕ) → IsPast above page → blocked_by s owner page ≡ None

-- Whether the page comes after this one, if one is named.
abbrev pub is_past : Option ℕ → ℕ → Bool
is_past None page = true
is_past (Some above) page = nat_lt above page

-- Whether it waits for a page past `above` against what the owner is granted there.
abbrev pub is_called : LockState → ℕ → Option ℕ → Request → Bool
is_called s owner above r =
    is_same_series r.resource.series Page && is_past above r.resource.key && is_kept_out owner r.resource.key (granted_of s owner r.resource) r

-- The least page so far, with that of the request if it is called for.
abbrev pub with_called : LockState → ℕ → Option ℕ → Option ℕ → Request → Option ℕ
with_called s owner above least r =
    if is_called s owner above r then Some (option_map_or (λ page. min page r.resource.key) least r.resource.key) else least
