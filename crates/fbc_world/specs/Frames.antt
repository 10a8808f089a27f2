-- What an act of one owner may take from another.
use Rattle.std.specs.Prelude.{◌≡◌, ℕ, Bool, true, false, not, ◌==◌, ◌&&◌, ◌||◌, List}
use Rattle.std.specs.List.{filter}
use Rattle.fbc_levels.specs.declared.resources.Request.{Request}
use Rattle.fbc_levels.specs.LockState.{LockState}
use Rattle.fbc_world.specs.declared.events.Act.{Act}
use Rattle.fbc_world.specs.declared.events.Act.TheVariants.{Local, Opened, Reap, Write}
use Rattle.fbc_world.specs.declared.events.LocalEvent.TheVariants as local
use Rattle.fbc_world.specs.Holdings.{is_draft_of}
use Rattle.fbc_world.specs.World.{World}

-- Whether the act edits the page.
abbrev pub is_edit_of : ℕ → Act → Bool
is_edit_of page (Local (local.Edit number edit)) = number == page
is_edit_of page _ = false

-- Whether the act is a write of the page that lands.
abbrev pub is_landing_of : ℕ → Act → Bool → Bool
is_landing_of page (Write number cause failed) landed = (number == page) && (not failed || landed)
is_landing_of page _ landed = false

-- Whether the act takes away the owner's requests.
abbrev pub is_purge_of : ℕ → Act → Bool
is_purge_of owner (Opened locks) = true
is_purge_of owner (Reap dead by) = dead == owner
is_purge_of owner _ = false

-- The requests of one owner, in the order of asking.
abbrev pub requests_of : LockState → ℕ → List Request
requests_of s owner = filter (λ (r : Request). r.owner == owner) s.requests

-- The act of another edits no page that has the owner's draft, keeps no high page of the owner's pairs, and takes away none
-- of its requests.
pub record Spares (w : World) (owner : ℕ) (act : Act) (landed : Bool) : Type 0 where
  pub draft : (page : ℕ) → is_draft_of owner (w.draft page) ≡ true → is_edit_of page act ≡ false
  pub pair : (high low : ℕ) → w.has_pair owner high low ≡ true → is_landing_of high act landed ≡ false
  pub requests : is_purge_of owner act ≡ false
