-- What an act of one owner leaves another.
use Rattle.std.specs.Prelude.{◌≡◌, ℕ, Bool, Some, false}
use Rattle.fbc_levels.specs.declared.resources.Resource.{Resource}
use Rattle.fbc_world.specs.declared.drafts.Draft.{Draft}
use Rattle.fbc_world.specs.declared.events.Act.{Act}
use Rattle.fbc_world.specs.Frames.{Spares, is_edit_of, is_landing_of, is_purge_of, requests_of}
use Rattle.fbc_world.specs.Holdings.{holdings_of}
use Rattle.fbc_world.specs.World.{World}

-- What the other owner has before and after an act that is not its own: the same but for a draft of a page that is edited, a
-- pair whose high page is written, and the requests and granted levels where they are purged.
pub record LeavesOther (w after : World) (other : ℕ) (act : Act) (landed : Bool) : Type 0 where
  pub copy : (page : ℕ) → after.copy other page ≡ w.copy other page
  pub draft : (page : ℕ) (draft : Draft) → w.draft page ≡ Some draft → draft.owner ≡ other → is_edit_of page act ≡ false
      → after.draft page ≡ Some draft
  pub pin : (page : ℕ) → after.is_pinned other page ≡ w.is_pinned other page
  pub pair : (high low : ℕ) → is_landing_of high act landed ≡ false
      → after.has_pair other high low ≡ w.has_pair other high low
  pub requests : is_purge_of other act ≡ false → requests_of after.locks other ≡ requests_of w.locks other
  pub granted : (resource : Resource) → is_purge_of other act ≡ false
      → after.granted other resource ≡ w.granted other resource
  pub transaction : after.transaction other ≡ w.transaction other
  pub mark : after.marked other ≡ w.marked other
  pub life : after.is_alive other ≡ w.is_alive other
  pub holdings : Spares w other act landed → holdings_of after other ≡ holdings_of w other
  pub buffers : after.buffers other ≡ w.buffers other
