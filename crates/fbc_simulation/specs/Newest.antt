-- The newest pages, where every open transaction goes on.
use Rattle.std.specs.Prelude.{List, filter_map, is_some}
use Rattle.fbc_kinds.specs.declared.snapshots.Transaction.{Transaction}
use Rattle.fbc_world.specs.World.{World}
use Rattle.fbc_legal.specs.Lives.{living}
use Rattle.fbc_legal.specs.Scene.{Scene}
use Rattle.fbc_closed_cuts.specs.Cut.{Cut}

-- The open transactions of all owners that are alive.
abbrev pub opens_at : Scene → List Transaction
opens_at at = filter_map at.world.transaction (living at.past)

-- The cut that has every draft.
abbrev pub all_drafts : World → Cut
all_drafts w page = is_some (w.draft page)
