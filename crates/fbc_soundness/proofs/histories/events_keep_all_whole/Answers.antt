use Rattle.std.proofs.Common.{◌∷◌, ℕ, Bool, refl}
use Rattle.fbc_world.specs.declared.events.Act.{Act}
use Rattle.fbc_world.specs.declared.events.Act.TheVariants.{Local}
use Rattle.fbc_world.specs.declared.events.LocalEvent.TheVariants as local
use Rattle.fbc_world.specs.History.{happens}
use Rattle.fbc_legal.specs.Legal.{IsLegal}
use Rattle.fbc_legal.specs.Scene.{scene_of}
use Rattle.fbc_closed_cuts.specs.Upheld.{IsUpheld}
use Rattle.fbc_soundness.proofs.histories.events_keep_all_whole.Goals as goal

pub returns : goal.returns
returns c shape file before moment legal whole =
    let later : IsUpheld (scene_of shape file (moment ∷ before)) = upheld moment.event.actor moment.landed moment.event.act legal in
    let numbers = c.events_keep_numbers.ensures shape file before moment legal whole.order.upheld whole.order.numbered in
    record {
      order = record {
        upheld = later;
        numbered = numbers;
        original = c.events_keep_origins.ensures shape file before moment legal whole.order whole.rows.rows (c.edits_of_no_cells_make_no_links.ensures shape file before whole.order);
      };
      rows = c.events_keep_rows_named.ensures shape file before moment legal whole.order whole.rows later;
      apart = c.events_keep_opens_apart.ensures shape file before moment legal whole.order.upheld whole.order.numbered whole.apart;
      cuts = c.events_keep_cuts_settled.ensures shape file before moment legal whole.order whole.cuts;
    }
  where
    upheld : (owner : ℕ) (landed : Bool) (act : Act) → IsLegal shape file (happens owner act landed ∷ before) → IsUpheld (scene_of shape file (happens owner act landed ∷ before))
    upheld owner landed (Local (local.Edit page e)) legal' =
        c.edits_uphold_what_is_upheld.ensures shape file before owner page e landed legal' whole.order.upheld (c.edits_keep_views_sound_in_order.ensures shape file before e whole.order)
    upheld owner landed (Local (local.Before high low)) legal' = c.acts_uphold_what_is_upheld.ensures shape file before (happens owner (Local (local.Before high low)) landed) legal' refl whole.order.upheld
    upheld owner landed (Local (local.Pin page)) legal' = c.acts_uphold_what_is_upheld.ensures shape file before (happens owner (Local (local.Pin page)) landed) legal' refl whole.order.upheld
    upheld owner landed (Local (local.Unpin page)) legal' = c.acts_uphold_what_is_upheld.ensures shape file before (happens owner (Local (local.Unpin page)) landed) legal' refl whole.order.upheld
    upheld owner landed act legal' = c.acts_uphold_what_is_upheld.ensures shape file before (happens owner act landed) legal' refl whole.order.upheld
