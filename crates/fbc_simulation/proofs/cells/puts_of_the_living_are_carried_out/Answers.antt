use Rattle.std.proofs.Common.{inl, inr}
use Rattle.fbc_kinds.specs.declared.edits.Edit.TheVariants.{PutCell}
use Rattle.fbc_world.specs.Commands.{row_of}
use Rattle.fbc_legal.specs.Scene.{scene_of}
use Rattle.fbc_origins.proofs.PutsAllowed.{allows-first, allows-over, allows-own, held}
use Rattle.fbc_simulation.proofs.CellEdits.{beside, owners-differ, reads-before}
use Rattle.fbc_simulation.proofs.OpenNumbers.{committed-closed}
use Rattle.fbc_simulation.proofs.PutsCarried.{carried-delete, carried-first, carried-update, top-kinds}
use Rattle.fbc_simulation.proofs.PutsIn.{before, origin, p, put-in}
use Rattle.fbc_simulation.proofs.PutsRead.{own-maker, own-row}
use Rattle.fbc_simulation.proofs.cells.puts_of_the_living_are_carried_out.Goals as goal

pub returns : goal.returns
returns c shape file past owner page cell new content cut living is lives =
    record {
      first = λ form.
          let at = scene_of shape file past in
          let order = is.whole.order in
          let view = before shape file past owner page cell new content cut living is in
          let m = beside shape file past owner page (PutCell cell new) content cut living is in
          let d = (p shape file past owner page cell new content cut living is).data_page in
          let put = put-in shape file past owner page cell new content cut living is in
          let allowed = allows-first at order.upheld order.numbered order.original owner page cell new is.sees.guard view (origin shape file past owner page cell new content cut living is) is.sees.sees form in
          let maker = own-maker shape file past owner page cell new content cut living is lives form.t form.open_is form.own in
          let there = own-row shape file past owner page cell new content cut living is lives allowed.old allowed.stands in
          let differ = owners-differ shape file past owner page (PutCell cell new) content cut living is in
          let reads = reads-before shape file past owner page (PutCell cell new) content cut living is in
          carried-first shape file past owner page cell new content cut living is form.t form.open_is form.own form.old form.stands form.over form.value
          (c.first_versions_insert.ensures shape view page cell new content living m form.t d.relation (row_of shape d cell) put allowed maker there differ reads);
      own = λ form.
          let at = scene_of shape file past in
          let order = is.whole.order in
          let view = before shape file past owner page cell new content cut living is in
          let m = beside shape file past owner page (PutCell cell new) content cut living is in
          let d = (p shape file past owner page cell new content cut living is).data_page in
          let put = put-in shape file past owner page cell new content cut living is in
          let allowed = allows-own at order.upheld order.numbered order.original owner page cell new is.sees.guard view (origin shape file past owner page cell new content cut living is) is.sees.sees form in
          let maker = own-maker shape file past owner page cell new content cut living is lives form.t form.open_is form.own in
          let there = own-row shape file past owner page cell new content cut living is lives allowed.old allowed.stands in
          let differ = owners-differ shape file past owner page (PutCell cell new) content cut living is in
          let reads = reads-before shape file past owner page (PutCell cell new) content cut living is in
          elim (top-kinds new.flag form.top) [
            | inl kind ↦
                carried-update shape file past owner page cell new content cut living is form.t form.open_is form.own form.old form.stands form.over kind
                ((c.own_versions_change.ensures shape view page cell new content living m form.t d.relation (row_of shape d cell) put allowed maker (is.whole.apart.own owner form.t form.open_is).held there differ reads).update kind)
            | inr kind ↦
                carried-delete shape file past owner page cell new content cut living is form.t form.open_is form.own form.old form.stands form.over kind
                ((c.own_versions_change.ensures shape view page cell new content living m form.t d.relation (row_of shape d cell) put allowed maker (is.whole.apart.own owner form.t form.open_is).held there differ reads).delete kind)
          ];
      over = λ form.
          let at = scene_of shape file past in
          let order = is.whole.order in
          let view = before shape file past owner page cell new content cut living is in
          let m = beside shape file past owner page (PutCell cell new) content cut living is in
          let d = (p shape file past owner page cell new content cut living is).data_page in
          let put = put-in shape file past owner page cell new content cut living is in
          let allowed = allows-over at order.upheld order.numbered order.original owner page cell new is.sees.guard view (origin shape file past owner page cell new content cut living is) is.sees.sees form in
          let maker = own-maker shape file past owner page cell new content cut living is lives form.t form.open_is form.own in
          let there = own-row shape file past owner page cell new content cut living is lives allowed.old allowed.stands in
          let differ = owners-differ shape file past owner page (PutCell cell new) content cut living is in
          let reads = reads-before shape file past owner page (PutCell cell new) content cut living is in
          let closed = committed-closed at is.whole cut is.closed living is.opens form.old.number (held at order.upheld order.numbered order.original owner page cell new is.sees.guard view (origin shape file past owner page cell new content cut living is) is.sees.sees form).0 in
          elim (top-kinds new.flag form.top) [
            | inl kind ↦
                carried-update shape file past owner page cell new content cut living is form.t form.open_is form.own form.old form.stands form.over kind
                ((c.new_versions_change.ensures shape view page cell new content living m form.t d.relation (row_of shape d cell) put allowed maker form.held closed there differ reads).update kind)
            | inr kind ↦
                carried-delete shape file past owner page cell new content cut living is form.t form.open_is form.own form.old form.stands form.over kind
                ((c.new_versions_change.ensures shape view page cell new content living m form.t d.relation (row_of shape d cell) put allowed maker form.held closed there differ reads).delete kind)
          ];
    }
