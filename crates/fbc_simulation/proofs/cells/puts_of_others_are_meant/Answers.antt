use Rattle.fbc_kinds.specs.declared.edits.Edit.TheVariants.{PutCell}
use Rattle.fbc_legal.specs.Scene.{scene_of}
use Rattle.fbc_origins.proofs.PutsAllowed.{allows-first, allows-over, allows-own}
use Rattle.fbc_simulation.proofs.CellEdits.{beside, owners-differ, reads-before}
use Rattle.fbc_simulation.proofs.PutsIn.{before, origin, put-in}
use Rattle.fbc_simulation.proofs.PutsUnread.{own-closed, own-uncommitted, unread-meant}
use Rattle.fbc_simulation.proofs.cells.puts_of_others_are_meant.Goals as goal

pub returns : goal.returns
returns c shape file past owner page cell new content cut living is none =
    record {
      first = λ form.
          let order = is.whole.order in
          let view = before shape file past owner page cell new content cut living is in
          unread-meant shape file past owner page cell new content cut living is none
          (c.uncommitted_versions_are_not_read.ensures.first shape view page cell new content living
          (beside shape file past owner page (PutCell cell new) content cut living is)
          (put-in shape file past owner page cell new content cut living is)
          (allows-first (scene_of shape file past) order.upheld order.numbered order.original owner page cell new is.sees.guard view (origin shape file past owner page cell new content cut living is) is.sees.sees form)
          (own-closed shape file past owner page cell new content cut living is none form.t form.open_is form.own)
          (own-uncommitted shape file past owner page cell new content cut living is form.t form.open_is form.own)
          (owners-differ shape file past owner page (PutCell cell new) content cut living is)
          (reads-before shape file past owner page (PutCell cell new) content cut living is));
      own = λ form.
          let order = is.whole.order in
          let view = before shape file past owner page cell new content cut living is in
          unread-meant shape file past owner page cell new content cut living is none
          (c.uncommitted_versions_are_not_read.ensures.own shape view page cell new content living
          (beside shape file past owner page (PutCell cell new) content cut living is)
          (put-in shape file past owner page cell new content cut living is)
          (allows-own (scene_of shape file past) order.upheld order.numbered order.original owner page cell new is.sees.guard view (origin shape file past owner page cell new content cut living is) is.sees.sees form)
          (own-closed shape file past owner page cell new content cut living is none form.t form.open_is form.own)
          (own-uncommitted shape file past owner page cell new content cut living is form.t form.open_is form.own)
          (owners-differ shape file past owner page (PutCell cell new) content cut living is)
          (reads-before shape file past owner page (PutCell cell new) content cut living is));
      over = λ form.
          let order = is.whole.order in
          let view = before shape file past owner page cell new content cut living is in
          unread-meant shape file past owner page cell new content cut living is none
          (c.uncommitted_versions_are_not_read.ensures.over shape view page cell new content living
          (beside shape file past owner page (PutCell cell new) content cut living is)
          (put-in shape file past owner page cell new content cut living is)
          (allows-over (scene_of shape file past) order.upheld order.numbered order.original owner page cell new is.sees.guard view (origin shape file past owner page cell new content cut living is) is.sees.sees form)
          (own-closed shape file past owner page cell new content cut living is none form.t form.open_is form.own)
          (own-uncommitted shape file past owner page cell new content cut living is form.t form.open_is form.own)
          (owners-differ shape file past owner page (PutCell cell new) content cut living is)
          (reads-before shape file past owner page (PutCell cell new) content cut living is));
    }
