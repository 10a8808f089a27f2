use Rattle.std.proofs.Common.{ℕ, ap}
use Rattle.fbc_kinds.specs.declared.pages.Cell.{Cell}
use Rattle.fbc_kinds.specs.declared.pages.Page.{Page}
use Rattle.fbc_kinds.specs.declared.shapes.Shape.{Shape}
use Rattle.fbc_version_edits.specs.Forms.{IsOver}
use Rattle.fbc_version_edits.specs.Puts.{IsPutIn}
use Rattle.fbc_kinds.specs.Chain.{below, versions_from}
use Rattle.fbc_kinds.specs.View.{View, is_top}
use Rattle.fbc_version_edits.specs.Differences.{IsLinkOver, kept, made, taken_along}
use Rattle.fbc_version_edits.proofs.Frames.{chain_of_top, other_chains, row_before_stands}
use Rattle.fbc_version_edits.proofs.OneCell.{one_cell_put, state_same}
use Rattle.fbc_version_edits.proofs.Over.{FromOver, kept as was_kept, made as was_made, taken_along as was_taken_along, from_over, over_chain, over_lost, over_reaches, over_sound, over_unlinked, own_relation}
use Rattle.fbc_version_edits.proofs.SoundCells.{pages_stay}
use Rattle.fbc_version_edits.proofs.tops.new_versions_keep_views.Goals as goal

-- A link that the new version makes, or takes along.
over_link : {shape : Shape} {view : View} {number cell : ℕ} {new : Cell} {content : Page} (put : IsPutIn shape view number cell new content) (over : IsOver view put.page.relation number cell new)
    → {relation other place back_page back_cell : ℕ} {version : Cell}
    → FromOver put.sound over (one_cell_put put over.stands) (own_relation put) relation other place version back_page back_cell
    → IsLinkOver view relation number cell over.old new other place version back_page back_cell
over_link put over (was_kept differ was) = kept was
over_link put over (was_made at same to reached) = made at to
over_link put over (was_taken_along at same was) = taken_along at was

pub returns : goal.returns
returns c shape view number cell new content put over =
    record {
      sound = over_sound put.sound over (one_cell_put put over.stands) (own_relation put);
      is = λ relation row at. over_chain put.sound over (one_cell_put put over.stands) (own_relation put) relation row at;
      was = λ relation row at. record {
        older = versions_from view over.old.number (below view over.old);
        whole = chain_of_top view relation row over.old (row_before_stands (one_cell_put put over.stands) relation row at) (ap is_top over.over);
      };
      others = other_chains (one_cell_put put over.stands) (over_unlinked put.sound over (one_cell_put put over.stands) (own_relation put));
      states = state_same (one_cell_put put over.stands);
      links = λ relation other place back_page back_cell version link. over_link put over (from_over put.sound over (one_cell_put put over.stands) (own_relation put) relation other place back_page back_cell version link);
      reached = λ relation sequence named. over_reaches put.sound over (one_cell_put put over.stands) (own_relation put) relation sequence named;
      pages = pages_stay (one_cell_put put over.stands);
      cells = over_lost put.sound over (one_cell_put put over.stands) (own_relation put);
    }
