use Rattle.std.proofs.Common.{◌⊎◌, ℕ, inl, inr}
use Rattle.fbc_kinds.specs.declared.pages.Cell.{Cell}
use Rattle.fbc_kinds.specs.Reach.{DataRole, ReachesCell}
use Rattle.fbc_kinds.specs.View.{View}
use Rattle.fbc_version_edits.specs.Forms.{IsMove}
use Rattle.fbc_kinds.specs.Sound.{IsSound}
use Rattle.fbc_page_edits.proofs.SameVersions.{back_holds}
use Rattle.fbc_version_edits.specs.Differences.{IsPlace}
use Rattle.fbc_version_edits.proofs.Flags.{empty_stays, top_of_back, top_of_empty, unreached}
use Rattle.fbc_version_edits.proofs.Frames.{same_chains}
use Rattle.fbc_version_edits.proofs.OneCell.{IsOneCell, one_cell_put, reached_after, state_same}
use Rattle.fbc_version_edits.proofs.NoNewLinks.{BeginsRow, all_cells_stay, no_more_links, sound_after, was_reached}
use Rattle.fbc_version_edits.proofs.SoundCells.{pages_stay}
use Rattle.fbc_version_edits.proofs.NoLinkForms.{move_unlinked, no_link_move}
use Rattle.fbc_version_edits.proofs.puts.moved_versions_keep_views.Goals as goal

-- The cell is not reached afterwards either.
not_reached : {view after : View} {number cell : ℕ} {new : Cell} (sound : IsSound view) (move : IsMove view number cell new) → IsOneCell view after number cell move.old new
    → (relation : ℕ) → ¬ ReachesCell after relation number cell
not_reached {view = view} {number = number} {cell = cell} {new = new} sound move one relation reached = go (was_reached sound one (no_link_move sound number cell new move) relation number cell reached)
  where
    go : ReachesCell view relation number cell ⊎ (IsPlace number cell number cell × BeginsRow move.old new) → ⊥
    go (inl before) = unreached sound relation number cell move.old move.stands (top_of_empty move.old.flag move.over) (move_unlinked sound number cell new move) before
    go (inr begins) = let not_top = top_of_back new.flag move.value in let is = begins.1.begins in cc

pub returns : goal.returns
returns c shape view number cell new content put move =
    record {
      sound = sound_after put.sound (one_cell_put put move.stands) (no_link_move put.sound number cell new move);
      alike = let one = one_cell_put put move.stands in
          let no_link = no_link_move put.sound number cell new move in
          record {
            chains = same_chains one (move_unlinked put.sound number cell new move) (top_of_empty move.old.flag move.over) (top_of_back new.flag move.value);
            states = state_same one;
            links = no_more_links put.sound one no_link (λ relation back_page back_cell reached names. not_reached put.sound move one relation reached);
            cells = all_cells_stay put.sound one no_link (λ lost. absurd (empty_stays number cell move.old move.stands move.over lost));
          };
      pages = pages_stay (one_cell_put put move.stands);
      lost = λ relation sequence named. let one = one_cell_put put move.stands in
          record {
            relation = relation;
            sequence = sequence;
            version = new;
            reached = reached_after one (DataRole relation sequence) number named;
            stands = one.is;
            holds = back_holds new.flag move.value;
            unreached = λ any reached. not_reached put.sound move one any reached;
          };
    }
