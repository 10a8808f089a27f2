use Rattle.std.proofs.Common.{◌≡◌, List, ℕ, true, ap, subst, arith}
use Rattle.std.specs.Prelude.{Option, is_some}
use Rattle.fbc_kinds.specs.declared.pages.Page.{Page}
use Rattle.fbc_kinds.specs.declared.pages.Cell.{Cell}
use Rattle.fbc_kinds.specs.declared.shapes.Shape.{Shape}
use Rattle.fbc_kinds.specs.declared.snapshots.Transaction.{Transaction}
use Rattle.fbc_kinds.specs.Chain.{below, value_of, version_of, versions_from}
use Rattle.fbc_kinds.specs.Machine.{after_change, is_held, open_transaction}
use Rattle.fbc_kinds.specs.Meaning.{MeanTheSame, meaning_with}
use Rattle.fbc_kinds.specs.View.{View, is_top}
use Rattle.fbc_version_edits.specs.Forms.{IsOver}
use Rattle.fbc_page_edits.specs.Edited.{with_page}
use Rattle.fbc_page_edits.specs.Facing.{IsRowAt}
use Rattle.fbc_version_edits.specs.Open.{IsMaker}
use Rattle.fbc_version_edits.specs.Puts.{IsPutIn}
use Rattle.fbc_version_edits.proofs.Changes.{change_over}
use Rattle.fbc_version_edits.proofs.Frames.{chain_of_top, other_chains, row_before_stands}
use Rattle.fbc_version_edits.proofs.OneCell.{next_same, one_cell_put, state_same}
use Rattle.fbc_version_edits.proofs.Over.{over_chain, over_unlinked, own_relation}
use Rattle.fbc_version_edits.proofs.Standing.{committed_stands}
use Rattle.fbc_version_edits.proofs.commands.new_versions_are_changes.Goals as goal

-- What the change means, by its value.
change : {shape : Shape} {view : View} {number cell : ℕ} {new : Cell} {content : Page} (put : IsPutIn shape view number cell new content) (over : IsOver view put.page.relation number cell new)
    → (living : List Transaction) (t : Transaction) → IsMaker living t new → is_held t.snapshot over.old.number ≡ true → (relation row : ℕ) → IsRowAt view relation row number cell
    → MeanTheSame (after_change (meaning_with living view) t.owner relation row (value_of new.flag new.value) (open_transaction (meaning_with living view) t.owner))
    (meaning_with living (with_page view number content))
change {view = view} {number = number} {cell = cell} {new = new} put over living t maker held relation row at =
    let one = one_cell_put put over.stands in
    let whole = chain_of_top view relation row over.old (row_before_stands one relation row at) (ap is_top over.over) in
    let within = over.begun in
    change_over put (state_same one) (next_same one) (other_chains one (over_unlinked put.sound over one (own_relation put))) living t maker relation row at (omega arith)
    (version_of over.old) (versions_from view over.old.number (below view over.old)) whole (committed_stands view living maker.open_ones (version_of over.old) over.committed) held
    (ap (λ f. is_some (value_of f over.old.value)) over.over) (over_chain put.sound over one (own_relation put) relation row at)

pub returns : goal.returns
returns c shape view number cell new content put over living t maker held relation row at =
    let P : Option (List ℕ) → Type 0 =
    λ value. MeanTheSame (after_change (meaning_with living view) t.owner relation row value (open_transaction (meaning_with living view) t.owner)) (meaning_with living (with_page view number content)) in
    record {
      update = λ flag. subst P (ap (λ f. value_of f new.value) flag) (change put over living t maker held relation row at);
      delete = λ flag. subst P (ap (λ f. value_of f new.value) flag) (change put over living t maker held relation row at);
    }
