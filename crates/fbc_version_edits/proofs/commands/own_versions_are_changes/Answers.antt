use Rattle.std.proofs.Common.{◌≡◌, ◌≤◌, List, ℕ, true, ◌∙◌, sym, ap, subst, arith}
use Rattle.std.specs.Prelude.{Option, is_some}
use Rattle.fbc_kinds.specs.declared.pages.Page.{Page}
use Rattle.fbc_kinds.specs.declared.pages.Cell.{Cell}
use Rattle.fbc_kinds.specs.declared.shapes.Shape.{Shape}
use Rattle.fbc_kinds.specs.declared.snapshots.Transaction.{Transaction}
use Rattle.fbc_kinds.specs.Chain.{value_of, version_of}
use Rattle.fbc_kinds.specs.Machine.{after_change, is_held, open_transaction}
use Rattle.fbc_kinds.specs.Meaning.{MeanTheSame, meaning_with}
use Rattle.fbc_kinds.specs.View.{View}
use Rattle.fbc_version_edits.specs.Forms.{IsOwnAgain}
use Rattle.fbc_page_edits.specs.Edited.{with_page}
use Rattle.fbc_page_edits.specs.Facing.{IsRowAt}
use Rattle.fbc_version_edits.specs.Open.{IsMaker}
use Rattle.fbc_version_edits.specs.Puts.{IsPutIn}
use Rattle.fbc_kinds.specs.View.{next_of, is_empty}
use Rattle.fbc_version_edits.proofs.Changes.{change_own}
use Rattle.fbc_version_edits.proofs.Standing.{own_stands}
use Rattle.fbc_version_edits.proofs.Frames.{other_chains}
use Rattle.fbc_version_edits.proofs.OneCell.{next_same, one_cell_put, state_same}
use Rattle.fbc_version_edits.proofs.NoLinkForms.{own_unlinked}
use Rattle.fbc_version_edits.proofs.OwnChain.{own_chain}
use Rattle.fbc_version_edits.proofs.commands.own_versions_are_changes.Goals as goal

-- What the change means, by its value.
change : {shape : Shape} {view : View} {number cell : ℕ} {new : Cell} {content : Page} (put : IsPutIn shape view number cell new content) (own : IsOwnAgain view number cell new)
    → (living : List Transaction) (t : Transaction) → IsMaker living t new → is_held t.snapshot t.number ≡ true → (relation row : ℕ) → IsRowAt view relation row number cell
    → MeanTheSame (after_change (meaning_with living view) t.owner relation row (value_of new.flag new.value) (open_transaction (meaning_with living view) t.owner))
    (meaning_with living (with_page view number content))
change {shape = shape} {view = view} {number = number} {cell = cell} {new = new} put own living t maker held relation row at =
    let one = one_cell_put put own.stands in
    let top = own_chain put.sound own one relation row at in
    let old_is : own.old.number ≡ t.number = sym own.same_number ∙ sym maker.number in
    let less = put.sound.numbers relation _ number cell own.old at.named own.stands (ap is_empty own.over) in
    let within : new.number ≤ next_of view = subst (λ n. n ≤ next_of view) (sym own.same_number) (omega (arith, less)) in
    let old_stands = own_stands view living maker.open_ones t maker.lives (version_of own.old) old_is in
    change_own put (state_same one) (next_same one) (other_chains one (own_unlinked put.sound number cell new own)) living t maker relation row at within
    (version_of own.old) top.older top.was old_stands (subst (λ n. is_held t.snapshot n ≡ true) (sym old_is) held)
    (ap (λ f. is_some (value_of f own.old.value)) own.over) (sym own.same_number) top.is

pub returns : goal.returns
returns c shape view number cell new content put own living t maker held relation row at =
    let P : Option (List ℕ) → Type 0 =
    λ value. MeanTheSame (after_change (meaning_with living view) t.owner relation row value (open_transaction (meaning_with living view) t.owner)) (meaning_with living (with_page view number content)) in
    record {
      update = λ flag. subst P (ap (λ f. value_of f new.value) flag) (change put own living t maker held relation row at);
      delete = λ flag. subst P (ap (λ f. value_of f new.value) flag) (change put own living t maker held relation row at);
    }
