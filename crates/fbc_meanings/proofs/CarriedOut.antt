-- A version that is put over another by the transaction that makes it: the change is done by the machine too.
use Rattle.std.proofs.Common.{◌≡◌, ◌∙◌, ◌<◌, ◌≤◌, ◌∷◌, ℕ, true, false, List, sym, ap, subst, arith, filter}
use Rattle.std.specs.Prelude.{Option, is_some}
use Rattle.std.proofs.lemmas.List.Elements.{All-tail}
use Rattle.fbc_kinds.specs.declared.pages.Cell.{Cell}
use Rattle.fbc_kinds.specs.declared.pages.Page.{Page}
use Rattle.fbc_kinds.specs.declared.shapes.Shape.{Shape}
use Rattle.fbc_kinds.specs.declared.snapshots.Transaction.{Transaction}
use Rattle.fbc_kinds.specs.Chain.{Version, below, chain, value_of, version_of, versions_from}
use Rattle.fbc_kinds.specs.Machine.{Machine, after_change, is_held, is_open_of_other, open_transaction}
use Rattle.fbc_kinds.specs.Meaning.{MeanTheSame, meaning_with}
use Rattle.fbc_kinds.specs.View.{View, is_empty, is_top, next_of}
use Rattle.fbc_kinds.proofs.Meanings.{is_standing}
use Rattle.fbc_page_edits.specs.Alike.{HaveOtherChains, HaveSameStates}
use Rattle.fbc_page_edits.specs.Edited.{with_page}
use Rattle.fbc_page_edits.specs.Facing.{IsRowAt}
use Rattle.fbc_version_edits.specs.Forms.{IsOver, IsOwnAgain}
use Rattle.fbc_version_edits.specs.Open.{IsChangeDone, IsClosed, IsMaker}
use Rattle.fbc_version_edits.specs.Puts.{IsPutIn}
use Rattle.fbc_version_edits.proofs.ChainNumbers.{AreBegun, IsBegun, chain_begun}
use Rattle.fbc_version_edits.proofs.Changes.{change_over, change_own, put_above}
use Rattle.fbc_version_edits.proofs.Coming.{not_of_other}
use Rattle.fbc_version_edits.proofs.Frames.{chain_of_top, other_chains, row_before_stands}
use Rattle.fbc_version_edits.proofs.InFront.{changed_by, done_at}
use Rattle.fbc_version_edits.proofs.Living.{open_transaction_is}
use Rattle.fbc_version_edits.proofs.NoLinkForms.{own_unlinked}
use Rattle.fbc_version_edits.proofs.OneCell.{next_same, one_cell_put, state_same}
use Rattle.fbc_version_edits.proofs.Over.{over_chain, over_unlinked, own_relation}
use Rattle.fbc_version_edits.proofs.OwnChain.{own_chain}
use Rattle.fbc_version_edits.proofs.Standing.{committed_stands, own_stands, standing_first}
use Rattle.fbc_runs.specs.Orderly.{OwnersDiffer}
use Rattle.fbc_runs.specs.Reading.{ReadsAs}
use Rattle.fbc_runs.proofs.ChangesRead.{change_reads}
use Rattle.fbc_meanings.proofs.DoneBeside.{done_too}
use Rattle.fbc_meanings.proofs.Steps.{change_leaves, step_reads}

-- The owner's change is done by the machine, and the later meaning reads as what the machine is then.
pub record IsChanged (m : Machine) (who relation row : ℕ) (value : Option (List ℕ)) (later : Machine) : Type 0 where
  pub done : IsChangeDone m who relation row
  pub reads : ReadsAs later (after_change m who relation row value (open_transaction m who))

module _ {shape : Shape} {view : View} {number cell : ℕ} {new : Cell} {content : Page} (put : IsPutIn shape view number cell new content)
    (states : HaveSameStates view (with_page view number content)) (next : next_of (with_page view number content) ≡ next_of view) (others : HaveOtherChains number cell view (with_page view number content))
    (living : List Transaction) (t : Transaction) (maker : IsMaker living t new) (relation row : ℕ) (at : IsRowAt view relation row number cell) (within : new.number ≤ next_of view)
    (old : Version) (older : List Version) (was : chain view relation row ≡ old ∷ older) (stands : is_standing view living old ≡ true) (held : is_held t.snapshot old.number ≡ true) (some : is_some old.value ≡ true)
    (mine : is_open_of_other (meaning_with living view).transactions t.owner old.number ≡ false) (m : Machine) (differ : OwnersDiffer m.transactions) (reads : ReadsAs (meaning_with living view) m) where
  above : 0 < t.number
  above = subst (λ n. 0 < n) (sym maker.number) (put_above put)

  own_within : t.number ≤ next_of view
  own_within = subst (λ n. n ≤ next_of view) (sym maker.number) within

  begun : AreBegun view (chain view relation row)
  begun = chain_begun shape view put.of_shape put.sound relation row

  pub changed : (rest : List Version) → AreBegun view rest → chain (with_page view number content) relation row ≡ version_of new ∷ rest
      → MeanTheSame (after_change (meaning_with living view) t.owner relation row (value_of new.flag new.value) (open_transaction (meaning_with living view) t.owner)) (meaning_with living (with_page view number content))
      → IsChanged m t.owner relation row (value_of new.flag new.value) (meaning_with living (with_page view number content))
  changed rest rest_begun whole means = record {
    done =
        done_too (meaning_with living view) m reads t.owner t (open_transaction_is view living maker.open_ones t maker.lives above own_within) relation row old (filter (is_standing view living) older)
        (standing_first view living relation row old older begun was stands) differ held some mine;
    reads =
        step_reads put states next others living t maker relation row at within rest rest_begun whole
        (after_change (meaning_with living view) t.owner relation row (value_of new.flag new.value) (open_transaction (meaning_with living view) t.owner))
        (after_change m t.owner relation row (value_of new.flag new.value) (open_transaction m t.owner))
        (changed_by living view maker.open_ones t maker.lives above own_within relation row (value_of new.flag new.value)
        (done_at living view maker.open_ones t maker.lives above own_within relation row old older begun was stands held some))
        means (change_reads (meaning_with living view) m reads t.owner relation row (value_of new.flag new.value))
        (subst OwnersDiffer (sym (change_leaves m t.owner relation row (value_of new.flag new.value) (open_transaction m t.owner))) differ);
  }

module _ {shape : Shape} {view : View} {number cell : ℕ} {new : Cell} {content : Page} (put : IsPutIn shape view number cell new content) (living : List Transaction) (t : Transaction) (maker : IsMaker living t new)
    (relation row : ℕ) (at : IsRowAt view relation row number cell) (m : Machine) (differ : OwnersDiffer m.transactions) (reads : ReadsAs (meaning_with living view) m) where
  pub over_changed : (over : IsOver view put.page.relation number cell new) → is_held t.snapshot over.old.number ≡ true → IsClosed living over.old.number
      → IsChanged m t.owner relation row (value_of new.flag new.value) (meaning_with living (with_page view number content))
  over_changed over held closed =
      let one = one_cell_put put over.stands in
      let less = over.begun in
      let within : new.number ≤ next_of view = omega (arith, less) in
      let older = versions_from view over.old.number (below view over.old) in
      let was = chain_of_top view relation row over.old (row_before_stands one relation row at) (ap is_top over.over) in
      let stands = committed_stands view living maker.open_ones (version_of over.old) over.committed in
      let some = ap (λ f. is_some (value_of f over.old.value)) over.over in
      let others = other_chains one (over_unlinked put.sound over one (own_relation put)) in
      let whole = over_chain put.sound over one (own_relation put) relation row at in
      changed put (state_same one) (next_same one) others living t maker relation row at within (version_of over.old) older was stands held some
      (not_of_other view living t.owner over.old.number (λ u lives same. absurd (closed u lives same)) (next_of view)) m differ reads
      (chain view relation row) (chain_begun shape view put.of_shape put.sound relation row) whole
      (change_over put (state_same one) (next_same one) others living t maker relation row at within (version_of over.old) older was stands held some whole)

  pub own_changed : (own : IsOwnAgain view number cell new) → is_held t.snapshot t.number ≡ true → IsChanged m t.owner relation row (value_of new.flag new.value) (meaning_with living (with_page view number content))
  own_changed own held =
      let one = one_cell_put put own.stands in
      let top = own_chain put.sound own one relation row at in
      let old_is : own.old.number ≡ t.number = sym own.same_number ∙ sym maker.number in
      let less = put.sound.numbers relation _ number cell own.old at.named own.stands (ap is_empty own.over) in
      let within : new.number ≤ next_of view = subst (λ n. n ≤ next_of view) (sym own.same_number) (omega (arith, less)) in
      let stands = own_stands view living maker.open_ones t maker.lives (version_of own.old) old_is in
      let old_held = subst (λ n. is_held t.snapshot n ≡ true) (sym old_is) held in
      let some = ap (λ f. is_some (value_of f own.old.value)) own.over in
      let others = other_chains one (own_unlinked put.sound number cell new own) in
      let rest = All-tail (IsBegun view) (version_of own.old) top.older (subst (AreBegun view) top.was (chain_begun shape view put.of_shape put.sound relation row)) in
      changed put (state_same one) (next_same one) others living t maker relation row at within (version_of own.old) top.older top.was stands old_held some
      (not_of_other view living t.owner own.old.number
      (λ u lives same. ap (λ (v : Transaction). v.owner) (maker.open_ones.one_number u t lives maker.lives (same ∙ old_is))) (next_of view)) m differ reads
      top.older rest top.is
      (change_own put (state_same one) (next_same one) others living t maker relation row at within (version_of own.old) top.older top.was stands old_held some (sym own.same_number) top.is)
