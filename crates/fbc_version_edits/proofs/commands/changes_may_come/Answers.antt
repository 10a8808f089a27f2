use Rattle.std.proofs.Common.{◌≡◌, ◌∙◌, ◌<◌, ◌≤◌, true, sym, ap, arith, subst, filter}
use Rattle.std.specs.Prelude.{is_some}
use Rattle.fbc_kinds.specs.declared.snapshots.Transaction.{Transaction}
use Rattle.fbc_kinds.specs.Chain.{below, value_of, version_of, versions_from}
use Rattle.fbc_kinds.specs.Machine.{is_held}
use Rattle.fbc_kinds.specs.Meaning.{meaning_with}
use Rattle.fbc_kinds.specs.View.{is_empty, is_top, next_of}
use Rattle.fbc_kinds.proofs.Meanings.{is_standing}
use Rattle.fbc_version_edits.proofs.Changes.{put_above}
use Rattle.fbc_version_edits.proofs.ChainNumbers.{chain_begun}
use Rattle.fbc_version_edits.proofs.Coming.{change_done, not_of_other}
use Rattle.fbc_version_edits.proofs.Frames.{chain_of_top, row_before_stands}
use Rattle.fbc_version_edits.proofs.Living.{open_transaction_is}
use Rattle.fbc_version_edits.proofs.OneCell.{one_cell_put}
use Rattle.fbc_version_edits.proofs.OwnChain.{own_chain}
use Rattle.fbc_version_edits.proofs.Standing.{committed_stands, own_stands, standing_first}
use Rattle.fbc_version_edits.proofs.commands.changes_may_come.Goals as goal

pub returns-clause-new : goal.returns-clause-new
returns-clause-new c shape view number cell new content put over living t maker held closed relation row at =
    let above = subst (λ n. 0 < n) (sym maker.number) (put_above put) in
    let less = over.begun in
    let within : t.number ≤ next_of view = subst (λ n. n ≤ next_of view) (sym maker.number) (omega arith) in
    let older = versions_from view over.old.number (below view over.old) in
    let whole = chain_of_top view relation row over.old (row_before_stands (one_cell_put put over.stands) relation row at) (ap is_top over.over) in
    let stands = standing_first view living relation row (version_of over.old) older (chain_begun shape view put.of_shape put.sound relation row) whole
    (committed_stands view living maker.open_ones (version_of over.old) over.committed) in
    change_done (meaning_with living view) t.owner relation row t (open_transaction_is view living maker.open_ones t maker.lives above within) (version_of over.old)
    (filter (is_standing view living) older) stands held (ap (λ f. is_some (value_of f over.old.value)) over.over)
    (not_of_other view living t.owner over.old.number (λ u lives same. absurd (closed u lives same)) (next_of view))

pub returns-clause-own : goal.returns-clause-own
returns-clause-own c shape view number cell new content put own living t maker held relation row at =
    let above = subst (λ n. 0 < n) (sym maker.number) (put_above put) in
    let top = own_chain put.sound own (one_cell_put put own.stands) relation row at in
    let old_is : own.old.number ≡ t.number = sym own.same_number ∙ sym maker.number in
    let less = put.sound.numbers relation _ number cell own.old at.named own.stands (ap is_empty own.over) in
    let within : t.number ≤ next_of view = subst (λ n. n ≤ next_of view) old_is (omega (arith, less)) in
    let stands = standing_first view living relation row (version_of own.old) top.older (chain_begun shape view put.of_shape put.sound relation row) top.was
    (own_stands view living maker.open_ones t maker.lives (version_of own.old) old_is) in
    change_done (meaning_with living view) t.owner relation row t (open_transaction_is view living maker.open_ones t maker.lives above within) (version_of own.old)
    (filter (is_standing view living) top.older) stands (subst (λ n. is_held t.snapshot n ≡ true) (sym old_is) held) (ap (λ f. is_some (value_of f own.old.value)) own.over)
    (not_of_other view living t.owner own.old.number (λ u lives same. ap (λ (v : Transaction). v.owner) (maker.open_ones.one_number u t lives maker.lives (same ∙ old_is))) (next_of view))
