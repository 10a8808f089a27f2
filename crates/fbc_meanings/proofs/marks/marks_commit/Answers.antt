use Rattle.std.proofs.Common.{◌≡◌, ◌∙◌, ◌≤◌, ◌∷◌, true, sym, ap, subst, arith}
use Rattle.fbc_kinds.specs.Chain.{state_of}
use Rattle.fbc_kinds.specs.Machine.{after_end}
use Rattle.fbc_kinds.specs.Meaning.{meaning_with}
use Rattle.fbc_kinds.specs.View.{is_committed_state, next_of}
use Rattle.fbc_kinds.specs.declared.pages.State.TheVariants as state
use Rattle.fbc_kinds.specs.declared.snapshots.Standing.TheVariants as standing
use Rattle.fbc_page_edits.specs.Edited.{with_page}
use Rattle.fbc_version_edits.proofs.Marked.{marked_view}
use Rattle.fbc_runs.proofs.Numbers.{first_in}
use Rattle.fbc_runs.proofs.OwnersCommit.{commit_reads}
use Rattle.fbc_meanings.proofs.Committing.{commit_shows}
use Rattle.fbc_meanings.proofs.FrontOwn.{owns_in_front}
use Rattle.fbc_meanings.proofs.Places.{owners_differ}
use Rattle.fbc_meanings.proofs.Shown.{shown_reads}
use Rattle.fbc_meanings.proofs.marks.marks_commit.Goals as goal

pub returns : goal.returns
returns c shape view number marked content living m t sequence edit reached open_ones apart same above fails front differ reads =
    let after = with_page view number content in
    let is = marked_view shape view number marked state.Committed content edit in
    let begun = edit.allowed.begun in
    let within : t.number ≤ next_of view = subst (λ n. n ≤ next_of view) (sym same) (omega (arith, begun)) in
    let lives = first_in t living in
    let committed : is_committed_state (state_of after t.number) ≡ true = ap (λ n. is_committed_state (state_of after n)) same ∙ ap is_committed_state (is.marked sequence reached) in
    shown_reads (after_end (meaning_with (t ∷ living) view) t.owner standing.Committed) (meaning_with living after) (after_end m t.owner standing.Committed)
    (commit_shows view after living t apart (open_ones.opened t lives) committed (λ n apart_from. is.others n (λ e. apart_from (e ∙ sym same))) is.chains is.next)
    (commit_reads (meaning_with (t ∷ living) view) m t.owner reads
    (owns_in_front shape view (t ∷ living) t edit.of_shape edit.sound open_ones lives above within (ap (λ n. is_committed_state (state_of view n)) same ∙ fails))
    front (owners_differ view (t ∷ living) open_ones (next_of view)) differ)
