use Rattle.std.proofs.Common.{◌≡◌, ◌∙◌, ◌⊎◌, ℕ, true, false, inl, inr, sym, ap, subst}
use Rattle.fbc_kinds.specs.Chain.{state_of}
use Rattle.fbc_kinds.specs.View.{is_committed_state}
use Rattle.fbc_kinds.specs.declared.pages.State.TheVariants.{Committed}
use Rattle.fbc_runs.specs.Reading.{ReadsAs}
use Rattle.fbc_page_edits.specs.Edited.{with_page}
use Rattle.fbc_version_edits.proofs.Marked.{marked_view}
use Rattle.fbc_meanings.proofs.MarkedOnes.{marked_as}
use Rattle.fbc_meanings.proofs.marks.marks_are_not_read.Goals as goal

pub returns-clause-living : goal.returns-clause-living
returns-clause-living c shape view number marked state content living m edit t lives same reads =
    let is = marked_view shape view number marked state content edit in
    subst (λ a. ReadsAs a m)
    (sym (marked_as living view (with_page view number content) (λ n closed. ap is_committed_state (is.others n (λ e. closed t lives (same ∙ sym e)))) is.chains is.next)) reads

pub returns-clause-uncommitted : goal.returns-clause-uncommitted
returns-clause-uncommitted c shape view number marked state content living m edit no_commit reads =
    let is = marked_view shape view number marked state content edit in
    subst (λ a. ReadsAs a m) (sym (marked_as living view (with_page view number content) (λ n closed. go n (is.either n)) is.chains is.next)) reads
  where
    never : (state ≡ Committed) ⊎ (is_committed_state (state_of view marked) ≡ false) → is_committed_state (state_of view marked) ≡ false
    never (inl committed) = let is : is_committed_state state ≡ true = ap is_committed_state committed in cc
    never (inr fails) = fails

    go : (n : ℕ) → (state_of (with_page view number content) n ≡ state_of view n) ⊎ ((n ≡ marked) × (state_of (with_page view number content) n ≡ state))
        → is_committed_state (state_of (with_page view number content) n) ≡ is_committed_state (state_of view n)
    go n (inl same) = ap is_committed_state same
    go n (inr at) =
        ap is_committed_state at.1 ∙ no_commit ∙ sym (ap (λ k. is_committed_state (state_of view k)) at.0 ∙ never edit.allowed.stays)
