-- What it means that a version goes: it was rolled back, or what is below a settled one is cut off.
use Rattle.std.proofs.Common.{◌≡◌, ◌∙◌, ◌<◌, ◌≤◌, ◌++◌, ℕ, false, List, [], ◌∷◌, sym, ap, subst, filter, if◌then◌else◌}
use Rattle.std.specs.Prelude.{None}
use Rattle.std.proofs.lemmas.List.Elements.{All-head, All-nil, All-tail}
use Rattle.fbc_kinds.specs.declared.shapes.Shape.{Shape}
use Rattle.fbc_kinds.specs.declared.snapshots.Transaction.{Transaction}
use Rattle.fbc_kinds.specs.Chain.{Version, chain, state_of}
use Rattle.fbc_kinds.specs.Meaning.{meaning_with}
use Rattle.fbc_kinds.specs.Sound.{IsSound}
use Rattle.fbc_kinds.specs.View.{View, is_committed_state, next_of}
use Rattle.fbc_kinds.proofs.Meanings.{is_standing}
use Rattle.fbc_page_edits.specs.Alike.{IsCutBelow}
use Rattle.fbc_page_edits.specs.Edited.{IsOfShape}
use Rattle.fbc_version_edits.specs.Differences.{BeginsWith, IsLeftAlone}
use Rattle.fbc_version_edits.specs.Open.{AreOpen, IsClosed, IsSettled}
use Rattle.fbc_version_edits.proofs.ChainNumbers.{AreBegun, IsBegun, chain_begun}
use Rattle.fbc_version_edits.proofs.RowsMeant.{IsMeant}
use Rattle.fbc_version_edits.proofs.SeenAlike.{SeenAlike}
use Rattle.fbc_version_edits.proofs.Settled.{same_seen, standing_cut_seen, standing_deletion_seen}
use Rattle.fbc_version_edits.proofs.Standing.{begun_before, rolled_back_falls}

-- The last of two versions that were begun.
begun_last : (view : View) (newer : List Version) (version : Version) (older : List Version) → AreBegun view (newer ++ version ∷ older) → (0 < version.number) × (version.number ≤ next_of view)
begun_last view [] version older all = All-head (IsBegun view) version older all
begun_last view (first ∷ newer) version older all = begun_last view newer version older (All-tail (IsBegun view) first (newer ++ version ∷ older) all)

module _ (shape : Shape) (living : List Transaction) (view after : View) (of_shape : IsOfShape shape view) (sound : IsSound view) (relation row : ℕ) where
  abbrev Meant : Type 0
  Meant = IsMeant shape living view after of_shape sound relation row

  begun : (versions : List Version) → chain view relation row ≡ versions → AreBegun view versions
  begun versions same = subst (AreBegun view) same (chain_begun shape view of_shape sound relation row)

  -- The newest version was rolled back.
  pub rolled_back_meant : (version : Version) → IsClosed living version.number → is_committed_state (state_of view version.number) ≡ false → chain view relation row ≡ version ∷ chain after relation row → Meant
  rolled_back_meant version closed uncommitted whole = record {
    begun = All-tail (IsBegun view) version (chain after relation row) (begun (version ∷ chain after relation row) whole);
    seen = same_seen living view (meaning_with living after) (filter (is_standing view living) (chain view relation row)) (filter (is_standing view living) (chain after relation row))
        (sym
        (ap (filter (is_standing view living)) whole
        ∙ ap (λ b. if b then version ∷ filter (is_standing view living) (chain after relation row) else filter (is_standing view living) (chain after relation row)) (rolled_back_falls view living version closed uncommitted)));
  }

  -- The chain is cut below a settled version.
  pub cut_meant : AreOpen living → (version : Version) → IsSettled view living version.number → IsCutBelow version (chain view relation row) (chain after relation row) → Meant
  cut_meant open_ones version settled cut =
      let all = begun (cut.newer ++ version ∷ cut.older) cut.whole in
      let last = begun_last view cut.newer version cut.older all in
      let P : List Version → Type 0 = λ versions. SeenAlike living (meaning_with living view) (meaning_with living after) (filter (is_standing view living) versions) (filter (is_standing view living) (chain after relation row)) in
      let Q : List Version → Type 0 = λ versions. SeenAlike living (meaning_with living view) (meaning_with living after) (filter (is_standing view living) (cut.newer ++ version ∷ cut.older)) (filter (is_standing view living) versions) in
      record {
        begun = subst (AreBegun view) (sym cut.left) (begun_before view cut.newer version cut.older all);
        seen = subst P (sym cut.whole) (subst Q (sym cut.left) (standing_cut_seen living view (meaning_with living after) version last.0 last.1 settled open_ones cut.newer cut.older));
      }

  -- The newest version was rolled back, and the chain is cut below the next, which is settled.
  pub alone_meant : AreOpen living → (old new : Version) → IsClosed living old.number → is_committed_state (state_of view old.number) ≡ false → IsSettled view living new.number
      → IsLeftAlone old new (chain view relation row) (chain after relation row) → Meant
  alone_meant open_ones old new closed uncommitted settled alone =
      let all = All-tail (IsBegun view) old (new ∷ alone.older) (begun (old ∷ new ∷ alone.older) alone.whole) in
      let last = All-head (IsBegun view) new alone.older all in
      let falls : filter (is_standing view living) (chain view relation row) ≡ filter (is_standing view living) (new ∷ alone.older) =
      ap (filter (is_standing view living)) alone.whole
      ∙ ap (λ b. if b then old ∷ filter (is_standing view living) (new ∷ alone.older) else filter (is_standing view living) (new ∷ alone.older)) (rolled_back_falls view living old closed uncommitted) in
      let P : List Version → Type 0 = λ versions. SeenAlike living (meaning_with living view) (meaning_with living after) versions (filter (is_standing view living) (chain after relation row)) in
      let Q : List Version → Type 0 = λ versions. SeenAlike living (meaning_with living view) (meaning_with living after) (filter (is_standing view living) (new ∷ alone.older)) (filter (is_standing view living) versions) in
      record {
        begun = subst (AreBegun view) (sym alone.left) (begun_before view [] new alone.older all);
        seen = subst P (sym falls) (subst Q (sym alone.left) (standing_cut_seen living view (meaning_with living after) new last.0 last.1 settled open_ones [] alone.older));
      }

  -- A settled deletion is gone with all below it.
  pub deletion_meant : AreOpen living → (version : Version) → version.value ≡ None → IsSettled view living version.number → BeginsWith version (chain view relation row) → chain after relation row ≡ [] → Meant
  deletion_meant open_ones version none settled whole gone =
      let last = All-head (IsBegun view) version whole.older (begun (version ∷ whole.older) whole.whole) in
      let P : List Version → Type 0 = λ versions. SeenAlike living (meaning_with living view) (meaning_with living after) (filter (is_standing view living) versions) (filter (is_standing view living) (chain after relation row)) in
      let Q : List Version → Type 0 = λ versions. SeenAlike living (meaning_with living view) (meaning_with living after) (filter (is_standing view living) (version ∷ whole.older)) (filter (is_standing view living) versions) in
      record {
        begun = subst (AreBegun view) (sym gone) (All-nil (IsBegun view));
        seen = subst P (sym whole.whole) (subst Q (sym gone) (standing_deletion_seen living view (meaning_with living after) version last.0 last.1 settled open_ones whole.older none));
      }
