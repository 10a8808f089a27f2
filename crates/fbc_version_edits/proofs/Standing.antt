-- The versions of a row that stand in a view's meaning, before and after an edit that leaves the states and the next number.
use Rattle.std.proofs.Common.{◌≡◌, ◌∙◌, ◌<◌, ◌≤◌, ◌++◌, ℕ, true, false, not, List, [], ◌∷◌, refl, sym, ap, subst, filter, if◌then◌else◌}
use Rattle.std.specs.Prelude.{All, Contains}
use Rattle.std.proofs.lemmas.List.Elements.{All-cons, All-head, All-nil, All-tail, filter_agree}
use Rattle.fbc_kinds.specs.declared.snapshots.Standing.{Standing}
use Rattle.fbc_kinds.specs.declared.snapshots.Standing.TheVariants as standing
use Rattle.fbc_kinds.specs.declared.snapshots.Transaction.{Transaction}
use Rattle.fbc_kinds.specs.Chain.{Version, chain, state_of}
use Rattle.fbc_kinds.specs.Machine.{is_committed, is_rolled_back, standing_versions}
use Rattle.fbc_kinds.specs.Meaning.{MeanTheSame, meaning_with, transaction_of, transactions_up_to}
use Rattle.fbc_kinds.specs.View.{View, is_committed_state, next_of}
use Rattle.fbc_kinds.proofs.Meanings.{is_standing, standing_versions-meaning_with}
use Rattle.fbc_page_edits.specs.Alike.{HaveSameStates}
use Rattle.fbc_page_edits.proofs.SameMeaning.{transactions_same}
use Rattle.fbc_version_edits.specs.Open.{AreOpen, IsClosed}
use Rattle.fbc_version_edits.proofs.ChainNumbers.{AreBegun, IsBegun}
use Rattle.fbc_version_edits.proofs.Living.{IsWho, committed_one, found_lives, living_one, own_transaction, rolled_back, settled_one, who_is}
use Rattle.fbc_version_edits.proofs.SeenAlike.{SeenAlike, alike_rows_mean_the_same}

committed_not_rolled_back : (s : Standing) → is_committed s ≡ true → is_rolled_back s ≡ false
committed_not_rolled_back standing.Open is = refl
committed_not_rolled_back standing.Committed is = refl
committed_not_rolled_back standing.RolledBack is = cc

-- A version of a committed number stands, and one of a number that is neither committed nor open does not.
pub committed_stands : (view : View) (living : List Transaction) → AreOpen living → (version : Version) → is_committed_state (state_of view version.number) ≡ true → is_standing view living version ≡ true
committed_stands view living open_ones version committed = go (who_is view living version.number)
  where
    go : IsWho view living version.number → is_standing view living version ≡ true
    go (living_one at) = ap (λ s. not (is_rolled_back s)) (open_ones.opened (transaction_of view living version.number) at)
    go (settled_one closed same) = ap not (committed_not_rolled_back _ (committed_one view living version.number closed committed))

pub rolled_back_falls : (view : View) (living : List Transaction) (version : Version) → IsClosed living version.number → is_committed_state (state_of view version.number) ≡ false
    → is_standing view living version ≡ false
rolled_back_falls view living version closed fails = ap not (rolled_back view living version.number closed fails)

-- A version that an open transaction made stands.
pub own_stands : (view : View) (living : List Transaction) → AreOpen living → (t : Transaction) → Contains living t → (version : Version) → version.number ≡ t.number → is_standing view living version ≡ true
own_stands view living open_ones t lives version same =
    ap (λ n. not (is_rolled_back (transaction_of view living n).standing)) same
    ∙ ap (λ (u : Transaction). not (is_rolled_back u.standing)) (own_transaction view living open_ones t lives)
    ∙ ap (λ s. not (is_rolled_back s)) (open_ones.opened t lives)

-- The versions of a row that stand, where the newest one does.
pub standing_first : (view : View) (living : List Transaction) (relation row : ℕ) (version : Version) (older : List Version) → AreBegun view (chain view relation row) → chain view relation row ≡ version ∷ older
    → is_standing view living version ≡ true → standing_versions (meaning_with living view) relation row ≡ version ∷ filter (is_standing view living) older
standing_first view living relation row version older begun whole stands =
    standing_versions-meaning_with view living relation row begun
    ∙ ap (filter (is_standing view living)) whole
    ∙ ap (λ b. if b then version ∷ filter (is_standing view living) older else filter (is_standing view living) older) stands

-- A part of a list whose numbers were begun.
pub begun_before : (view : View) (newer : List Version) (version : Version) (older : List Version) → AreBegun view (newer ++ version ∷ older) → AreBegun view (newer ++ version ∷ [])
begun_before view [] version older all =
    All-cons (IsBegun view) version []
    (All-head (IsBegun view) version older all) (All-nil (IsBegun view))
begun_before view (first ∷ newer) version older all =
    All-cons (IsBegun view) first (newer ++ version ∷ [])
    (All-head (IsBegun view) first (newer ++ version ∷ older) all)
    (begun_before view newer version older (All-tail (IsBegun view) first (newer ++ version ∷ older) all))

module _ (living : List Transaction) (view after : View) (states : HaveSameStates view after) (next : next_of after ≡ next_of view) where
  same_standing : (version : Version) → is_standing after living version ≡ is_standing view living version
  same_standing version = rw (states version.number) refl

  -- The versions of a row that stand afterwards.
  pub standing_after : (relation row : ℕ) → AreBegun view (chain after relation row) → standing_versions (meaning_with living after) relation row ≡ filter (is_standing view living) (chain after relation row)
  standing_after relation row begun =
      standing_versions-meaning_with after living relation row (subst (λ n. All (λ (v : Version). (0 < v.number) × (v.number ≤ n)) (chain after relation row)) (sym next) begun)
      ∙ filter_agree (is_standing after living) (is_standing view living) same_standing (chain after relation row)

  pub transactions_stay : transactions_up_to after living (next_of after) ≡ transactions_up_to view living (next_of view)
  transactions_stay = ap (transactions_up_to after living) next ∙ transactions_same living view after states (next_of view)

  -- Views whose standing versions are seen alike mean the same.
  pub views_mean_the_same : ((relation row : ℕ) → AreBegun view (chain view relation row)) → ((relation row : ℕ) → AreBegun view (chain after relation row))
      → ((relation row : ℕ) → SeenAlike living (meaning_with living view) (meaning_with living after) (filter (is_standing view living) (chain view relation row)) (filter (is_standing view living) (chain after relation row)))
      → MeanTheSame (meaning_with living view) (meaning_with living after)
  views_mean_the_same begun begun_after rows =
      alike_rows_mean_the_same living (meaning_with living view) (meaning_with living after) transactions_stay
      (λ who t is. found_lives view living (next_of view) who t is)
      (λ relation row.
      let P : List Version → Type 0 = λ versions. SeenAlike living (meaning_with living view) (meaning_with living after) versions (standing_versions (meaning_with living after) relation row) in
      let Q : List Version → Type 0 = λ versions. SeenAlike living (meaning_with living view) (meaning_with living after) (filter (is_standing view living) (chain view relation row)) versions in
      subst P (sym (standing_versions-meaning_with view living relation row (begun relation row))) (subst Q (sym (standing_after relation row (begun_after relation row))) (rows relation row)))
