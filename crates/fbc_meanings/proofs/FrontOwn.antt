-- In what a sound view means the versions of an open transaction whose number is not committed stand in front.
use Rattle.std.proofs.Common.{◌≡◌, ◌∙◌, ◌<◌, ◌≤◌, ◌⊎◌, inl, inr, ℕ, Bool, true, false, List, [], ◌∷◌, refl, sym, ap, subst, arith, filter, if◌then◌else◌}
use Rattle.std.specs.Prelude.{Some, All, Contains}
use Rattle.std.proofs.lemmas.List.Elements.{All-contains, All-filter}
use Rattle.std.proofs.lemmas.Option.{same_Some}
use Rattle.fbc_kinds.specs.declared.shapes.Shape.{Shape}
use Rattle.fbc_kinds.specs.declared.snapshots.Transaction.{Transaction}
use Rattle.fbc_kinds.specs.Chain.{Version, chain, state_of}
use Rattle.fbc_kinds.specs.Machine.{newest, standing_versions}
use Rattle.fbc_kinds.specs.Meaning.{meaning_with}
use Rattle.fbc_kinds.specs.Sound.{IsSound}
use Rattle.fbc_kinds.specs.View.{View, is_committed_state, next_of}
use Rattle.fbc_kinds.proofs.Meanings.{is_standing, standing_versions-meaning_with}
use Rattle.fbc_page_edits.specs.Edited.{IsOfShape}
use Rattle.fbc_version_edits.specs.Open.{AreOpen}
use Rattle.fbc_version_edits.proofs.ChainNumbers.{chain_begun}
use Rattle.fbc_version_edits.proofs.Living.{open_transaction_is}
use Rattle.fbc_runs.specs.Orderly.{HasNewest, IsInFront}
use Rattle.fbc_runs.proofs.Numbers.{first_or_later}
use Rattle.fbc_meanings.proofs.Older.{older_committed, older_of}

module _ (view : View) (living : List Transaction) (number : ℕ) (fails : is_committed_state (state_of view number) ≡ false) where
  abbrev stands : List Version → List Version
  stands = filter (is_standing view living)

  abbrev AreCommitted : List Version → Type 0
  AreCommitted versions = All (λ (v : Version). is_committed_state (state_of view v.number) ≡ true) versions

  -- It is none of the committed ones.
  not_older : (older : List Version) → AreCommitted older → (version : Version) → Contains (stands older) version → ¬ (version.number ≡ number)
  not_older older all version at same =
      let committed = All-contains (λ (v : Version). is_committed_state (state_of view v.number) ≡ true) (stands older) version
      (All-filter (is_standing view living) (λ (v : Version). is_committed_state (state_of view v.number) ≡ true) older all) at in
      let also : is_committed_state (state_of view version.number) ≡ false = ap (λ n. is_committed_state (state_of view n)) same ∙ fails in
      absurd (let both : true ≡ false = sym committed ∙ also in cc)

  own_newest : (versions : List Version) → AreCommitted (older_of versions) → (version : Version) → Contains (stands versions) version → version.number ≡ number → HasNewest number (newest (stands versions))
  own_newest [] all version at same = absurd (omega (arith, at.1))
  own_newest (first ∷ older) all version at same = go (is_standing view living first) refl at
    where
      first_is : (first ≡ version) ⊎ Contains (stands older) version → HasNewest number (Some first)
      first_is (inl one) = record { version = first; is = refl; same = ap (λ (v : Version). v.number) one ∙ same }
      first_is (inr later) = absurd (not_older older all version later same)

      go : (b : Bool) → is_standing view living first ≡ b → Contains (if b then first ∷ stands older else stands older) version → HasNewest number (newest (if b then first ∷ stands older else stands older))
      go true is there = first_is (first_or_later first (stands older) version there)
      go false is there = absurd (not_older older all version there same)

pub owns_in_front : (shape : Shape) (view : View) (living : List Transaction) (t : Transaction) → IsOfShape shape view → IsSound view → AreOpen living → Contains living t → 0 < t.number → t.number ≤ next_of view
    → is_committed_state (state_of view t.number) ≡ false → IsInFront (meaning_with living view) t.owner
owns_in_front shape view living t of_shape sound open_ones lives above within fails relation row u version found at same =
    let one : t ≡ u = same_Some t u (sym (open_transaction_is view living open_ones t lives above within) ∙ found) in
    let is : standing_versions (meaning_with living view) relation row ≡ filter (is_standing view living) (chain view relation row) =
    standing_versions-meaning_with view living relation row (chain_begun shape view of_shape sound relation row) in
    subst (λ (w : Transaction). HasNewest w.number (newest (standing_versions (meaning_with living view) relation row))) one
    (subst (λ versions. HasNewest t.number (newest versions)) (sym is)
    (own_newest view living t.number fails (chain view relation row) (older_committed view sound relation row) version
    (subst (λ versions. Contains versions version) is at) (same ∙ ap (λ (w : Transaction). w.number) (sym one))))
