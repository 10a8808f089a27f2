-- A put after which the row has the new version in front, beside the machine that takes the step of its maker.
use Rattle.std.proofs.Common.{◌≡◌, ◌∙◌, ◌<◌, ◌≤◌, ◌-◌, ◌⊎◌, inl, inr, ℕ, Bool, true, false, List, ◌∷◌, refl, sym, ap, subst, filter, if◌then◌else◌}
use Rattle.std.specs.Prelude.{Option, Some, None}
use Rattle.std.proofs.lemmas.List.Elements.{All-cons, All-same}
use Rattle.fbc_kinds.specs.declared.pages.Cell.{Cell}
use Rattle.fbc_kinds.specs.declared.pages.Page.{Page}
use Rattle.fbc_kinds.specs.declared.shapes.Shape.{Shape}
use Rattle.fbc_kinds.specs.declared.snapshots.Transaction.{Transaction}
use Rattle.fbc_kinds.specs.Chain.{Version, chain, value_of, version_of}
use Rattle.fbc_kinds.specs.Machine.{Machine, after_change, is_done, newest, open_place, standing_versions, with_version}
use Rattle.fbc_kinds.specs.Meaning.{MeanTheSame, meaning_with}
use Rattle.fbc_kinds.specs.View.{View, next_of}
use Rattle.fbc_kinds.proofs.Meanings.{is_standing, standing_versions-meaning_with}
use Rattle.fbc_page_edits.specs.Alike.{HaveOtherChains, HaveSameStates}
use Rattle.fbc_page_edits.specs.Edited.{with_page}
use Rattle.fbc_page_edits.specs.Facing.{IsRowAt}
use Rattle.fbc_version_edits.specs.Differences.{IsPlace}
use Rattle.fbc_version_edits.specs.Open.{IsMaker}
use Rattle.fbc_version_edits.specs.Puts.{IsPutIn}
use Rattle.fbc_version_edits.proofs.ChainNumbers.{AreBegun, IsBegun, chain_begun}
use Rattle.fbc_version_edits.proofs.Changes.{put_above}
use Rattle.fbc_version_edits.proofs.InFront.{one_row, stands_elsewhere, stands_in_front}
use Rattle.fbc_version_edits.proofs.OneCell.{here_or_not}
use Rattle.fbc_version_edits.proofs.Standing.{own_stands, standing_after, transactions_stay}
use Rattle.fbc_runs.specs.Orderly.{OwnersDiffer}
use Rattle.fbc_runs.specs.Reading.{IsNewestOrLacks, ReadsAs}
use Rattle.fbc_runs.proofs.RowReads.{edited_reads}
use Rattle.fbc_meanings.proofs.RowsKept.{newest_itself}

-- A version more, or a change that is done, leaves the transactions.
pub version_leaves : (m : Machine) (maker : Option ℕ) (relation row : ℕ) (value : Option (List ℕ)) → (with_version m maker relation row value).transactions ≡ m.transactions
version_leaves m None relation row value = refl
version_leaves m (Some maker) relation row value = refl

pub change_leaves : (m : Machine) (who relation row : ℕ) (value : Option (List ℕ)) (found : Option Transaction) → (after_change m who relation row value found).transactions ≡ m.transactions
change_leaves m who relation row value None = refl
change_leaves m who relation row value (Some t) = go (is_done t.snapshot (standing_versions m relation row))
  where
    go : (b : Bool) → (if b then with_version m (open_place m who) relation row value else m).transactions ≡ m.transactions
    go true = version_leaves m (open_place m who) relation row value
    go false = refl

module _ {shape : Shape} {view : View} {number cell : ℕ} {new : Cell} {content : Page} (put : IsPutIn shape view number cell new content)
    (states : HaveSameStates view (with_page view number content)) (next : next_of (with_page view number content) ≡ next_of view) (others : HaveOtherChains number cell view (with_page view number content))
    (living : List Transaction) (t : Transaction) (maker : IsMaker living t new) (relation row : ℕ) (at : IsRowAt view relation row number cell) (within : new.number ≤ next_of view)
    (rest : List Version) (begun : AreBegun view rest) (whole : chain (with_page view number content) relation row ≡ version_of new ∷ rest) where
  abbrev after : View
  after = with_page view number content

  abbrev pub stepped : Machine
  stepped = with_version (meaning_with living view) (Some (t.number - 1)) relation row (value_of new.flag new.value)

  own_above : 0 < t.number
  own_above = subst (λ n. 0 < n) (sym maker.number) (put_above put)

  own_within : t.number ≤ next_of view
  own_within = subst (λ n. n ≤ next_of view) (sym maker.number) within

  -- Both have the new version in front of the row.
  newest_after : newest (standing_versions (meaning_with living after) relation row) ≡ Some (version_of new)
  newest_after =
      ap newest
      (standing_after living view after states next relation row
      (All-same (IsBegun view) _ _ whole (All-cons (IsBegun view) (version_of new) rest (put_above put, within) begun))
      ∙ ap (filter (is_standing view living)) whole)
      ∙ ap (λ b. newest (if b then version_of new ∷ filter (is_standing view living) rest else filter (is_standing view living) rest))
      (own_stands view living maker.open_ones t maker.lives (version_of new) (sym maker.number))

  newest_stepped : newest (standing_versions stepped relation row) ≡ Some (version_of new)
  newest_stepped =
      ap newest (stands_in_front living view maker.open_ones t maker.lives own_above own_within relation row (value_of new.flag new.value))
      ∙ ap (λ n. let v : Version = record { number = n; value = value_of new.flag new.value } in Some v) maker.number

  -- The other rows have the versions that they had.
  elsewhere : (r k : ℕ) → ¬ IsPlace relation row r k → standing_versions (meaning_with living after) r k ≡ standing_versions stepped r k
  elsewhere r k differ =
      let kept = others r k (λ also. differ (one_row view put.sound relation row r k number cell at also)) in
      let was = chain_begun shape view put.of_shape put.sound r k in
      standing_after living view after states next r k (subst (AreBegun view) (sym kept) was)
      ∙ ap (filter (is_standing view living)) kept
      ∙ sym (standing_versions-meaning_with view living r k was)
      ∙ sym (stands_elsewhere living view maker.open_ones t maker.lives own_above own_within relation row (value_of new.flag new.value) r k differ)

  newest_same : (r k : ℕ) → newest (standing_versions (meaning_with living after) r k) ≡ newest (standing_versions stepped r k)
  newest_same r k = go (here_or_not relation row r k)
    where
      go : IsPlace relation row r k ⊎ ¬ IsPlace relation row r k → newest (standing_versions (meaning_with living after) r k) ≡ newest (standing_versions stepped r k)
      go (inr differ) = ap newest (elsewhere r k differ)
      go (inl here) =
          let P : ℕ → ℕ → Type 0 = λ r k. newest (standing_versions (meaning_with living after) r k) ≡ newest (standing_versions stepped r k) in
          subst (λ r. P r k) (sym here.0) (subst (λ k. P relation k) (sym here.1) (newest_after ∙ sym newest_stepped))

  -- Where the meaning after the step reads as a machine, so does the later meaning.
  pub step_reads : (first b : Machine) → first ≡ stepped → MeanTheSame first (meaning_with living after) → ReadsAs first b → OwnersDiffer b.transactions → ReadsAs (meaning_with living after) b
  step_reads first b same means reads differ =
      edited_reads stepped (meaning_with living after) b (subst (λ a. ReadsAs a b) same reads) (subst (λ a. MeanTheSame a (meaning_with living after)) same means)
      (transactions_stay living view after states next) differ
      (λ r k.
      subst (λ o. IsNewestOrLacks stepped.transactions o (newest (standing_versions stepped r k))) (sym (newest_same r k))
      (newest_itself stepped.transactions (newest (standing_versions stepped r k))))
