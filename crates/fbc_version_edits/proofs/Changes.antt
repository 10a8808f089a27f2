-- What each change of a row means: an insertion, or an update or a deletion that is done.
use Rattle.std.proofs.Common.{◌≡◌, ◌∙◌, ◌<◌, ◌≤◌, ◌-◌, ◌==◌, ◌&&◌, ◌||◌, ℕ, true, not, List, ◌∷◌, ◌⊎◌, inl, inr, refl, sym, ap, subst, arith, filter}
use Rattle.std.specs.Prelude.{Some, is_some, nat_lt, if◌then◌else◌}
use Rattle.std.proofs.lemmas.Bool.Decides.{nat_tests}
use Rattle.std.proofs.lemmas.List.Elements.{All-cons, All-same, All-tail}
use Rattle.fbc_kinds.specs.declared.pages.Cell.{Cell}
use Rattle.fbc_kinds.specs.declared.pages.Page.{Page}
use Rattle.fbc_kinds.specs.declared.shapes.Shape.{Shape}
use Rattle.fbc_kinds.specs.declared.snapshots.Transaction.{Transaction}
use Rattle.fbc_kinds.specs.Chain.{Version, chain, value_of, version_of}
use Rattle.fbc_kinds.specs.Edits.{is_version, suits, value_length}
use Rattle.fbc_kinds.specs.Machine.{Machine, after_change, committed_numbers, is_held, open_place, open_transaction, standing_versions, with_version}
use Rattle.fbc_kinds.specs.Meaning.{MeanTheSame, meaning_with}
use Rattle.fbc_kinds.specs.View.{View, next_of}
use Rattle.fbc_kinds.proofs.Heads.{both_pass}
use Rattle.fbc_kinds.proofs.Meanings.{is_standing, standing_versions-meaning_with}
use Rattle.fbc_page_edits.specs.Alike.{HaveOtherChains, HaveSameStates}
use Rattle.fbc_page_edits.specs.Edited.{with_page}
use Rattle.fbc_page_edits.specs.Facing.{IsRowAt}
use Rattle.fbc_page_edits.proofs.Fitted.{given_some}
use Rattle.fbc_page_edits.proofs.SameMeaning.{means_itself}
use Rattle.fbc_version_edits.specs.Differences.{IsPlace}
use Rattle.fbc_version_edits.specs.Open.{IsMaker}
use Rattle.fbc_version_edits.specs.Puts.{IsPutIn}
use Rattle.fbc_version_edits.proofs.ChainNumbers.{AreBegun, IsBegun, chain_begun}
use Rattle.fbc_version_edits.proofs.InFront.{changed_by, done_at, in_front, one_row, put_by, stands_elsewhere, stands_in_front}
use Rattle.fbc_version_edits.proofs.Living.{found_lives}
use Rattle.fbc_version_edits.proofs.OneCell.{here_or_not}
use Rattle.fbc_version_edits.proofs.SeenAlike.{SeenAlike, alike_rows_mean_the_same, seen_itself}
use Rattle.fbc_version_edits.proofs.Sights.{see_second}
use Rattle.fbc_version_edits.proofs.Standing.{own_stands, standing_after, standing_first, transactions_stay}

-- A machine means the same as one that it is.
pub means_equal : {a b : Machine} → a ≡ b → MeanTheSame a b
means_equal {a = a} same = subst (MeanTheSame a) same (means_itself a)

-- A version that is put has a transaction's number.
pub put_above : {shape : Shape} {view : View} {number cell : ℕ} {new : Cell} {content : Page} → IsPutIn shape view number cell new content → 0 < new.number
put_above {shape = shape} {cell = cell} {new = new} {content = content} put =
    let parts = given_some _ _ content put.fits in
    let version = (both_pass (nat_lt cell _) (is_version (value_length shape put.page.relation) new) parts.0).1 in
    let numbered = (both_pass (suits new.flag (value_length shape put.page.relation) _ && not (new.number == 0)) (not (new.back_page == 0) || new.back_cell == 0) version).0 in
    let above : not (new.number == 0) ≡ true = (both_pass (suits new.flag (value_length shape put.page.relation) _) (not (new.number == 0)) numbered).1 in
    grind (arith, nat_tests)

-- The other rows keep their chains.
others_keep : {shape : Shape} {view : View} {number cell : ℕ} {new : Cell} {content : Page} (put : IsPutIn shape view number cell new content) → HaveOtherChains number cell view (with_page view number content)
    → (relation row : ℕ) → IsRowAt view relation row number cell → (r k : ℕ) → ¬ IsPlace relation row r k → chain (with_page view number content) r k ≡ chain view r k
others_keep {view = view} {number = number} {cell = cell} put others relation row at r k differ = others r k (λ also. differ (one_row view put.sound relation row r k number cell at also))

module _ {shape : Shape} {view : View} {number cell : ℕ} {new : Cell} {content : Page} (put : IsPutIn shape view number cell new content)
    (states : HaveSameStates view (with_page view number content)) (next : next_of (with_page view number content) ≡ next_of view) (others : HaveOtherChains number cell view (with_page view number content))
    (living : List Transaction) (t : Transaction) (maker : IsMaker living t new) (relation row : ℕ) (at : IsRowAt view relation row number cell) (within : new.number ≤ next_of view) where
  abbrev after : View
  after = with_page view number content

  own_above : 0 < t.number
  own_above = subst (λ n. 0 < n) (sym maker.number) (put_above put)

  own_within : t.number ≤ next_of view
  own_within = subst (λ n. n ≤ next_of view) (sym maker.number) within

  -- The machine with the version in front, where the chain has it in front.
  front : chain after relation row ≡ version_of new ∷ chain view relation row
      → with_version (meaning_with living view) (Some (t.number - 1)) relation row (value_of new.flag new.value) ≡ meaning_with living after
  front here =
      ap (λ n. with_version (meaning_with living view) (Some (n - 1)) relation row (value_of new.flag new.value)) maker.number
      ∙ in_front living view after states next relation row (version_of new) here (others_keep put others relation row at)

  pub insertion : chain after relation row ≡ version_of new ∷ chain view relation row
      → MeanTheSame (with_version (meaning_with living view) (open_place (meaning_with living view) t.owner) relation row (value_of new.flag new.value)) (meaning_with living after)
  insertion here = means_equal (put_by living view maker.open_ones t maker.lives own_above own_within relation row (value_of new.flag new.value) ∙ front here)

  -- A change that is done over a version that stands.
  module _ (old : Version) (older : List Version) (whole : chain view relation row ≡ old ∷ older) (stands : is_standing view living old ≡ true)
      (held : is_held t.snapshot old.number ≡ true) (some : is_some old.value ≡ true) where
    done_step : after_change (meaning_with living view) t.owner relation row (value_of new.flag new.value) (open_transaction (meaning_with living view) t.owner)
        ≡ with_version (meaning_with living view) (Some (t.number - 1)) relation row (value_of new.flag new.value)
    done_step =
        changed_by living view maker.open_ones t maker.lives own_above own_within relation row (value_of new.flag new.value)
        (done_at living view maker.open_ones t maker.lives own_above own_within relation row old older (chain_begun shape view put.of_shape put.sound relation row) whole stands held some)

    pub change_over : chain after relation row ≡ version_of new ∷ chain view relation row
        → MeanTheSame (after_change (meaning_with living view) t.owner relation row (value_of new.flag new.value) (open_transaction (meaning_with living view) t.owner)) (meaning_with living after)
    change_over here = means_equal (done_step ∙ front here)

    -- In place of its own version, whose place the new one takes.
    module _ (same : old.number ≡ new.number) (changed : chain after relation row ≡ version_of new ∷ older) where
      abbrev stepped : Machine
      stepped = with_version (meaning_with living view) (Some (t.number - 1)) relation row (value_of new.flag new.value)

      begun_here : AreBegun view (chain after relation row)
      begun_here =
          All-same (IsBegun view) _ _ changed
          (All-cons (IsBegun view) (version_of new) older (put_above put, within)
          (All-tail (IsBegun view) old older
          (subst (AreBegun view) whole (chain_begun shape view put.of_shape put.sound relation row))))

      new_stands : is_standing view living (version_of new) ≡ true
      new_stands = own_stands view living maker.open_ones t maker.lives (version_of new) (sym maker.number)

      row_before : standing_versions stepped relation row ≡ version_of new ∷ old ∷ filter (is_standing view living) older
      row_before =
          stands_in_front living view maker.open_ones t maker.lives own_above own_within relation row (value_of new.flag new.value)
          ∙ ap (λ n. (record { number = n; value = value_of new.flag new.value }) ∷ standing_versions (meaning_with living view) relation row) maker.number
          ∙ ap (λ rest. version_of new ∷ rest)
          (standing_first view living relation row old older (chain_begun shape view put.of_shape put.sound relation row) whole stands)

      row_after : standing_versions (meaning_with living after) relation row ≡ version_of new ∷ filter (is_standing view living) older
      row_after =
          standing_after living view after states next relation row begun_here
          ∙ ap (filter (is_standing view living)) changed
          ∙ ap (λ b. if b then version_of new ∷ filter (is_standing view living) older else filter (is_standing view living) older) new_stands

      seen_here : SeenAlike living stepped (meaning_with living after) (version_of new ∷ old ∷ filter (is_standing view living) older) (version_of new ∷ filter (is_standing view living) older)
      seen_here = record {
        by_open = λ u lives. see_second (is_held u.snapshot) (version_of new) old (filter (is_standing view living) older) same;
        by_committed = see_second (is_held (committed_numbers stepped.transactions)) (version_of new) old (filter (is_standing view living) older) same;
        of_newest = refl;
      }

      seen_elsewhere : (r k : ℕ) → ¬ IsPlace relation row r k → standing_versions stepped r k ≡ standing_versions (meaning_with living after) r k
      seen_elsewhere r k differ =
          let kept = others_keep put others relation row at r k differ in
          let begun = chain_begun shape view put.of_shape put.sound r k in
          stands_elsewhere living view maker.open_ones t maker.lives own_above own_within relation row (value_of new.flag new.value) r k differ
          ∙ standing_versions-meaning_with view living r k begun
          ∙ sym (standing_after living view after states next r k (subst (AreBegun view) (sym kept) begun) ∙ ap (filter (is_standing view living)) kept)

      rows_seen : (r k : ℕ) → SeenAlike living stepped (meaning_with living after) (standing_versions stepped r k) (standing_versions (meaning_with living after) r k)
      rows_seen r k = go (here_or_not relation row r k)
        where
          go : IsPlace relation row r k ⊎ ¬ IsPlace relation row r k → SeenAlike living stepped (meaning_with living after) (standing_versions stepped r k) (standing_versions (meaning_with living after) r k)
          go (inr differ) =
              subst (SeenAlike living stepped (meaning_with living after) (standing_versions stepped r k)) (seen_elsewhere r k differ) (seen_itself living stepped (meaning_with living after) (standing_versions stepped r k))
          go (inl here) =
              let P : ℕ → ℕ → Type 0 = λ r k. SeenAlike living stepped (meaning_with living after) (standing_versions stepped r k) (standing_versions (meaning_with living after) r k) in
              let Q : List Version → Type 0 = λ versions. SeenAlike living stepped (meaning_with living after) versions (standing_versions (meaning_with living after) relation row) in
              let R : List Version → Type 0 = λ versions. SeenAlike living stepped (meaning_with living after) (version_of new ∷ old ∷ filter (is_standing view living) older) versions in
              subst (λ r. P r k) (sym here.0) (subst (λ k. P relation k) (sym here.1) (subst Q (sym row_before) (subst R (sym row_after) seen_here)))

      pub change_own : MeanTheSame (after_change (meaning_with living view) t.owner relation row (value_of new.flag new.value) (open_transaction (meaning_with living view) t.owner)) (meaning_with living after)
      change_own =
          subst (λ m. MeanTheSame m (meaning_with living after)) (sym done_step)
          (alike_rows_mean_the_same living stepped (meaning_with living after) (transactions_stay living view after states next)
          (λ who u is. found_lives view living (next_of view) who u is) rows_seen)
