-- Which versions of a row stand, and which of them is in front.
use Rattle.std.proofs.Common.{◌≡◌, ◌∙◌, ◌++◌, ◌⊎◌, inl, inr, Bool, true, false, List, [], ◌∷◌, Contains, refl, sym, ap, arith, if◌then◌else◌}
use Rattle.std.specs.Prelude.{Option, Some, None, filter_map, slice_get}
use Rattle.std.specs.List.{cons_option}
use Rattle.std.specs.Option.{option_and_then}
use Rattle.std.proofs.lemmas.Option.{same_Some}
use Rattle.fbc_kinds.specs.declared.snapshots.Transaction.{Transaction}
use Rattle.fbc_kinds.specs.Chain.{Version}
use Rattle.fbc_kinds.specs.Machine.{Made, is_rolled_back, newest, numbered}
use Rattle.fbc_runs.specs.Orderly.{StandsAt}
use Rattle.fbc_runs.proofs.Places.{head_or_tail, at_head, in_tail}

module _ (ts : List Transaction) where
  -- A version with its number, where it stands.
  abbrev pub shown : Made → Option Version
  shown v = option_and_then (numbered v.value) (slice_get ts v.maker)

  shown_of : (v : Made) (t : Transaction) → slice_get ts v.maker ≡ Some t → (b : Bool) → is_rolled_back t.standing ≡ b → shown v ≡ (if b then None else (let x : Version = record { number = t.number; value = v.value } in Some x))
  shown_of v t at b is =
      ap (option_and_then (numbered v.value)) at
      ∙ ap (λ c. if c then None else (let x : Version = record { number = t.number; value = v.value } in Some x)) is

  -- What a version that stands is shown as.
  pub record IsShown (v : Made) (version : Version) : Type 0 where
    pub maker : Transaction
    pub stands : StandsAt ts v.maker maker
    pub same : version.number ≡ maker.number

  pub shown_is : (v : Made) (version : Version) → shown v ≡ Some version → IsShown v version
  shown_is v version is = go (slice_get ts v.maker) refl
    where
      go : (o : Option Transaction) → slice_get ts v.maker ≡ o → IsShown v version
      go None none = (let nothing : shown v ≡ None = ap (option_and_then (numbered v.value)) none in cc)
      go (Some t) at = each (is_rolled_back t.standing) refl
        where
          each : (b : Bool) → is_rolled_back t.standing ≡ b → IsShown v version
          each true rolled = (let nothing : shown v ≡ None = shown_of v t at true rolled in cc)
          each false stands =
              let x : Version = record { number = t.number; value = v.value } in
              record { maker = t; stands = (at, stands); same = ap (λ (y : Version). y.number) (same_Some version x (sym is ∙ shown_of v t at false stands)) }

  -- A version that is shown was made by a version of the row.
  pub record IsOfRow (row : List Made) (version : Version) : Type 0 where
    pub newer : List Made
    pub made : Made
    pub older : List Made
    pub is : row ≡ newer ++ made ∷ older
    pub shows : IsShown made version

  later_row : (v : Made) (rest : List Made) (version : Version) → IsOfRow rest version → IsOfRow (v ∷ rest) version
  later_row v rest version found = record { newer = v ∷ found.newer; made = found.made; older = found.older; is = ap (λ r. v ∷ r) found.is; shows = found.shows }

  pub of_row : (row : List Made) (version : Version) → Contains (filter_map shown row) version → IsOfRow row version
  of_row [] version at = absurd (omega (arith, at.1))
  of_row (v ∷ rest) version at = go (shown v) refl at (of_row rest version)
    where
      go : (o : Option Version) → shown v ≡ o → Contains (cons_option o (filter_map shown rest)) version → (Contains (filter_map shown rest) version → IsOfRow rest version) → IsOfRow (v ∷ rest) version
      go None none within later = later_row v rest version (later within)
      go (Some x) is within later = each (head_or_tail x (filter_map shown rest) version within) later
        where
          each : (x ≡ version) ⊎ Contains (filter_map shown rest) version → (Contains (filter_map shown rest) version → IsOfRow rest version) → IsOfRow (v ∷ rest) version
          each (inl same) later = record { newer = []; made = v; older = rest; is = refl; shows = shown_is v version (is ∙ ap Some same) }
          each (inr behind) later = later_row v rest version (later behind)

  -- The newest version that stands, where one of the row's does.
  pub record IsNewestBefore (newer : List Made) (w : Made) (found : Option Version) : Type 0 where
    pub version : Version
    pub is : found ≡ Some version
    pub made : Made
    pub shows : IsShown made version
    pub near : (made ≡ w) ⊎ Contains newer made

  pub newest_before : (newer older : List Made) (w : Made) (t : Transaction) → StandsAt ts w.maker t → IsNewestBefore newer w (newest (filter_map shown (newer ++ w ∷ older)))
  newest_before [] older w t stands =
      let x : Version = record { number = t.number; value = w.value } in
      let is : shown w ≡ Some x = shown_of w t stands.0 false stands.1 in
      record { version = x; is = ap (λ o. newest (cons_option o (filter_map shown older))) is; made = w; shows = shown_is w x is; near = inl refl }
  newest_before (v ∷ newer) older w t stands = go (shown v) refl (newest_before newer older w t stands)
    where
      go : (o : Option Version) → shown v ≡ o → IsNewestBefore newer w (newest (filter_map shown (newer ++ w ∷ older))) → IsNewestBefore (v ∷ newer) w (newest (cons_option o (filter_map shown (newer ++ w ∷ older))))
      go None none rest = record { version = rest.version; is = rest.is; made = rest.made; shows = rest.shows; near = nearer rest.near }
        where
          nearer : (rest.made ≡ w) ⊎ Contains newer rest.made → (rest.made ≡ w) ⊎ Contains (v ∷ newer) rest.made
          nearer (inl same) = inl same
          nearer (inr within) = inr (in_tail v newer rest.made within)
      go (Some x) is rest = record { version = x; is = refl; made = v; shows = shown_is v x is; near = inr (at_head v newer) }
