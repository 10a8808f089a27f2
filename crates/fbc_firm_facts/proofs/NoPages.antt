-- Nothing is seen of a row for which a view names no page.
use Rattle.std.proofs.Common.{◌≡◌, ◌∙◌, ◌/◌, ◌%◌, ℕ, [], Option, Some, None, refl, slice_get, ap}
use Rattle.std.specs.Option.{option_and_then, option_map_or}
use Rattle.fbc_kinds.specs.declared.pages.Relation.{Relation}
use Rattle.fbc_kinds.specs.declared.shapes.Shape.{Shape}
use Rattle.fbc_kinds.specs.Chain.{cells_of, chain, chain_from}
use Rattle.fbc_kinds.specs.Edits.{value_length}
use Rattle.fbc_kinds.specs.Limits.{cells, slots}
use Rattle.fbc_kinds.specs.View.{View, cell_at, data_of, named_in, pointer_of, relation_of, size_of}
use Rattle.fbc_page_edits.specs.Edited.{IsOfShape}

module _ (shape : Shape) (seen : View) (of_shape : IsOfShape shape seen) (size_same : size_of seen ≡ shape.size) (relation : ℕ) where
  abbrev named_by : ℕ → ℕ → Option ℕ → Option ℕ
  named_by sequence size found = option_and_then (λ (pointer : ℕ). named_in (seen pointer) (sequence % slots size)) found

  by-size : (sequence : ℕ) → data_of seen relation sequence ≡ named_by sequence shape.size (pointer_of seen relation (sequence / slots shape.size))
  by-size sequence = ap (λ size. named_by sequence size (pointer_of seen relation (sequence / slots size))) size_same

  -- The slot of the sequence names no page, or there is no pointer page for it.
  pub no-page : (sequence pointer : ℕ) → pointer_of seen relation (sequence / slots shape.size) ≡ Some pointer → named_in (seen pointer) (sequence % slots shape.size) ≡ None → data_of seen relation sequence ≡ None
  no-page sequence pointer pointed none = by-size sequence ∙ ap (named_by sequence shape.size) pointed ∙ none

  pub no-pointer : (sequence : ℕ) → pointer_of seen relation (sequence / slots shape.size) ≡ None → data_of seen relation sequence ≡ None
  no-pointer sequence none = by-size sequence ∙ ap (named_by sequence shape.size) none

  module _ (row : ℕ) (none : data_of seen relation (row / cells shape.size (value_length shape relation)) ≡ None) where
    abbrev sequence : ℕ
    sequence = row / cells_of seen relation

    unnamed : data_of seen relation sequence ≡ None
    unnamed = go (relation_of seen relation) refl where
      go : (o : Option Relation) → relation_of seen relation ≡ o → data_of seen relation sequence ≡ None
      go None is = ap (λ (o : Option Relation). named_by sequence (size_of seen) (option_and_then (λ (r : Relation). slice_get r.pointers (sequence / slots (size_of seen))) o)) is
      go (Some entry) is =
          ap (λ n. data_of seen relation (row / n))
          (ap (λ (o : Option Relation). option_map_or (λ (r : Relation). cells (size_of seen) r.length) o 0) is
          ∙ ap (λ n. cells n entry.length) size_same
          ∙ ap (cells shape.size) (of_shape.lengths relation entry is))
          ∙ none

    pub no-chain : chain seen relation row ≡ []
    no-chain = ap (λ (o : Option ℕ). chain_from seen (option_and_then (λ (page : ℕ). cell_at seen page (row % cells_of seen relation)) o)) unnamed
