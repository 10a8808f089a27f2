-- The row of a cell of a data page that a view names.
use Rattle.std.proofs.Common.{◌≡◌, ◌∙◌, ◌<◌, ◌+◌, ◌*◌, ◌/◌, ◌%◌, ℕ, Option, Some, None, refl, sym, ap, subst}
use Rattle.std.specs.Prelude.{slice_get}
use Rattle.std.specs.Option.{option_and_then, option_map_or}
use Rattle.std.proofs.lemmas.Nat.{div-mul-add, mod-mul-add}
use Rattle.std.proofs.lemmas.Option.{slice_get_within}
use Rattle.std.proofs.Math.Nat.{div-add-mod'}
use Rattle.fbc_kinds.specs.declared.pages.Cell.{Cell}
use Rattle.fbc_kinds.specs.declared.pages.Data.{Data}
use Rattle.fbc_kinds.specs.declared.pages.Page.{Page}
use Rattle.fbc_kinds.specs.declared.pages.Page.TheVariants as kind
use Rattle.fbc_kinds.specs.declared.pages.Relation.{Relation}
use Rattle.fbc_kinds.specs.declared.shapes.Shape.{Shape}
use Rattle.fbc_kinds.specs.Chain.{cells_of}
use Rattle.fbc_kinds.specs.Edits.{value_length}
use Rattle.fbc_kinds.specs.Limits.{cells, slots}
use Rattle.fbc_kinds.specs.Reach.{DataRole, Reaches}
use Rattle.fbc_kinds.specs.Sound.{IsSound}
use Rattle.fbc_kinds.specs.View.{View, cell_at, cell_in, data_of, named_in, pointer_of, relation_of, size_of}
use Rattle.fbc_page_edits.specs.Edited.{IsOfShape}
use Rattle.fbc_page_edits.specs.Facing.{IsRowAt}
use Rattle.fbc_page_edits.proofs.HeaderStands.{size_is}
use Rattle.fbc_page_edits.proofs.ReachedRoles.{own_role}
use Rattle.fbc_world.specs.Commands.{row_of}
use Rattle.fbc_origins.proofs.PutPages.{named-reached}

module _ (shape : Shape) (seen : View) (of_shape : IsOfShape shape seen) (sound : IsSound seen) (page cell : ℕ) (d : Data) (stands : seen page ≡ Some (kind.Data d))
    (old : Cell) (there : cell_at seen page cell ≡ Some old) where
  abbrev count : ℕ
  count = cells shape.size (value_length shape d.relation)

  -- The cell is one of the page.
  inside : cell < count
  inside =
      subst (λ n. cell < n) (of_shape.within page (kind.Data d) stands).count
      (slice_get_within d.cells cell old (ap (λ (o : Option Page). cell_in o cell) (sym stands) ∙ there))

  module _ (pointer : ℕ) (pointed : pointer_of seen d.relation (d.sequence / slots shape.size) ≡ Some pointer) where
    -- The relation's pages have so many cells.
    pub count_is : cells_of seen d.relation ≡ count
    count_is = go (relation_of seen d.relation) refl pointed where
      go : (found : Option Relation) → relation_of seen d.relation ≡ found → option_and_then (λ (r : Relation). slice_get r.pointers (d.sequence / slots shape.size)) found ≡ Some pointer
          → option_map_or (λ (r : Relation). cells (size_of seen) r.length) found 0 ≡ count
      go None is has = cc
      go (Some entry) is has = rw (size_is shape seen of_shape sound, of_shape.lengths d.relation entry is) refl

    module _ (named : named_in (seen pointer) (d.sequence % slots shape.size) ≡ Some page) where
      pub row-reached : Reaches seen (DataRole d.relation d.sequence) page
      row-reached = named-reached shape seen of_shape sound d.relation d.sequence pointer page pointed named

      pub row-at : IsRowAt seen d.relation (row_of shape d cell) page cell
      row-at = record {
        named = ap (data_of seen d.relation) (ap (λ n. row_of shape d cell / n) count_is ∙ div-mul-add d.sequence count cell inside) ∙ row-reached;
        place = ap (λ n. row_of shape d cell % n) count_is ∙ mod-mul-add d.sequence count cell inside;
      }

      -- It is the only one there.
      own_sequence : (relation sequence : ℕ) → Reaches seen (DataRole relation sequence) page → (relation ≡ d.relation) × (sequence ≡ d.sequence)
      own_sequence relation sequence reached =
          let role : DataRole relation sequence ≡ DataRole d.relation d.sequence = own_role seen sound page (kind.Data d) stands (DataRole relation sequence) reached in
          (cc, cc)

      pub row-alone : (relation row : ℕ) → IsRowAt seen relation row page cell → (relation ≡ d.relation) × (row ≡ row_of shape d cell)
      row-alone relation row at =
          let own = own_sequence relation (row / cells_of seen relation) at.named in
          let same : cells_of seen relation ≡ count = ap (cells_of seen) own.0 ∙ count_is in (
            own.0,
            sym (div-add-mod' row count) ∙ ap (λ n. n * count + row % count) (ap (λ n. row / n) (sym same) ∙ own.1) ∙ ap (λ n. d.sequence * count + n) (ap (λ n. row % n) (sym same) ∙ at.place),
          )
