-- How a view names a data page that it reaches, and what is seen of the rows of one that has no version.
use Rattle.std.proofs.Common.{◌≡◌, ◌∙◌, ◌/◌, ◌%◌, ℕ, true, false, List, [], Option, Some, None, refl, sym, ap, subst}
use Rattle.std.specs.Option.{option_and_then, option_map_or}
use Rattle.fbc_kinds.specs.declared.pages.Cell.{Cell}
use Rattle.fbc_kinds.specs.declared.pages.Flag.{Flag}
use Rattle.fbc_kinds.specs.declared.pages.Flag.TheVariants as flag
use Rattle.fbc_kinds.specs.declared.pages.Header.{Header}
use Rattle.fbc_kinds.specs.declared.pages.Page.{Page}
use Rattle.fbc_kinds.specs.declared.shapes.Shape.{Shape}
use Rattle.fbc_kinds.specs.declared.snapshots.Transaction.{Transaction}
use Rattle.fbc_kinds.specs.Chain.{Version, cells_of, chain, chain_from, see}
use Rattle.fbc_kinds.specs.Edits.{value_length}
use Rattle.fbc_kinds.specs.Limits.{cells, slots}
use Rattle.fbc_kinds.specs.Machine.{is_held}
use Rattle.fbc_kinds.specs.Reach.{DataRole, Reaches}
use Rattle.fbc_kinds.specs.View.{View, cell_at, data_of, header_in, is_empty, is_top, named_in, pointer_of, size_of}
use Rattle.fbc_page_edits.specs.Facing.{HasNoVersion, IsRowAt}
use Rattle.fbc_page_edits.proofs.HeaderStands.{size_is}
use Rattle.fbc_version_edits.proofs.Frames.{chain_of_none, row_stands}
use Rattle.fbc_legal.specs.Scene.{Scene}
use Rattle.fbc_closed_cuts.specs.Cut.{Cut, view}
use Rattle.fbc_closed_cuts.specs.Firm.{HasOwnDrafts}
use Rattle.fbc_closed_cuts.specs.Growth.{GrowsInto}
use Rattle.fbc_origins.specs.Rows.{NamesRow}
use Rattle.fbc_soundness.specs.Whole.{IsWhole}
use Rattle.fbc_simulation.specs.Simulated.{IsSimulated, machine_at}
use Rattle.fbc_firm_facts.specs.Grounds.{SeesNoRow}
use Rattle.fbc_firm_facts.proofs.OwnCellsSeen.{cells-are}
use Rattle.fbc_firm_facts.proofs.OwnViewsSee.{own-view-shows}

-- The pointer page by which a view names a data page.
pub record IsNamedBy (shape : Shape) (seen : View) (relation sequence page : ℕ) : Type 0 where
  pub pointer : ℕ
  pub is : NamesRow shape seen relation sequence pointer page

module _ (shape : Shape) (seen : View) (size_same : size_of seen ≡ shape.size) where
  abbrev named_by_size : ℕ → ℕ → ℕ → Option ℕ
  named_by_size relation sequence size = option_and_then (λ (p : ℕ). named_in (seen p) (sequence % slots size)) (pointer_of seen relation (sequence / slots size))

  pub row-by : (relation sequence page : ℕ) → Reaches seen (DataRole relation sequence) page → IsNamedBy shape seen relation sequence page
  row-by relation sequence page reached = go (pointer_of seen relation (sequence / slots shape.size)) refl (subst (λ size. named_by_size relation sequence size ≡ Some page) size_same reached) where
    go : (found : Option ℕ) → pointer_of seen relation (sequence / slots shape.size) ≡ found → option_and_then (λ (p : ℕ). named_in (seen p) (sequence % slots shape.size)) found ≡ Some page
        → IsNamedBy shape seen relation sequence page
    go None is has = absurd cc
    go (Some pointer) is has = record { pointer = pointer; is = record { pointed = is; named = has } }

  pub by-row : (relation sequence pointer page : ℕ) → NamesRow shape seen relation sequence pointer page → Reaches seen (DataRole relation sequence) page
  by-row relation sequence pointer page names =
      subst (λ size. named_by_size relation sequence size ≡ Some page) (sym size_same)
      (ap (option_and_then (λ (p : ℕ). named_in (seen p) (sequence % slots shape.size))) names.pointed ∙ names.named)

-- A header that has grown has the size that it had.
pub size-grown : (earlier later : Option Page) → GrowsInto earlier later → (header : Header) → header_in earlier ≡ Some header
    → option_map_or (λ (h : Header). h.size) (header_in later) 0 ≡ option_map_or (λ (h : Header). h.size) (header_in earlier) 0
size-grown earlier later grows header is = let more = grows header is in rw (more.is, is) more.grown.size

-- An empty cell has no newest version.
pub not-top : (kind_of : Flag) → is_empty kind_of ≡ true → is_top kind_of ≡ false
not-top flag.Empty is = refl
not-top flag.Primary is = absurd cc
not-top flag.Deletion is = absurd cc
not-top flag.Back is = absurd cc

module _ (at : Scene) (whole : IsWhole at) (simulated : IsSimulated at) (owner : ℕ) (t : Transaction) (open_is : at.world.transaction owner ≡ Some t) (cut : Cut) (own : HasOwnDrafts at.world owner cut)
    (relation sequence page : ℕ) (reached : Reaches (view at.world cut) (DataRole relation sequence) page) (empty : HasNoVersion (view at.world cut) page) where
  abbrev seen : View
  seen = view at.world cut

  size-seen : size_of seen ≡ at.shape.size
  size-seen = size_is at.shape seen (whole.order.upheld.of_shape cut own.closed) (whole.order.upheld.sound cut own.closed)

  by : IsNamedBy at.shape seen relation sequence page
  by = row-by at.shape seen size-seen relation sequence page reached

  cells-seen : cells_of seen relation ≡ cells at.shape.size (value_length at.shape relation)
  cells-seen = cells-are at.shape seen (whole.order.upheld.of_shape cut own.closed) (whole.order.upheld.sound cut own.closed) relation (sequence / slots at.shape.size) by.pointer by.is.pointed

  module _ (row : ℕ) (its : row / cells at.shape.size (value_length at.shape relation) ≡ sequence) where
    abbrev place : ℕ
    place = row % cells_of seen relation

    row-at : IsRowAt seen relation row page place
    row-at = record { named = ap (λ n. data_of seen relation (row / n)) cells-seen ∙ ap (data_of seen relation) its ∙ reached; place = refl }

    chain-none : chain seen relation row ≡ []
    chain-none = go (cell_at seen page place) refl where
      go : (o : Option Cell) → cell_at seen page place ≡ o → chain seen relation row ≡ []
      go None is = ap (chain_from seen) (row_stands seen relation row page place row-at ∙ is)
      go (Some version) is = chain_of_none seen relation row version (row_stands seen relation row page place row-at ∙ is) (not-top version.flag (empty place version is))

  pub rows-none : SeesNoRow at.shape (machine_at at) owner relation sequence
  rows-none row its = sym (own-view-shows at whole simulated owner t open_is cut own relation row) ∙ ap (λ (versions : List Version). see versions (is_held t.snapshot)) (chain-none row its)
