-- What an open transaction sees of a row, by the row's own cell as a copy shows it.
use Rattle.std.proofs.Common.{◌≡◌, ◌∙◌, ◌/◌, ◌%◌, ℕ, Bool, true, false, Option, Some, None, slice_get, if◌then◌else◌, find, List, ◌∷◌, [], refl, sym, ap}
use Rattle.std.specs.Option.{option_and_then, option_map_or}
use Rattle.fbc_kinds.specs.declared.pages.Cell.{Cell}
use Rattle.fbc_kinds.specs.declared.pages.Page.{Page}
use Rattle.fbc_kinds.specs.declared.pages.Relation.{Relation}
use Rattle.fbc_kinds.specs.declared.shapes.Shape.{Shape}
use Rattle.fbc_kinds.specs.declared.snapshots.Transaction.{Transaction}
use Rattle.fbc_kinds.specs.Chain.{Version, below, cells_of, chain, row_cell, see, value_of, version_of, versions_from}
use Rattle.fbc_kinds.specs.Edits.{value_length}
use Rattle.fbc_kinds.specs.Limits.{cells, slots}
use Rattle.fbc_kinds.specs.Machine.{is_held, seen_by}
use Rattle.fbc_kinds.specs.Sound.{IsSound}
use Rattle.fbc_kinds.specs.View.{View, cell_in, data_of, is_top, pointer_of, relation_of, size_of}
use Rattle.fbc_page_edits.specs.Edited.{IsOfShape}
use Rattle.fbc_page_edits.specs.Facing.{IsRowAt}
use Rattle.fbc_page_edits.proofs.HeaderStands.{size_is}
use Rattle.fbc_version_edits.proofs.Frames.{chain_of_lone, chain_of_none, chain_of_top, row_stands}
use Rattle.fbc_world.specs.World.{World}
use Rattle.fbc_legal.specs.Scene.{Scene}
use Rattle.fbc_closed_cuts.specs.Cut.{Cut, view}
use Rattle.fbc_closed_cuts.specs.Firm.{HasOwnDrafts}
use Rattle.fbc_closed_cuts.proofs.Firmness.{copy-firm}
use Rattle.fbc_closed_cuts.proofs.WriteViews.{draft_there}
use Rattle.fbc_origins.specs.Rows.{NamesRow}
use Rattle.fbc_origins.proofs.PutPages.{every_draft, named-reached, newest-closed}
use Rattle.fbc_soundness.specs.Whole.{IsWhole}
use Rattle.fbc_simulation.specs.Simulated.{IsSimulated, machine_at}
use Rattle.fbc_firm_facts.specs.OwnCells.{ShowsOwnCell}
use Rattle.fbc_firm_facts.proofs.NamesStay.{row-named}
use Rattle.fbc_firm_facts.proofs.OwnViewsSee.{own-view-shows}

-- All drafts make a cut that has the owner's.
pub all-own : (w : World) (owner : ℕ) → HasOwnDrafts w owner (every_draft w)
all-own w owner = record { closed = newest-closed w; own = λ page its. draft_there owner (w.draft page) its }

-- A relation that has a pointer page has as many cells in a data page as the shape says.
module _ (shape : Shape) (seen : View) (of_shape : IsOfShape shape seen) (sound : IsSound seen) where
  pub cells-are : (relation sequence pointer : ℕ) → pointer_of seen relation sequence ≡ Some pointer → cells_of seen relation ≡ cells shape.size (value_length shape relation)
  cells-are relation sequence pointer pointed = go (relation_of seen relation) refl pointed where
    go : (o : Option Relation) → relation_of seen relation ≡ o → option_and_then (λ (r : Relation). slice_get r.pointers sequence) o ≡ Some pointer
        → option_map_or (λ (r : Relation). cells (size_of seen) r.length) o 0 ≡ cells shape.size (value_length shape relation)
    go None is names = absurd cc
    go (Some entry) is names =
        ap (λ n. cells n entry.length) (size_is shape seen of_shape sound) ∙ ap (cells shape.size) (of_shape.lengths relation entry is)

-- What is seen of a chain by its first version.
see-held : (version : Version) (older : List Version) (held : ℕ → Bool) → held version.number ≡ true → see (version ∷ older) held ≡ version.value
see-held version older held is =
    ap (λ b. option_and_then (λ (v : Version). v.value) (if b then Some version else find (λ (v : Version). held v.number) older)) is

see-lone : (version : Version) (held : ℕ → Bool) → held version.number ≡ false → see (version ∷ []) held ≡ None
see-lone version held is =
    ap (λ b. option_and_then (λ (v : Version). v.value) (if b then Some version else find (λ (v : Version). held v.number) [])) is

module _ (at : Scene) (whole : IsWhole at) (simulated : IsSimulated at) (owner : ℕ) (t : Transaction) (open_is : at.world.transaction owner ≡ Some t)
    (relation row : ℕ) (version : Cell) (shows : ShowsOwnCell at.shape at.world owner relation row version) where
  abbrev cut : Cut
  cut = every_draft at.world

  abbrev seen : View
  seen = view at.world cut

  own : HasOwnDrafts at.world owner cut
  own = all-own at.world owner

  shape-seen : IsOfShape at.shape seen
  shape-seen = whole.order.upheld.of_shape cut own.closed

  sound-seen : IsSound seen
  sound-seen = whole.order.upheld.sound cut own.closed

  names : NamesRow at.shape seen relation shows.sequence shows.pointer shows.page
  names = row-named at.shape relation shows.sequence shows.pointer shows.page seen (shows.named cut own)

  cells-seen : cells_of seen relation ≡ cells at.shape.size (value_length at.shape relation)
  cells-seen = cells-are at.shape seen shape-seen sound-seen relation (shows.sequence / slots at.shape.size) shows.pointer names.pointed

  row-at : IsRowAt seen relation row shows.page shows.place
  row-at = record {
    named =
        ap (λ n. data_of seen relation (row / n)) cells-seen ∙ ap (data_of seen relation) shows.row_is.sequence_is
        ∙ named-reached at.shape seen shape-seen sound-seen relation shows.sequence shows.pointer shows.page names.pointed names.named;
    place = ap (λ n. row % n) cells-seen ∙ shows.row_is.place_is;
  }

  cell-is : row_cell seen relation row ≡ Some version
  cell-is =
      row_stands seen relation row shows.page shows.place row-at
      ∙ ap (λ (o : Option Page). cell_in o shows.place) (copy-firm at.world whole.order.upheld.coherent owner shows.page shows.content shows.copied cut own)
      ∙ shows.stands

  -- What is seen is what the chain shows.
  seen-is : seen_by (machine_at at) owner relation row ≡ see (chain seen relation row) (is_held t.snapshot)
  seen-is = sym (own-view-shows at whole simulated owner t open_is cut own relation row)

  pub held-seen : is_top version.flag ≡ true → is_held t.snapshot version.number ≡ true → seen_by (machine_at at) owner relation row ≡ value_of version.flag version.value
  held-seen top held =
      seen-is ∙ ap (λ versions. see versions (is_held t.snapshot)) (chain_of_top seen relation row version cell-is top)
      ∙ see-held (version_of version) (versions_from seen version.number (below seen version)) (is_held t.snapshot) held

  pub lone-seen : is_top version.flag ≡ true → is_held t.snapshot version.number ≡ false → version.back_page ≡ 0 → seen_by (machine_at at) owner relation row ≡ None
  lone-seen top unheld alone =
      seen-is ∙ ap (λ versions. see versions (is_held t.snapshot)) (chain_of_lone seen relation row version cell-is top alone)
      ∙ see-lone (version_of version) (is_held t.snapshot) unheld

  pub none-seen : is_top version.flag ≡ false → seen_by (machine_at at) owner relation row ≡ None
  none-seen none = seen-is ∙ ap (λ versions. see versions (is_held t.snapshot)) (chain_of_none seen relation row version cell-is none)
