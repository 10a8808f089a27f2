-- A header that names one more pointer page of a relation, which is ready.
use Rattle.std.proofs.Common.{◌≡◌, ◌⊎◌, ◌/◌, ◌%◌, ℕ, Option, Some, None, length, set, slice_get, le_of_eq, inl, inr, refl, sym, ap, subst, ◌∙◌}
use Rattle.std.specs.Option.{option_and_then, option_map_or}
use Rattle.std.proofs.lemmas.Bool.{cases_eq}
use Rattle.std.proofs.lemmas.Option.{same_Some, slice_get_within}
use Rattle.fbc_kinds.specs.declared.pages.Header.{Header}
use Rattle.fbc_kinds.specs.declared.pages.Page.TheVariants as kind
use Rattle.fbc_kinds.specs.declared.pages.Relation.{Relation}
use Rattle.fbc_kinds.specs.declared.shapes.Shape.{Shape}
use Rattle.fbc_kinds.specs.Chain.{cells_of}
use Rattle.fbc_kinds.specs.Limits.{cells, slots}
use Rattle.fbc_kinds.specs.Reach.{DataRole, HeaderRole, InventoryRole, PointerRole, ReachesPage, TipRole}
use Rattle.fbc_kinds.specs.Sound.{IsSound}
use Rattle.fbc_kinds.specs.View.{View, data_of, named_in, pointer_of, relation_of}
use Rattle.fbc_kinds.proofs.EditLimits.{slice_get-set_other, slice_get-set_same}
use Rattle.fbc_page_edits.specs.Alike.{HaveSameStates, KeepsLostPagesBut, ReadAlike}
use Rattle.fbc_page_edits.specs.Allowed.{AllowsPointer}
use Rattle.fbc_page_edits.specs.Facing.{IsReady}
use Rattle.fbc_page_edits.proofs.Fitted.{pointing}
use Rattle.fbc_page_edits.proofs.HeaderChanged.{header_cells, header_inventory_of, header_shown, header_slots, header_states, header_states_of, header_taken, header_tip_of, with_header}
use Rattle.fbc_page_edits.proofs.PagesAfter.{NamesNoMoreBut, fitting_more, lost_more, state_after, taken_more}
use Rattle.fbc_page_edits.proofs.Pushed.{pushed, pushed_last}
use Rattle.fbc_page_edits.proofs.ReadyPages.{ready_pointer_none, ready_pointer_shown}
use Rattle.fbc_page_edits.proofs.SameVersions.{HaveSameVersions, versions_same}
use Rattle.fbc_page_edits.proofs.SoundAfter.{HasSoundPages, alike_after, same_states_stay, sound_after}

-- The page that may be added to a relation is ready.
pub entry_ready : (shape : Shape) (view : View) (header : Header) (relation page : ℕ) (entry : Relation) → view 0 ≡ Some (kind.Header header) → slice_get header.relations relation ≡ Some entry
    → AllowsPointer shape view relation page (relation_of view relation) → IsReady shape view page 4 relation (length entry.pointers)
entry_ready shape view header relation page entry stands entry_is allowed =
    let found : relation_of view relation ≡ Some entry = rw stands entry_is in
    subst (AllowsPointer shape view relation page) found allowed

module _ (shape : Shape) (view : View) (header : Header) (relation page : ℕ) (entry : Relation) (sound : IsSound view) (stands : view 0 ≡ Some (kind.Header header))
    (entry_is : slice_get header.relations relation ≡ Some entry) (ready : IsReady shape view page 4 relation (length entry.pointers)) where
  abbrev new : Header
  new = record header { relations = set header.relations relation (pointing entry page) }

  abbrev added : View
  added = with_header view header new stands

  -- An entry is that of the relation, or stays.
  same_entry : (other : ℕ)
      → ((other ≡ relation) × (slice_get new.relations other ≡ Some (pointing entry page)) × (slice_get header.relations other ≡ Some entry)) ⊎ (slice_get new.relations other ≡ slice_get header.relations other)
  same_entry other = elim (cases_eq other relation) [
    | inl same ↦ inl (same, rw same (slice_get-set_same header.relations relation (pointing entry page) (slice_get_within header.relations relation entry entry_is)), rw same entry_is)
    | inr differ ↦ inr (slice_get-set_other header.relations relation other (pointing entry page) differ)
  ]

  -- The new pointer page has a place where none was named.
  pub record IsNewPointer (other sequence : ℕ) : Type 0 where
    pub relation_is : other ≡ relation
    pub sequence_is : sequence ≡ length entry.pointers
    pub none : pointer_of view other sequence ≡ None
    pub new_is : pointer_of added other sequence ≡ Some page

  pointers : (other sequence : ℕ) → (pointer_of added other sequence ≡ pointer_of view other sequence) ⊎ IsNewPointer other sequence
  pointers other sequence =
      let from : Option Relation → Option ℕ = option_and_then (λ (r : Relation). slice_get r.pointers sequence) in
      let before : pointer_of view other sequence ≡ from (slice_get header.relations other) = rw stands refl in
      elim (same_entry other) [
        | inr same ↦ inl (ap from same ∙ sym before)
        | inl here ↦ elim (pushed entry.pointers page sequence) [
          | inl same ↦ inl (ap from here.1 ∙ same ∙ sym (before ∙ ap from here.2))
          | inr is ↦ inr (record { relation_is = here.0; sequence_is = is.last; none = before ∙ ap from here.2 ∙ is.none; new_is = ap from here.1 ∙ is.new })
        ]
      ]

  -- It names no data page.
  data_same : (other sequence : ℕ) → data_of added other sequence ≡ data_of view other sequence
  data_same other sequence =
      let place = sequence / slots header.size in
      let from : Option ℕ → Option ℕ = option_and_then (λ (pointer : ℕ). named_in (view pointer) (sequence % slots header.size)) in
      let later : data_of added other sequence ≡ from (pointer_of added other place) = simp (header_slots view header new stands) in
      let earlier : data_of view other sequence ≡ from (pointer_of view other place) = rw stands refl in
      elim (pointers other place) [
        | inl same ↦ later ∙ ap from same ∙ sym earlier
        | inr is ↦
            later
            ∙ ap from is.new_is
            ∙ ready_pointer_none shape view page relation (length entry.pointers) ready (sequence % slots header.size)
            ∙ sym (earlier ∙ ap from is.none)
      ]

  added_cells_of : (other : ℕ) → cells_of added other ≡ cells_of view other
  added_cells_of other =
      let from : Option Relation → ℕ = λ (o : Option Relation). option_map_or (λ (r : Relation). cells header.size r.length) o 0 in
      let earlier : cells_of view other ≡ from (slice_get header.relations other) = rw stands refl in
      elim (same_entry other) [
        | inl here ↦ ap from here.1 ∙ sym (earlier ∙ ap from here.2)
        | inr same ↦ ap from same ∙ sym earlier
      ]

  added_names : NamesNoMoreBut (PointerRole relation (length entry.pointers)) page view added
  added_names HeaderRole other reached = inl reached
  added_names (InventoryRole sequence) other reached = inl (sym (header_inventory_of view header new stands refl refl sequence) ∙ reached)
  added_names (TipRole sequence) other reached = inl (sym (header_tip_of view header new stands refl refl sequence) ∙ reached)
  added_names (PointerRole named sequence) other reached = elim (pointers named sequence) [
    | inl same ↦ inl (sym same ∙ reached)
    | inr is ↦ inr (ap (λ r. PointerRole r sequence) is.relation_is ∙ ap (PointerRole relation) is.sequence_is, same_Some other page (sym reached ∙ is.new_is))
  ]
  added_names (DataRole named sequence) other reached = inl (sym (data_same named sequence) ∙ reached)

  added_versions : HaveSameVersions view added
  added_versions = versions_same view added data_same (header_cells view header new stands)

  added_states : HaveSameStates view added
  added_states = header_states_of view header new stands refl refl

  added_pages : HasSoundPages added
  added_pages = record {
    fitting = fitting_more view added sound (PointerRole relation (length entry.pointers)) page added_names (header_shown view header new stands) (ready_pointer_shown shape view page relation (length entry.pointers) ready);
    taken = taken_more view added sound (PointerRole relation (length entry.pointers)) page added_names (λ role other reached was. header_taken view header new stands refl refl other ∙ was) (header_taken view header new stands refl refl page ∙ ready.taken);
    states = λ sequence other place state reached.
        state_after view added sound (rw stands refl) (le_of_eq (rw stands refl)) (header_states view header new stands) sequence other place state (sym (header_tip_of view header new stands refl refl sequence) ∙ reached);
  }

  pub added_pointer_sound : IsSound added
  added_pointer_sound = sound_after view added sound added_versions added_pages (le_of_eq (rw stands refl)) (same_states_stay view added added_states)

  pub added_pointer_alike : ReadAlike view added
  added_pointer_alike = alike_after view added sound added_versions added_cells_of added_states

  pub added_pointer_reached : ReachesPage added page
  added_pointer_reached = (
    PointerRole relation (length entry.pointers),
    ap (option_and_then (λ (r : Relation). slice_get r.pointers (length entry.pointers)))
        (slice_get-set_same header.relations relation (pointing entry page) (slice_get_within header.relations relation entry entry_is))
        ∙ pushed_last entry.pointers page,
  )

  pub added_pointer_lost : KeepsLostPagesBut page view added
  added_pointer_lost = lost_more view added sound (PointerRole relation (length entry.pointers)) page added_names (λ other taken. header_taken view header new stands refl refl other ∙ taken)
