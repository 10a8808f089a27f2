-- A header with a greater next number.
use Rattle.std.proofs.Common.{◌≡◌, ◌≤◌, ℕ, Some, refl, sym, ◌∙◌}
use Rattle.fbc_kinds.specs.declared.pages.Header.{Header}
use Rattle.fbc_kinds.specs.declared.pages.Page.TheVariants as kind
use Rattle.fbc_kinds.specs.Reach.{DataRole, HeaderRole, InventoryRole, PointerRole, TipRole}
use Rattle.fbc_kinds.specs.Sound.{IsSound}
use Rattle.fbc_kinds.specs.View.{View, next_of}
use Rattle.fbc_page_edits.specs.Alike.{HaveSameStates, KeepsLostPages, ReadAlike}
use Rattle.fbc_page_edits.proofs.HeaderChanged.{header_cells_of, header_data_of, header_inventory_of, header_pointer_of, header_shown, header_states, header_states_of, header_taken, header_tip_of, header_versions, with_header}
use Rattle.fbc_page_edits.proofs.PagesAfter.{NamesNoMore, fitting_after, lost_no_more, state_after, taken_after}
use Rattle.fbc_page_edits.proofs.SoundAfter.{HasSoundPages, alike_after, same_states_stay, sound_after}

module _ (view : View) (header : Header) (next : ℕ) (sound : IsSound view) (stands : view 0 ≡ Some (kind.Header header)) where
  abbrev new : Header
  new = record header { next = next }

  abbrev raised : View
  raised = with_header view header new stands

  raised_names : NamesNoMore view raised
  raised_names HeaderRole page reached = reached
  raised_names (InventoryRole sequence) page reached = sym (header_inventory_of view header new stands refl refl sequence) ∙ reached
  raised_names (TipRole sequence) page reached = sym (header_tip_of view header new stands refl refl sequence) ∙ reached
  raised_names (PointerRole relation sequence) page reached = sym (header_pointer_of view header new stands refl refl relation sequence) ∙ reached
  raised_names (DataRole relation sequence) page reached = sym (header_data_of view header new stands refl refl relation sequence) ∙ reached

  pub raised_states : HaveSameStates view raised
  raised_states = header_states_of view header new stands refl refl

  pub raised_alike : ReadAlike view raised
  raised_alike = alike_after view raised sound (header_versions view header new stands refl refl) (header_cells_of view header new stands refl refl) raised_states

  pub raised_lost : KeepsLostPages view raised
  raised_lost = lost_no_more view raised sound raised_names (λ page taken. header_taken view header new stands refl refl page ∙ taken)

  module _ (greater : next_of view ≤ next) where
    raised_pages : HasSoundPages raised
    raised_pages = record {
      fitting = fitting_after view raised sound raised_names (header_shown view header new stands);
      taken = taken_after view raised sound raised_names (λ role page reached taken. header_taken view header new stands refl refl page ∙ taken);
      states = λ sequence page place state reached.
          state_after view raised sound (rw stands refl) greater (header_states view header new stands) sequence page place state (raised_names (TipRole sequence) page reached);
    }

    pub raised_sound : IsSound raised
    raised_sound = sound_after view raised sound (header_versions view header new stands refl refl) raised_pages greater (same_states_stay view raised raised_states)
