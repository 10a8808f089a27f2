-- A header that names one more transaction inventory page, which is ready.
use Rattle.std.proofs.Common.{◌≡◌, ◌/◌, ◌%◌, ◌++◌, ◌∷◌, [], ℕ, true, false, Option, Some, length, le_of_eq, inl, inr, refl, sym, ap, ◌∙◌}
use Rattle.std.specs.Option.{unwrap_or}
use Rattle.fbc_kinds.specs.declared.pages.Header.{Header}
use Rattle.fbc_kinds.specs.declared.pages.Page.TheVariants as kind
use Rattle.fbc_kinds.specs.declared.pages.State.{State}
use Rattle.fbc_kinds.specs.declared.pages.State.TheVariants.{Active}
use Rattle.fbc_kinds.specs.declared.shapes.Shape.{Shape}
use Rattle.fbc_kinds.specs.Limits.{tip_numbers}
use Rattle.fbc_kinds.specs.Reach.{DataRole, HeaderRole, InventoryRole, PointerRole, ReachesPage, TipRole}
use Rattle.fbc_kinds.specs.Sound.{IsSound}
use Rattle.fbc_kinds.specs.View.{View, is_active_state, state_in}
use Rattle.std.proofs.lemmas.Option.{same_Some}
use Rattle.fbc_page_edits.specs.Alike.{HaveSameStates, KeepsLostPagesBut, ReadAlike}
use Rattle.fbc_page_edits.specs.Facing.{IsReady}
use Rattle.fbc_page_edits.proofs.HeaderChanged.{header_cells_of, header_data_of, header_inventory_of, header_pointer_of, header_shown, header_states, header_taken, header_versions, with_header}
use Rattle.fbc_page_edits.proofs.PagesAfter.{NamesNoMoreBut, fitting_more, lost_more, state_after, taken_more}
use Rattle.fbc_page_edits.proofs.Pushed.{pushed, pushed_last}
use Rattle.fbc_page_edits.proofs.ReadyPages.{ready_tip_active, ready_tip_shown}
use Rattle.fbc_page_edits.proofs.SoundAfter.{HasSoundPages, alike_after, same_states_stay, sound_after}

module _ (shape : Shape) (view : View) (header : Header) (page : ℕ) (sound : IsSound view) (stands : view 0 ≡ Some (kind.Header header)) (ready : IsReady shape view page 3 0 (length header.tips)) where
  abbrev new : Header
  new = record header { tips = header.tips ++ page ∷ [] }

  abbrev added : View
  added = with_header view header new stands

  added_names : NamesNoMoreBut (TipRole (length header.tips)) page view added
  added_names HeaderRole other reached = inl reached
  added_names (InventoryRole sequence) other reached = inl (sym (header_inventory_of view header new stands refl refl sequence) ∙ reached)
  added_names (TipRole sequence) other reached = elim (pushed header.tips page sequence) [
    | inl same ↦ inl (rw stands (sym same ∙ reached))
    | inr is ↦ inr (ap TipRole is.last, same_Some other page (sym reached ∙ is.new))
  ]
  added_names (PointerRole relation sequence) other reached = inl (sym (header_pointer_of view header new stands refl refl relation sequence) ∙ reached)
  added_names (DataRole relation sequence) other reached = inl (sym (header_data_of view header new stands refl refl relation sequence) ∙ reached)

  never_begun : (place : ℕ) (state : State) → state_in (view page) place ≡ Some state → is_active_state state ≡ true
  never_begun place state there = ap (λ (o : Option State). is_active_state (unwrap_or o Active)) (sym there) ∙ ap is_active_state (ready_tip_active shape view page 0 (length header.tips) ready place)

  added_states : HaveSameStates view added
  added_states number = elim (pushed header.tips page (number / tip_numbers header.size)) [
    | inl same ↦ rw (stands, same) (simp (header_states view header new stands))
    | inr is ↦
        rw (stands, is.new, is.none) (ap (λ o. unwrap_or o Active) (header_states view header new stands page (number % tip_numbers header.size)) ∙ ready_tip_active shape view page 0 (length header.tips) ready (number % tip_numbers header.size))
  ]

  added_pages : HasSoundPages added
  added_pages = record {
    fitting = fitting_more view added sound (TipRole (length header.tips)) page added_names (header_shown view header new stands) (ready_tip_shown shape view page 0 (length header.tips) ready);
    taken = taken_more view added sound (TipRole (length header.tips)) page added_names (λ role other reached was. header_taken view header new stands refl refl other ∙ was) (header_taken view header new stands refl refl page ∙ ready.taken);
    states = λ sequence other place state reached there begun. elim (added_names (TipRole sequence) other reached) [
      | inl earlier ↦ state_after view added sound (rw stands refl) (le_of_eq (rw stands refl)) (header_states view header new stands) sequence other place state earlier there begun
      | inr is ↦ absurd (let both : true ≡ false = sym (never_begun place state (ap (λ (p : ℕ). state_in (view p) place) (sym is.1) ∙ sym (header_states view header new stands other place) ∙ there)) ∙ begun in cc)
    ];
  }

  pub added_tip_sound : IsSound added
  added_tip_sound = sound_after view added sound (header_versions view header new stands refl refl) added_pages (le_of_eq (rw stands refl)) (same_states_stay view added added_states)

  pub added_tip_alike : ReadAlike view added
  added_tip_alike = alike_after view added sound (header_versions view header new stands refl refl) (header_cells_of view header new stands refl refl) added_states

  pub added_tip_reached : ReachesPage added page
  added_tip_reached = (TipRole (length header.tips), pushed_last header.tips page)

  pub added_tip_lost : KeepsLostPagesBut page view added
  added_tip_lost = lost_more view added sound (TipRole (length header.tips)) page added_names (λ other taken. header_taken view header new stands refl refl other ∙ taken)
