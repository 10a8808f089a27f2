-- A view that differs from a sound one only in what that one does not reach is sound, and reads as it.
use Rattle.std.proofs.Common.{◌≡◌, ◌≢◌, ◌/◌, ◌%◌, ℕ, Option, Some, None, refl, sym, ap, ◌∙◌, le_of_eq}
use Rattle.std.specs.Option.{option_and_then, unwrap_or}
use Rattle.fbc_kinds.specs.declared.pages.Page.{Page}
use Rattle.fbc_kinds.specs.declared.pages.State.TheVariants.{Active}
use Rattle.fbc_kinds.specs.Chain.{cells_of}
use Rattle.fbc_kinds.specs.Limits.{inventory_bits, slots, tip_numbers}
use Rattle.fbc_kinds.specs.Reach.{DataRole, HeaderRole, InventoryRole, PointerRole, Reaches, ReachesPage, Role, TipRole, page_for, shows_role}
use Rattle.fbc_kinds.specs.Sound.{IsSound}
use Rattle.fbc_kinds.specs.View.{View, cell_in, data_of, header_in, header_of, inventory_of, is_marked, is_taken, mark_in, named_in, next_of, pointer_of, size_of, state_in, tip_of}
use Rattle.fbc_page_edits.specs.Alike.{HaveSameStates, KeepsLostPages, ReachesNoMorePages, ReadAlike}
use Rattle.fbc_page_edits.specs.Edited.{with_page}
use Rattle.fbc_page_edits.proofs.Changed.{changed_elsewhere}
use Rattle.fbc_page_edits.proofs.SameVersions.{HaveSameVersions}
use Rattle.fbc_page_edits.proofs.SoundAfter.{HasSoundPages, alike_after, same_states_stay, sound_after}

-- Two views have the same page wherever the first reaches one.
abbrev pub AgreeOnReach : View → View → Type 0
AgreeOnReach before after = (role : Role) (page : ℕ) → Reaches before role page → after page ≡ before page

-- Two ways to go on from a page give the same, where they do from the page that is there.
pub same_through : {X : Type 0} (o : Option ℕ) (f g : ℕ → Option X) → ((page : ℕ) → o ≡ Some page → f page ≡ g page) → option_and_then f o ≡ option_and_then g o
same_through None f g same = refl
same_through (Some page) f g same = same page refl

module _ (before after : View) (agree : AgreeOnReach before after) where
  pub agreed_header : header_of after ≡ header_of before
  agreed_header = ap header_in (agree HeaderRole 0 refl)

  pub agreed_next : next_of after ≡ next_of before
  agreed_next = rw agreed_header refl

  pub agreed_cells_of : (relation : ℕ) → cells_of after relation ≡ cells_of before relation
  agreed_cells_of relation = rw agreed_header refl

  -- They name the same pages.
  pub agreed_page_for : (role : Role) → page_for after role ≡ page_for before role
  agreed_page_for HeaderRole = refl
  agreed_page_for (InventoryRole sequence) = rw agreed_header refl
  agreed_page_for (TipRole sequence) = rw agreed_header refl
  agreed_page_for (PointerRole relation sequence) = rw agreed_header refl
  agreed_page_for (DataRole relation sequence) =
      rw agreed_header
      (same_through (pointer_of before relation (sequence / slots (size_of before)))
      (λ (pointer : ℕ). named_in (after pointer) (sequence % slots (size_of before)))
      (λ (pointer : ℕ). named_in (before pointer) (sequence % slots (size_of before)))
      (λ pointer named. ap (λ (o : Option Page). named_in o (sequence % slots (size_of before))) (agree (PointerRole relation (sequence / slots (size_of before))) pointer named)))

  pub agreed_reach : (page : ℕ) → ReachesPage after page → ReachesPage before page
  agreed_reach page reached = (reached.0, sym (agreed_page_for reached.0) ∙ reached.1)

  -- The same pages are taken.
  pub agreed_taken : (page : ℕ) → is_taken after page ≡ is_taken before page
  agreed_taken page =
      rw agreed_header
      (ap is_marked
      (same_through (inventory_of before (page / inventory_bits (size_of before)))
      (λ (inventory : ℕ). mark_in (after inventory) (page % inventory_bits (size_of before)))
      (λ (inventory : ℕ). mark_in (before inventory) (page % inventory_bits (size_of before)))
      (λ inventory named. ap (λ (o : Option Page). mark_in o (page % inventory_bits (size_of before))) (agree (InventoryRole (page / inventory_bits (size_of before))) inventory named))))

  -- All numbers are in the same states.
  pub agreed_states : HaveSameStates before after
  agreed_states number =
      rw agreed_header
      (ap (λ o. unwrap_or o Active)
      (same_through (tip_of before (number / tip_numbers (size_of before)))
      (λ (tip : ℕ). state_in (after tip) (number % tip_numbers (size_of before)))
      (λ (tip : ℕ). state_in (before tip) (number % tip_numbers (size_of before)))
      (λ tip named. ap (λ (o : Option Page). state_in o (number % tip_numbers (size_of before))) (agree (TipRole (number / tip_numbers (size_of before))) tip named))))

  pub agreed_versions : HaveSameVersions before after
  agreed_versions = record {
    kept = λ relation sequence page cell version is. record {
      named = agreed_page_for (DataRole relation sequence) ∙ is.named;
      stands = ap (λ (o : Option Page). cell_in o cell) (agree (DataRole relation sequence) page is.named) ∙ is.stands;
      holds = is.holds;
    };
    no_more = λ relation sequence page cell version is.
        let named : data_of before relation sequence ≡ Some page = sym (agreed_page_for (DataRole relation sequence)) ∙ is.named in
        record {
          named = named;
          stands = sym (ap (λ (o : Option Page). cell_in o cell) (agree (DataRole relation sequence) page named)) ∙ is.stands;
          holds = is.holds;
        };
  }

  agreed_pages : IsSound before → HasSoundPages after
  agreed_pages sound = record {
    fitting = λ role page reached.
        let earlier : page_for before role ≡ Some page = sym (agreed_page_for role) ∙ reached in
        ap (shows_role role page) (agree role page earlier) ∙ sound.fitting role page earlier;
    taken = λ role page reached. agreed_taken page ∙ sound.taken role page (sym (agreed_page_for role) ∙ reached);
    states = λ sequence page place state reached stands begun.
        let earlier : tip_of before sequence ≡ Some page = sym (agreed_page_for (TipRole sequence)) ∙ reached in
        rw agreed_header (sound.states sequence page place state earlier (sym (ap (λ (o : Option Page). state_in o place) (agree (TipRole sequence) page earlier)) ∙ stands) begun);
  }

  pub agreed_sound : IsSound before → IsSound after
  agreed_sound sound = sound_after before after sound agreed_versions (agreed_pages sound) (le_of_eq (sym agreed_next)) (same_states_stay before after agreed_states)

  pub agreed_alike : IsSound before → ReadAlike before after
  agreed_alike sound = alike_after before after sound agreed_versions agreed_cells_of agreed_states

  pub agreed_lost : KeepsLostPages before after
  agreed_lost page lost = record { taken = agreed_taken page ∙ lost.taken; unreached = λ reached. lost.unreached (agreed_reach page reached) }

-- A change of a page that is not reached.
module _ (view : View) (number : ℕ) (content : Page) (unreached : ¬ ReachesPage view number) where
  pub off_reach_agree : AgreeOnReach view (with_page view number content)
  off_reach_agree role page reached =
      let other : page ≢ number = λ same. unreached (role, reached ∙ ap Some same) in
      changed_elsewhere view number content page other

  pub off_reach_sound : IsSound view → IsSound (with_page view number content)
  off_reach_sound sound = agreed_sound view (with_page view number content) off_reach_agree sound

  pub off_reach_alike : IsSound view → ReadAlike view (with_page view number content)
  off_reach_alike sound = agreed_alike view (with_page view number content) off_reach_agree sound

  pub off_reach_lost : KeepsLostPages view (with_page view number content)
  off_reach_lost = agreed_lost view (with_page view number content) off_reach_agree

  pub off_reach_no_more : ReachesNoMorePages view (with_page view number content)
  off_reach_no_more = agreed_reach view (with_page view number content) off_reach_agree

  pub off_reach_next : next_of (with_page view number content) ≡ next_of view
  off_reach_next = agreed_next view (with_page view number content) off_reach_agree
