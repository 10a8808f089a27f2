-- A view is sound where its pages are, and where it has the versions of a sound view.
use Rattle.std.proofs.Common.{◌≡◌, ◌<◌, ◌≤◌, ◌+◌, ◌*◌, ℕ, true, false, Some, sym, ap, ◌∙◌, arith}
use Rattle.fbc_kinds.specs.declared.pages.State.{State}
use Rattle.fbc_kinds.specs.Chain.{cells_of, state_of}
use Rattle.fbc_kinds.specs.Limits.{tip_numbers}
use Rattle.fbc_kinds.specs.Reach.{Role, Reaches, TipRole, along, shows_role}
use Rattle.fbc_kinds.specs.Sound.{IsSound}
use Rattle.fbc_kinds.specs.View.{View, is_active_state, is_committed_state, is_taken, next_of, size_of, state_in}
use Rattle.fbc_kinds.proofs.Roles.{reached_once}
use Rattle.fbc_page_edits.specs.Alike.{HaveSameStates, ReadAlike}
use Rattle.fbc_page_edits.proofs.SameChains.{chains_same}
use Rattle.fbc_page_edits.proofs.SameVersions.{HaveSameVersions, back_same, links_before, lost_cells_same, reached_same}

-- The pages that a view reaches are those that it names, and are taken, and no state is of a number that was not begun.
pub record HasSoundPages (view : View) : Type 0 where
  pub fitting : (role : Role) (page : ℕ) → Reaches view role page → shows_role role page (view page) ≡ true
  pub taken : (role : Role) (page : ℕ) → Reaches view role page → is_taken view page ≡ true
  pub states : (sequence page place : ℕ) (state : State) → Reaches view (TipRole sequence) page → state_in (view page) place ≡ Some state → is_active_state state ≡ false
      → sequence * tip_numbers (size_of view) + place < next_of view

-- Numbers that are committed in one view are so in the other.
abbrev pub CommittedStay : View → View → Type 0
CommittedStay before after = (number : ℕ) → is_committed_state (state_of before number) ≡ true → is_committed_state (state_of after number) ≡ true

pub same_states_stay : (before after : View) → HaveSameStates before after → CommittedStay before after
same_states_stay before after same number is = ap is_committed_state (same number) ∙ is

module _ (before after : View) (sound : IsSound before) (same : HaveSameVersions before after) where
  pub sound_after : HasSoundPages after → next_of before ≤ next_of after → CommittedStay before after → IsSound after
  sound_after pages next committed = record {
    fitting = pages.fitting;
    taken = pages.taken;
    once = reached_once after pages.fitting;
    back = λ relation page cell back_page back_cell version link.
        back_same before after sound same relation back_page back_cell version.number
        (sound.back relation page cell back_page back_cell version (links_before before after sound same relation page cell back_page back_cell version link));
    back_once = λ relation page cell other_relation other_page other_cell back_page back_cell version other link also.
        sound.back_once relation page cell other_relation other_page other_cell back_page back_cell version other
        (links_before before after sound same relation page cell back_page back_cell version link)
        (links_before before after sound same other_relation other_page other_cell back_page back_cell other also);
    numbers = λ relation sequence page cell version named stands holds.
        let is = same.no_more relation sequence page cell version (record { named = named; stands = stands; holds = holds }) in
        let small = sound.numbers relation sequence page cell version is.named is.stands holds in
        omega arith;
    states = pages.states;
    below = λ relation page cell back_page back_cell version back link stands.
        let earlier = links_before before after sound same relation page cell back_page back_cell version link in
        let reached = along page cell back_page back_cell version earlier.reached earlier.stands earlier.names in
        committed back.number (sound.below relation page cell back_page back_cell version back earlier (sym (reached_same before after sound same relation back_page back_cell reached) ∙ stands));
  }

  pub alike_after : ((relation : ℕ) → cells_of after relation ≡ cells_of before relation) → HaveSameStates before after → ReadAlike before after
  alike_after cells states = record {
    chains = chains_same before after sound same cells;
    states = states;
    links = links_before before after sound same;
    cells = lost_cells_same before after sound same;
  }
