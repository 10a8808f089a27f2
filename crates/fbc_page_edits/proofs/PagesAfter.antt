-- The pages of a view are sound where it names those of a sound view, and one that fits its role.
use Rattle.std.proofs.Common.{◌≡◌, ◌⊎◌, ◌<◌, ◌≤◌, ◌+◌, ◌*◌, ℕ, true, false, Some, lt_of_lt_of_le, inl, inr, sym, subst, ◌∙◌}
use Rattle.fbc_kinds.specs.declared.pages.State.{State}
use Rattle.fbc_kinds.specs.Limits.{tip_numbers}
use Rattle.fbc_kinds.specs.Reach.{Reaches, Role, TipRole, shows_role}
use Rattle.fbc_kinds.specs.Sound.{IsSound}
use Rattle.fbc_kinds.specs.View.{View, is_active_state, is_taken, next_of, size_of, state_in}
use Rattle.fbc_page_edits.specs.Alike.{KeepsLostPages, KeepsLostPagesBut, ReachesNoPageBut}

-- The later view names no page that the earlier one does not.
abbrev pub NamesNoMore : View → View → Type 0
NamesNoMore before after = (role : Role) (page : ℕ) → Reaches after role page → Reaches before role page

-- The later view names this page in this role, and else what the earlier one names.
abbrev pub NamesNoMoreBut : Role → ℕ → View → View → Type 0
NamesNoMoreBut new_role new before after = (role : Role) (page : ℕ) → Reaches after role page → Reaches before role page ⊎ ((role ≡ new_role) × (page ≡ new))

-- Each page has the roles that it had.
abbrev pub ShowRoles : View → View → Type 0
ShowRoles before after = (role : Role) (page : ℕ) → shows_role role page (after page) ≡ shows_role role page (before page)

-- Pages that are reached and taken stay taken.
abbrev pub KeepTaken : View → View → Type 0
KeepTaken before after = (role : Role) (page : ℕ) → Reaches before role page → is_taken before page ≡ true → is_taken after page ≡ true

module _ (before after : View) (sound : IsSound before) where
  pub fitting_after : NamesNoMore before after → ShowRoles before after → (role : Role) (page : ℕ) → Reaches after role page → shows_role role page (after page) ≡ true
  fitting_after names shown role page reached = shown role page ∙ sound.fitting role page (names role page reached)

  pub taken_after : NamesNoMore before after → KeepTaken before after → (role : Role) (page : ℕ) → Reaches after role page → is_taken after page ≡ true
  taken_after names kept role page reached = let earlier = names role page reached in kept role page earlier (sound.taken role page earlier)

  -- No state of a page that is reached is of a number that was not begun.
  pub state_after : size_of after ≡ size_of before → next_of before ≤ next_of after → ((page place : ℕ) → state_in (after page) place ≡ state_in (before page) place)
      → (sequence page place : ℕ) (state : State) → Reaches before (TipRole sequence) page → state_in (after page) place ≡ Some state → is_active_state state ≡ false
      → sequence * tip_numbers (size_of after) + place < next_of after
  state_after size next states sequence page place state reached stands begun =
      let P : ℕ → Type 0 = λ n. sequence * tip_numbers n + place < next_of before in
      lt_of_lt_of_le (subst P (sym size) (sound.states sequence page place state reached (sym (states page place) ∙ stands) begun)) next

  module _ (new_role : Role) (new : ℕ) (names : NamesNoMoreBut new_role new before after) where
    pub fitting_more : ShowRoles before after → shows_role new_role new (before new) ≡ true → (role : Role) (page : ℕ) → Reaches after role page → shows_role role page (after page) ≡ true
    fitting_more shown fits role page reached = shown role page ∙ elim (names role page reached) [
      | inl earlier ↦ sound.fitting role page earlier
      | inr here ↦ rw (here.0, here.1) fits
    ]

    pub taken_more : KeepTaken before after → is_taken after new ≡ true → (role : Role) (page : ℕ) → Reaches after role page → is_taken after page ≡ true
    taken_more kept fits role page reached = elim (names role page reached) [
      | inl earlier ↦ kept role page earlier (sound.taken role page earlier)
      | inr here ↦ rw here.1 fits
    ]

    pub reach_more : ReachesNoPageBut new before after
    reach_more page reached = elim (names reached.0 page reached.1) [ inl earlier ↦ inl (reached.0, earlier) | inr here ↦ inr here.1 ]

    pub lost_more : ((page : ℕ) → is_taken before page ≡ true → is_taken after page ≡ true) → KeepsLostPagesBut new before after
    lost_more kept page other lost = record {
      taken = kept page lost.taken;
      unreached = λ reached. elim (reach_more page reached) [ inl earlier ↦ lost.unreached earlier | inr here ↦ other here ];
    }

  pub lost_no_more : NamesNoMore before after → ((page : ℕ) → is_taken before page ≡ true → is_taken after page ≡ true) → KeepsLostPages before after
  lost_no_more names kept page lost = record {
    taken = kept page lost.taken;
    unreached = λ reached. lost.unreached (reached.0, names reached.0 page reached.1);
  }
