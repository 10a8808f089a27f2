-- A state in a transaction inventory page changes: the view names and holds the same, and has that state where the page is reached.
use Rattle.std.proofs.Common.{◌≡◌, ◌∙◌, ◌<◌, ◌+◌, ◌*◌, ◌/◌, ◌%◌, ◌⊎◌, ℕ, true, false, Option, Some, None, length, le_of_eq, inl, inr, refl, sym, ap, subst, arith}
use Rattle.std.specs.Option.{option_and_then, unwrap_or}
use Rattle.std.proofs.Math.Nat.{div-add-mod', mod-lt}
use Rattle.std.proofs.lemmas.Bool.{cases_eq}
use Rattle.fbc_kinds.specs.declared.edits.Edit.TheVariants.{Mark}
use Rattle.fbc_kinds.specs.declared.pages.Page.{Page}
use Rattle.fbc_kinds.specs.declared.pages.Page.TheVariants as kind
use Rattle.fbc_kinds.specs.declared.pages.State.{State}
use Rattle.fbc_kinds.specs.declared.pages.State.TheVariants as state
use Rattle.fbc_kinds.specs.declared.pages.Tip.{Tip}
use Rattle.fbc_kinds.specs.declared.shapes.Shape.{Shape}
use Rattle.fbc_kinds.specs.Chain.{state_of}
use Rattle.fbc_kinds.specs.Edits.{may_be, stands_in, with_state}
use Rattle.fbc_kinds.specs.Limits.{tip_numbers}
use Rattle.fbc_kinds.specs.Reach.{DataRole, HeaderRole, InventoryRole, PointerRole, Reaches, Role, TipRole, has_role, shows_role}
use Rattle.fbc_kinds.specs.Sound.{IsSound}
use Rattle.fbc_kinds.specs.View.{View, cell_in, header_in, is_active_state, is_committed_state, is_taken, mark_in, next_of, size_of, slot_in, state_in, tip_of}
use Rattle.fbc_kinds.proofs.EditLimits.{slice_get-set_other, slice_get-set_same}
use Rattle.fbc_kinds.proofs.Heads.{both_pass}
use Rattle.fbc_kinds.proofs.Tests.{same_from_test}
use Rattle.fbc_page_edits.specs.Alike.{HasNoMoreLinks, HaveSameChains, KeepsLostCells, KeepsLostPages}
use Rattle.fbc_page_edits.specs.Allowed.{Fits}
use Rattle.fbc_version_edits.specs.Forms.{AllowsMark, IsAdmittedEdit}
use Rattle.fbc_page_edits.specs.Edited.{IsOfShape, with_page}
use Rattle.fbc_page_edits.proofs.Changed.{changed_elsewhere, changed_here, read_alike}
use Rattle.fbc_page_edits.proofs.Division.{same_from_parts}
use Rattle.fbc_page_edits.proofs.Fitted.{given_some}
use Rattle.fbc_page_edits.proofs.HeaderStands.{size_is}
use Rattle.fbc_page_edits.proofs.ReachedRoles.{own_role}
use Rattle.fbc_page_edits.proofs.SameChains.{chains_same}
use Rattle.fbc_page_edits.proofs.SameNames.{HaveSameNames, same_cells_of, same_next, same_page_for, same_size, same_taken}
use Rattle.fbc_page_edits.proofs.SameVersions.{HaveSameVersions, links_before, lost_cells_same, versions_same}
use Rattle.fbc_page_edits.proofs.SoundAfter.{CommittedStay, sound_after}

-- A transaction inventory page shows a number that stands in it in a state.
pub record Shows (size : ℕ) (old : Option Page) (number : ℕ) (now : State) (content : Page) : Type 0 where
  pub tip : Tip
  pub stands : old ≡ Some (kind.Tip tip)
  pub within : number / tip_numbers size ≡ tip.sequence
  pub made : kind.Tip (with_state size number now tip) ≡ content

pub shows_state : (shape : Shape) (number : ℕ) (now : State) (old : Option Page) (content : Page) → Fits shape (Mark number now) old content → Shows shape.size old number now content
shows_state shape number now (Some (kind.Tip tip)) content fits =
    let parts = given_some _ _ content fits in
    record { tip = tip; stands = refl; within = same_from_test _ _ (both_pass (stands_in shape.size tip.sequence number) (may_be number now) parts.0).0; made = parts.1 }
shows_state shape number now None content fits = absurd fits
shows_state shape number now _ content fits = cc

same_tip_role : (role : Role) (page : ℕ) (tip : Tip) (size number : ℕ) (now : State) → has_role role page (kind.Tip (with_state size number now tip)) ≡ has_role role page (kind.Tip tip)
same_tip_role HeaderRole page tip size number now = refl
same_tip_role (InventoryRole sequence) page tip size number now = refl
same_tip_role (TipRole sequence) page tip size number now = refl
same_tip_role (PointerRole relation sequence) page tip size number now = refl
same_tip_role (DataRole relation sequence) page tip size number now = refl

module _ (shape : Shape) (view : View) (page number : ℕ) (now : State) (of_shape : IsOfShape shape view) (sound : IsSound view) (allowed : AllowsMark view number now)
    (tip : Tip) (stands : view page ≡ Some (kind.Tip tip)) (within : number / tip_numbers shape.size ≡ tip.sequence) where
  abbrev content : Page
  content = kind.Tip (with_state shape.size number now tip)

  abbrev after : View
  after = with_page view page content

  each : {X : Type 0} (shown : ℕ → Option Page → X) → shown page (Some content) ≡ shown page (Some (kind.Tip tip)) → (other : ℕ) → shown other (after other) ≡ shown other (view other)
  each shown same other = read_alike view page content shown (same ∙ sym (ap (shown page) stands)) other

  names : HaveSameNames view after
  names = record { header = each (λ n o. header_in o) refl 0; slots = λ other slot. each (λ n o. slot_in o slot) refl other }

  versions : HaveSameVersions view after
  versions = versions_same view after (λ relation sequence. same_page_for view after names (DataRole relation sequence)) (λ other cell. each (λ n o. cell_in o cell) refl other)

  taken : (other : ℕ) → is_taken after other ≡ is_taken view other
  taken = same_taken view after names (λ other place. each (λ n o. mark_in o place) refl other)

  before_role : (role : Role) (other : ℕ) → Reaches after role other → Reaches view role other
  before_role role other reached = sym (same_page_for view after names role) ∙ reached

  size : size_of view ≡ shape.size
  size = size_is shape view of_shape sound

  size_after : size_of after ≡ shape.size
  size_after = same_size view after names ∙ size

  -- A state is that of the number, or stays.
  states_after : (other place : ℕ) → (state_in (after other) place ≡ state_in (view other) place) ⊎ ((other ≡ page) × (place ≡ number % tip_numbers shape.size))
  states_after other place = elim (cases_eq other page) [
    | inr differ ↦ inl (ap (λ o. state_in o place) (changed_elsewhere view page content other differ))
    | inl same ↦ elim (cases_eq place (number % tip_numbers shape.size)) [
      | inl here ↦ inr (same, here)
      | inr there ↦ inl (rw same
          (ap (λ o. state_in o place) (changed_here view page content)
          ∙ slice_get-set_other tip.states (number % tip_numbers shape.size) place now there
          ∙ sym (ap (λ o. state_in o place) stands)))
    ]
  ]

  count_is : length tip.states ≡ tip_numbers shape.size
  count_is = (of_shape.within page (kind.Tip tip) stands).count

  some_numbers : 0 < tip_numbers shape.size
  some_numbers = let right = of_shape.is_shape.size in grind arith

  marked_here : state_in (after page) (number % tip_numbers shape.size) ≡ Some now
  marked_here =
      let inside : number % tip_numbers shape.size < length tip.states = rw count_is (mod-lt number some_numbers) in
      ap (λ o. state_in o (number % tip_numbers shape.size)) (changed_here view page content) ∙ slice_get-set_same tip.states (number % tip_numbers shape.size) now inside

  -- The page has its own sequence wherever it is reached.
  own_sequence : (sequence : ℕ) → Reaches view (TipRole sequence) page → sequence ≡ tip.sequence
  own_sequence sequence reached = let role : TipRole sequence ≡ TipRole tip.sequence = own_role view sound page (kind.Tip tip) stands (TipRole sequence) reached in cc

  -- What a view shows of a number's state, by the shape's size.
  shown_state : (seen : View) → size_of seen ≡ shape.size → (m : ℕ)
      → state_of seen m ≡ unwrap_or (option_and_then (λ (t : ℕ). state_in (seen t) (m % tip_numbers shape.size)) (tip_of seen (m / tip_numbers shape.size))) state.Active
  shown_state seen same m = ap (λ n. unwrap_or (option_and_then (λ (t : ℕ). state_in (seen t) (m % tip_numbers n)) (tip_of seen (m / tip_numbers n))) state.Active) same

  shown_after : (m : ℕ) → state_of after m ≡ unwrap_or (option_and_then (λ (t : ℕ). state_in (after t) (m % tip_numbers shape.size)) (tip_of view (m / tip_numbers shape.size))) state.Active
  shown_after m =
      shown_state after size_after m
      ∙ ap (λ o. unwrap_or (option_and_then (λ (t : ℕ). state_in (after t) (m % tip_numbers shape.size)) o) state.Active) (same_page_for view after names (TipRole (m / tip_numbers shape.size)))

  -- The state of a number is the new one, or stays.
  pub state_after : (m : ℕ) → (state_of after m ≡ state_of view m) ⊎ ((m ≡ number) × (state_of after m ≡ now))
  state_after m = go (tip_of view (m / tip_numbers shape.size)) refl
    where
      go : (found : Option ℕ) → tip_of view (m / tip_numbers shape.size) ≡ found → (state_of after m ≡ state_of view m) ⊎ ((m ≡ number) × (state_of after m ≡ now))
      go None is =
          inl
          (shown_after m
          ∙ ap (λ o. unwrap_or (option_and_then (λ (t : ℕ). state_in (after t) (m % tip_numbers shape.size)) o) state.Active) is
          ∙ sym (shown_state view size m ∙ ap (λ o. unwrap_or (option_and_then (λ (t : ℕ). state_in (view t) (m % tip_numbers shape.size)) o) state.Active) is))
      go (Some t) is = by (states_after t (m % tip_numbers shape.size))
        where
          found_after : state_of after m ≡ unwrap_or (state_in (after t) (m % tip_numbers shape.size)) state.Active
          found_after = shown_after m ∙ ap (λ o. unwrap_or (option_and_then (λ (t : ℕ). state_in (after t) (m % tip_numbers shape.size)) o) state.Active) is

          found_before : state_of view m ≡ unwrap_or (state_in (view t) (m % tip_numbers shape.size)) state.Active
          found_before = shown_state view size m ∙ ap (λ o. unwrap_or (option_and_then (λ (t : ℕ). state_in (view t) (m % tip_numbers shape.size)) o) state.Active) is

          by : (state_in (after t) (m % tip_numbers shape.size) ≡ state_in (view t) (m % tip_numbers shape.size)) ⊎ ((t ≡ page) × (m % tip_numbers shape.size ≡ number % tip_numbers shape.size))
              → (state_of after m ≡ state_of view m) ⊎ ((m ≡ number) × (state_of after m ≡ now))
          by (inl same) = inl (found_after ∙ ap (λ o. unwrap_or o state.Active) same ∙ sym found_before)
          by (inr at) =
              let sequence = own_sequence (m / tip_numbers shape.size) (is ∙ ap Some at.0) in
              let there : state_in (after t) (m % tip_numbers shape.size) ≡ Some now = ap (λ n. state_in (after n) (m % tip_numbers shape.size)) at.0 ∙ ap (state_in (after page)) at.1 ∙ marked_here in
              inr (same_from_parts (tip_numbers shape.size) m number (sequence ∙ sym within) at.1, found_after ∙ ap (λ o. unwrap_or o state.Active) there)

  -- Where the page is reached, the number has the new state.
  pub state_marked : (sequence : ℕ) → Reaches view (TipRole sequence) page → state_of after number ≡ now
  state_marked sequence reached =
      let named : tip_of view (number / tip_numbers shape.size) ≡ Some page = ap (tip_of view) (within ∙ sym (own_sequence sequence reached)) ∙ reached in
      shown_after number
      ∙ ap (λ o. unwrap_or (option_and_then (λ (t : ℕ). state_in (after t) (number % tip_numbers shape.size)) o) state.Active) named
      ∙ ap (λ o. unwrap_or o state.Active) marked_here

  -- Each other number has its state.
  pub states_kept : (m : ℕ) → ¬ (m ≡ number) → state_of after m ≡ state_of view m
  states_kept m differ = go (state_after m)
    where
      go : (state_of after m ≡ state_of view m) ⊎ ((m ≡ number) × (state_of after m ≡ now)) → state_of after m ≡ state_of view m
      go (inl same) = same
      go (inr at) = absurd (differ at.0)

  -- No committed number gets another state.
  committed_stays : CommittedStay view after
  committed_stays m is = go (state_after m) allowed.stays
    where
      go : (state_of after m ≡ state_of view m) ⊎ ((m ≡ number) × (state_of after m ≡ now)) → (now ≡ state.Committed) ⊎ (is_committed_state (state_of view number) ≡ false)
          → is_committed_state (state_of after m) ≡ true
      go (inl same) stays = ap is_committed_state same ∙ is
      go (inr at) (inl committed) = ap is_committed_state (at.1 ∙ committed)
      go (inr at) (inr never) = let was : is_committed_state (state_of view number) ≡ true = ap (λ n. is_committed_state (state_of view n)) (sym at.0) ∙ is in cc

  -- Each state but active is of a number that was begun.
  begun_after : (sequence other place : ℕ) (seen : State) → Reaches after (TipRole sequence) other → state_in (after other) place ≡ Some seen → is_active_state seen ≡ false
      → sequence * tip_numbers (size_of after) + place < next_of after
  begun_after sequence other place seen reached shown active =
      subst (λ n. sequence * tip_numbers n + place < next_of after) (sym size_after) (subst (λ n. sequence * tip_numbers shape.size + place < n) (sym (same_next view after names)) (go (states_after other place)))
    where
      reached_before : Reaches view (TipRole sequence) other
      reached_before = before_role (TipRole sequence) other reached

      go : (state_in (after other) place ≡ state_in (view other) place) ⊎ ((other ≡ page) × (place ≡ number % tip_numbers shape.size)) → sequence * tip_numbers shape.size + place < next_of view
      go (inl same) = subst (λ n. sequence * tip_numbers n + place < next_of view) size (sound.states sequence other place seen reached_before (sym same ∙ shown) active)
      go (inr at) =
          let own = own_sequence sequence (subst (λ n. Reaches view (TipRole sequence) n) at.0 reached_before) in
          let same : sequence * tip_numbers shape.size + place ≡ number = ap (λ n. n * tip_numbers shape.size + place) (own ∙ sym within) ∙ ap (λ n. number / tip_numbers shape.size * tip_numbers shape.size + n) at.1 ∙ div-add-mod' number (tip_numbers shape.size) in
          subst (λ n. n < next_of view) (sym same) allowed.begun

  pub mark_sound : IsSound after
  mark_sound =
      sound_after view after sound versions
      (record {
        fitting = λ role other reached. each (λ n o. shows_role role n o) (same_tip_role role page tip shape.size number now) other ∙ sound.fitting role other (before_role role other reached);
        taken = λ role other reached. taken other ∙ sound.taken role other (before_role role other reached);
        states = begun_after;
      })
      (le_of_eq (sym (same_next view after names))) committed_stays

  pub mark_next : next_of after ≡ next_of view
  mark_next = same_next view after names

  pub mark_chains : HaveSameChains view after
  mark_chains = chains_same view after sound versions (same_cells_of view after names)

  pub mark_links : HasNoMoreLinks view after
  mark_links = links_before view after sound versions

  pub mark_cells : KeepsLostCells view after
  mark_cells = lost_cells_same view after sound versions

  pub mark_pages : KeepsLostPages view after
  mark_pages other lost = record { taken = taken other ∙ lost.taken; unreached = λ reached. lost.unreached (reached.0, before_role reached.0 other reached.1) }

-- What a mark leaves and changes.
pub record IsMarked (view after : View) (page number : ℕ) (now : State) : Type 0 where
  pub sound : IsSound after
  pub chains : HaveSameChains view after
  pub others : (m : ℕ) → ¬ (m ≡ number) → state_of after m ≡ state_of view m
  pub either : (m : ℕ) → (state_of after m ≡ state_of view m) ⊎ ((m ≡ number) × (state_of after m ≡ now))
  pub next : next_of after ≡ next_of view
  pub marked : (sequence : ℕ) → Reaches view (TipRole sequence) page → state_of after number ≡ now
  pub links : HasNoMoreLinks view after
  pub pages : KeepsLostPages view after
  pub cells : KeepsLostCells view after

pub marked_view : (shape : Shape) (view : View) (page number : ℕ) (now : State) (content : Page) → IsAdmittedEdit shape view page (Mark number now) content → IsMarked view (with_page view page content) page number now
marked_view shape view page number now content edit =
    let shows = shows_state shape number now (view page) content edit.fits in
    subst (λ (p : Page). IsMarked view (with_page view page p) page number now) shows.made
    (record {
      sound = mark_sound shape view page number now edit.of_shape edit.sound edit.allowed shows.tip shows.stands shows.within;
      chains = mark_chains shape view page number now edit.of_shape edit.sound edit.allowed shows.tip shows.stands shows.within;
      others = states_kept shape view page number now edit.of_shape edit.sound edit.allowed shows.tip shows.stands shows.within;
      either = state_after shape view page number now edit.of_shape edit.sound edit.allowed shows.tip shows.stands shows.within;
      next = mark_next shape view page number now edit.of_shape edit.sound edit.allowed shows.tip shows.stands shows.within;
      marked = state_marked shape view page number now edit.of_shape edit.sound edit.allowed shows.tip shows.stands shows.within;
      links = mark_links shape view page number now edit.of_shape edit.sound edit.allowed shows.tip shows.stands shows.within;
      pages = mark_pages shape view page number now edit.of_shape edit.sound edit.allowed shows.tip shows.stands shows.within;
      cells = mark_cells shape view page number now edit.of_shape edit.sound edit.allowed shows.tip shows.stands shows.within;
    })
