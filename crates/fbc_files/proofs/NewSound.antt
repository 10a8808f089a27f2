-- A new file is sound, and means the machine without rows.
use Rattle.std.proofs.Common.{◌≡◌, ◌+◌, ◌-◌, ◌/◌, ◌%◌, ◌<◌, ℕ, zero, suc, true, List, [], ◌∷◌, drop, length, Some, None, refl, sym, ap, ◌∙◌, inl, inr, arith}
use Rattle.std.specs.Prelude.{Option, nat_lt, if◌then◌else◌, slice_get, slice_index_or}
use Rattle.std.specs.Option.{option_and_then}
use Rattle.std.proofs.Math.Nat.{mod-eq_of_lt}
use Rattle.std.proofs.lemmas.Bool.{cases_lt}
use Rattle.std.proofs.lemmas.Bool.Decides.{nat_tests}
use Rattle.std.proofs.lemmas.Option.{none-some, same_Some, slice_get_within}
use Rattle.fbc_kinds.specs.declared.pages.Page.{Page}
use Rattle.fbc_kinds.specs.declared.pages.Page.TheVariants as kind
use Rattle.fbc_kinds.specs.declared.pages.Relation.{Relation}
use Rattle.fbc_kinds.specs.declared.pages.State.{State}
use Rattle.fbc_kinds.specs.declared.pages.State.TheVariants.{Active}
use Rattle.fbc_kinds.specs.File.{IsSoundFile, page_bytes}
use Rattle.fbc_kinds.specs.Limits.{IsPageSize, inventory_bits, slots, tip_numbers}
use Rattle.fbc_kinds.specs.Machine.{empty}
use Rattle.fbc_kinds.specs.Meaning.{MeanTheSame, meaning_of}
use Rattle.fbc_kinds.specs.Reach.{PointerRole, shows_role}
use Rattle.fbc_kinds.specs.Sound.{IsSound}
use Rattle.fbc_kinds.specs.View.{View, data_of, inventory_page, is_active_state, is_marked, is_taken, mark_in, named_in, pointer_of, state_in, unless_zero}
use Rattle.fbc_files.specs.declared.relations.NewRelation.{NewRelation}
use Rattle.fbc_files.specs.Creating.{IsNewFile, new_shape}
use Rattle.fbc_files.specs.NewPages.{AreNewRelations, empty_slots, new_entries, new_header, new_pages, page_count, pointer_page, taken_first}
use Rattle.fbc_files.specs.Pages.{listed_view}
use Rattle.fbc_files.specs.Roles.{AreActive, HasRole, NamesFit}
use Rattle.fbc_files.specs.Shapes.{shape_of}
use Rattle.fbc_files.proofs.FirstPage.{IsFile-pages}
use Rattle.fbc_files.proofs.NewEntries.{new_entry_at}
use Rattle.fbc_files.proofs.NewFits.{each_active, each_empty, first_taken, pointer_at, pointer_past}
use Rattle.fbc_files.proofs.Recognition.{long_page}
use Rattle.fbc_files.proofs.RowlessViews.{IsSound-rowless, MeanTheSame-rowless, and_then_none}
use Rattle.fbc_files.proofs.ShownShapes.{same_spelling}

-- The one place of a list of one.
only : (number place found : ℕ) → slice_get (number ∷ []) place ≡ Some found → (place ≡ 0) × (number ≡ found)
only number zero found at = (refl, same_Some number found at)
only number (suc place) found at = absurd (none-some found at)

-- A slot that can only be empty names nothing.
names_nothing : (slot : Option ℕ) → ((number : ℕ) → slot ≡ Some number → number ≡ 0) → option_and_then unless_zero slot ≡ None
names_nothing None empty_one = refl
names_nothing (Some number) empty_one = rw (empty_one number refl) refl

module _ (size : ℕ) (relations : List NewRelation) (sized : IsPageSize size) (are : AreNewRelations relations) where
  -- The view of the new pages.
  abbrev pub new_view : View
  new_view = listed_view (new_pages size relations)

  pub pointer_shown : (relation : ℕ) → relation < length relations → new_view (3 + relation) ≡ Some (pointer_page size relation)
  pointer_shown relation below =
      let place : 3 + relation ≡ suc (suc (suc relation)) = omega arith in
      ap new_view place ∙ ap Some (pointer_at size relations sized are relation below)

  -- No page names a data page.
  nothing_named : (page slot : ℕ) → named_in (new_view page) slot ≡ None
  nothing_named zero slot = refl
  nothing_named (suc zero) slot = refl
  nothing_named (suc (suc zero)) slot = refl
  nothing_named (suc (suc (suc k))) slot = elim (cases_lt k (length relations)) [
    | inl below ↦ ap (λ (page : Page). named_in (Some page) slot) (pointer_at size relations sized are k below) ∙ names_nothing (slice_get (empty_slots (slots size)) slot) (each_empty (slots size) slot)
    | inr past ↦ ap (λ (page : Page). named_in (Some page) slot) (pointer_past size relations sized are k past)
  ]

  no_rows : (relation sequence : ℕ) → data_of new_view relation sequence ≡ None
  no_rows relation sequence = and_then_none (λ (pointer : ℕ). named_in (new_view pointer) (sequence % slots size)) (pointer_of new_view relation (sequence / slots size)) (λ pointer. nothing_named pointer (sequence % slots size))

  -- No state is other than active.
  all_active : (page place : ℕ) (state : State) → state_in (new_view page) place ≡ Some state → state ≡ Active
  all_active zero place state at = absurd (none-some state at)
  all_active (suc zero) place state at = absurd (none-some state at)
  all_active (suc (suc zero)) place state at = each_active (tip_numbers size) place state at
  all_active (suc (suc (suc k))) place state at = absurd (elim (cases_lt k (length relations)) [
    | inl below ↦ none-some state (sym (ap (λ (page : Page). state_in (Some page) place) (pointer_at size relations sized are k below)) ∙ at)
    | inr past ↦ none-some state (sym (ap (λ (page : Page). state_in (Some page) place) (pointer_past size relations sized are k past)) ∙ at)
  ])

  active : AreActive new_view
  active page place state at = ap is_active_state (all_active page place state at)

  -- The new pages are taken.
  taken_below : (page : ℕ) → page < page_count relations → is_taken new_view page ≡ true
  taken_below page below =
      let few : page < inventory_bits size = omega (arith, are.few, long_page size sized) in
      let first : page / inventory_bits size ≡ 0 = div_none page (inventory_bits size) few in
      let place : page % inventory_bits size ≡ page = mod-eq_of_lt few in
      ap is_marked
      (ap (λ (sequence : ℕ). option_and_then (λ (inventory : ℕ). mark_in (new_view inventory) (page % inventory_bits size)) (if nat_lt sequence 1 then Some (inventory_page size sequence) else None)) first
      ∙ ap (slice_get (taken_first (page_count relations) (inventory_bits size - page_count relations))) place
      ∙ first_taken (page_count relations) (inventory_bits size - page_count relations) page below)
    where
      div_none : (m n : ℕ) → m < n → m / n ≡ 0
      div_none m n below = grind arith

  role_shown : (relation : ℕ) → shows_role (PointerRole relation 0) (3 + relation) (Some (pointer_page size relation)) ≡ true
  role_shown relation = grind (arith, nat_tests)

  pointers_fit : (number sequence page : ℕ) (relation : Relation) → slice_get (new_entries 3 relations) number ≡ Some relation → slice_get relation.pointers sequence ≡ Some page → HasRole new_view (PointerRole number sequence) page
  pointers_fit number sequence page relation at named =
      let its = new_entry_at 3 relations number relation at in
      let below : number < length relations = slice_get_within relations number its.relation its.found in
      let one = only (3 + number) sequence page (ap (λ (e : Relation). slice_get e.pointers sequence) its.is ∙ named) in
      let first : sequence ≡ 0 = one.0 in
      let there : 3 + number ≡ page = one.1 in
      let shows : shows_role (PointerRole number 0) (3 + number) (new_view (3 + number)) ≡ true =
      ap (shows_role (PointerRole number 0) (3 + number)) (pointer_shown number below) ∙ role_shown number in
      rw (first, ← there) (record { shows = shows; taken = taken_below (3 + number) (omega arith) })

  -- The pages that the new header names have their roles.
  pub NamesFit-new : NamesFit new_view (new_header size relations)
  NamesFit-new = record {
    stands = refl;
    first = record { shows = refl; taken = taken_below 0 (omega arith) };
    inventories = λ sequence below.
        let first : sequence ≡ 0 = omega arith in
        rw first (record { shows = refl; taken = taken_below 1 (omega arith) });
    tips = λ sequence page named.
        let one = only 2 sequence page named in
        rw (one.0, ← one.1) (record { shows = refl; taken = taken_below 2 (omega arith) });
    pointers = pointers_fit;
  }

  pub IsSound-new : IsSound new_view
  IsSound-new = IsSound-rowless new_view no_rows (new_header size relations) NamesFit-new active

  pub MeanTheSame-new : MeanTheSame (meaning_of new_view) empty
  MeanTheSame-new = MeanTheSame-rowless new_view no_rows active

  -- The new file is sound, however far its device reaches.
  pub IsSoundFile-new : (reach : ℕ) (bytes : List ℕ) → IsNewFile size relations bytes → IsSoundFile reach bytes new_view
  IsSoundFile-new reach bytes is = record {
    shape = shape_of reach (new_header size relations);
    file = IsFile-pages reach (new_header size relations) (drop 1 (new_pages size relations)) bytes sized (record {
      length_is = is.length_is;
      each = λ number below. record {
        spelled = same_spelling (new_shape size relations) (shape_of reach (new_header size relations)) (slice_index_or (new_pages size relations) number kind.Blank) (page_bytes size bytes number) refl (λ i small. refl) (is.each number below).spelled;
        stands = (is.each number below).stands;
      };
    });
    sound = IsSound-new;
  }
