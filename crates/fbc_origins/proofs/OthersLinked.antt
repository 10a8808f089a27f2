-- What the newest pages link they link after an edit of what is no cell.
use Rattle.std.proofs.Common.{◌≡◌, ◌∙◌, ◌==◌, ◌≤◌, ℕ, Bool, true, false, if◌then◌else◌, Option, Some, None, refl, sym, ap, subst, arith}
use Rattle.std.specs.Prelude.{◌/◌, ◌%◌, option_and_then}
use Rattle.fbc_kinds.specs.declared.edits.Edit.{Edit}
use Rattle.fbc_kinds.specs.declared.edits.Edit.TheVariants as edit
use Rattle.fbc_kinds.specs.declared.pages.Cell.{Cell}
use Rattle.fbc_kinds.specs.declared.pages.Header.{Header}
use Rattle.fbc_kinds.specs.declared.pages.Page.{Page}
use Rattle.fbc_kinds.specs.declared.pages.Page.TheVariants as kind
use Rattle.fbc_kinds.specs.Limits.{slots}
use Rattle.fbc_kinds.specs.Reach.{DataRole, Reaches}
use Rattle.fbc_kinds.specs.Sound.{IsSound}
use Rattle.fbc_kinds.specs.View.{View, cell_at, cell_in, header_in, is_empty, named_in, next_of, pointer_of, size_of, slot_in, unless_zero}
use Rattle.fbc_kinds.proofs.EditLimits.{slice_get-set_other}
use Rattle.fbc_kinds.proofs.Tests.{differ_from_test, same_from_test}
use Rattle.fbc_page_edits.specs.Allowed.{Fits}
use Rattle.fbc_page_edits.specs.Edited.{with_page}
use Rattle.fbc_page_edits.specs.Facing.{IsLinked}
use Rattle.fbc_page_edits.proofs.Fitted.{NamesSlot, names_slot, unnames_slot}
use Rattle.fbc_page_edits.proofs.HeaderStands.{HasHeader, has_header}
use Rattle.fbc_page_edits.proofs.SameVersions.{ShowsVersions}
use Rattle.fbc_world.specs.World.{page_after}
use Rattle.fbc_legal.specs.Guards.{GuardOfEdit}
use Rattle.fbc_legal.specs.Leans.{LeansOn}
use Rattle.fbc_legal.specs.Rows.{IsEditOfRow}
use Rattle.fbc_legal.specs.Scene.{Scene, newest_at}
use Rattle.fbc_closed_cuts.specs.Growth.{GrowsInto, IsGrownHeader}
use Rattle.fbc_closed_cuts.specs.Upheld.{IsUpheld}
use Rattle.fbc_closed_cuts.proofs.Growing.{grows-self, header-grows}
use Rattle.fbc_origins.proofs.CellsAfter.{cells-left}
use Rattle.fbc_origins.specs.Owed.{leaves_cells}
use Rattle.fbc_origins.proofs.NewestFits.{newest-fits}
use Rattle.fbc_origins.proofs.PutPages.{newest-sound}
use Rattle.fbc_origins.proofs.OthersKeep.{linked-on, pointer-on, slots-left}

module _ (at : Scene) (u : IsUpheld at) (owner page : ℕ) (content : Page) where
  abbrev newest : View
  newest = newest_at at

  abbrev now : View
  now = with_page newest page content

  sound : IsSound newest
  sound = newest-sound at u

  -- Where the page is another, it stays.
  by_page : {X : Type 0} (p : ℕ) (shown : Option Page → X) → shown (Some content) ≡ shown (newest page) → shown (now p) ≡ shown (newest p)
  by_page p shown same = go (p == page) refl where
    go : (b : Bool) → p == page ≡ b → shown (if b then Some content else newest p) ≡ shown (newest p)
    go true it = same ∙ ap (λ q. shown (newest q)) (sym (same_from_test p page it))
    go false other = refl

  module _ (e : Edit) (g : GuardOfEdit at owner page e) (is : page_after at.shape at.world owner page e ≡ Some content) (leaves : leaves_cells e ≡ true) where
    fits : Fits at.shape e (newest page) content
    fits = newest-fits at u.coherent owner page e content g is

    cells_same : (p cell : ℕ) → cell_at now p cell ≡ cell_at newest p cell
    cells_same p cell = by_page p (λ o. cell_in o cell) (cells-left at.shape e (newest page) content leaves fits cell)

    -- The header grows.
    header_next : (header : Header) → newest page ≡ Some (kind.Header header) → newest 0 ≡ newest page → GrowsInto (newest page) (Some content)
    header_next header stands same =
        subst (λ o. GrowsInto o (Some content)) (sym stands)
        (by_edit e g.row leaves (subst (λ o. Fits at.shape e o content) stands fits))
      where
        next_is : next_of newest ≡ header.next
        next_is = rw (same, stands) refl

        by_edit : (any : Edit) → IsEditOfRow at owner page any → leaves_cells any ≡ true → Fits at.shape any (Some (kind.Header header)) content → GrowsInto (Some (kind.Header header)) (Some content)
        by_edit (edit.SetNext next) row plain made = header-grows at.shape header (edit.SetNext next) content refl (λ h its. no_fall h (let one : Some header ≡ Some h = its in cc)) made where
          no_fall : (h : Header) → header ≡ h → h.next ≤ next
          no_fall h same_header = grind (arith, row.2, row.3, next_is, ap (λ (x : Header). x.next) same_header)
        by_edit (edit.PutCell cell put) row plain made = cc
        by_edit (edit.ClearCell cell) row plain made = cc
        by_edit (edit.Format k p r s) row plain made = cc
        by_edit any row plain made = header-grows at.shape header any content refl tt made

    grown : GrowsInto (newest 0) (now 0)
    grown = go (0 == page) refl where
      go : (b : Bool) → 0 == page ≡ b → GrowsInto (newest 0) (if b then Some content else newest 0)
      go false other = grows-self (newest 0)
      go true it =
          let same : newest 0 ≡ newest page = ap newest (same_from_test 0 page it) in
          let header : HasHeader newest = has_header newest sound in
          subst (λ o. GrowsInto o (Some content)) (sym same) (header_next header.header (sym same ∙ header.stands) same)

    header : HasHeader newest
    header = has_header newest sound

    later : IsGrownHeader header.header (header_in (now 0))
    later = grown header.header (ap header_in header.stands)

    size_same : size_of now ≡ size_of newest
    size_same = rw (later.is, header.stands) later.grown.size

    points : (relation sequence pointer : ℕ) → pointer_of newest relation sequence ≡ Some pointer → pointer_of now relation sequence ≡ Some pointer
    points relation sequence pointer pointed = rw later.is (pointer-on header.header later.later later.grown relation sequence pointer (subst (λ o. pointer_of (λ p. o) relation sequence ≡ Some pointer) header.stands pointed))

    -- A slot that names a page with a version names it on.
    abbrev NamesOn : ℕ → ℕ → Option Page → Type 0
    NamesOn slot named shown = named_in (newest page) slot ≡ Some named → named_in shown slot ≡ Some named

    same_slots : (slot named : ℕ) → slot_in (Some content) slot ≡ slot_in (newest page) slot → NamesOn slot named (Some content)
    same_slots slot named same has = ap (option_and_then unless_zero) same ∙ has

    -- Another slot is set.
    other_slot : (place number slot : ℕ) → NamesSlot (newest page) place number content → ¬ (slot ≡ place) → slot_in (Some content) slot ≡ slot_in (newest page) slot
    other_slot place number slot names apart =
        ap (λ (p : Page). slot_in (Some p) slot) (sym names.made) ∙ slice_get-set_other names.pointer.slots place slot number apart ∙ sym (ap (λ o. slot_in o slot) names.stands)

    module _ (slot named cell : ℕ) (version : Cell) (stands : cell_at newest named cell ≡ Some version) (holds : is_empty version.flag ≡ false) where
      set_slot : (place number : ℕ) → NamesSlot (newest page) place number content → (slot ≡ place → ¬ (named_in (newest page) slot ≡ Some named)) → NamesOn slot named (Some content)
      set_slot place number names here has = go (slot == place) refl where
        go : (b : Bool) → slot == place ≡ b → named_in (Some content) slot ≡ Some named
        go true it = absurd (here (same_from_test slot place it) has)
        go false apart = same_slots slot named (other_slot place number slot names (differ_from_test slot place apart)) has

      by_edit : (any : Edit) → leaves_cells any ≡ true → LeansOn at owner page any → IsEditOfRow at owner page any → Fits at.shape any (newest page) content → NamesOn slot named (Some content)
      by_edit (edit.Name place number) plain leans row made =
          set_slot place number (names_slot at.shape place number (newest page) content made) (λ it has.
          let none : None ≡ Some named = sym (ap (option_and_then unless_zero) row) ∙ sym (ap (named_in (newest page)) it) ∙ has in cc)
      by_edit (edit.Unname place) plain leans row made =
          set_slot place 0 (unnames_slot at.shape place (newest page) content made) (λ it has.
          let empty : is_empty version.flag ≡ true = (leans named (sym (ap (named_in (newest page)) it) ∙ has)).empty.newest cell version stands in cc)
      by_edit (edit.PutCell place put) plain leans row made = cc
      by_edit (edit.ClearCell place) plain leans row made = cc
      by_edit (edit.Format k p r s) plain leans row made = cc
      by_edit any plain leans row made = same_slots slot named (slots-left at.shape any (newest page) content refl made slot)

      names_on : (pointer : ℕ) → named_in (newest pointer) slot ≡ Some named → named_in (now pointer) slot ≡ Some named
      names_on pointer has = go (pointer == page) refl where
        go : (b : Bool) → pointer == page ≡ b → named_in (if b then Some content else newest pointer) slot ≡ Some named
        go false other = has
        go true it = by_edit e leaves g.leans g.row fits (subst (λ p. named_in (newest p) slot ≡ Some named) (same_from_test pointer page it) has)

    versions_on : ShowsVersions newest now
    versions_on relation sequence named cell version v = record { named = go (pointer_of newest relation (sequence / slots (size_of newest))) refl v.named; stands = cells_same named cell ∙ v.stands; holds = v.holds } where
      go : (found : Option ℕ) → pointer_of newest relation (sequence / slots (size_of newest)) ≡ found
          → option_and_then (λ (p : ℕ). named_in (newest p) (sequence % slots (size_of newest))) found ≡ Some named → Reaches now (DataRole relation sequence) named
      go None pointed has = absurd cc
      go (Some pointer) pointed has =
          rw (size_same, points relation (sequence / slots (size_of newest)) pointer pointed)
          (names_on (sequence % slots (size_of newest)) named cell version v.stands v.holds pointer has)

    pub others-link : (back_page back_cell : ℕ) → IsLinked newest back_page back_cell → IsLinked now back_page back_cell
    others-link back_page back_cell linked = linked-on newest now sound versions_on back_page back_cell linked
