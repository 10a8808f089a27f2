-- Two views that differ in one cell of a data page: what they name and show is the same but for that cell.
use Rattle.std.proofs.Common.{◌≡◌, ◌∙◌, ◌==◌, ◌/◌, ◌<◌, ℕ, Bool, true, false, ◌⊎◌, inl, inr, refl, sym, ap, subst}
use Rattle.std.specs.Prelude.{Option, Some, if◌then◌else◌, slice_set, length}
use Rattle.fbc_kinds.specs.declared.pages.Cell.{Cell}
use Rattle.fbc_kinds.specs.declared.pages.Data.{Data}
use Rattle.fbc_kinds.specs.declared.pages.Page.{Page}
use Rattle.fbc_kinds.specs.declared.pages.Page.TheVariants as kind
use Rattle.fbc_kinds.specs.Chain.{cells_of}
use Rattle.fbc_kinds.specs.Reach.{Role, HeaderRole, InventoryRole, TipRole, PointerRole, DataRole, Reaches, shows_role}
use Rattle.fbc_kinds.specs.View.{View, cell_at, cell_in, data_of, header_in, is_taken, mark_in, next_of, slot_in, state_in}
use Rattle.fbc_kinds.proofs.EditLimits.{slice_get-set_other, slice_get-set_same}
use Rattle.fbc_kinds.specs.DataSpelling.{empty_cell}
use Rattle.fbc_kinds.specs.declared.shapes.Shape.{Shape}
use Rattle.fbc_kinds.proofs.Heads.{both_pass}
use Rattle.fbc_kinds.proofs.Tests.{differ_from_test, same_from_test}
use Rattle.std.proofs.lemmas.Bool.{ltb-true}
use Rattle.std.proofs.lemmas.Option.{same_Some}
use Rattle.fbc_page_edits.proofs.Changed.{changed_here, read_alike}
use Rattle.fbc_page_edits.proofs.Fitted.{given_some}
use Rattle.fbc_page_edits.proofs.SameNames.{HaveSameNames, same_cells_of, same_next, same_page_for, same_states, same_taken}
use Rattle.fbc_version_edits.specs.Differences.{IsPlace}
use Rattle.fbc_version_edits.specs.Puts.{IsClearIn, IsPutIn}
use Rattle.fbc_page_edits.specs.Alike.{HaveSameStates}
use Rattle.fbc_page_edits.specs.Edited.{with_page}

pub record IsOneCell (before after : View) (page cell : ℕ) (old new : Cell) : Type 0 where
  pub names : HaveSameNames before after
  pub taken : (other : ℕ) → is_taken after other ≡ is_taken before other
  pub shows : (role : Role) (other : ℕ) → shows_role role other (after other) ≡ shows_role role other (before other)
  pub states : (other place : ℕ) → state_in (after other) place ≡ state_in (before other) place
  pub was : cell_at before page cell ≡ Some old
  pub is : cell_at after page cell ≡ Some new
  pub others : (other place : ℕ) → ¬ IsPlace page cell other place → cell_at after other place ≡ cell_at before other place

-- States of numbers, and how many cells a data page has.
module _ {before after : View} {page cell : ℕ} {old new : Cell} (one : IsOneCell before after page cell old new) where
  pub next_same : next_of after ≡ next_of before
  next_same = same_next before after one.names

  pub state_same : HaveSameStates before after
  state_same number = same_states before after one.names one.states number

  pub cells_same : (relation : ℕ) → cells_of after relation ≡ cells_of before relation
  cells_same relation = same_cells_of before after one.names relation

  -- A row has its place in both views.
  pub data_same : (relation row : ℕ) → data_of after relation (row / cells_of after relation) ≡ data_of before relation (row / cells_of before relation)
  data_same relation row = ap (λ n. data_of after relation (row / n)) (cells_same relation) ∙ same_page_for before after one.names (DataRole relation (row / cells_of before relation))

  pub is_new : (other place : ℕ) (version : Cell) → IsPlace page cell other place → cell_at after other place ≡ Some version → version ≡ new
  is_new other place version at stands = same_Some version new (sym stands ∙ ap (λ n. cell_at after n place) at.0 ∙ ap (cell_at after page) at.1 ∙ one.is)

  pub is_old : (other place : ℕ) (version : Cell) → IsPlace page cell other place → cell_at before other place ≡ Some version → version ≡ old
  is_old other place version at stands = same_Some version old (sym stands ∙ ap (λ n. cell_at before n place) at.0 ∙ ap (cell_at before page) at.1 ∙ one.was)

  pub new_stands : (other place : ℕ) → IsPlace page cell other place → cell_at after other place ≡ Some new
  new_stands other place at = ap (λ n. cell_at after n place) at.0 ∙ ap (cell_at after page) at.1 ∙ one.is

  pub old_stands : (other place : ℕ) → IsPlace page cell other place → cell_at before other place ≡ Some old
  old_stands other place at = ap (λ n. cell_at before n place) at.0 ∙ ap (cell_at before page) at.1 ∙ one.was

  pub reached_before : (role : Role) (other : ℕ) → Reaches after role other → Reaches before role other
  reached_before role other e = sym (same_page_for before after one.names role) ∙ e

  pub reached_after : (role : Role) (other : ℕ) → Reaches before role other → Reaches after role other
  reached_after role other e = same_page_for before after one.names role ∙ e

-- A cell is this one or another.
pub here_or_not : (page cell other place : ℕ) → IsPlace page cell other place ⊎ ¬ IsPlace page cell other place
here_or_not page cell other place = go (other == page) refl (place == cell) refl
  where
    go : (a : Bool) → (other == page) ≡ a → (b : Bool) → (place == cell) ≡ b → IsPlace page cell other place ⊎ ¬ IsPlace page cell other place
    go true is true also = inl (same_from_test other page is, same_from_test place cell also)
    go true is false also = inr (λ at. differ_from_test place cell also at.1)
    go false is b also = inr (λ at. differ_from_test other page is at.0)

module _ (view : View) (number : ℕ) (data_page : Data) (stands : view number ≡ Some (kind.Data data_page)) (cell : ℕ) (old new : Cell)
    (was : cell_at view number cell ≡ Some old) (inside : cell < length data_page.cells) where
  abbrev changed : Page
  changed = kind.Data (record data_page { cells = slice_set data_page.cells cell new })

  abbrev later : View
  later = with_page view number changed

  each : {X : Type 0} (shown : ℕ → Option Page → X) → shown number (Some changed) ≡ shown number (Some (kind.Data data_page)) → (other : ℕ) → shown other (later other) ≡ shown other (view other)
  each shown same other = read_alike view number changed shown (same ∙ sym (ap (shown number) stands)) other

  role_same : (role : Role) → shows_role role number (Some changed) ≡ shows_role role number (Some (kind.Data data_page))
  role_same HeaderRole = refl
  role_same (InventoryRole sequence) = refl
  role_same (TipRole sequence) = refl
  role_same (PointerRole relation sequence) = refl
  role_same (DataRole relation sequence) = refl

  here : cell_at later number cell ≡ Some new
  here =
      ap (λ o. cell_in o cell) (changed_here view number changed)
      ∙ slice_get-set_same data_page.cells cell new inside

  elsewhere : (other place : ℕ) → ¬ ((other ≡ number) × (place ≡ cell)) → cell_at later other place ≡ cell_at view other place
  elsewhere other place differ = go (other == number) refl
    where
      go : (b : Bool) → (other == number) ≡ b → cell_in (if b then Some changed else view other) place ≡ cell_in (view other) place
      go true is =
          let same = same_from_test other number is in
          slice_get-set_other data_page.cells cell place new (λ e. differ (same, e)) ∙ sym (ap (λ n. cell_in (view n) place) same ∙ ap (λ o. cell_in o place) stands)
      go false is = refl

  pub one_cell_of : IsOneCell view later number cell old new
  one_cell_of =
      let names : HaveSameNames view later = record { header = each (λ n o. header_in o) refl 0; slots = λ page slot. each (λ n o. slot_in o slot) refl page } in
      record {
        names = names;
        taken = same_taken view later names (λ page place. each (λ n o. mark_in o place) refl page);
        shows = λ role other. each (λ n o. shows_role role n o) (role_same role) other;
        states = λ other place. each (λ n o. state_in o place) refl other;
        was = was;
        is = here;
        others = elsewhere;
      }

-- A put and a clear change one cell.
pub one_cell_put : {shape : Shape} {view : View} {number cell : ℕ} {old new : Cell} {content : Page} → IsPutIn shape view number cell new content → cell_at view number cell ≡ Some old
    → IsOneCell view (with_page view number content) number cell old new
one_cell_put {view = view} {number = number} {cell = cell} {old = old} {new = new} {content = content} put was =
    let made = given_some _ _ content put.fits in
    let inside : cell < length put.page.cells = ltb-true _ _ (both_pass _ _ made.0).0 in
    subst (λ (p : Page). IsOneCell view (with_page view number p) number cell old new) made.1 (one_cell_of view number put.page put.stands cell old new was inside)

pub one_cell_cleared : {shape : Shape} {view : View} {number cell : ℕ} {old : Cell} {content : Page} → IsClearIn shape view number cell content → cell_at view number cell ≡ Some old
    → IsOneCell view (with_page view number content) number cell old empty_cell
one_cell_cleared {view = view} {number = number} {cell = cell} {old = old} {content = content} clear was =
    let made = given_some _ _ content clear.fits in
    let inside : cell < length clear.page.cells = ltb-true _ _ made.0 in
    subst (λ (p : Page). IsOneCell view (with_page view number p) number cell old empty_cell) made.1 (one_cell_of view number clear.page clear.stands cell old empty_cell was inside)
