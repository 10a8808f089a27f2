use Rattle.std.proofs.Common.{◌≡◌, ◌<◌, ◌≤◌, ◌/◌, ◌%◌, ◌++◌, ◌∷◌, ◌==◌, ◌&&◌, ◌||◌, [], ℕ, Bool, true, false, not, nat_lt, nat_le, if◌then◌else◌, Option, Some, None, length, set, replicate, refl, sym, ap, ◌∙◌, subst, arith}
use Rattle.std.specs.Prelude.{IfOk, OnErr, Result, Ok, Err, option_and_then, slice_get}
use Rattle.std.proofs.lemmas.Bool.Decides.{nat_tests}
use Rattle.std.proofs.lemmas.List.{get_or-replicate, length-replicate, length-set, nil_from_length}
use Rattle.std.proofs.lemmas.List.Elements.{All-replicate, All-set}
use Rattle.std.proofs.lemmas.Option.{get_or_from_slice_get, same_Some, slice_get-get_or, slice_get_within}
use Rattle.std.proofs.Math.Nat.{mod-lt, zero-div, zero-mod}
use Rattle.fbc_kinds.specs.declared.edits.Edit.{Edit}
use Rattle.fbc_kinds.specs.declared.edits.Edit.TheVariants.{SetNext, AddTip, AddPointer, AddInventory, TakePage, FreePage, Mark, Name, Unname, PutCell, ClearCell, Format}
use Rattle.fbc_kinds.specs.declared.pages.Cell.{Cell}
use Rattle.fbc_kinds.specs.declared.pages.Data.{Data}
use Rattle.fbc_kinds.specs.declared.pages.Pointer.{Pointer}
use Rattle.fbc_kinds.specs.declared.pages.Flag.{Flag}
use Rattle.fbc_kinds.specs.declared.pages.Flag.TheVariants.{Empty, Primary, Deletion, Back}
use Rattle.fbc_kinds.specs.declared.pages.Header.{Header}
use Rattle.fbc_kinds.specs.declared.pages.Page.{Page}
use Rattle.fbc_kinds.specs.declared.pages.Page.TheVariants as page
use Rattle.fbc_kinds.specs.declared.pages.Relation.{Relation}
use Rattle.fbc_kinds.specs.declared.pages.State.TheVariants.{Active, Limbo}
use Rattle.fbc_kinds.specs.declared.shapes.Shape.{Shape}
use Rattle.fbc_kinds.specs.Limits.{IsPageSize, cells, inventory_bits, number_limit, pointer_limit, slots, tip_numbers}
use Rattle.fbc_kinds.specs.HeaderSpelling.{IsHeader}
use Rattle.fbc_kinds.specs.InventorySpelling.{IsInventory}
use Rattle.fbc_kinds.specs.TipSpelling.{IsTip}
use Rattle.fbc_kinds.specs.PointerSpelling.{IsPointer}
use Rattle.fbc_kinds.specs.DataSpelling.{IsCell, IsContent, IsData, IsVersion, empty_cell}
use Rattle.fbc_kinds.specs.Edits.{HasCellNumbers, IsEdit, IsShape, IsWithinLimits, Tried, applied, covers, data_formatted, given, inventory_formatted, is_version, own_marks, pointed, pointer_formatted, suits, takes_page, tip_formatted, value_length, with_entry}
use Rattle.fbc_kinds.proofs.EditLimits.{IsHeader-entry, IsHeader-inventory, IsHeader-next, IsHeader-tip, IsInventory-freed, IsInventory-taken, IsRelation-pointer, IsTip-state, below_from_test, both_hold, same_from_test, slice_get-set_same, some_from_test}

-- What is given passes the test.
given_some : (b : Bool) (p q : Page) → given b p ≡ Some q → (b ≡ true) × (p ≡ q)
given_some true p q is = (refl, same_Some p q is)
given_some false p q is = cc

-- A page that is given within its limits is within them.
kept_given : (shape : Shape) (b : Bool) (p q : Page) → given b p ≡ Some q → (b ≡ true → IsWithinLimits shape p) → IsWithinLimits shape q
kept_given shape b p q is within = let parts = given_some b p q is in subst (IsWithinLimits shape) parts.1 (within parts.0)

-- What the tests of a version tell.
back_from_test : (back_page back_cell : ℕ) → back_page ≡ 0 → (not (back_page == 0) || back_cell == 0) ≡ true → back_cell ≡ 0
back_from_test back_page back_cell none passes = grind (arith, nat_tests)

size_from_test : (greatest size : ℕ) → (nat_le 1 size && nat_le size greatest) ≡ true → (0 < size) × (size ≤ greatest)
size_from_test greatest size passes = grind (arith, nat_tests)

test_from_same : (a b : ℕ) → a ≡ b → (a == b) ≡ true
test_from_same a b same = grind (arith, nat_tests)

-- A version that passes the test is within its limits.
IsVersion-passed : (greatest : ℕ) (content : Cell) → HasCellNumbers content → is_version greatest content ≡ true → IsVersion content
IsVersion-passed greatest content small passes =
    let front = both_hold (suits content.flag greatest (length content.value) && not (content.number == 0)) (not (content.back_page == 0) || content.back_cell == 0) passes in
    let numbered = both_hold (suits content.flag greatest (length content.value)) (not (content.number == 0)) front.0 in
    record {
      numbered = some_from_test content.number numbered.1;
      number_fits = small.number_fits;
      back_page_fits = small.back_page_fits;
      back_cell_fits = small.back_cell_fits;
      back = λ none. back_from_test content.back_page content.back_cell none front.1;
    }

IsContent-suited : (flag : Flag) (greatest : ℕ) (content : Cell) → IsVersion content → suits flag greatest (length content.value) ≡ true → IsContent flag greatest content
IsContent-suited Empty greatest content version suited = cc
IsContent-suited Primary greatest content version suited = let size = size_from_test greatest (length content.value) suited in (version, size.0, size.1)
IsContent-suited Deletion greatest content version suited = (version, nil_from_length content.value (same_from_test (length content.value) 0 suited))
IsContent-suited Back greatest content version suited = let size = size_from_test greatest (length content.value) suited in (version, size.0, size.1)

pub IsCell-version : (greatest : ℕ) (content : Cell) → HasCellNumbers content → is_version greatest content ≡ true → IsCell greatest content
IsCell-version greatest content small passes =
    let front = both_hold (suits content.flag greatest (length content.value) && not (content.number == 0)) (not (content.back_page == 0) || content.back_cell == 0) passes in
    let suited = both_hold (suits content.flag greatest (length content.value)) (not (content.number == 0)) front.0 in
    IsContent-suited content.flag greatest content (IsVersion-passed greatest content small passes) suited.0

-- A header with one more pointer page keeps its limits.
kept_pointed : (shape : Shape) (relation number : ℕ) (header : Header) (entry : Relation) (after : Page) → IsHeader shape.size header → number < number_limit
    → slice_get header.relations relation ≡ Some entry → (b : Bool) → takes_page pointer_limit entry.pointers number ≡ b
    → with_entry relation header (if b then Some (record entry { pointers = entry.pointers ++ number ∷ [] }) else None) ≡ Some after → IsWithinLimits shape after
kept_pointed shape relation number header entry after is small there false fits made = cc
kept_pointed shape relation number header entry after is small there true fits made =
    let right = IsRelation-pointer number entry (is.relations relation entry there) small fits in
    subst (IsWithinLimits shape) (same_Some _ after made) (IsHeader-entry shape.size relation header entry (record entry { pointers = entry.pointers ++ number ∷ [] }) is there refl right)

kept_entry : (shape : Shape) (relation number : ℕ) (header : Header) (after : Page) → IsHeader shape.size header → number < number_limit
    → (found : Option Relation) → slice_get header.relations relation ≡ found
    → with_entry relation header (option_and_then (λ entry. pointed entry number) found) ≡ Some after → IsWithinLimits shape after
kept_entry shape relation number header after is small None there made = cc
kept_entry shape relation number header after is small (Some entry) there made =
    kept_pointed shape relation number header entry after is small there (takes_page pointer_limit entry.pointers number) refl made

-- A page inventory has as many marks, whether it covers itself or not.
length-own_marks : (n place : ℕ) (b : Bool) → length (if b then set (replicate n false) place true else replicate n false) ≡ n
length-own_marks n place true = length-set (replicate n false) place true ∙ length-replicate n false
length-own_marks n place false = length-replicate n false

-- A formatted page inventory is within its limits.
IsInventory-formatted : (size number sequence : ℕ) → IsPageSize size → number < number_limit → sequence < number_limit → (not (sequence == 0) || number == 0) ≡ true
    → IsInventory size (record { page = number; sequence = sequence; taken = own_marks size number sequence })
IsInventory-formatted size number sequence right_size small_number small_sequence fits =
    let n = inventory_bits size in
    let some : 0 < inventory_bits size = grind arith in
    let place : number % n < length (replicate n false) = omega (arith, mod-lt number some, length-replicate n false) in
    let own_mark : number / n ≡ sequence → slice_get (own_marks size number sequence) (number % n) ≡ Some true =
    λ same. let covered = test_from_same (number / n) sequence same in rw covered (slice_get-set_same (replicate n false) (number % n) true place) in
    record {
      page = small_number;
      sequence = small_sequence;
      count = length-own_marks n (number % n) (covers size sequence number);
      own = own_mark;
      header = λ first.
          let none = back_from_test sequence number first fits in
          let start : number % n ≡ 0 = ap (λ k. k % n) none ∙ zero-mod n in
          let P : ℕ → Type 0 = λ k. slice_get (own_marks size number sequence) k ≡ Some true in
          subst P start (own_mark (ap (λ k. k / n) none ∙ zero-div n ∙ sym first));
    }

-- A formatted transaction inventory page is within its limits.
IsTip-formatted : (size number sequence : ℕ) → IsPageSize size → number < number_limit → sequence < number_limit
    → IsTip size (record { page = number; sequence = sequence; states = replicate (tip_numbers size) Active })
IsTip-formatted size number sequence right_size small_number small_sequence =
    let n = tip_numbers size in
    let long = length-replicate n Active in
    let some : 0 < length (replicate (tip_numbers size) Active) = grind (arith, long) in
    record {
      page = small_number;
      sequence = small_sequence;
      count = long;
      zero = λ first. slice_get-get_or (replicate n Active) 0 Active some ∙ ap Some (get_or-replicate n 0 Active Active (omega (arith, some, long)));
      state = λ i limbo.
          let inside = slice_get_within (replicate n Active) i Limbo limbo in
          let same : Active ≡ Limbo = sym (get_or-replicate n i Active Active (omega (arith, inside, long))) ∙ get_or_from_slice_get (replicate n Active) i Limbo Active limbo in
          cc;
    }

-- A formatted page is within its limits.
kept_formatted : (shape : Shape) (number relation sequence : ℕ) (after : Page) → IsShape shape → number < number_limit → sequence < number_limit
    → (two three four five : Bool)
    → (if two then inventory_formatted shape.size number sequence else if three then tip_formatted shape.size number sequence
    else if four then pointer_formatted shape number relation sequence else if five then data_formatted shape number relation sequence else None) ≡ Some after
    → IsWithinLimits shape after
kept_formatted shape number relation sequence after is small_number small_sequence true three four five made =
    kept_given shape (not (sequence == 0) || number == 0) _ after made (λ fits. IsInventory-formatted shape.size number sequence is.size small_number small_sequence fits)
kept_formatted shape number relation sequence after is small_number small_sequence false true four five made =
    subst (IsWithinLimits shape) (same_Some _ after made) (IsTip-formatted shape.size number sequence is.size small_number small_sequence)
kept_formatted shape number relation sequence after is small_number small_sequence false false true five made =
    kept_given shape (nat_lt relation shape.count) _ after made (λ fits. record {
      page_fits = small_number;
      sequence_fits = small_sequence;
      relation_fits = omega (arith, below_from_test relation shape.count fits, is.count);
      count = length-replicate (slots shape.size) 0;
      slots_fit = All-replicate (λ n. n < number_limit) (slots shape.size) 0 (omega arith);
    })
kept_formatted shape number relation sequence after is small_number small_sequence false false false true made =
    let greatest = value_length shape relation in
    kept_given shape (nat_lt relation shape.count) _ after made (λ fits. record {
      page_fits = small_number;
      sequence_fits = small_sequence;
      relation_fits = omega (arith, below_from_test relation shape.count fits, is.count);
      count = length-replicate (cells shape.size greatest) empty_cell;
      each = All-replicate (IsCell greatest) (cells shape.size greatest) empty_cell refl;
    })
kept_formatted shape number relation sequence after is small_number small_sequence false false false false made = cc

-- A pointer page keeps its limits with another number in a slot.
IsPointer-slot : (size slot number : ℕ) (pointer : Pointer) → IsPointer size pointer → number < number_limit → IsPointer size (record pointer { slots = set pointer.slots slot number })
IsPointer-slot size slot number pointer is small = record {
  page_fits = is.page_fits;
  sequence_fits = is.sequence_fits;
  relation_fits = is.relation_fits;
  count = length-set pointer.slots slot number ∙ is.count;
  slots_fit = All-set (λ n. n < number_limit) pointer.slots slot number small is.slots_fit;
}

-- A data page keeps its limits with another cell that is within them.
IsData-cell : (size greatest cell : ℕ) (content : Cell) (data_page : Data) → IsData size greatest data_page → IsCell greatest content → IsData size greatest (record data_page { cells = set data_page.cells cell content })
IsData-cell size greatest cell content data_page is right = record {
  page_fits = is.page_fits;
  sequence_fits = is.sequence_fits;
  relation_fits = is.relation_fits;
  count = length-set data_page.cells cell content ∙ is.count;
  each = All-set (IsCell greatest) data_page.cells cell content right is.each;
}

-- The page after an edit is within its limits.
pub edits_keep_limits : (shape : Shape) (edit : Edit) (before after : Page) → IsShape shape → IsEdit edit → IsWithinLimits shape before → applied shape edit before ≡ Some after → IsWithinLimits shape after
edits_keep_limits shape (SetNext next) (page.Header x) after is small within made =
    kept_given shape _ _ after made (λ fits. IsHeader-next shape.size next x within fits)
edits_keep_limits shape (SetNext next) _ after is small within made = cc
edits_keep_limits shape (AddTip number) (page.Header x) after is small within made =
    kept_given shape _ _ after made (λ fits. IsHeader-tip shape.size number x within small fits)
edits_keep_limits shape (AddTip number) _ after is small within made = cc
edits_keep_limits shape (AddPointer relation number) (page.Header x) after is small within made =
    kept_entry shape relation number x after within small (slice_get x.relations relation) refl made
edits_keep_limits shape (AddPointer relation number) _ after is small within made = cc
edits_keep_limits shape AddInventory (page.Header x) after is small within made =
    kept_given shape _ _ after made (λ fits. IsHeader-inventory shape.size x within fits)
edits_keep_limits shape AddInventory _ after is small within made = cc
edits_keep_limits shape (TakePage number) (page.Inventory x) after is small within made =
    kept_given shape _ _ after made (λ fits. IsInventory-taken shape.size number x within)
edits_keep_limits shape (TakePage number) _ after is small within made = cc
edits_keep_limits shape (FreePage number) (page.Inventory x) after is small within made =
    kept_given shape _ _ after made (λ fits. IsInventory-freed shape.size number x within fits)
edits_keep_limits shape (FreePage number) _ after is small within made = cc
edits_keep_limits shape (Mark number state) (page.Tip x) after is small within made =
    kept_given shape _ _ after made (λ fits. IsTip-state shape.size number state x is.size within fits)
edits_keep_limits shape (Mark number state) _ after is small within made = cc
edits_keep_limits shape (Name slot number) (page.Pointer x) after is small within made =
    kept_given shape _ _ after made (λ fits. IsPointer-slot shape.size slot number x within small)
edits_keep_limits shape (Name slot number) _ after is small within made = cc
edits_keep_limits shape (Unname slot) (page.Pointer x) after is small within made =
    kept_given shape _ _ after made (λ fits. IsPointer-slot shape.size slot 0 x within (omega arith))
edits_keep_limits shape (Unname slot) _ after is small within made = cc
edits_keep_limits shape (PutCell cell content) (page.Data x) after is small within made =
    let greatest = value_length shape x.relation in
    kept_given shape _ _ after made (λ fits.
    let tests = both_hold (nat_lt cell (length x.cells)) (is_version greatest content) fits in
    IsData-cell shape.size greatest cell content x within (IsCell-version greatest content small tests.1))
edits_keep_limits shape (PutCell cell content) _ after is small within made = cc
edits_keep_limits shape (ClearCell cell) (page.Data x) after is small within made =
    kept_given shape _ _ after made (λ fits. IsData-cell shape.size (value_length shape x.relation) cell empty_cell x within refl)
edits_keep_limits shape (ClearCell cell) _ after is small within made = cc
edits_keep_limits shape (Format kind number relation sequence) before after is small within made =
    kept_formatted shape number relation sequence after is small.0 small.1 (kind == 2) (kind == 3) (kind == 4) (kind == 5) made

-- An attempt at an edit leaves a page within its limits.
pub kept_tried : (shape : Shape) (edit : Edit) (old new : Page) (fits : Bool) → IsShape shape → IsEdit edit → IsWithinLimits shape old → Tried fits (applied shape edit old) old new → IsWithinLimits shape new
kept_tried shape edit old new true is small within made = edits_keep_limits shape edit old new is small within made
kept_tried shape edit old new false is small within kept = subst (IsWithinLimits shape) (sym kept.1) within

-- The same where there may be no memory for the attempt.
pub kept_result : {E : Type 0} (shape : Shape) (edit : Edit) (old new : Page) (result : Result Bool E) → IsShape shape → IsEdit edit → IsWithinLimits shape old
    → IfOk result (λ fits. Tried fits (applied shape edit old) old new) → OnErr result (new ≡ old) → IsWithinLimits shape new
kept_result shape edit old new (Ok fits) is small within ok err = kept_tried shape edit old new fits is small within ok
kept_result shape edit old new (Err e) is small within ok err = subst (IsWithinLimits shape) (sym err) within
