-- The bytes in a page's place show one page or none, and so the bytes of a file give one view.
use Rattle.std.proofs.Common.{◌≡◌, ◌<◌, ◌≤◌, ◌-◌, ◌*◌, ◌==◌, ℕ, zero, suc, Bool, true, false, List, length, replicate, Option, None, Some, refl, sym, subst, ap, ◌∙◌, inl, inr, if◌then◌else◌, arith}
use Rattle.std.specs.Prelude.{slice_index}
use Rattle.fbc_kinds.specs.declared.pages.Page.{Page}
use Rattle.fbc_kinds.specs.declared.pages.Page.TheVariants as kind
use Rattle.fbc_kinds.specs.declared.rules.Rule.{Rule}
use Rattle.fbc_kinds.specs.declared.rules.Rule.TheVariants as rule
use Rattle.fbc_kinds.specs.declared.shapes.Shape.{Shape}
use Rattle.fbc_kinds.specs.File.{IsViewOf, Shows, ShowsPage, page_bytes}
use Rattle.fbc_kinds.specs.Head.{is_zeros, relation_in}
use Rattle.fbc_kinds.specs.HeaderSpelling.{broken_header}
use Rattle.fbc_kinds.specs.Limits.{IsPageSize, slots}
use Rattle.fbc_kinds.specs.Spelling.{broken_blank, broken_first_page, first_broken_rule, listed_length}
use Rattle.fbc_kinds.specs.View.{View}
use Rattle.fbc_kinds.proofs.Heads.{zeros-is_zeros}
use Rattle.fbc_kinds.proofs.Tests.{test_of_different, test_of_same}
use Rattle.fbc_spelling.proofs.ByteLists.{are_bytes, bytes_from_test, length-page_bytes, test_of_bytes}
use Rattle.fbc_spelling.proofs.DataRead.{data_in, data_spelled}
use Rattle.fbc_spelling.proofs.HeaderRead.{header_in, header_spelled}
use Rattle.fbc_spelling.proofs.InventoryRead.{inventory_in, inventory_spelled}
use Rattle.fbc_spelling.proofs.KindBytes.{relation_in-data}
use Rattle.fbc_spelling.proofs.NumberTests.{data_numbers, data_numbers_pass, spells_data_numbers}
use Rattle.fbc_spelling.proofs.PointerRead.{pointer_in, pointer_spelled}
use Rattle.fbc_spelling.proofs.Shows.{code_of, one_shown, rule_by, shown_code, unbroken_shown}
use Rattle.fbc_spelling.proofs.SmallBytes.{blank_small, header_small, inventory_small, pointer_small, tip_small}
use Rattle.fbc_spelling.proofs.TipRead.{tip_in, tip_spelled}

-- What a page of one of the five sizes has room for.
record HasRoom (size : ℕ) : Type 0 where
  pub header : 400 ≤ size
  pub whole_slots : 4 * slots size ≡ size - 16

has_room : (size : ℕ) → IsPageSize size → HasRoom size
has_room size (inl is) = rw is (record { header = omega arith; whole_slots = refl })
has_room size (inr (inl is)) = rw is (record { header = omega arith; whole_slots = refl })
has_room size (inr (inr (inl is))) = rw is (record { header = omega arith; whole_slots = refl })
has_room size (inr (inr (inr (inl is)))) = rw is (record { header = omega arith; whole_slots = refl })
has_room size (inr (inr (inr (inr is)))) = rw is (record { header = omega arith; whole_slots = refl })

-- The tests of a header's number and of a blank page.
first_page : (size number : ℕ) (bytes : List ℕ) → broken_first_page size number bytes ≡ None → ((number == 0) ≡ true) × (broken_header size bytes ≡ None)
first_page size number bytes unbroken = go (number == 0) refl unbroken
  where
    go : (b : Bool) → (number == 0) ≡ b → (if b then broken_header size bytes else Some rule.Kind) ≡ None → ((number == 0) ≡ true) × (broken_header size bytes ≡ None)
    go true first none = (first, none)
    go false first none = cc

all_zeros : (b : Bool) → (if b then None else Some rule.Kind) ≡ None → b ≡ true
all_zeros true none = refl
all_zeros false none = cc

-- Whether the numbers of which these bytes are made are bytes, as far as a page of the kind of this code needs it: values
-- in data pages are any numbers.
abbrev exact_by : Shape → List ℕ → ℕ → Bool
exact_by shape bytes code = if code == 5 then spells_data_numbers shape.size (listed_length shape (relation_in bytes)) bytes else are_bytes bytes

-- Bytes that show a page pass the test.
exact : (shape : Shape) (number : ℕ) (bytes : List ℕ) (page : Page) → ShowsPage shape number bytes page → exact_by shape bytes (code_of page) ≡ true
exact shape number bytes (kind.Header h) s = test_of_bytes bytes (header_small shape.size h bytes s.spelled)
exact shape number bytes (kind.Inventory i) s = test_of_bytes bytes (inventory_small shape.size i bytes s.spelled)
exact shape number bytes (kind.Tip t) s = test_of_bytes bytes (tip_small shape.size t bytes s.spelled)
exact shape number bytes (kind.Pointer p) s = test_of_bytes bytes (pointer_small shape.size p bytes s.spelled)
exact shape number bytes (kind.Data d) s =
    let own : d.relation ≡ relation_in bytes = sym (relation_in-data shape.size (listed_length shape d.relation) d bytes s.spelled) in
    let P : ℕ → Type 0 = λ relation. spells_data_numbers shape.size (listed_length shape relation) bytes ≡ true in
    subst P own (data_numbers_pass shape.size (listed_length shape d.relation) d bytes s.spelled)
exact shape number bytes kind.Blank s = test_of_bytes bytes (blank_small shape.size bytes s.spelled)

module _ (shape : Shape) (number : ℕ) (bytes : List ℕ) (size : IsPageSize shape.size) (long : length bytes ≡ shape.size) where
  -- A page that these bytes show.
  abbrev IsShown : Type 0
  IsShown = (page : Page) × ShowsPage shape number bytes page

  room : HasRoom shape.size
  room = has_room shape.size size

  own : (number == number) ≡ true
  own = test_of_same number number refl

  blank : broken_blank bytes ≡ None → IsShown
  blank unbroken =
      let zeros = zeros-is_zeros bytes (all_zeros (is_zeros bytes) unbroken) in
      (kind.Blank, record { spelled = zeros ∙ ap (λ n. replicate n 0) long; stands = refl })

  -- A page of no kind is judged as a blank one.
  no_kind : (code : ℕ) → 5 < code → rule_by shape number bytes code ≡ None → broken_blank bytes ≡ None
  no_kind code past unbroken =
      rw (
        test_of_different code 1 (omega arith),
        test_of_different code 2 (omega arith),
        test_of_different code 3 (omega arith),
        test_of_different code 4 (omega arith),
        test_of_different code 5 (omega arith),
      ) at unbroken

  -- Bytes that break no rule and pass the test show a page.
  shown_by : (code : ℕ) → rule_by shape number bytes code ≡ None → exact_by shape bytes code ≡ true → IsShown
  shown_by zero unbroken passes = blank unbroken
  shown_by (suc zero) unbroken passes =
      let first = first_page shape.size number bytes unbroken in
      (kind.Header (header_in shape.size bytes), record { spelled = header_spelled shape.size bytes room.header (bytes_from_test bytes passes) long first.1; stands = first.0 })
  shown_by (suc (suc zero)) unbroken passes =
      (kind.Inventory (inventory_in number bytes), record { spelled = inventory_spelled shape.size number bytes (omega (arith, room.header)) (bytes_from_test bytes passes) long unbroken; stands = own })
  shown_by (suc (suc (suc zero))) unbroken passes =
      (kind.Tip (tip_in number bytes), record { spelled = tip_spelled shape.size number bytes (omega (arith, room.header)) (bytes_from_test bytes passes) long unbroken; stands = own })
  shown_by (suc (suc (suc (suc zero)))) unbroken passes =
      (kind.Pointer (pointer_in number bytes), record { spelled = pointer_spelled shape.size number bytes (omega (arith, room.header)) (bytes_from_test bytes passes) long room.whole_slots unbroken; stands = own })
  shown_by (suc (suc (suc (suc (suc zero))))) unbroken passes =
      let greatest : ℕ = listed_length shape (relation_in bytes) in
      let numbers = data_numbers shape.size greatest bytes passes in
      (kind.Data (data_in shape.size greatest number bytes), record { spelled = data_spelled shape.size greatest number bytes (omega (arith, room.header)) numbers.of_head numbers.of_cells long unbroken; stands = own })
  shown_by (suc (suc (suc (suc (suc (suc n)))))) unbroken passes = blank (no_kind (suc (suc (suc (suc (suc (suc n)))))) (omega arith) unbroken)

  -- What they show: a page, or none.
  abbrev IsWhatIsShown : Type 0
  IsWhatIsShown = (page : Option Page) × Shows shape number bytes page

  by_test : first_broken_rule shape number bytes ≡ None → (b : Bool) → exact_by shape bytes (slice_index bytes 0) ≡ b → IsWhatIsShown
  by_test unbroken true passes = let shown = shown_by (slice_index bytes 0) unbroken passes in (Some shown.0, shown.1)
  by_test unbroken false fails = (
    None,
    λ page shows.
        let passes = ap (exact_by shape bytes) (shown_code shape number bytes page shows) ∙ exact shape number bytes page shows in
        let both : false ≡ true = sym fails ∙ passes in
        cc,
  )

  pub decoded : (broken : Option Rule) → first_broken_rule shape number bytes ≡ broken → IsWhatIsShown
  decoded None is = by_test is (exact_by shape bytes (slice_index bytes 0)) refl
  decoded (Some rule) is = (None, λ page shows. let both : None ≡ Some rule = sym (unbroken_shown shape number bytes page size shows) ∙ is in cc)

module _ (shape : Shape) (bytes : List ℕ) (size : IsPageSize shape.size) where
  -- The view that bytes give.
  pub given : (view : View) × IsViewOf shape bytes view
  given =
      let at : (number : ℕ) → (page : Option Page) × Shows shape number (page_bytes shape.size bytes number) page =
      λ number. decoded shape number (page_bytes shape.size bytes number) size (length-page_bytes shape.size bytes number) _ refl in
      ((λ number. (at number).0), (λ number. (at number).1))

  same_shown : (number : ℕ) (part : List ℕ) (a b : Option Page) → Shows shape number part a → Shows shape number part b → a ≡ b
  same_shown number part None None s t = refl
  same_shown number part (Some a) (Some b) s t = ap Some (one_shown shape number part a b size s t)
  same_shown number part (Some a) None s t = absurd (t a s)
  same_shown number part None (Some b) s t = absurd (s b t)

  -- Two views that they give agree on every page.
  pub one_view : (a b : View) → IsViewOf shape bytes a → IsViewOf shape bytes b → (number : ℕ) → a number ≡ b number
  one_view a b s t number = same_shown number (page_bytes shape.size bytes number) (a number) (b number) (s number) (t number)
