-- What bytes that show a page have.
use Rattle.std.proofs.Common.{◌≡◌, ◌==◌, ℕ, get_or, List, Option, None, Some, refl, sym, subst, ap, ◌∙◌, arith, if◌then◌else◌, slice_index, replicate}
use Rattle.std.proofs.lemmas.Grind.{common_steps}
use Rattle.fbc_kinds.specs.declared.pages.Page.{Page}
use Rattle.fbc_kinds.specs.declared.pages.Page.TheVariants as kind
use Rattle.fbc_kinds.specs.declared.shapes.Shape.{Shape}
use Rattle.fbc_kinds.specs.declared.rules.Rule.{Rule}
use Rattle.fbc_kinds.specs.Limits.{IsPageSize}
use Rattle.fbc_kinds.specs.declared.rules.Rule.TheVariants as rule
use Rattle.fbc_kinds.specs.Head.{relation_in}
use Rattle.fbc_kinds.specs.HeaderSpelling.{broken_header}
use Rattle.fbc_kinds.specs.InventorySpelling.{broken_inventory}
use Rattle.fbc_kinds.specs.TipSpelling.{broken_tip}
use Rattle.fbc_kinds.specs.PointerSpelling.{broken_pointer}
use Rattle.fbc_kinds.specs.File.{ShowsPage, Shows}
use Rattle.fbc_kinds.specs.Spelling.{first_broken_rule, broken_blank, broken_first_page, listed_length}
use Rattle.fbc_kinds.specs.DataSpelling.{broken_data, SpellsData}
use Rattle.fbc_kinds.proofs.HeaderLaws.{header-one_page}
use Rattle.fbc_kinds.proofs.InventoryLaws.{inventory-one_page}
use Rattle.fbc_kinds.proofs.TipLaws.{tip-one_page}
use Rattle.fbc_cells.proofs.OnePage.{one_pointer_page, one_data_page}
use Rattle.fbc_kinds.proofs.HeaderUnbroken.{SpellsHeader-unbroken}
use Rattle.fbc_kinds.proofs.InventoryRules.{inventory-unbroken}
use Rattle.fbc_kinds.proofs.TipRules.{tip-unbroken}
use Rattle.fbc_kinds.proofs.Sizes.{has_content}
use Rattle.fbc_kinds.proofs.Heads.{is_zeros-replicate}
use Rattle.fbc_kinds.proofs.Tests.{same_from_test}
use Rattle.fbc_cells.proofs.Unbroken.{unbroken_pointer, unbroken_data}
use Rattle.fbc_spelling.proofs.KindBytes.{relation_in-data}

-- The byte that names a page's kind.
abbrev pub code_of : Page → ℕ
code_of (kind.Header h) = 1
code_of (kind.Inventory i) = 2
code_of (kind.Tip t) = 3
code_of (kind.Pointer p) = 4
code_of (kind.Data d) = 5
code_of kind.Blank = 0

first_zero : (n : ℕ) → slice_index (replicate n 0) 0 ≡ 0
first_zero n = grind (arith, common_steps)

pub shown_code : (shape : Shape) (number : ℕ) (bytes : List ℕ) (page : Page) → ShowsPage shape number bytes page → get_or bytes 0 0 ≡ code_of page
shown_code shape number bytes (kind.Header h) s = s.spelled.head.kind_is
shown_code shape number bytes (kind.Inventory i) s = s.spelled.head.kind_is
shown_code shape number bytes (kind.Tip t) s = s.spelled.head.kind_is
shown_code shape number bytes (kind.Pointer p) s = s.spelled.head.kind_is
shown_code shape number bytes (kind.Data d) s = s.spelled.head.kind_is
shown_code shape number bytes kind.Blank s = ap (λ (all : List ℕ). slice_index all 0) s.spelled ∙ first_zero shape.size

blank_unbroken : (size : ℕ) (bytes : List ℕ) → bytes ≡ replicate size 0 → broken_blank bytes ≡ None
blank_unbroken size bytes is = rw (is, is_zeros-replicate size)

-- The rule of the page whose kind has this byte.
abbrev pub rule_by : Shape → ℕ → List ℕ → ℕ → Option Rule
rule_by shape number bytes code =
    if code == 1 then broken_first_page shape.size number bytes
    else if code == 2 then broken_inventory shape.size number bytes
    else if code == 3 then broken_tip number bytes
    else if code == 4 then broken_pointer number bytes
    else if code == 5 then broken_data shape.size (listed_length shape (relation_in bytes)) number bytes
    else broken_blank bytes

-- They break no rule.
pub unbroken_shown : (shape : Shape) (number : ℕ) (bytes : List ℕ) (page : Page) → IsPageSize shape.size → ShowsPage shape number bytes page → first_broken_rule shape number bytes ≡ None
unbroken_shown shape number bytes (kind.Header h) is s =
    ap (rule_by shape number bytes) (shown_code shape number bytes (kind.Header h) s)
    ∙ ap (λ first. if first then broken_header shape.size bytes else Some rule.Kind) s.stands
    ∙ SpellsHeader-unbroken shape.size h bytes is s.spelled
unbroken_shown shape number bytes (kind.Inventory i) is s =
    ap (rule_by shape number bytes) (shown_code shape number bytes (kind.Inventory i) s)
    ∙ ap (λ n. broken_inventory shape.size n bytes) (sym (same_from_test i.page number s.stands))
    ∙ inventory-unbroken shape.size i bytes (has_content shape.size is) s.spelled
unbroken_shown shape number bytes (kind.Tip t) is s =
    ap (rule_by shape number bytes) (shown_code shape number bytes (kind.Tip t) s)
    ∙ ap (λ n. broken_tip n bytes) (sym (same_from_test t.page number s.stands))
    ∙ tip-unbroken shape.size t bytes (has_content shape.size is) s.spelled
unbroken_shown shape number bytes (kind.Pointer p) is s =
    ap (rule_by shape number bytes) (shown_code shape number bytes (kind.Pointer p) s)
    ∙ ap (λ n. broken_pointer n bytes) (sym (same_from_test p.page number s.stands))
    ∙ unbroken_pointer shape.size p bytes s.spelled
unbroken_shown shape number bytes (kind.Data d) is s =
    ap (rule_by shape number bytes) (shown_code shape number bytes (kind.Data d) s)
    ∙ ap (λ n. broken_data shape.size (listed_length shape (relation_in bytes)) n bytes) (sym (same_from_test d.page number s.stands))
    ∙ ap (λ r. broken_data shape.size (listed_length shape r) d.page bytes) (relation_in-data shape.size (listed_length shape d.relation) d bytes s.spelled)
    ∙ unbroken_data shape.size (listed_length shape d.relation) d bytes is s.spelled
unbroken_shown shape number bytes kind.Blank is s =
    ap (rule_by shape number bytes) (shown_code shape number bytes kind.Blank s)
    ∙ blank_unbroken shape.size bytes s.spelled

same_page : (shape : Shape) (number : ℕ) (bytes : List ℕ) (a b : Page) → IsPageSize shape.size → code_of a ≡ code_of b
    → ShowsPage shape number bytes a → ShowsPage shape number bytes b → a ≡ b
same_page shape number bytes (kind.Header a) (kind.Header b) is code s t = ap kind.Header (header-one_page shape.size a b bytes is s.spelled t.spelled)
same_page shape number bytes (kind.Inventory a) (kind.Inventory b) is code s t = ap kind.Inventory (inventory-one_page shape.size a b bytes s.spelled t.spelled)
same_page shape number bytes (kind.Tip a) (kind.Tip b) is code s t = ap kind.Tip (tip-one_page shape.size a b bytes s.spelled t.spelled)
same_page shape number bytes (kind.Pointer a) (kind.Pointer b) is code s t = ap kind.Pointer (one_pointer_page shape.size a b bytes s.spelled t.spelled)
same_page shape number bytes (kind.Data a) (kind.Data b) is code s t =
    let same : b.relation ≡ a.relation = sym (relation_in-data shape.size (listed_length shape b.relation) b bytes t.spelled) ∙ relation_in-data shape.size (listed_length shape a.relation) a bytes s.spelled in
    let P : ℕ → Type 0 = λ r. SpellsData shape.size (listed_length shape r) b bytes in
    ap kind.Data (one_data_page shape.size (listed_length shape a.relation) a b bytes s.spelled (subst P same t.spelled))
same_page shape number bytes kind.Blank kind.Blank is code s t = refl
same_page shape number bytes _ _ is code s t = absurd (omega arith)

-- They show one page.
pub one_shown : (shape : Shape) (number : ℕ) (bytes : List ℕ) (a b : Page) → IsPageSize shape.size
    → ShowsPage shape number bytes a → ShowsPage shape number bytes b → a ≡ b
one_shown shape number bytes a b is s t = same_page shape number bytes a b is (sym (shown_code shape number bytes a s) ∙ shown_code shape number bytes b t) s t

-- What they show is the page that they spell, or no page where they break a rule.
pub shown_is : (shape : Shape) (number : ℕ) (bytes : List ℕ) (page : Page) (shown : Option Page) → IsPageSize shape.size
    → ShowsPage shape number bytes page → Shows shape number bytes shown → shown ≡ Some page
shown_is shape number bytes page None is s shows = absurd (shows page s)
shown_is shape number bytes page (Some other) is s shows = ap Some (one_shown shape number bytes other page is shows s)

pub none_is_shown : (shape : Shape) (number : ℕ) (bytes : List ℕ) (rule : Rule) (shown : Option Page) → IsPageSize shape.size
    → first_broken_rule shape number bytes ≡ Some rule → Shows shape number bytes shown → shown ≡ None
none_is_shown shape number bytes rule None is broken shows = refl
none_is_shown shape number bytes rule (Some page) is broken shows = let both : None ≡ Some rule = sym (unbroken_shown shape number bytes page is shows) ∙ broken in cc
