-- The write of a whole page, by the bytes of each page and by the list of pages.
use Rattle.std.proofs.Common.{◌≡◌, ◌≢◌, ◌+◌, ◌*◌, ◌<◌, ◌≤◌, ◌⊎◌, ◌==◌, ℕ, Bool, true, false, List, length, take, drop, replicate, Some, max, refl, sym, ap, ◌∙◌, inl, inr, arith, rules, subst}
use Rattle.std.specs.Prelude.{Option, if◌then◌else◌}
use Rattle.std.proofs.Math.Nat.{mul-le-mul_left, mul_comm}
use Rattle.std.proofs.lemmas.Bool.{cases_lt}
use Rattle.std.proofs.lemmas.Bool.Decides.{nat_tests}
use Rattle.std.proofs.lemmas.List.{same_lists, places, length-replicate, get_or_past}
use Rattle.fbc_kinds.specs.declared.pages.Page.{Page}
use Rattle.fbc_kinds.specs.declared.pages.Page.TheVariants as kind
use Rattle.fbc_kinds.specs.declared.shapes.Shape.{Shape}
use Rattle.fbc_kinds.specs.File.{IsViewOf, ShowsPage, Shows, page_bytes}
use Rattle.fbc_kinds.specs.Padding.{padded}
use Rattle.fbc_kinds.specs.Spelling.{IsSpelling}
use Rattle.fbc_kinds.specs.View.{View}
use Rattle.fbc_kinds.proofs.Tests.{differ_from_test, same_from_test}
use Rattle.fbc_outside.specs.Bytes.{written}
use Rattle.fbc_files.specs.Pages.{ShowsPages, listed_view, view_with_page, with_page}

-- The bytes of a page have its size.
pub length-spelling : (shape : Shape) (page : Page) (bytes : List ℕ) → IsSpelling shape page bytes → length bytes ≡ shape.size
length-spelling shape (kind.Header header) bytes is = is.size_is
length-spelling shape (kind.Inventory inventory) bytes is = is.size_is
length-spelling shape (kind.Tip tip) bytes is = is.size_is
length-spelling shape (kind.Pointer pointer) bytes is = is.size_is
length-spelling shape (kind.Data versions) bytes is = is.size_is
length-spelling shape kind.Blank bytes is = ap length is ∙ length-replicate shape.size 0

-- The bytes from a place on, outside what is written.
apart : (size at from : ℕ) (image bytes : List ℕ) → length image ≡ size → (at + size ≤ from) ⊎ (from + size ≤ at) → padded size (take size (drop at (written from image bytes))) ≡ padded size (take size (drop at bytes))
apart size at from image bytes fits (inl before) = same_lists _ _ (search (rules, places)) (λ k d h. grind (arith, places))
apart size at from image bytes fits (inr behind) = same_lists _ _ (search (rules, places)) (λ k d h. grind (arith, places))

-- Two pages of different numbers are apart.
pages_apart : (size number other : ℕ) → other ≢ number → (other * size + size ≤ number * size) ⊎ (number * size + size ≤ other * size)
pages_apart size number other differ =
    elim (cases_lt other number) [
      | inl before ↦ inl (omega (arith, mul-le-mul_left size (next other number before), mul_comm size (other + 1), mul_comm size number))
      | inr not_before ↦ inr (omega (arith, mul-le-mul_left size (next number other (omega arith)), mul_comm size (number + 1), mul_comm size other))
    ]
  where
    next : (m n : ℕ) → m < n → m + 1 ≤ n
    next m n below = omega arith

pub page_elsewhere : (size number other : ℕ) (image bytes : List ℕ) → length image ≡ size → other ≢ number → page_bytes size (written (number * size) image bytes) other ≡ page_bytes size bytes other
page_elsewhere size number other image bytes fits differ = apart size (other * size) (number * size) image bytes fits (pages_apart size number other differ)

pub page_there : (size number : ℕ) (image bytes : List ℕ) → length image ≡ size → page_bytes size (written (number * size) image bytes) number ≡ image
page_there size number image bytes fits = same_lists _ _ (search (rules, places)) (λ k d h. grind (arith, places))

pub length-written : (size number : ℕ) (image bytes : List ℕ) → length image ≡ size → length (written (number * size) image bytes) ≡ max (length bytes) (size * (number + 1))
length-written size number image bytes fits = grind (arith, places)

-- Past the end there are zeros.
pub page_past : (size number : ℕ) (bytes : List ℕ) → length bytes ≤ number * size → page_bytes size bytes number ≡ replicate size 0
page_past size number bytes past = same_lists _ _ (search (rules, places)) (λ k d h. grind (arith, places))

-- Bytes give the view that their pages show, blank behind their end.
pub IsViewOf-pages : (shape : Shape) (pages : ℕ) (bytes : List ℕ) (view : View) → length bytes ≤ shape.size * pages → ((number : ℕ) → number < pages → Shows shape number (page_bytes shape.size bytes number) (view number)) → ((number : ℕ) → pages ≤ number → view number ≡ Some kind.Blank) → IsViewOf shape bytes view
IsViewOf-pages shape pages bytes view short each blank number =
    elim (cases_lt number pages) [
      | inl below ↦ each number below
      | inr past ↦
          let behind : length bytes ≤ number * shape.size = omega (arith, short, mul-le-mul_left shape.size past, mul_comm shape.size number) in
          let zeros = page_past shape.size number bytes behind in
          rw (blank number past) (record { spelled = zeros; stands = refl })
    ]

-- The bytes of a list of pages give the view of the list.
pub IsViewOf-listed : (shape : Shape) (pages : List Page) (bytes : List ℕ) → ShowsPages shape pages bytes → IsViewOf shape bytes (listed_view pages)
IsViewOf-listed shape pages bytes is = IsViewOf-pages shape (length pages) bytes (listed_view pages) (omega (arith, is.length_is)) is.each (λ number past. ap Some (get_or_past pages number kind.Blank past))

-- The write of a page puts it into the view.
pub IsViewOf-written : (shape : Shape) (number : ℕ) (page : Page) (image bytes : List ℕ) (view : View) → ShowsPage shape number image page → IsViewOf shape bytes view → IsViewOf shape (written (number * shape.size) image bytes) (view_with_page number page view)
IsViewOf-written shape number page image bytes view shows is other = either (other == number) refl
  where
    fits : length image ≡ shape.size
    fits = length-spelling shape page image shows.spelled

    either : (b : Bool) → (other == number) ≡ b → Shows shape other (page_bytes shape.size (written (number * shape.size) image bytes) other) (if b then Some page else view other)
    either true same =
        let here : other ≡ number = same_from_test other number same in
        rw (here, page_there shape.size number image bytes fits) shows
    either false differ = rw (page_elsewhere shape.size number other image bytes fits (differ_from_test other number differ)) (is other)

-- What stands in a list after a page was put into it.
pub with_page_at : (number : ℕ) (page : Page) (pages : List Page) (other : ℕ) → listed_view (with_page number page pages) other ≡ view_with_page number page (listed_view pages) other
with_page_at number page pages other = grind (arith, nat_tests, places, get_or_past {X = Page})

pub length-with_page : (number : ℕ) (page : Page) (pages : List Page) → length (with_page number page pages) ≡ max (length pages) (number + 1)
length-with_page number page pages = grind (arith, places)

most_times : (size a b : ℕ) → size * max a b ≡ max (size * a) (size * b)
most_times size a b =
    elim (cases_lt a b) [
      | inl below ↦ let most : max a b ≡ b = omega arith in let less : size * a ≤ size * b = mul-le-mul_left size (omega arith) in ap (λ n. size * n) most ∙ omega arith
      | inr above ↦ let most : max a b ≡ a = omega arith in let less : size * b ≤ size * a = mul-le-mul_left size above in ap (λ n. size * n) most ∙ omega arith
    ]

-- The write of a page puts it into the list.
pub ShowsPages-written : (shape : Shape) (number : ℕ) (page : Page) (image bytes : List ℕ) (pages : List Page) → ShowsPage shape number image page → ShowsPages shape pages bytes → ShowsPages shape (with_page number page pages) (written (number * shape.size) image bytes)
ShowsPages-written shape number page image bytes pages shows is =
    let fits : length image ≡ shape.size = length-spelling shape page image shows.spelled in
    record {
      length_is = length-written shape.size number image bytes fits
          ∙ ap (λ n. max n (shape.size * (number + 1))) is.length_is
          ∙ sym (most_times shape.size (length pages) (number + 1))
          ∙ ap (λ n. shape.size * n) (sym (length-with_page number page pages));
      each = λ other below.
          subst (λ (held : Option Page). Shows shape other (page_bytes shape.size (written (number * shape.size) image bytes) other) held) (sym (with_page_at number page pages other))
          (IsViewOf-written shape number page image bytes (listed_view pages) shows (IsViewOf-listed shape pages bytes is) other);
    }
