-- A file in the making is not recognised before its header is written.
use Rattle.std.proofs.Common.{◌≡◌, ◌+◌, ◌<◌, ◌≤◌, ◌==◌, ℕ, zero, suc, not, List, length, take, Some, refl, sym, ap, ◌∙◌, arith}
use Rattle.std.specs.Prelude.{Option, if◌then◌else◌, slice_index, slice_index_or}
use Rattle.std.proofs.Math.Nat.{mul-le-mul_left}
use Rattle.std.proofs.lemmas.Bool.Decides.{nat_tests}
use Rattle.std.proofs.lemmas.List.{get_or-replicate, get_or-take}
use Rattle.fbc_kinds.specs.declared.pages.Page.{Page}
use Rattle.fbc_kinds.specs.declared.pages.Page.TheVariants as kind
use Rattle.fbc_kinds.specs.declared.rules.Rule.{Rule}
use Rattle.fbc_kinds.specs.declared.rules.Rule.TheVariants as rule
use Rattle.fbc_kinds.specs.File.{ShowsPage, page_bytes}
use Rattle.fbc_kinds.specs.Head.{broken_head, or_else}
use Rattle.fbc_kinds.specs.HeaderSpelling.{as_recognised, broken_content, broken_file, broken_front, broken_length, page_size_in}
use Rattle.fbc_kinds.specs.Limits.{IsPageSize, is_page_size}
use Rattle.fbc_kinds.proofs.ShapeReading.{broken_file-long}
use Rattle.fbc_files.specs.declared.relations.NewRelation.{NewRelation}
use Rattle.fbc_files.specs.Creating.{new_shape, written_pages}
use Rattle.fbc_files.specs.NewPages.{new_pages, page_count}
use Rattle.fbc_files.specs.Pages.{ShowsPages}
use Rattle.fbc_files.proofs.FirstPage.{first_bytes}
use Rattle.fbc_files.proofs.Making.{ArePartial-written, written_pages-all}
use Rattle.fbc_files.proofs.NewFits.{length-new_pages}
use Rattle.fbc_files.proofs.Recognition.{long_page}

pub written_whole : (size : ℕ) (relations : List NewRelation) → written_pages (new_pages size relations) (page_count relations) ≡ new_pages size relations
written_whole size relations =
    let count : length (new_pages size relations) ≡ page_count relations = length-new_pages size relations in
    let long : length (new_pages size relations) ≡ suc (2 + length relations) = omega (arith, count) in
    ap (written_pages (new_pages size relations)) (sym count) ∙ written_pages-all (new_pages size relations) (2 + length relations) long

-- A first byte that is 0 is of no kind.
no_kind : (byte : ℕ) (rest : Option Rule) → byte ≡ 0 → (if not (byte == 1) then Some rule.Kind else rest) ≡ Some rule.Kind
no_kind byte rest is = rw is refl

broken_first : (head rest : Option Rule) → head ≡ Some rule.Kind → or_else (as_recognised head) rest ≡ Some rule.Kind
broken_first head rest is = rw is refl

blank_is_broken : (first : List ℕ) (bytes : ℕ) → 1024 ≤ bytes → slice_index first 0 ≡ 0 → broken_file first bytes ≡ Some rule.Kind
blank_is_broken first bytes long zero_first =
    broken_file-long first bytes long
    ∙ broken_first (broken_head 1 0 first) (or_else (broken_front (is_page_size (page_size_in first)) first) (or_else (broken_length (page_size_in first) bytes) (broken_content (page_size_in first) first))) (no_kind (slice_index first 0) _ zero_first)

module _ (size : ℕ) (relations : List NewRelation) (sized : IsPageSize size) where
  blank_front : (held : List Page) (bytes : List ℕ) → 1 ≤ length held → slice_index_or held 0 kind.Blank ≡ kind.Blank → ShowsPages (new_shape size relations) held bytes → broken_file (take 1024 bytes) (length bytes) ≡ Some rule.Kind
  blank_front held bytes some front is =
      let wide : 1024 ≤ size = long_page size sized in
      let long : size ≤ length bytes = omega (arith, is.length_is, mul-le-mul_left size some) in
      let shown : ShowsPage (new_shape size relations) 0 (page_bytes size bytes 0) kind.Blank = rw front at (is.each 0 (omega arith)) in
      let first : slice_index (take 1024 bytes) 0 ≡ 0 =
      ap (λ (xs : List ℕ). slice_index xs 0) (sym (first_bytes size bytes wide (omega (arith, wide, long))))
      ∙ (get_or-take 1024 (page_bytes size bytes 0) 0 0 (omega arith)
      ∙ (ap (λ (xs : List ℕ). slice_index xs 0) shown.spelled
      ∙ get_or-replicate size 0 0 0 (omega arith))) in
      blank_is_broken (take 1024 bytes) (length bytes) (omega arith) first

some_writes : (count : ℕ) → (if suc count == 0 then rule.Short else rule.Kind) ≡ rule.Kind
some_writes count = grind (arith, nat_tests)

pub not_recognised : (size count : ℕ) (relations : List NewRelation) (bytes : List ℕ) → IsPageSize size → count < page_count relations → ShowsPages (new_shape size relations) (written_pages (new_pages size relations) count) bytes → broken_file (take 1024 bytes) (length bytes) ≡ Some (if count == 0 then rule.Short else rule.Kind)
not_recognised size zero relations bytes sized below is =
    let none : length bytes ≡ 0 = is.length_is ∙ omega arith in
    rw none refl
not_recognised size (suc count) relations bytes sized below is =
    let part = ArePartial-written (new_pages size relations) (suc count) (omega (arith, length-new_pages size relations)) in
    blank_front size relations sized (written_pages (new_pages size relations) (suc count)) bytes (omega (arith, part.some (omega arith))) part.front is ∙ ap Some (sym (some_writes count))
