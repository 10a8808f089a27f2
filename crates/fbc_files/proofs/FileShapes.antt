-- The view of a recognised file is of the shape that the file shows.
use Rattle.std.proofs.Common.{◌≡◌, ◌<◌, ◌≤◌, ◌==◌, ℕ, Bool, true, false, List, length, take, Option, Some, None, refl, sym, subst, ◌∙◌, arith}
use Rattle.std.specs.Prelude.{not, nat_lt, slice_get}
use Rattle.std.specs.Option.{option_and_then}
use Rattle.std.proofs.lemmas.Bool.Decides.{nat_tests}
use Rattle.std.proofs.lemmas.Option.{get_or_from_slice_get, none-some, same_Some, slice_get_within}
use Rattle.fbc_kinds.specs.declared.pages.Header.{Header}
use Rattle.fbc_kinds.specs.declared.pages.Page.{Page}
use Rattle.fbc_kinds.specs.declared.pages.Page.TheVariants as kind
use Rattle.fbc_kinds.specs.declared.pages.Relation.{Relation}
use Rattle.fbc_kinds.specs.declared.rules.Rule.TheVariants as rule
use Rattle.fbc_kinds.specs.declared.shapes.Shape.{Shape}
use Rattle.fbc_kinds.specs.DataSpelling.{IsData}
use Rattle.fbc_kinds.specs.Edits.{IsShape, IsWithinLimits, value_length}
use Rattle.fbc_kinds.specs.File.{IsFile, Shows, page_bytes}
use Rattle.fbc_kinds.specs.HeaderSpelling.{HasShape, IsHeader, IsFileShape, ShowsShape, SpellsHeader, broken_file, entry_at, has_bad_value, page_size_in, relation_count_in, value_length_in}
use Rattle.fbc_kinds.specs.Head.{is_within}
use Rattle.fbc_kinds.specs.Limits.{IsPageSize, value_limit}
use Rattle.fbc_kinds.specs.Spelling.{IsSpelling, listed_length}
use Rattle.fbc_kinds.specs.View.{View, header_in}
use Rattle.fbc_kinds.proofs.AnyBelow.{any_below-fails}
use Rattle.fbc_kinds.proofs.HeaderRules.{other_branch}
use Rattle.fbc_kinds.proofs.Heads.{true_from_not}
use Rattle.fbc_kinds.proofs.ShapeReading.{ContentPasses, StartPasses, broken_file-long, content_passes, start_passes}
use Rattle.fbc_kinds.proofs.Tests.{same_from_test}
use Rattle.fbc_page_edits.specs.Edited.{IsOfShape}
use Rattle.fbc_files.proofs.FirstPage.{first_bytes}
use Rattle.fbc_files.proofs.Recognition.{long_page}
use Rattle.fbc_files.proofs.ShownShapes.{Agrees-shown, HasShape-agrees}

-- A shape within its limits is one that a file may have.
pub IsShape-file : (shape : Shape) → IsFileShape shape → IsShape shape
IsShape-file shape is = record { size = is.size; count = is.count_to }

-- The two lengths of a relation's values agree where a relation that the shape does not have has none.
same_length : (shape : Shape) (relation : ℕ) → (shape.count ≤ relation → listed_length shape relation ≡ 0) → value_length shape relation ≡ listed_length shape relation
same_length shape relation none = grind (arith, nat_tests, none)

-- And they do for each relation of a shape within its limits.
pub same_length-file : (shape : Shape) (relation : ℕ) → IsFileShape shape → relation < 8 → value_length shape relation ≡ listed_length shape relation
same_length-file shape relation is known = same_length shape relation (λ past. get_or_from_slice_get shape.lengths relation 0 0 (is.no_lengths relation known past))

-- A file that breaks no rule is not short.
not_short : (first : List ℕ) (bytes : ℕ) → broken_file first bytes ≡ None → 1024 ≤ bytes
not_short first bytes unbroken = go (nat_lt bytes 1024) refl
  where
    go : (short : Bool) → nat_lt bytes 1024 ≡ short → 1024 ≤ bytes
    go true is = absurd (none-some rule.Short (sym unbroken ∙ rw is refl))
    go false is = grind (arith, nat_tests)

module _ (reach : ℕ) (bytes : List ℕ) (shape : Shape) (unbroken : broken_file (take 1024 bytes) (length bytes) ≡ None) (shows : ShowsShape (take 1024 bytes) reach shape) where
  long : 1024 ≤ length bytes
  long = not_short (take 1024 bytes) (length bytes) unbroken

  start : StartPasses (take 1024 bytes)
  start = start_passes (take 1024 bytes) (length bytes) (sym (broken_file-long (take 1024 bytes) (length bytes) long) ∙ unbroken)

  content : ContentPasses (page_size_in (take 1024 bytes)) (take 1024 bytes)
  content = content_passes (page_size_in (take 1024 bytes)) (take 1024 bytes) start.content

  shown_shape : IsShape shape
  shown_shape = record { size = rw shows.size start.size; count = omega (arith, shows.count, content.counts.relations_to) }

  -- A relation that the file does not have has no values.
  unused_length : (relation : ℕ) → relation < 8 → shape.count ≤ relation → listed_length shape relation ≡ 0
  unused_length relation known past =
      let first : List ℕ = take 1024 bytes in
      let entry = entry_at first relation in
      let unused : relation_count_in first ≤ relation = omega (arith, shows.count, past) in
      let fails : has_bad_value first relation ≡ false = any_below-fails (has_bad_value first) 8 content.relations.values relation known in
      let test : not (value_length_in entry == 0) ≡ false = sym (other_branch relation (relation_count_in first) (not (is_within 1 value_limit (value_length_in entry))) (not (value_length_in entry == 0)) unused) ∙ fails in
      get_or_from_slice_get shape.lengths relation (value_length_in entry) 0 (shows.lengths relation known)
      ∙ same_from_test (value_length_in entry) 0 (true_from_not (value_length_in entry == 0) test)

  -- A page that bytes of the file spell is within its limits.
  within_limits : (page : Page) (image : List ℕ) → IsSpelling shape page image → IsWithinLimits shape page
  within_limits (kind.Header h) image is = is.fits
  within_limits (kind.Inventory i) image is = is.fits
  within_limits (kind.Tip t) image is = is.fits
  within_limits (kind.Pointer p) image is = is.fits
  within_limits (kind.Data d) image is =
      let known : d.relation < 8 = is.fits.relation_fits in
      let P : ℕ → Type 0 = λ greatest. IsData shape.size greatest d in
      subst P (sym (same_length shape d.relation (unused_length d.relation known))) is.fits
  within_limits kind.Blank image is = tt

  -- The header that the first page spells has the shape.
  header_has_shape : (header : Header) → SpellsHeader shape.size header (page_bytes shape.size bytes 0) → HasShape shape header
  header_has_shape header is =
      let size : shape.size ≡ header.size = sym is.fits.page_size in
      let first = first_bytes shape.size bytes (long_page shape.size shown_shape.size) long in
      let spelled = subst (λ n. SpellsHeader n header (page_bytes shape.size bytes 0)) size is in
      HasShape-agrees header shape (subst (λ n. IsHeader n header) size is.fits)
      (Agrees-shown header (page_bytes shape.size bytes 0) (subst IsPageSize size shown_shape.size) spelled reach shape (rw first shows))

  -- So the values of each of its relations have the shape's length.
  entry_length : (header : Header) (relation : ℕ) (entry : Relation) → HasShape shape header → slice_get header.relations relation ≡ Some entry → entry.length ≡ value_length shape relation
  entry_length header relation entry has at =
      let here : relation < shape.count = omega (arith, has.count, slice_get_within header.relations relation entry at) in
      let is : listed_length shape relation ≡ entry.length = get_or_from_slice_get shape.lengths relation entry.length 0 (has.lengths relation entry at) in
      sym (same_length shape relation (λ past. absurd (omega arith)) ∙ is)

  first_entry : (page : Option Page) (relation : ℕ) (entry : Relation) → Shows shape 0 (page_bytes shape.size bytes 0) page
      → option_and_then (λ (h : Header). slice_get h.relations relation) (header_in page) ≡ Some entry → entry.length ≡ value_length shape relation
  first_entry (Some (kind.Header h)) relation entry is at = entry_length h relation entry (header_has_shape h is.spelled) at
  first_entry None relation entry is at = cc
  first_entry (Some _) relation entry is at = cc

  shown_page : (number : ℕ) (page : Option Page) (content : Page) → Shows shape number (page_bytes shape.size bytes number) page → page ≡ Some content → IsWithinLimits shape content
  shown_page number (Some page) content is at = within_limits content (page_bytes shape.size bytes number) (rw (sym (same_Some page content at)) is.spelled)
  shown_page number None content is at = cc

pub IsOfShape-file : (reach : ℕ) (bytes : List ℕ) (shape : Shape) (view : View) → IsFile reach bytes shape view → IsOfShape shape view
IsOfShape-file reach bytes shape view file = record {
  is_shape = shown_shape reach bytes shape file.unbroken file.shown;
  within = λ number content at. shown_page reach bytes shape file.unbroken file.shown number (view number) content (file.spelled number) at;
  lengths = λ relation entry at. first_entry reach bytes shape file.unbroken file.shown (view 0) relation entry (file.spelled 0) at;
}
