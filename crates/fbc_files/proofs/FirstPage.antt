-- The first bytes of a file are those of its first page.
use Rattle.std.proofs.Common.{◌≡◌, ◌+◌, ◌-◌, ◌*◌, ◌%◌, ◌<◌, ◌≤◌, ℕ, List, ◌∷◌, length, take, drop, replicate, None, refl, ap, ◌∙◌, arith}
use Rattle.std.proofs.Math.Nat.{mul-le-mul_left, mul_comm}
use Rattle.std.proofs.lemmas.List.{length-take, take-append-le, take-take}
use Rattle.std.proofs.lemmas.Nat.{mod-mul-add}
use Rattle.fbc_kinds.specs.declared.pages.Header.{Header}
use Rattle.fbc_kinds.specs.declared.pages.Page.{Page}
use Rattle.fbc_kinds.specs.declared.pages.Page.TheVariants as kind
use Rattle.fbc_kinds.specs.declared.shapes.Shape.{Shape}
use Rattle.fbc_kinds.specs.File.{IsFile, page_bytes}
use Rattle.fbc_kinds.specs.HeaderSpelling.{HasShape, IsFileShape, ShowsShape, broken_file}
use Rattle.fbc_kinds.specs.Limits.{IsPageSize}
use Rattle.fbc_kinds.specs.Padding.{padded}
use Rattle.fbc_kinds.proofs.ShapeReading.{broken_file-long}
use Rattle.fbc_files.specs.Pages.{ShowsPages, listed_view}
use Rattle.fbc_files.specs.Shapes.{BeginsWith, shape_of}
use Rattle.fbc_files.proofs.PageWrites.{IsViewOf-listed}
use Rattle.fbc_files.proofs.Recognition.{beginning_passes, long_page}
use Rattle.fbc_files.proofs.ShownShapes.{Agrees-shown, HasShape-agrees, IsFileShape-agrees, ShowsShape-shape_of, shown_limit}

pub first_bytes : (size : ℕ) (bytes : List ℕ) → 1024 ≤ size → 1024 ≤ length bytes → take 1024 (page_bytes size bytes 0) ≡ take 1024 bytes
first_bytes size bytes wide long =
    let start : 0 * size ≡ 0 = omega arith in
    ap (λ (n : ℕ). take 1024 (padded size (take size (drop n bytes)))) start
    ∙ (take-append-le 1024 (take size bytes) (replicate (size - length (take size bytes)) 0) (omega (arith, length-take size bytes))
    ∙ take-take 1024 size bytes wide)

module _ (header : Header) (bytes : List ℕ) (begins : BeginsWith header bytes) where
  long : header.size ≤ length bytes
  long = omega (arith, begins.whole, mul-le-mul_left header.size begins.some)

  first : take 1024 (page_bytes header.size bytes 0) ≡ take 1024 bytes
  first = first_bytes header.size bytes (long_page header.size begins.size) (omega (arith, long, long_page header.size begins.size))

  whole : length bytes % header.size ≡ 0
  whole =
      let wide : 0 < header.size = omega (arith, long_page header.size begins.size) in
      let same : length bytes ≡ begins.pages * header.size + 0 = omega (arith, begins.whole, mul_comm header.size begins.pages) in
      ap (λ n. n % header.size) same ∙ mod-mul-add begins.pages header.size 0 wide

  pub broken_file-begins : broken_file (take 1024 bytes) (length bytes) ≡ None
  broken_file-begins =
      broken_file-long (take 1024 bytes) (length bytes) (omega (arith, long, long_page header.size begins.size))
      ∙ rw first at (beginning_passes header (page_bytes header.size bytes 0) begins.size begins.spelled (length bytes) whole)

  pub ShowsShape-begins : (reach : ℕ) → ShowsShape (take 1024 bytes) reach (shape_of reach header)
  ShowsShape-begins reach = rw first at (ShowsShape-shape_of header (page_bytes header.size bytes 0) begins.size begins.spelled reach)

  pub IsFileShape-begins : (reach : ℕ) (shape : Shape) → ShowsShape (take 1024 bytes) reach shape → IsFileShape shape
  IsFileShape-begins reach shape shows =
      IsFileShape-agrees header shape begins.spelled.fits (Agrees-shown header (page_bytes header.size bytes 0) begins.size begins.spelled reach shape (rw first shows)) begins.size (shown_limit (take 1024 bytes) reach shape shows)

  pub HasShape-begins : (reach : ℕ) (shape : Shape) → ShowsShape (take 1024 bytes) reach shape → HasShape shape header
  HasShape-begins reach shape shows =
      HasShape-agrees header shape begins.spelled.fits (Agrees-shown header (page_bytes header.size bytes 0) begins.size begins.spelled reach shape (rw first shows))

-- Pages that begin with a header are bytes that begin with it.
pub BeginsWith-pages : (shape : Shape) (header : Header) (pages : List Page) (bytes : List ℕ) → IsPageSize header.size → shape.size ≡ header.size → ShowsPages shape (kind.Header header ∷ pages) bytes → BeginsWith header bytes
BeginsWith-pages shape header pages bytes sized size is = record {
  size = sized;
  pages = length (kind.Header header ∷ pages);
  some = omega arith;
  whole = rw size at is.length_is;
  spelled = rw size at (is.each 0 (omega arith)).spelled;
}

pub IsFile-pages : (reach : ℕ) (header : Header) (pages : List Page) (bytes : List ℕ) → IsPageSize header.size → ShowsPages (shape_of reach header) (kind.Header header ∷ pages) bytes → IsFile reach bytes (shape_of reach header) (listed_view (kind.Header header ∷ pages))
IsFile-pages reach header pages bytes sized is =
    let begins = BeginsWith-pages (shape_of reach header) header pages bytes sized refl is in
    record {
      unbroken = broken_file-begins header bytes begins;
      shown = ShowsShape-begins header bytes begins reach;
      spelled = IsViewOf-listed (shape_of reach header) (kind.Header header ∷ pages) bytes is;
    }
