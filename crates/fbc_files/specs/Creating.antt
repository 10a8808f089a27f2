-- The bytes of a new file, and those of a file in the making.
use Rattle.std.specs.Prelude.{◌≡◌, ◌⊎◌, ◌*◌, ◌≤◌, ◌==◌, if◌then◌else◌, ℕ, zero, suc, true, List, [], length, slice_index_or, Option, Some, None}
use Rattle.fbc_kinds.specs.declared.pages.Page.{Page}
use Rattle.fbc_kinds.specs.declared.pages.Page.TheVariants as kind
use Rattle.fbc_kinds.specs.declared.shapes.Shape.{Shape}
use Rattle.fbc_kinds.specs.File.{stands_under}
use Rattle.fbc_kinds.specs.HeaderSpelling.{IsHeader}
use Rattle.fbc_kinds.specs.InventorySpelling.{IsInventory}
use Rattle.fbc_kinds.specs.PointerSpelling.{IsPointer}
use Rattle.fbc_kinds.specs.Spelling.{IsSpelling}
use Rattle.fbc_kinds.specs.TipSpelling.{IsTip}
use Rattle.fbc_outside.specs.Bytes.{written}
use Rattle.fbc_files.specs.declared.relations.NewRelation.{NewRelation}
use Rattle.fbc_files.specs.NewPages.{new_header, new_pages, page_count}
use Rattle.fbc_files.specs.Pages.{ShowsPages, with_page}
use Rattle.fbc_files.specs.Shapes.{shape_of}

-- The shape of a new file. How far its device reaches does not matter to the bytes of its pages.
abbrev pub new_shape : ℕ → List NewRelation → Shape
new_shape size relations = shape_of 0 (new_header size relations)

-- The bytes are those of the pages of a new file.
abbrev pub IsNewFile : ℕ → List NewRelation → List ℕ → Type 0
IsNewFile size relations bytes = ShowsPages (new_shape size relations) (new_pages size relations) bytes

-- The page that a write puts in its place, of so many pages: the first write that of page 1, each later one that of
-- the next page, and the last one that of page 0.
abbrev pub page_of_write : ℕ → ℕ → ℕ
page_of_write pages write = if write == pages then 0 else write

-- The pages that stand after so many of these writes into an empty file.
abbrev pub written_pages : List Page → ℕ → List Page
written_pages pages zero = []
written_pages pages (suc count) =
    with_page (page_of_write (length pages) (suc count))
    (slice_index_or pages (page_of_write (length pages) (suc count)) kind.Blank)
    (written_pages pages count)

-- The bytes are those after some of the writes of a new file, none, all, or as many as came about.
pub record IsPartOfNewFile (size : ℕ) (relations : List NewRelation) (bytes : List ℕ) : Type 0 where
  pub count : ℕ
  pub within : count ≤ page_count relations
  pub shows : ShowsPages (new_shape size relations) (written_pages (new_pages size relations) count) bytes

-- What a device holds that was empty, where it tells its bytes. Whether it tells them does not change.
abbrev pub HoldsIfEmpty : (List ℕ → Type 0) → Option (List ℕ) → Option (List ℕ) → Type 0
HoldsIfEmpty holds None now = now ≡ None
HoldsIfEmpty holds (Some bytes) None = ⊥
HoldsIfEmpty holds (Some bytes) (Some after) = bytes ≡ [] → holds after

-- A page of a new file within its limits: none of them is a data page.
abbrev pub IsNewPage : ℕ → Page → Type 0
IsNewPage size (kind.Header header) = IsHeader size header
IsNewPage size (kind.Inventory inventory) = IsInventory size inventory
IsNewPage size (kind.Tip tip) = IsTip size tip
IsNewPage size (kind.Pointer pointer) = IsPointer size pointer
IsNewPage size (kind.Data versions) = ⊥
IsNewPage size kind.Blank = Unit {0}

-- The bytes spell the page in each file whose pages have this size.
abbrev pub IsSpellingOf : ℕ → Page → List ℕ → Type 0
IsSpellingOf size page bytes = (shape : Shape) → shape.size ≡ size → IsSpelling shape page bytes

-- Pages of a new file, each of them under its own number.
pub record AreNewPages (size : ℕ) (pages : List Page) : Type 0 where
  pub some : 1 ≤ length pages
  pub few : length pages ≤ 11
  pub fits : (number : ℕ) → IsNewPage size (slice_index_or pages number kind.Blank)
  pub stands : (number : ℕ) → stands_under number (slice_index_or pages number kind.Blank) ≡ true

-- The bytes with a page put in the place of its number.
pub record IsPut (size number : ℕ) (page : Page) (bytes now : List ℕ) : Type 0 where
  pub image : List ℕ
  pub spelled : IsSpellingOf size page image
  pub is : now ≡ written (number * size) image bytes

-- The same of a device that may not tell its bytes.
abbrev pub IsPagePut : ℕ → ℕ → Page → Option (List ℕ) → Option (List ℕ) → Type 0
IsPagePut size number page None now = now ≡ None
IsPagePut size number page (Some bytes) None = ⊥
IsPagePut size number page (Some bytes) (Some now) = IsPut size number page bytes now

-- The page was put in its place, or nothing was changed.
abbrev pub IsPagePutOrNot : ℕ → ℕ → Page → Option (List ℕ) → Option (List ℕ) → Type 0
IsPagePutOrNot size number page before now = (now ≡ before) ⊎ IsPagePut size number page before now

-- The bytes show, in each file whose pages have this size, the pages after so many of their writes.
abbrev pub ShowsWritten : ℕ → List Page → ℕ → List ℕ → Type 0
ShowsWritten size pages count bytes = (shape : Shape) → shape.size ≡ size → ShowsPages shape (written_pages pages count) bytes

-- The same after some of their writes.
pub record ShowsSome (size : ℕ) (pages : List Page) (bytes : List ℕ) : Type 0 where
  pub count : ℕ
  pub within : count ≤ length pages
  pub shows : ShowsWritten size pages count bytes
