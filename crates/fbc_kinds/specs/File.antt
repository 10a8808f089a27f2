-- What the bytes of a file say: which view they give, and when a file is sound.
use Rattle.std.specs.Prelude.{◌≡◌, ◌*◌, ◌==◌, ℕ, List, Bool, true, Option, Some, None, length, take, drop}
use Rattle.fbc_kinds.specs.declared.pages.Page.{Page}
use Rattle.fbc_kinds.specs.declared.pages.Page.TheVariants as kind
use Rattle.fbc_kinds.specs.declared.shapes.Shape.{Shape}
use Rattle.fbc_kinds.specs.Padding.{padded}
use Rattle.fbc_kinds.specs.HeaderSpelling.{ShowsShape, broken_file}
use Rattle.fbc_kinds.specs.Spelling.{IsSpelling}
use Rattle.fbc_kinds.specs.View.{View}
use Rattle.fbc_kinds.specs.Sound.{IsSound}

-- The bytes of a page: those that stand in its place, and zeros past the end of the file.
abbrev pub page_bytes : ℕ → List ℕ → ℕ → List ℕ
page_bytes size bytes number = padded size (take size (drop (number * size) bytes))

-- Whether a page may stand under a number: a header under 0 alone, a blank page anywhere, each other page under its
-- own number.
abbrev pub stands_under : ℕ → Page → Bool
stands_under number (kind.Header header) = number == 0
stands_under number (kind.Inventory inventory) = inventory.page == number
stands_under number (kind.Tip tip) = tip.page == number
stands_under number (kind.Pointer pointer) = pointer.page == number
stands_under number (kind.Data versions) = versions.page == number
stands_under number kind.Blank = true

-- The bytes in a page's place show this page: they spell it, and it may stand there.
pub record ShowsPage (shape : Shape) (number : ℕ) (bytes : List ℕ) (page : Page) : Type 0 where
  pub spelled : IsSpelling shape page bytes
  pub stands : stands_under number page ≡ true

-- What they show: this page, or no page at all.
abbrev pub Shows : Shape → ℕ → List ℕ → Option Page → Type 0
Shows shape number bytes (Some page) = ShowsPage shape number bytes page
Shows shape number bytes None = (page : Page) → ¬ ShowsPage shape number bytes page

-- The view that a file's bytes give: under each number what the bytes there show.
abbrev pub IsViewOf : Shape → List ℕ → View → Type 0
IsViewOf shape bytes view = (number : ℕ) → Shows shape number (page_bytes shape.size bytes number) (view number)

-- A file is recognised by its first bytes, which show this shape, and its bytes give this view.
pub record IsFile (reach : ℕ) (bytes : List ℕ) (shape : Shape) (view : View) : Type 0 where
  pub unbroken : broken_file (take 1024 bytes) (length bytes) ≡ None
  pub shown : ShowsShape (take 1024 bytes) reach shape
  pub spelled : IsViewOf shape bytes view

-- A file is sound where it is recognised and its view is sound.
pub record IsSoundFile (reach : ℕ) (bytes : List ℕ) (view : View) : Type 0 where
  pub shape : Shape
  pub file : IsFile reach bytes shape view
  pub sound : IsSound view
