-- A list of pages as a file: the view that it gives, the bytes that show it, and the write of one page.
use Rattle.std.specs.Prelude.{◌≡◌, ◌+◌, ◌-◌, ◌*◌, ◌<◌, ◌++◌, ◌==◌, if◌then◌else◌, ℕ, List, ◌∷◌, Some, length, take, drop, replicate, slice_index_or}
use Rattle.fbc_kinds.specs.declared.pages.Page.{Page}
use Rattle.fbc_kinds.specs.declared.pages.Page.TheVariants as kind
use Rattle.fbc_kinds.specs.declared.shapes.Shape.{Shape}
use Rattle.fbc_kinds.specs.File.{ShowsPage, page_bytes}
use Rattle.fbc_kinds.specs.View.{View}

-- The view in which these pages stand, from page 0 on. Behind them all pages are blank.
abbrev pub listed_view : List Page → View
listed_view pages number = Some (slice_index_or pages number kind.Blank)

-- The bytes are those of these pages, one after the other.
pub record ShowsPages (shape : Shape) (pages : List Page) (bytes : List ℕ) : Type 0 where
  pub length_is : length bytes ≡ shape.size * length pages
  pub each : (number : ℕ) → number < length pages → ShowsPage shape number (page_bytes shape.size bytes number) (slice_index_or pages number kind.Blank)

-- The pages with one put in the place of its number, a gap before that place filled with blank ones.
abbrev pub with_page : ℕ → Page → List Page → List Page
with_page number page pages = take number pages ++ replicate (number - length pages) kind.Blank ++ page ∷ drop (number + 1) pages

-- The view with one page put in the place of its number.
abbrev pub view_with_page : ℕ → Page → View → View
view_with_page number page view other = if other == number then Some page else view other
