-- The write of a whole page changes the bytes of that page alone.
use Rattle.std.proofs.Common.{◌≡◌, ◌≢◌, ℕ, ◌*◌, ◌==◌, Bool, true, false, List, length, Some, refl, arith}
use Rattle.std.proofs.lemmas.Bool.Decides.{nat_tests}
use Rattle.std.specs.Prelude.{if◌then◌else◌}
use Rattle.fbc_kinds.specs.declared.pages.Page.{Page}
use Rattle.fbc_kinds.specs.declared.shapes.Shape.{Shape}
use Rattle.fbc_kinds.specs.File.{IsViewOf, Shows, ShowsPage, page_bytes}
use Rattle.fbc_kinds.specs.View.{View}
use Rattle.fbc_legal.proofs.Exclusion.{same_number}
use Rattle.fbc_outside.specs.Bytes.{written}
use Rattle.fbc_files.proofs.PageWrites.{page_elsewhere, page_there}

-- The bytes show the page that is written, and the others as before.
pub shows_written : (shape : Shape) (number : ℕ) (page : Page) (image bytes : List ℕ) (view : View) → length image ≡ shape.size → ShowsPage shape number image page → IsViewOf shape bytes view
    → (other : ℕ) → Shows shape other (page_bytes shape.size (written (number * shape.size) image bytes) other) (if other == number then Some page else view other)
shows_written shape number page image bytes view fits shows is other = either (other == number) refl where
  apart_test : other == number ≡ false → other ≢ number
  apart_test test same = grind (arith, nat_tests, test, same)

  either : (b : Bool) → other == number ≡ b → Shows shape other (page_bytes shape.size (written (number * shape.size) image bytes) other) (if b then Some page else view other)
  either true same =
      let here : other ≡ number = same_number other number same in
      rw (here, page_there shape.size number image bytes fits) shows
  either false differ = rw (page_elsewhere shape.size number other image bytes fits (apart_test differ)) (is other)
