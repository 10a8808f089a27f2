-- What a view with one page changed shows of that page, and of the others.
use Rattle.std.proofs.Common.{◌≡◌, ◌≢◌, ◌==◌, ℕ, Bool, true, false, if◌then◌else◌, Option, Some, refl}
use Rattle.fbc_kinds.specs.declared.pages.Page.{Page}
use Rattle.fbc_kinds.specs.View.{View}
use Rattle.fbc_kinds.proofs.Tests.{same_from_test, test_of_same, test_of_different}
use Rattle.fbc_page_edits.specs.Edited.{with_page}

module _ (view : View) (number : ℕ) (content : Page) where
  -- The page that was changed.
  pub changed_here : with_page view number content number ≡ Some content
  changed_here = rw (test_of_same number number refl) refl

  -- Each other page.
  pub changed_elsewhere : (other : ℕ) → other ≢ number → with_page view number content other ≡ view other
  changed_elsewhere other differ = rw (test_of_different other number differ) refl

  -- What the change leaves of its page, it leaves of all pages.
  pub read_alike : {X : Type 0} (reader : ℕ → Option Page → X) → reader number (Some content) ≡ reader number (view number)
      → (other : ℕ) → reader other (with_page view number content other) ≡ reader other (view other)
  read_alike reader same other = go (other == number) refl
    where
      go : (b : Bool) → (other == number) ≡ b → reader other (if b then Some content else view other) ≡ reader other (view other)
      go true is = let here = same_from_test other number is in rw here same
      go false is = refl
