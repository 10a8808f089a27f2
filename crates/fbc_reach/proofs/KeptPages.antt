-- What is kept of a page that the walk names is what stands there in the view.
use Rattle.std.proofs.Common.{◌≡◌, ℕ, List, Option, Some, None, refl, sym, ◌∙◌}
use Rattle.fbc_kinds.specs.declared.shapes.Shape.{Shape}
use Rattle.fbc_kinds.specs.File.{IsViewOf}
use Rattle.fbc_kinds.specs.View.{View}
use Rattle.fbc_kinds.proofs.Tests.{test_of_same}
use Rattle.fbc_reach.specs.Content.{content_of}
use Rattle.fbc_reach.specs.Tally.{IsKept}
use Rattle.fbc_reach.specs.Walk.{is_of_page, namings}
use Rattle.fbc_reach.specs.declared.namings.Naming.{Naming}
use Rattle.fbc_reach.specs.declared.tally.NamedPage.{NamedPage}
use Rattle.fbc_reach.proofs.Members.{In, find_some}

pub record KeepsContent (view : View) (page : ℕ) (o : Option NamedPage) : Type 0 where
  pub named : NamedPage
  pub is : o ≡ Some named
  pub content : named.read.content ≡ content_of (view page)

pub keeps_content : (shape : Shape) (bytes : List ℕ) (view : View) → IsViewOf shape bytes view → (next page : ℕ) (n : Naming) → In (namings view) n → n.page ≡ page
    → (o : Option NamedPage) → IsKept shape (Some bytes) next (namings view) page o → KeepsContent view page o
keeps_content shape bytes view shown next page n i same None none =
    let found = find_some (is_of_page page) (namings view) n i (test_of_same n.page page same) in
    let both : None ≡ Some found.0 = sym none ∙ found.1 in
    cc
keeps_content shape bytes view shown next page n i same (Some named) kept = record {
  named = named;
  is = refl;
  content = kept.read.shown (view page) (shown page);
}
