-- A page's kind, and the relation of a data page, by its bytes.
use Rattle.std.proofs.Common.{◌≡◌, ◌≢◌, ℕ, List, ◌<◌, ap, ◌∙◌, arith, get_or}
use Rattle.fbc_kinds.specs.declared.pages.Data.{Data}
use Rattle.fbc_kinds.specs.declared.shapes.Shape.{Shape}
use Rattle.fbc_kinds.specs.DataSpelling.{SpellsData}
use Rattle.fbc_kinds.specs.Head.{relation_in, number_in}
use Rattle.fbc_kinds.specs.Spelling.{first_broken_rule, broken_blank}
use Rattle.fbc_kinds.proofs.Numbers.{number_in-little_2}
use Rattle.fbc_kinds.proofs.Tests.{test_of_different}

-- A page without a kind is judged as a blank one.
pub blank_rule : (shape : Shape) (number : ℕ) (bytes : List ℕ)
    → get_or bytes 0 0 ≢ 1 → get_or bytes 0 0 ≢ 2 → get_or bytes 0 0 ≢ 3 → get_or bytes 0 0 ≢ 4 → get_or bytes 0 0 ≢ 5
    → first_broken_rule shape number bytes ≡ broken_blank bytes
blank_rule shape number bytes a b c d e =
    rw (test_of_different _ _ a, test_of_different _ _ b, test_of_different _ _ c, test_of_different _ _ d, test_of_different _ _ e)

-- The head of a data page names its relation.
pub relation_in-data : (size greatest : ℕ) (page : Data) (bytes : List ℕ) → SpellsData size greatest page bytes → relation_in bytes ≡ page.relation
relation_in-data size greatest page bytes is =
    let small : page.relation < 8 = is.fits.relation_fits in
    ap (number_in 256) is.head.relation_is ∙ number_in-little_2 page.relation (omega arith)
