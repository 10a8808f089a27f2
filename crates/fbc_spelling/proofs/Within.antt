-- A page that bytes spell is within its limits.
use Rattle.std.proofs.Common.{◌≡◌, ◌<◌, ◌≤◌, ℕ, List, sym, subst, arith}
use Rattle.std.proofs.lemmas.Bool.Decides.{nat_tests}
use Rattle.std.proofs.lemmas.Option.{get_or_from_slice_get}
use Rattle.fbc_kinds.specs.declared.pages.Page.{Page}
use Rattle.fbc_kinds.specs.declared.pages.Page.TheVariants as kind
use Rattle.fbc_kinds.specs.declared.shapes.Shape.{Shape}
use Rattle.fbc_kinds.specs.DataSpelling.{IsData}
use Rattle.fbc_kinds.specs.Edits.{IsWithinLimits, value_length}
use Rattle.fbc_kinds.specs.HeaderSpelling.{IsFileShape}
use Rattle.fbc_kinds.specs.Spelling.{IsSpelling, listed_length}

-- A relation that the file does not have has no values.
none_past : (shape : Shape) (relation : ℕ) → IsFileShape shape → relation < 8 → shape.count ≤ relation → listed_length shape relation ≡ 0
none_past shape relation is known past = get_or_from_slice_get shape.lengths relation 0 0 (is.no_lengths relation known past)

-- For each of the eight relations that there may be, both words agree.
same_length : (shape : Shape) (relation : ℕ) → IsFileShape shape → relation < 8 → value_length shape relation ≡ listed_length shape relation
same_length shape relation is known = grind (arith, nat_tests, none_past shape relation is known)

-- A spelled page is within its limits.
pub within_limits : (shape : Shape) (page : Page) (bytes : List ℕ) → IsFileShape shape → IsSpelling shape page bytes → IsWithinLimits shape page
within_limits shape (kind.Header h) bytes is spelled = spelled.fits
within_limits shape (kind.Inventory i) bytes is spelled = spelled.fits
within_limits shape (kind.Tip t) bytes is spelled = spelled.fits
within_limits shape (kind.Pointer p) bytes is spelled = spelled.fits
within_limits shape (kind.Data d) bytes is spelled =
    let P : ℕ → Type 0 = λ greatest. IsData shape.size greatest d in
    subst P (sym (same_length shape d.relation is spelled.fits.relation_fits)) spelled.fits
within_limits shape kind.Blank bytes is spelled = tt
