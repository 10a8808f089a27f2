-- How headers grow from what is kept to what is newest.
use Rattle.std.specs.Prelude.{◌≡◌, ◌≤◌, ℕ, List, Option, Some, slice_get}
use Rattle.fbc_kinds.specs.declared.pages.Header.{Header}
use Rattle.fbc_kinds.specs.declared.pages.Page.{Page}
use Rattle.fbc_kinds.specs.declared.pages.Relation.{Relation}
use Rattle.fbc_kinds.specs.View.{header_in}

-- What stands in the earlier list stands in the later one, at the same place.
abbrev pub IsContinued : List ℕ → List ℕ → Type 0
IsContinued earlier later = (place page : ℕ) → slice_get earlier place ≡ Some page → slice_get later place ≡ Some page

-- The relation is still there, with the same length of values, and names the pointer pages that it named.
pub record HasRelation (earlier : Relation) (found : Option Relation) : Type 0 where
  pub entry : Relation
  pub is : found ≡ Some entry
  pub length : entry.length ≡ earlier.length
  pub pointers : IsContinued earlier.pointers entry.pointers

-- The later header has the size of the earlier one. Its next number is no less; it counts no fewer page inventories, and
-- names the transaction inventory and pointer pages that the earlier one did.
pub record HasGrown (earlier later : Header) : Type 0 where
  pub size : later.size ≡ earlier.size
  pub next : earlier.next ≤ later.next
  pub inventories : earlier.inventories ≤ later.inventories
  pub tips : IsContinued earlier.tips later.tips
  pub relations : (relation : ℕ) (entry : Relation) → slice_get earlier.relations relation ≡ Some entry → HasRelation entry (slice_get later.relations relation)

-- Where the one page is a header, the other is a header that has grown.
pub record IsGrownHeader (earlier : Header) (found : Option Header) : Type 0 where
  pub later : Header
  pub is : found ≡ Some later
  pub grown : HasGrown earlier later

abbrev pub GrowsInto : Option Page → Option Page → Type 0
GrowsInto earlier later = (header : Header) → header_in earlier ≡ Some header → IsGrownHeader header (header_in later)
