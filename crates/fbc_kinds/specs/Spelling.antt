use Rattle.std.specs.Prelude.{◌≡◌, ◌==◌, ℕ, List, Option, Some, None, if◌then◌else◌, replicate, slice_index}
use Rattle.fbc_kinds.specs.declared.pages.Page.{Page}
use Rattle.fbc_kinds.specs.declared.pages.Page.TheVariants as page
use Rattle.fbc_kinds.specs.declared.rules.Rule.{Rule}
use Rattle.fbc_kinds.specs.declared.rules.Rule.TheVariants as rule
use Rattle.fbc_kinds.specs.declared.shapes.Shape.{Shape}
use Rattle.fbc_kinds.specs.Head.{is_zeros, relation_in}
use Rattle.fbc_kinds.specs.HeaderSpelling.{SpellsHeader, broken_header}
use Rattle.fbc_kinds.specs.InventorySpelling.{SpellsInventory, broken_inventory}
use Rattle.fbc_kinds.specs.TipSpelling.{SpellsTip, broken_tip}
use Rattle.fbc_kinds.specs.PointerSpelling.{SpellsPointer, broken_pointer}
use Rattle.fbc_kinds.specs.DataSpelling.{SpellsData, broken_data}

-- The greatest length of a relation's values, 0 where the file does not have the relation.
abbrev pub listed_length : Shape → ℕ → ℕ
listed_length shape relation = slice_index shape.lengths relation

-- These bytes spell this page, in a file of this shape.
abbrev pub IsSpelling : Shape → Page → List ℕ → Type 0
IsSpelling shape (page.Header header) bytes = SpellsHeader shape.size header bytes
IsSpelling shape (page.Inventory inventory) bytes = SpellsInventory shape.size inventory bytes
IsSpelling shape (page.Tip tip) bytes = SpellsTip shape.size tip bytes
IsSpelling shape (page.Pointer pointer) bytes = SpellsPointer shape.size pointer bytes
IsSpelling shape (page.Data versions) bytes = SpellsData shape.size (listed_length shape versions.relation) versions bytes
IsSpelling shape page.Blank bytes = bytes ≡ replicate shape.size 0

-- Only page 0 is a header.
abbrev pub broken_first_page : ℕ → ℕ → List ℕ → Option Rule
broken_first_page size number bytes = if number == 0 then broken_header size bytes else Some rule.Kind

-- A page without a kind is blank.
abbrev pub broken_blank : List ℕ → Option Rule
broken_blank bytes = if is_zeros bytes then None else Some rule.Kind

-- The first rule that the bytes of the page of this number break, judged by the kind that they name.
abbrev pub first_broken_rule : Shape → ℕ → List ℕ → Option Rule
first_broken_rule shape number bytes =
    if slice_index bytes 0 == 1 then broken_first_page shape.size number bytes
    else if slice_index bytes 0 == 2 then broken_inventory shape.size number bytes
    else if slice_index bytes 0 == 3 then broken_tip number bytes
    else if slice_index bytes 0 == 4 then broken_pointer number bytes
    else if slice_index bytes 0 == 5 then broken_data shape.size (listed_length shape (relation_in bytes)) number bytes
    else broken_blank bytes
