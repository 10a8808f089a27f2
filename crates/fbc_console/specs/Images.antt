-- Which bytes stand for which page, what the fresh file is, and what commit writes.
use Rattle.std.specs.Prelude.{◌≡◌, ◌+◌, ◌*◌, ℕ, List, [], ◌∷◌, length, slice_range}
use Rattle.fbc_kinds.specs.declared.pages.Page.{Page}
use Rattle.fbc_kinds.specs.declared.pages.Page.TheVariants as page
use Rattle.fbc_kinds.specs.HeaderSpelling.{SpellsHeader}
use Rattle.fbc_kinds.specs.InventorySpelling.{SpellsInventory}
use Rattle.fbc_kinds.specs.TipSpelling.{SpellsTip}
use Rattle.fbc_kinds.specs.PointerSpelling.{SpellsPointer}
use Rattle.fbc_kinds.specs.DataSpelling.{SpellsData}
use Rattle.fbc_console.specs.declared.writes.PageImage.{PageImage}
use Rattle.fbc_console.specs.FreshFile.{fresh_header, fresh_inventory, fresh_tip, fresh_pointer, begun_header, filled_inventory, committed_tip, filled_pointer, filled_data}

-- A page's number and the bytes that spell it.
abbrev pub IsImage : Page → PageImage → Type 0
IsImage (page.Header header) image = (image.page ≡ 0) × SpellsHeader 1024 header image.bytes
IsImage (page.Inventory inventory) image = (image.page ≡ inventory.page) × SpellsInventory 1024 inventory image.bytes
IsImage (page.Tip tip) image = (image.page ≡ tip.page) × SpellsTip 1024 tip image.bytes
IsImage (page.Pointer pointer) image = (image.page ≡ pointer.page) × SpellsPointer 1024 pointer image.bytes
IsImage (page.Data held) image = (image.page ≡ held.page) × SpellsData 1024 10 held image.bytes
IsImage page.Blank image = ⊥

-- The images of pages, in their order.
abbrev pub AreImages : List Page → List PageImage → Type 0
AreImages [] [] = Unit {0}
AreImages (page ∷ pages) (image ∷ images) = IsImage page image × AreImages pages images
AreImages _ _ = ⊥

-- The pages that commit writes, in the order in which it writes them: of an empty transaction the header and the transaction inventory.
abbrev pub commit_pages : List (List ℕ) → List Page
commit_pages [] = page.Header begun_header ∷ page.Tip committed_tip ∷ []
commit_pages (value ∷ values) =
    page.Header begun_header ∷ page.Inventory filled_inventory ∷ page.Data (filled_data (value ∷ values)) ∷ page.Pointer filled_pointer ∷ page.Tip committed_tip ∷ []

-- The bytes of the page with this number.
abbrev pub page_at : List ℕ → ℕ → List ℕ
page_at bytes page = slice_range bytes (page * 1024) ((page + 1) * 1024)

-- The fresh file: four pages, which spell the pages that it is made of.
pub record IsFreshFile (bytes : List ℕ) : Type 0 where
  pub size : length bytes ≡ 4096
  pub header : SpellsHeader 1024 fresh_header (page_at bytes 0)
  pub inventory : SpellsInventory 1024 fresh_inventory (page_at bytes 1)
  pub tip : SpellsTip 1024 fresh_tip (page_at bytes 2)
  pub pointer : SpellsPointer 1024 fresh_pointer (page_at bytes 3)
