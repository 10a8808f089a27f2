-- The pages that the bytes of the fresh file show, and those after the writes of a commit.
use Rattle.std.proofs.Common.{◌≡◌, ◌≤◌, ◌<◌, ◌+◌, ◌*◌, ℕ, zero, suc, List, [], ◌∷◌, length, refl, sym, subst, ◌∙◌, arith, rules}
use Rattle.std.specs.Prelude.{◌==◌, true, slice_range, slice_index_or}
use Rattle.std.proofs.Math.Nat.{mul-le-mul_left, mul_comm}
use Rattle.std.proofs.lemmas.Bool.Decides.{nat_tests}
use Rattle.std.proofs.lemmas.List.{same_lists, places}
use Rattle.fbc_kinds.specs.declared.pages.Page.{Page}
use Rattle.fbc_kinds.specs.declared.pages.Page.TheVariants as kind
use Rattle.fbc_kinds.specs.declared.shapes.Shape.{Shape}
use Rattle.fbc_kinds.specs.File.{ShowsPage, page_bytes}
use Rattle.fbc_kinds.specs.HeaderSpelling.{SpellsHeader}
use Rattle.fbc_kinds.specs.InventorySpelling.{SpellsInventory}
use Rattle.fbc_kinds.specs.TipSpelling.{SpellsTip}
use Rattle.fbc_kinds.specs.PointerSpelling.{SpellsPointer}
use Rattle.fbc_kinds.specs.DataSpelling.{SpellsData}
use Rattle.fbc_kinds.specs.Spelling.{listed_length}
use Rattle.fbc_outside.specs.Bytes.{written}
use Rattle.fbc_files.specs.Pages.{ShowsPages, with_page}
use Rattle.fbc_files.specs.Shapes.{shape_of}
use Rattle.fbc_console.specs.declared.writes.PageImage.{PageImage}
use Rattle.fbc_console.specs.FreshFile.{fresh_header, fresh_inventory, fresh_tip, fresh_pointer, begun_header, filled_inventory, committed_tip, filled_pointer, filled_data}
use Rattle.fbc_console.specs.Images.{IsFreshFile, IsImage, page_at}
use Rattle.fbc_console.specs.Writes.{bytes_after}
use Rattle.fbc_console.proofs.SmallFile.{pages_of}
use Rattle.fbc_console.proofs.SmallFiles.{fresh_small, begun_small, quiet_small, taken_small, held_small, named_small, filled_small}

-- What the write of one page does to a list of pages.
abbrev pub WritesPages : Type 0
WritesPages =
    (shape : Shape) (number : ℕ) (page : Page) (image bytes : List ℕ) (pages : List Page)
    → ShowsPage shape number image page
    → ShowsPages shape pages bytes
    → ShowsPages shape (with_page number page pages) (written (number * shape.size) image bytes)

-- The shape of the file.
abbrev pub shape_at : ℕ → Shape
shape_at reach = shape_of reach fresh_header

-- Within the file the bytes of a page are those between its ends.
whole_page : (size count number : ℕ) (bytes : List ℕ) → length bytes ≡ size * count → number < count → page_bytes size bytes number ≡ slice_range bytes (number * size) ((number + 1) * size)
whole_page size count number bytes long within =
    let behind : size * (number + 1) ≤ size * count = mul-le-mul_left size (omega arith) in
    let flip : size * (number + 1) ≡ (number + 1) * size = mul_comm size (number + 1) in
    let next : (number + 1) * size ≡ number * size + size = omega arith in
    let end : number * size + size ≤ length bytes = omega arith in
    rw next (same_lists _ _ (search (rules, places)) (λ k d h. grind (arith, places)))

module _ (reach : ℕ) (bytes : List ℕ) (fresh : IsFreshFile bytes) where
  page_is : (number : ℕ) → number < 4 → page_bytes 1024 bytes number ≡ page_at bytes number
  page_is number within = whole_page 1024 4 number bytes fresh.size within

  fresh_page : (number : ℕ) → number < 4 → ShowsPage (shape_at reach) number (page_bytes 1024 bytes number) (slice_index_or (pages_of fresh_small) number kind.Blank)
  fresh_page zero within = record { spelled = subst (SpellsHeader 1024 fresh_header) (sym (page_is 0 within)) fresh.header; stands = refl }
  fresh_page (suc zero) within = record { spelled = subst (SpellsInventory 1024 fresh_inventory) (sym (page_is 1 within)) fresh.inventory; stands = refl }
  fresh_page (suc (suc zero)) within = record { spelled = subst (SpellsTip 1024 fresh_tip) (sym (page_is 2 within)) fresh.tip; stands = refl }
  fresh_page (suc (suc (suc zero))) within = record { spelled = subst (SpellsPointer 1024 fresh_pointer) (sym (page_is 3 within)) fresh.pointer; stands = refl }
  fresh_page (suc (suc (suc (suc number)))) within = absurd (omega (arith, within))

  pub fresh_pages : ShowsPages (shape_at reach) (pages_of fresh_small) bytes
  fresh_pages = record { length_is = fresh.size; each = fresh_page }

-- The page has this number, and a data page is of relation 0.
abbrev IsPlaced : ℕ → Page → Type 0
IsPlaced number (kind.Header header) = number ≡ 0
IsPlaced number (kind.Inventory inventory) = inventory.page ≡ number
IsPlaced number (kind.Tip tip) = tip.page ≡ number
IsPlaced number (kind.Pointer pointer) = pointer.page ≡ number
IsPlaced number (kind.Data held) = (held.page ≡ number) × (held.relation ≡ 0)
IsPlaced number kind.Blank = ⊥

same_is : (number : ℕ) → (number == number) ≡ true
same_is number = grind (arith, nat_tests)

-- The image of a page shows it under its number.
IsImage-shows : (reach number : ℕ) (page : Page) (image : PageImage) → IsPlaced number page → IsImage page image → (image.page ≡ number) × ShowsPage (shape_at reach) number image.bytes page
IsImage-shows reach number (kind.Header header) image placed is = (is.0 ∙ sym placed, record { spelled = is.1; stands = rw placed refl })
IsImage-shows reach number (kind.Inventory inventory) image placed is = (is.0 ∙ placed, record { spelled = is.1; stands = rw placed (same_is number) })
IsImage-shows reach number (kind.Tip tip) image placed is = (is.0 ∙ placed, record { spelled = is.1; stands = rw placed (same_is number) })
IsImage-shows reach number (kind.Pointer pointer) image placed is = (is.0 ∙ placed, record { spelled = is.1; stands = rw placed (same_is number) })
IsImage-shows reach number (kind.Data held) image placed is = (is.0 ∙ placed.0, record { spelled = subst (λ n. SpellsData 1024 (listed_length (shape_at reach) n) held image.bytes) (sym placed.1) is.1; stands = rw placed.0 (same_is number) })
IsImage-shows reach number kind.Blank image placed is = absurd is

module _ (reach : ℕ) (writes : WritesPages) where
  -- The write of one image.
  put : (number : ℕ) (page : Page) (image : PageImage) (pages : List Page) (bytes : List ℕ) → IsPlaced number page → IsImage page image → ShowsPages (shape_at reach) pages bytes → ShowsPages (shape_at reach) (with_page number page pages) (written (image.page * 1024) image.bytes bytes)
  put number page image pages bytes placed is before =
      let shows : (image.page ≡ number) × ShowsPage (shape_at reach) number image.bytes page = IsImage-shows reach number page image placed is in
      subst (λ n. ShowsPages (shape_at reach) (with_page number page pages) (written (n * 1024) image.bytes bytes)) (sym shows.0) (writes (shape_at reach) number page image.bytes bytes pages shows.1 before)

  -- The pages after each write of a commit, by the images that were written.
  module _ (bytes : List ℕ) (before : ShowsPages (shape_at reach) (pages_of fresh_small) bytes) (header : PageImage) (is_header : IsImage (kind.Header begun_header) header) where
    pub begun_pages : ShowsPages (shape_at reach) (pages_of begun_small) (bytes_after (header ∷ []) bytes)
    begun_pages = put 0 (kind.Header begun_header) header (pages_of fresh_small) bytes refl is_header before

    pub quiet_pages : (tip : PageImage) → IsImage (kind.Tip committed_tip) tip → ShowsPages (shape_at reach) (pages_of quiet_small) (bytes_after (tip ∷ header ∷ []) bytes)
    quiet_pages tip is_tip = put 2 (kind.Tip committed_tip) tip (pages_of begun_small) (bytes_after (header ∷ []) bytes) refl is_tip begun_pages

    module _ (inventory : PageImage) (is_inventory : IsImage (kind.Inventory filled_inventory) inventory) where
      pub taken_pages : ShowsPages (shape_at reach) (pages_of taken_small) (bytes_after (inventory ∷ header ∷ []) bytes)
      taken_pages = put 1 (kind.Inventory filled_inventory) inventory (pages_of begun_small) (bytes_after (header ∷ []) bytes) refl is_inventory begun_pages

      module _ (values : List (List ℕ)) (held : PageImage) (is_held : IsImage (kind.Data (filled_data values)) held) where
        pub held_pages : ShowsPages (shape_at reach) (pages_of (held_small values)) (bytes_after (held ∷ inventory ∷ header ∷ []) bytes)
        held_pages = put 4 (kind.Data (filled_data values)) held (pages_of taken_small) (bytes_after (inventory ∷ header ∷ []) bytes) (refl, refl) is_held taken_pages

        module _ (pointer : PageImage) (is_pointer : IsImage (kind.Pointer filled_pointer) pointer) where
          pub named_pages : ShowsPages (shape_at reach) (pages_of (named_small values)) (bytes_after (pointer ∷ held ∷ inventory ∷ header ∷ []) bytes)
          named_pages = put 3 (kind.Pointer filled_pointer) pointer (pages_of (held_small values)) (bytes_after (held ∷ inventory ∷ header ∷ []) bytes) refl is_pointer held_pages

          pub filled_pages : (tip : PageImage) → IsImage (kind.Tip committed_tip) tip → ShowsPages (shape_at reach) (pages_of (filled_small values)) (bytes_after (tip ∷ pointer ∷ held ∷ inventory ∷ header ∷ []) bytes)
          filled_pages tip is_tip = put 2 (kind.Tip committed_tip) tip (pages_of (named_small values)) (bytes_after (pointer ∷ held ∷ inventory ∷ header ∷ []) bytes) refl is_tip named_pages
