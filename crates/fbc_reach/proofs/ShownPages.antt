-- The pages that the bytes of a file show.
use Rattle.std.proofs.Common.{◌≡◌, ℕ, List, Option, Some, sym, subst, ap, ◌∙◌}
use Rattle.std.specs.Option.{option_map_or}
use Rattle.fbc_kinds.specs.declared.pages.Page.{Page}
use Rattle.fbc_kinds.specs.declared.pages.Page.TheVariants as kind
use Rattle.fbc_kinds.specs.declared.pages.Header.{Header}
use Rattle.fbc_kinds.specs.declared.shapes.Shape.{Shape}
use Rattle.fbc_kinds.specs.Limits.{slots}
use Rattle.fbc_kinds.specs.File.{page_bytes, IsViewOf, Shows, ShowsPage}
use Rattle.fbc_kinds.specs.View.{View, header_in, header_of, size_of}
use Rattle.fbc_reach.proofs.DataNamings.{HaveAllSlots}

header_stands : (o : Option Page) (h : Header) → header_in o ≡ Some h → o ≡ Some (kind.Header h)
header_stands (Some (kind.Header g)) h e = let same : g ≡ h = cc in ap (λ x. Some (kind.Header x)) same
header_stands _ h e = cc

module _ (shape : Shape) (bytes : List ℕ) (view : View) (shown : IsViewOf shape bytes view) where
  pub shows : (page : ℕ) (stands : Page) → view page ≡ Some stands → ShowsPage shape page (page_bytes shape.size bytes page) stands
  shows page stands e = let P : Option Page → Type 0 = Shows shape page (page_bytes shape.size bytes page) in subst P e (shown page)

  pub header_size : (h : Header) → header_of view ≡ Some h → size_of view ≡ shape.size
  header_size h is =
      let s = shows 0 (kind.Header h) (header_stands (view 0) h is) in
      ap (λ o. option_map_or (λ (g : Header). g.size) o 0) is ∙ s.spelled.fits.page_size

  pub all_slots : (h : Header) → header_of view ≡ Some h → HaveAllSlots view
  all_slots h is page p e = (shows page (kind.Pointer p) e).spelled.fits.count ∙ ap slots (sym (header_size h is))
