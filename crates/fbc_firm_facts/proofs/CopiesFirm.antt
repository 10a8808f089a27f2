-- Pages of which an owner has copies are the newest in each view that has all its drafts.
use Rattle.std.proofs.Common.{◌≡◌, ◌∙◌, ◌/◌, ◌%◌, ◌&&◌, ℕ, Bool, true, Option, Some, None, is_some, refl, sym, ap, subst}
use Rattle.std.specs.Option.{unwrap_or}
use Rattle.fbc_kinds.specs.declared.pages.Page.{Page}
use Rattle.fbc_kinds.specs.declared.pages.State.TheVariants.{Active}
use Rattle.fbc_kinds.specs.declared.shapes.Shape.{Shape}
use Rattle.fbc_kinds.specs.Chain.{state_of}
use Rattle.fbc_kinds.specs.Limits.{slots, tip_numbers}
use Rattle.fbc_kinds.specs.View.{View, named_in, size_of, state_in, tip_of}
use Rattle.fbc_world.specs.World.{World, newest_of}
use Rattle.fbc_legal.specs.Coherent.{IsCoherent, IsNewest}
use Rattle.fbc_closed_cuts.specs.Cut.{Cut, view}
use Rattle.fbc_closed_cuts.specs.Firm.{HasOwnDrafts}
use Rattle.fbc_closed_cuts.specs.Growth.{GrowsInto}
use Rattle.fbc_closed_cuts.proofs.Firmness.{copy-firm}
use Rattle.fbc_closed_cuts.proofs.Growing.{grows-self}
use Rattle.fbc_numbers.proofs.PageStates.{size_in, state_at, tip_in}
use Rattle.fbc_origins.proofs.RowsWritten.{pointer_by}
use Rattle.fbc_firm_facts.specs.Copies.{ReadsOnly}
use Rattle.fbc_firm_facts.specs.HeaderFacts.{GrowsWithHeaders}
use Rattle.fbc_notes.specs.HeaderTests.{is_number}
use Rattle.fbc_notes.specs.RowNames.{names_row}

module _ (w : World) (h : IsCoherent w) (owner : ℕ) (cut : Cut) (own : HasOwnDrafts w owner cut) where
  same-page : (page : ℕ) → is_some (w.copy owner page) ≡ true → view w cut page ≡ newest_of w page
  same-page page has = go (w.copy owner page) refl has where
    go : (copy : Option Page) → w.copy owner page ≡ copy → is_some copy ≡ true → view w cut page ≡ newest_of w page
    go None is some = absurd cc
    go (Some content) is some = copy-firm w h owner page content is cut own ∙ sym (subst (λ c. IsNewest c (newest_of w page)) is (h.newest owner page))

  pub pages-firm : (reads : ℕ → Bool) (passes : View → Bool) → ((page : ℕ) → reads page ≡ true → is_some (w.copy owner page) ≡ true) → ReadsOnly reads passes → passes (newest_of w) ≡ true → passes (view w cut) ≡ true
  pages-firm reads passes copied only is = only (newest_of w) (view w cut) (λ page read. sym (same-page page (copied page read))) is

  pub headers-firm : (passes : View → Bool) → is_some (w.copy owner 0) ≡ true → GrowsWithHeaders passes → passes (newest_of w) ≡ true → passes (view w cut) ≡ true
  headers-firm passes copied grows is = grows (newest_of w) (view w cut) (subst (λ (o : Option Page). GrowsInto (newest_of w 0) o) (sym (same-page 0 copied)) (grows-self (newest_of w 0))) is

  -- Whether these pages name a row, as header and pointer page.
  abbrev names_in : Shape → ℕ → ℕ → ℕ → ℕ → Option Page → Option Page → Bool
  names_in shape relation sequence pointer page header found =
      is_number (pointer_by header relation (sequence / slots shape.size)) pointer && is_number (named_in found (sequence % slots shape.size)) page

  pub rows-firm : (shape : Shape) (relation sequence pointer page : ℕ) → is_some (w.copy owner 0) ≡ true → is_some (w.copy owner pointer) ≡ true
      → names_row shape relation sequence pointer page (newest_of w) ≡ true → names_row shape relation sequence pointer page (view w cut) ≡ true
  rows-firm shape relation sequence pointer page header copied is =
      ap (λ (o : Option Page). names_in shape relation sequence pointer page o (view w cut pointer)) (same-page 0 header)
      ∙ ap (λ (o : Option Page). names_in shape relation sequence pointer page (newest_of w 0) o) (same-page pointer copied)
      ∙ is

  module _ (number tip : ℕ) (header : is_some (w.copy owner 0) ≡ true) (copied : is_some (w.copy owner tip) ≡ true) (named : tip_of (newest_of w) (number / tip_numbers (size_of (newest_of w))) ≡ Some tip) where
    abbrev place : ℕ
    place = number % tip_numbers (size_of (newest_of w))

    pub states-firm : state_of (view w cut) number ≡ state_of (newest_of w) number
    states-firm =
        ap (λ (o : Option Page). state_at (view w cut) (number % tip_numbers (size_in o)) (tip_in o (number / tip_numbers (size_in o)))) (same-page 0 header)
        ∙ ap (state_at (view w cut) place) named
        ∙ ap (λ (o : Option Page). unwrap_or (state_in o place) Active) (same-page tip copied)
        ∙ sym (ap (state_at (newest_of w) place) named)
