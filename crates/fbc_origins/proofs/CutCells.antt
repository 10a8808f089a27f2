-- A cell that has its link in what is kept alone, by its stamp, holds a version of a number with some property: between a
-- page and itself, and after each change of the newer one.
use Rattle.std.proofs.Common.{◌≡◌, ◌≢◌, ◌∙◌, ◌==◌, ◌<◌, ℕ, Bool, true, false, if◌then◌else◌, Option, Some, None, refl, sym, ap, subst, arith}
use Rattle.std.proofs.lemmas.Option.{same_Some}
use Rattle.fbc_kinds.specs.declared.edits.Edit.TheVariants as edit
use Rattle.fbc_kinds.specs.declared.pages.Cell.{Cell}
use Rattle.fbc_kinds.specs.declared.pages.Page.{Page}
use Rattle.fbc_kinds.specs.View.{cell_in}
use Rattle.fbc_legal.specs.Stamps.{Stamps, born_after, stamped, takes_link}
use Rattle.fbc_legal.proofs.Exclusion.{same_number}

-- Where a cell has one stamp in both, and its link in the first alone, its number has the property.
abbrev pub AreCutOf : (ℕ → Type 0) → Option Page → Stamps → Option Page → Stamps → Type 0
AreCutOf Has kept keeps newest news = (cell : ℕ) (old new : Cell) → cell_in kept cell ≡ Some old → cell_in newest cell ≡ Some new → keeps.born cell ≡ news.born cell
    → old.back_page ≢ 0 → new.back_page ≡ 0 → Has new.number

pub none-cut : (Has : ℕ → Type 0) (page : Option Page) (s : Stamps) → AreCutOf Has page s page s
none-cut Has page s cell old new was is one linked alone =
    let same : old ≡ new = same_Some old new (sym was ∙ is) in
    absurd (linked (ap (λ (v : Cell). v.back_page) same ∙ alone))

module _ (Has : ℕ → Type 0) (kept : Option Page) (keeps : Stamps) (before : Option Page) (s : Stamps) (stamp : ℕ) (born : ℕ → ℕ → ℕ) (below : (cell : ℕ) → keeps.born cell < stamp) (held : AreCutOf Has kept keeps before s) where
  none_new : (X : Type 0) (cell : ℕ) → keeps.born cell ≡ stamp → X
  none_new X cell is = absurd (grind (arith, below cell, is))

  pub cut-left : (content : Option Page) → ((cell : ℕ) → cell_in content cell ≡ cell_in before cell) → (news : Stamps) → ((cell : ℕ) → news.born cell ≡ s.born cell) → AreCutOf Has kept keeps content news
  cut-left content same news births cell old new was is one linked alone = held cell old new was (sym (same cell) ∙ is) (one ∙ births cell) linked alone

  -- A cell is cleared.
  pub cut-cleared : (cell : ℕ) (fresh : Cell) (content : Option Page) → ((place : ℕ) → cell_in content place ≡ (if place == cell then Some fresh else cell_in before place)) → AreCutOf Has kept keeps content (stamped stamp born before (edit.ClearCell cell) s)
  cut-cleared cell fresh content made place old new was is one linked alone = go (place == cell) (sym (made place) ∙ is) one where
    go : (b : Bool) → (if b then Some fresh else cell_in before place) ≡ Some new → keeps.born place ≡ (if b then stamp else s.born place) → Has new.number
    go true found same = none_new _ place same
    go false found same = held place old new was found same linked alone

  -- One cell has a new content.
  module _ (cell : ℕ) (fresh : Cell) (cuts : (old : Cell) → cell_in before cell ≡ Some old → takes_link old fresh ≡ true → Has fresh.number) where
    here : (found : Option Cell) → cell_in before cell ≡ found → keeps.born cell ≡ born_after stamp (s.born cell) fresh found → Has fresh.number
    here None stands one = none_new _ cell one
    here (Some top) stands one = go (takes_link top fresh) refl one where
      go : (b : Bool) → takes_link top fresh ≡ b → keeps.born cell ≡ (if b then s.born cell else stamp) → Has fresh.number
      go true takes same = cuts top stands takes
      go false takes same = none_new _ cell same

    there : (place : ℕ) → place ≡ cell → keeps.born place ≡ born_after stamp (s.born place) fresh (cell_in before place) → Has fresh.number
    there place same one = here (cell_in before cell) refl (subst (λ q. keeps.born q ≡ born_after stamp (s.born q) fresh (cell_in before q)) same one)

    pub cut-put : (content : Option Page) → ((place : ℕ) → cell_in content place ≡ (if place == cell then Some fresh else cell_in before place)) → AreCutOf Has kept keeps content (stamped stamp born before (edit.PutCell cell fresh) s)
    cut-put content made place old new was is one linked alone = go (place == cell) refl (sym (made place) ∙ is) one where
      go : (b : Bool) → place == cell ≡ b → (if b then Some fresh else cell_in before place) ≡ Some new → keeps.born place ≡ (if b then born_after stamp (s.born place) fresh (cell_in before place) else s.born place) → Has new.number
      go true at found same = subst (λ (v : Cell). Has v.number) (same_Some fresh new found) (there place (same_number place cell at) same)
      go false at found same = held place old new was found same linked alone
