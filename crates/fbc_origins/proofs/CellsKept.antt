-- A cell with the same stamp in the file and in the newest pages holds one version, after each edit.
use Rattle.std.proofs.Common.{◌≡◌, ◌∙◌, ◌==◌, ◌<◌, ◌⊎◌, inl, inr, ℕ, Bool, true, false, if◌then◌else◌, Option, Some, None, refl, sym, subst, arith}
use Rattle.fbc_kinds.specs.declared.edits.Edit.TheVariants as edit
use Rattle.fbc_kinds.specs.declared.pages.Cell.{Cell}
use Rattle.fbc_kinds.specs.declared.pages.Page.{Page}
use Rattle.fbc_kinds.specs.View.{cell_in}
use Rattle.fbc_version_edits.specs.Forms.{NamesNone}
use Rattle.fbc_page_edits.specs.Facing.{NameTheSame}
use Rattle.fbc_legal.proofs.Exclusion.{same_number}
use Rattle.std.proofs.lemmas.Option.{same_Some}
use Rattle.fbc_legal.specs.Stamps.{Stamps, born_after, meant_after, meant_by, stamped, takes_link}
use Rattle.fbc_origins.specs.Origins.{IsSameVersion}

-- Cells of one stamp hold one version, which meant the same.
abbrev pub KeepsCells : Option Page → Stamps → Option Page → Stamps → Type 0
KeepsCells kept keeps newest news = (cell : ℕ) (old new : Cell) → cell_in kept cell ≡ Some old → cell_in newest cell ≡ Some new → keeps.born cell ≡ news.born cell
    → IsSameVersion old new × (keeps.meant cell ≡ news.meant cell)

pub same-version : (a b c : Cell) → IsSameVersion a b → IsSameVersion b c → IsSameVersion a c
same-version a b c one two = record { flag = two.flag ∙ one.flag; number = two.number ∙ one.number; value = two.value ∙ one.value; link = go one.link two.link } where
  go : NameTheSame a b ⊎ NamesNone b → NameTheSame b c ⊎ NamesNone c → NameTheSame a c ⊎ NamesNone c
  go first (inr none) = inr none
  go (inl first) (inl second) = inl (record { page = second.page ∙ first.page; cell = second.cell ∙ first.cell })
  go (inr none) (inl second) = inr (second.page ∙ none)

pub same-itself : (a : Cell) → IsSameVersion a a
same-itself a = record { flag = refl; number = refl; value = refl; link = inl (record { page = refl; cell = refl }) }

module _ (kept : Option Page) (keeps : Stamps) (before : Option Page) (s : Stamps) (stamp : ℕ) (born : ℕ → ℕ → ℕ) (below : (cell : ℕ) → keeps.born cell < stamp) (held : KeepsCells kept keeps before s) where
  none_new : (X : Type 0) (cell : ℕ) → keeps.born cell ≡ stamp → X
  none_new X cell is = absurd (grind (arith, below cell, is))

  pub left : (content : Option Page) → ((cell : ℕ) → cell_in content cell ≡ cell_in before cell) → (news : Stamps) → ((cell : ℕ) → news.born cell ≡ s.born cell) → ((cell : ℕ) → news.meant cell ≡ s.meant cell)
      → KeepsCells kept keeps content news
  left content same news births links cell old new was is one =
      let r = held cell old new was (sym (same cell) ∙ is) (one ∙ births cell) in
      (r.0, r.1 ∙ sym (links cell))

  -- A cell is cleared.
  pub cleared : (cell : ℕ) (fresh : Cell) (content : Option Page) → ((place : ℕ) → cell_in content place ≡ (if place == cell then Some fresh else cell_in before place)) → KeepsCells kept keeps content (stamped stamp born before (edit.ClearCell cell) s)
  cleared cell fresh content made place old new was is one = go (place == cell) (sym (made place) ∙ is) one where
    go : (b : Bool) → (if b then Some fresh else cell_in before place) ≡ Some new → keeps.born place ≡ (if b then stamp else s.born place)
        → IsSameVersion old new × (keeps.meant place ≡ (if b then 0 else s.meant place))
    go true found same = none_new _ place same
    go false found same = held place old new was found same

  -- One cell has a new content.
  module _ (cell : ℕ) (fresh : Cell) (cuts : (old : Cell) → cell_in before cell ≡ Some old → takes_link old fresh ≡ true → IsSameVersion old fresh) where
    here : (old : Cell) → cell_in kept cell ≡ Some old → (found : Option Cell) → cell_in before cell ≡ found → keeps.born cell ≡ born_after stamp (s.born cell) fresh found
        → IsSameVersion old fresh × (keeps.meant cell ≡ meant_after born (s.meant cell) fresh found)
    here old was None stands one = none_new _ cell one
    here old was (Some top) stands one = go (takes_link top fresh) refl one where
      go : (b : Bool) → takes_link top fresh ≡ b → keeps.born cell ≡ (if b then s.born cell else stamp) → IsSameVersion old fresh × (keeps.meant cell ≡ (if b then s.meant cell else meant_by born fresh))
      go true takes same = let r = held cell old top was stands same in (same-version old top fresh r.0 (cuts top stands takes), r.1)
      go false takes same = none_new _ cell same

    pub put : (content : Option Page) → ((place : ℕ) → cell_in content place ≡ (if place == cell then Some fresh else cell_in before place)) → KeepsCells kept keeps content (stamped stamp born before (edit.PutCell cell fresh) s)
    put content made place old new was is one = go (place == cell) refl (sym (made place) ∙ is) one where
      go : (b : Bool) → place == cell ≡ b → (if b then Some fresh else cell_in before place) ≡ Some new → keeps.born place ≡ (if b then born_after stamp (s.born place) fresh (cell_in before place) else s.born place)
          → IsSameVersion old new × (keeps.meant place ≡ (if b then meant_after born (s.meant place) fresh (cell_in before place) else s.meant place))
      go true at found same = placed place (same_number place cell at) was same (same_Some fresh new found) where
        placed : (p : ℕ) → p ≡ cell → cell_in kept p ≡ Some old → keeps.born p ≡ born_after stamp (s.born p) fresh (cell_in before p) → fresh ≡ new
            → IsSameVersion old new × (keeps.meant p ≡ meant_after born (s.meant p) fresh (cell_in before p))
        placed p where_it stood born_is is_new =
            subst (λ (v : Cell). IsSameVersion old v × (keeps.meant p ≡ meant_after born (s.meant p) fresh (cell_in before p))) is_new
            (subst (λ q. cell_in kept q ≡ Some old → keeps.born q ≡ born_after stamp (s.born q) fresh (cell_in before q) → IsSameVersion old fresh × (keeps.meant q ≡ meant_after born (s.meant q) fresh (cell_in before q))) (sym where_it)
            (λ stood_there born_there. here old stood_there (cell_in before cell) refl born_there) stood born_is)
      go false at found same = held place old new was found same
