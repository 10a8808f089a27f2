-- A put that takes a link, and leaves the version, is a cut: no other form of it has that effect.
use Rattle.std.proofs.Common.{◌≡◌, ◌∙◌, ◌==◌, ◌<◌, ℕ, true, false, not, ◌&&◌, inr, Some, refl, sym, ap, arith}
use Rattle.std.proofs.lemmas.Bool.Decides.{nat_tests}
use Rattle.std.proofs.lemmas.Bool.{not-true}
use Rattle.std.proofs.lemmas.Option.{same_Some}
use Rattle.fbc_kinds.specs.declared.edits.Edit.TheVariants.{PutCell}
use Rattle.fbc_kinds.specs.declared.pages.Cell.{Cell}
use Rattle.fbc_kinds.specs.declared.pages.Flag.{Flag}
use Rattle.fbc_kinds.specs.declared.pages.Flag.TheVariants as flag
use Rattle.fbc_kinds.specs.Reach.{LinksTo, ReachesCell}
use Rattle.fbc_kinds.specs.Sound.{IsBackValue}
use Rattle.fbc_kinds.specs.View.{cell_at, is_empty, is_top}
use Rattle.fbc_legal.specs.Guards.{GuardOfEdit}
use Rattle.fbc_legal.specs.Rows.{IsBackout, IsCut, IsPut, without_link}
use Rattle.fbc_legal.specs.Scene.{Scene, newest_at}
use Rattle.fbc_legal.specs.Stamps.{is_same_flag, takes_link}
use Rattle.fbc_legal.proofs.Exclusion.{both_of, same_number}
use Rattle.fbc_closed_cuts.specs.Upheld.{IsUpheld}
use Rattle.fbc_origins.specs.Origins.{IsSameVersion}
use Rattle.fbc_origins.proofs.PutPages.{IsPutPage, newest-sound, put-page, put-reached}

same_flag : (a b : Flag) → is_same_flag a b ≡ true → a ≡ b
same_flag flag.Empty flag.Empty is = refl
same_flag flag.Primary flag.Primary is = refl
same_flag flag.Deletion flag.Deletion is = refl
same_flag flag.Back flag.Back is = refl
same_flag _ _ is = absurd cc

-- What is known where a link is taken.
pub record IsTaken (old new : Cell) : Type 0 where
  pub flag : old.flag ≡ new.flag
  pub number : old.number ≡ new.number
  pub linked : (old.back_page == 0) ≡ false
  pub alone : new.back_page ≡ 0

pub taken : (old new : Cell) → takes_link old new ≡ true → IsTaken old new
taken old new is =
    let outer = both_of (is_same_flag old.flag new.flag && (old.number == new.number) && not (old.back_page == 0)) (new.back_page == 0) is in
    let middle = both_of (is_same_flag old.flag new.flag && (old.number == new.number)) (not (old.back_page == 0)) outer.0 in
    let inner = both_of (is_same_flag old.flag new.flag) (old.number == new.number) middle.0 in
    record { flag = same_flag old.flag new.flag inner.0; number = same_number old.number new.number inner.1; linked = not-true (old.back_page == 0) middle.1; alone = same_number new.back_page 0 outer.1 }

module _ (at : Scene) (u : IsUpheld at) (owner page cell : ℕ) (content : Cell) (g : GuardOfEdit at owner page (PutCell cell content)) where
  -- What a top of the page names has a smaller number.
  pub below-smaller : (old back : Cell) → cell_at (newest_at at) page cell ≡ Some old → is_top old.flag ≡ true → (old.back_page == 0) ≡ false → cell_at (newest_at at) old.back_page old.back_cell ≡ Some back
      → back.number < old.number
  below-smaller old back stands top linked below =
      let p : IsPutPage at owner page cell content = put-page at owner page cell content g in
      let reached : ReachesCell (newest_at at) p.data_page.relation page cell = ReachesCell.top p.data_page.sequence page cell old (put-reached at owner page cell content g u) stands top in
      let links : LinksTo (newest_at at) p.data_page.relation page cell old old.back_page old.back_cell = record { reached = reached; stands = stands; names = record { some = linked; page_is = refl; cell_is = refl } } in
      let value : IsBackValue (newest_at at) p.data_page.relation old.back_page old.back_cell old.number = (newest-sound at u).back p.data_page.relation page cell old.back_page old.back_cell old links in
      let same : value.back ≡ back = same_Some value.back back (sym value.stands ∙ below) in
      rw (← same) value.smaller

  no_backout : (old : Cell) → IsTaken old content → (b : IsBackout at page cell content) → b.old ≡ old → ⊥
  no_backout old t b same =
      let smaller : b.back.number < b.old.number = below-smaller b.old b.back b.stands b.over (rw same t.linked) b.below in
      let one : old.number ≡ b.back.number = t.number ∙ ap (λ (v : Cell). v.number) b.same in
      absurd (grind (arith, smaller, one, ap (λ (v : Cell). v.number) same))

  pub is-cut : (old : Cell) → cell_at (newest_at at) page cell ≡ Some old → takes_link old content ≡ true → IsCut at page cell content
  is-cut old stands is = go g.row where
    t : IsTaken old content
    t = taken old content is

    empty_or : (found : Cell) → found ≡ old → is_empty found.flag ≡ true → is_empty content.flag ≡ true
    empty_or found same over = rw (← t.flag, ← same) over

    go : IsPut at owner page cell content → IsCut at page cell content
    go (IsPut.first f) = absurd (let e : is_empty flag.Primary ≡ true = ap is_empty (sym f.value) ∙ empty_or f.old (same_Some f.old old (sym f.stands ∙ stands)) f.over in cc)
    go (IsPut.over_own f) =
        let same : f.old ≡ old = same_Some f.old old (sym f.stands ∙ stands) in
        absurd (let zero_is : old.back_page ≡ 0 = ap (λ (v : Cell). v.back_page) (sym same) ∙ sym f.link.page ∙ t.alone in grind (arith, nat_tests, zero_is, t.linked))
    go (IsPut.over f) =
        let same : f.old ≡ old = same_Some f.old old (sym f.stands ∙ stands) in
        absurd (f.over_other (ap (λ (v : Cell). v.number) same ∙ t.number ∙ f.own))
    go (IsPut.move f) = absurd (let e : is_empty flag.Back ≡ true = ap (λ (v : Cell). is_empty v.flag) (sym f.same) ∙ empty_or f.old (same_Some f.old old (sym f.stands ∙ stands)) f.over in cc)
    go (IsPut.backout f) = absurd (no_backout old t f (same_Some f.old old (sym f.stands ∙ stands)))
    go (IsPut.cut f) = f

  pub only-cuts : (old : Cell) → cell_at (newest_at at) page cell ≡ Some old → takes_link old content ≡ true → IsSameVersion old content
  only-cuts old stands is =
      let cut : IsCut at page cell content = is-cut old stands is in
      let same : cut.old ≡ old = same_Some cut.old old (sym cut.stands ∙ stands) in
      let now : content ≡ without_link old = cut.same ∙ ap without_link same in
      record { flag = ap (λ (v : Cell). v.flag) now; number = ap (λ (v : Cell). v.number) now; value = ap (λ (v : Cell). v.value) now; link = inr (ap (λ (v : Cell). v.back_page) now) }
