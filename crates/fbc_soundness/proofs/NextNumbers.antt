-- Views that see the next number raised.
use Rattle.std.proofs.Common.{◌≡◌, ◌≤◌, ℕ, Option, inl, inr, sym, ap, subst, arith}
use Rattle.std.specs.Option.{option_map_or}
use Rattle.fbc_kinds.specs.declared.edits.Edit.TheVariants as edit
use Rattle.fbc_kinds.specs.declared.pages.Header.{Header}
use Rattle.fbc_kinds.specs.declared.pages.Page.{Page}
use Rattle.fbc_kinds.specs.declared.shapes.Shape.{Shape}
use Rattle.fbc_kinds.specs.Sound.{IsSound}
use Rattle.fbc_kinds.specs.View.{View, header_in, next_of}
use Rattle.fbc_page_edits.specs.Alike.{ReadAlike}
use Rattle.fbc_page_edits.specs.Edited.{with_page}
use Rattle.fbc_page_edits.proofs.Fitted.{raises_next}
use Rattle.fbc_page_edits.proofs.HeaderCases.{header_cases}
use Rattle.fbc_page_edits.proofs.HeaderChanged.{header_or_unreached}
use Rattle.fbc_page_edits.proofs.NextRaised.{raised_alike, raised_sound}
use Rattle.fbc_world.specs.History.{History}
use Rattle.fbc_legal.specs.Scene.{Scene, newest_at, scene_of}
use Rattle.fbc_legal.specs.Stamps.{Stamps}
use Rattle.fbc_closed_cuts.specs.Owed.{IsSeenEdit}
use Rattle.fbc_soundness.specs.Seen.{IsKept}
use Rattle.fbc_soundness.proofs.Kept.{kept_off}

-- A view that reads as a sound one, and has no smaller next number.
raised_kept : (view after : View) → IsSound after → ReadAlike view after → next_of view ≤ next_of after → IsKept view after
raised_kept view after sound_after alike greater = record { sound = sound_after; alike = alike; next = greater }

module _ (shape : Shape) (file : View) (past : History) (owner page : ℕ) (content : Page) (seen : View) (stamps : ℕ → Stamps) (next : ℕ)
    (is : IsSeenEdit shape file past owner page (edit.SetNext next) content seen stamps) where
  abbrev at : Scene
  at = scene_of shape file past

  greater : 0 ≡ page → next_of seen ≤ next
  greater here =
      let same : seen 0 ≡ newest_at at 0 = subst (λ p. seen p ≡ newest_at at p) (sym here) is.sees.edited_page.page in
      let number : next_of seen ≡ next_of (newest_at at) = ap (λ (o : Option Page). option_map_or (λ (h : Header). h.next) (header_in o) 0) same in
      grind (arith, number, is.guard.row.2, is.guard.row.3)

  pub next_kept : IsKept seen (with_page seen page content)
  next_kept =
      let made = raises_next shape next (seen page) content is.fits in
      elim (header_or_unreached seen page made.header is.sound made.changes.stands) [
        | inl here ↦
            header_cases (IsKept seen) seen page content made.header _ is.sound made.changes
            (λ stands. raised_kept seen _ (raised_sound seen made.header next is.sound stands (greater here)) (raised_alike seen made.header next is.sound stands) (greater here))
            (λ off. kept_off seen page content is.sound off)
        | inr off ↦ kept_off seen page content is.sound off
      ]
