-- The header of a view that sees an edit grows into the one after it.
use Rattle.std.proofs.Common.{◌≡◌, ◌==◌, ℕ, Bool, true, false, if◌then◌else◌, Option, Some, refl, sym, subst}
use Rattle.fbc_kinds.specs.declared.edits.Edit.{Edit}
use Rattle.fbc_kinds.specs.declared.pages.Page.{Page}
use Rattle.fbc_kinds.specs.View.{View}
use Rattle.fbc_page_edits.specs.Edited.{with_page}
use Rattle.fbc_world.specs.PageCell.{page_for}
use Rattle.fbc_world.specs.World.{World, newest_of, page_after}
use Rattle.fbc_legal.specs.Coherent.{IsCoherent}
use Rattle.fbc_legal.specs.Guards.{GuardOfEdit}
use Rattle.fbc_legal.specs.Scene.{Scene}
use Rattle.fbc_legal.proofs.Exclusion.{same_number}
use Rattle.fbc_legal.proofs.HeaderGrowth.{exclusive-own, never_format, newest-own}
use Rattle.fbc_closed_cuts.specs.Growth.{GrowsInto}
use Rattle.fbc_closed_cuts.proofs.Growing.{grows-self}
use Rattle.fbc_closed_cuts.proofs.HeadersGrow.{edit-grows, no_fall}

module _ (at : Scene) (h : IsCoherent at.world) (actor : ℕ) (e : Edit) (content : Page) (seen : View) where
  abbrev w : World
  w = at.world

  at_header : GuardOfEdit at actor 0 e → page_after at.shape w actor 0 e ≡ Some content → seen 0 ≡ newest_of w 0 → GrowsInto (seen 0) (Some content)
  at_header g is shown =
      let own : newest_of w 0 ≡ page_for actor (w.kept 0) (w.draft 0) = newest-own actor (w.kept 0) (w.draft 0) (exclusive-own w h actor 0 g.exclusive) in
      subst (λ (o : Option Page). GrowsInto o (Some content)) (sym shown)
      (edit-grows at.shape e (newest_of w 0) content (never_format at actor e g.row) (no_fall at h actor e g.row) (rw own is))

  pub header-grown : (page : ℕ) → GuardOfEdit at actor page e → page_after at.shape w actor page e ≡ Some content → seen page ≡ newest_of w page → GrowsInto (seen 0) (with_page seen page content 0)
  header-grown page g is shown = go (0 == page) refl where
    go : (b : Bool) → 0 == page ≡ b → GrowsInto (seen 0) (if b then Some content else seen 0)
    go true same =
        subst (λ p. GuardOfEdit at actor p e → page_after at.shape w actor p e ≡ Some content → seen p ≡ newest_of w p → GrowsInto (seen 0) (Some content)) (same_number 0 page same)
        (λ guard fits newest. at_header guard fits newest) g is shown
    go false other = grows-self (seen 0)
