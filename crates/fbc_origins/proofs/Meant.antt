-- What links mean in a view that comes to hold an edited page, and in the newest pages.
use Rattle.std.proofs.Common.{◌≡◌, ◌∙◌, ℕ, Bool, true, false, if◌then◌else◌, refl, sym, ap, subst}
use Rattle.fbc_kinds.specs.declared.pages.Cell.{Cell}
use Rattle.fbc_kinds.specs.Reach.{LinksTo}
use Rattle.fbc_kinds.specs.View.{View}
use Rattle.fbc_legal.specs.Scene.{Scene, born_at, newest_at}
use Rattle.fbc_legal.specs.Stamps.{Stamps, newest_stamps}
use Rattle.fbc_closed_cuts.specs.Owed.{SeesEdit}
use Rattle.fbc_closed_cuts.specs.Views.{view_stamps}
use Rattle.fbc_origins.specs.Origins.{EveryView, LinksAreMeant}
use Rattle.fbc_origins.proofs.PutPages.{every_draft, newest-closed, newest-view}
use Rattle.fbc_origins.proofs.Seeing.{one-stamps, one-view}

-- The stamps of the view of all drafts are the newest ones.
pub newest-stamps-view : (at : Scene) (q : ℕ) → view_stamps at.world at.stamps (every_draft at.world) q ≡ newest_stamps at.world at.stamps q
newest-stamps-view at q = pick (every_draft at.world q) (at.stamps.draft q) (at.stamps.kept q) where
  pick : (c : Bool) (x y : Stamps) → (if c then (if c then x else y) else y) ≡ (if c then x else y)
  pick true x y = refl
  pick false x y = refl

-- What holds of every view holds of the newest pages, and of a view that sees an edit.
pub in-newest : (at : Scene) (Holds : View → (ℕ → Stamps) → Type 0) → EveryView at Holds → Holds (newest_at at) (view_stamps at.world at.stamps (every_draft at.world))
in-newest at Holds each = subst (λ (v : View). Holds v (view_stamps at.world at.stamps (every_draft at.world))) (newest-view at.world) (each (every_draft at.world) (newest-closed at.world))

pub in-seen : (at : Scene) (Holds : View → (ℕ → Stamps) → Type 0) (owner edited : ℕ) (seen : View) (stamps : ℕ → Stamps) (sees : SeesEdit at owner edited seen stamps) → EveryView at Holds → Holds seen stamps
in-seen at Holds owner edited seen stamps sees each =
    subst (λ (s : ℕ → Stamps). Holds seen s) (one-stamps at owner edited seen stamps sees)
    (subst (λ (v : View). Holds v (view_stamps at.world at.stamps sees.cut)) (one-view at owner edited seen stamps sees) (each sees.cut sees.closed))

-- Each link of a view is meant by its stamps.
abbrev pub AreMeant : View → (ℕ → Stamps) → Type 0
AreMeant seen stamps = (relation page cell back_page back_cell : ℕ) (version : Cell) → LinksTo seen relation page cell version back_page back_cell → (stamps page).meant cell ≡ (stamps back_page).born back_cell

module _ (at : Scene) (meant : LinksAreMeant at) where
  pub meant-newest : (relation page cell back_page back_cell : ℕ) (version : Cell) → LinksTo (newest_at at) relation page cell version back_page back_cell
      → (newest_stamps at.world at.stamps page).meant cell ≡ born_at at back_page back_cell
  meant-newest relation page cell back_page back_cell version link =
      ap (λ (s : Stamps). s.meant cell) (sym (newest-stamps-view at page)) ∙ in-newest at AreMeant meant relation page cell back_page back_cell version link ∙ ap (λ (s : Stamps). s.born back_cell) (newest-stamps-view at back_page)

  pub meant-seen : (owner edited : ℕ) (seen : View) (stamps : ℕ → Stamps) (sees : SeesEdit at owner edited seen stamps) → AreMeant seen stamps
  meant-seen owner edited seen stamps sees = in-seen at AreMeant owner edited seen stamps sees meant
