-- Versions that an edit made unreached are gone from every view with that edit, after each event of a legal history.
use Rattle.std.proofs.Common.{◌≡◌, ℕ, true, ◌∷◌, Option, Some, None, Bool, is_some, refl}
use Rattle.fbc_kinds.specs.declared.edits.Edit.{Edit}
use Rattle.fbc_kinds.specs.declared.pages.Page.{Page}
use Rattle.fbc_kinds.specs.declared.shapes.Shape.{Shape}
use Rattle.fbc_kinds.specs.View.{View}
use Rattle.fbc_world.specs.declared.events.Act.{Act}
use Rattle.fbc_world.specs.declared.events.Act.TheVariants.{Local}
use Rattle.fbc_world.specs.declared.events.LocalEvent.TheVariants as local
use Rattle.fbc_world.specs.History.{History, Moment, happens}
use Rattle.fbc_world.specs.World.{page_after, world_of}
use Rattle.fbc_legal.specs.Guards.{GuardOfEdit}
use Rattle.fbc_legal.specs.Legal.{IsLegal}
use Rattle.fbc_legal.specs.Scene.{scene_of}
use Rattle.fbc_origins.specs.Origins.{UnlinkedAreGone}
use Rattle.fbc_origins.specs.Owed.{IsInOrder, MakeNoLinks}
use Rattle.fbc_origins.specs.Rows.{SettledRowsAreNamed}
use Rattle.fbc_origins.proofs.GoneNext.{gone-acted, gone-edited}

module _ (shape : Shape) (file : View) (before : History) (order : IsInOrder (scene_of shape file before)) (named : SettledRowsAreNamed (scene_of shape file before)) (no_links : MakeNoLinks (scene_of shape file before)) where
  edited : (owner page : ℕ) (e : Edit) (landed : Bool) → IsLegal shape file (happens owner (Local (local.Edit page e)) landed ∷ before) → (found : Option Page) → page_after shape (world_of shape file before) owner page e ≡ found → is_some found ≡ true
      → UnlinkedAreGone (scene_of shape file (happens owner (Local (local.Edit page e)) landed ∷ before))
  edited owner page e landed legal None is fits = absurd cc
  edited owner page e landed legal (Some content) is fits =
      gone-edited shape file before owner page e landed legal order named content is (no_links owner page e content legal.1.guard is)

  fits_of : (owner page : ℕ) (e : Edit) → GuardOfEdit (scene_of shape file before) owner page e → is_some (page_after shape (world_of shape file before) owner page e) ≡ true
  fits_of owner page e g = g.fits

  step : (owner : ℕ) (act : Act) (landed : Bool) → IsLegal shape file (happens owner act landed ∷ before) → UnlinkedAreGone (scene_of shape file (happens owner act landed ∷ before))
  step owner (Local (local.Edit page e)) landed legal = edited owner page e landed legal (page_after shape (world_of shape file before) owner page e) refl (fits_of owner page e legal.1.guard)
  step owner (Local (local.Before high low)) landed legal = gone-acted shape file before (happens owner (Local (local.Before high low)) landed) legal refl order.original.gone
  step owner (Local (local.Pin page)) landed legal = gone-acted shape file before (happens owner (Local (local.Pin page)) landed) legal refl order.original.gone
  step owner (Local (local.Unpin page)) landed legal = gone-acted shape file before (happens owner (Local (local.Unpin page)) landed) legal refl order.original.gone
  step owner act landed legal = gone-acted shape file before (happens owner act landed) legal refl order.original.gone

  pub gone-next : (moment : Moment) → IsLegal shape file (moment ∷ before) → UnlinkedAreGone (scene_of shape file (moment ∷ before))
  gone-next moment legal = step moment.event.actor moment.event.act moment.landed legal
