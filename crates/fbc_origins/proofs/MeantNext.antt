-- Links of every view are meant by its stamps, after each event.
use Rattle.std.proofs.Common.{◌≡◌, ℕ, Bool, true, ◌∷◌, Option, Some, None, is_some, refl}
use Rattle.fbc_kinds.specs.declared.edits.Edit.{Edit}
use Rattle.fbc_kinds.specs.declared.pages.Page.{Page}
use Rattle.fbc_kinds.specs.declared.shapes.Shape.{Shape}
use Rattle.fbc_kinds.specs.View.{View}
use Rattle.fbc_world.specs.declared.events.Act.{Act}
use Rattle.fbc_world.specs.declared.events.Act.TheVariants.{Local}
use Rattle.fbc_world.specs.declared.events.LocalEvent.TheVariants as local
use Rattle.fbc_world.specs.History.{History, Moment, happens}
use Rattle.fbc_world.specs.World.{page_after, world_of}
use Rattle.fbc_legal.specs.Guards.{GuardOfEdit}
use Rattle.fbc_legal.specs.Legal.{IsLegal}
use Rattle.fbc_legal.specs.Scene.{scene_of}
use Rattle.fbc_origins.specs.Origins.{LinksAreMeant}
use Rattle.fbc_origins.specs.Owed.{IsInOrder, MakeNoLinks}
use Rattle.fbc_origins.proofs.LinksNext.{edit-meant}
use Rattle.fbc_origins.proofs.Meant.{AreMeant}
use Rattle.fbc_origins.proofs.ViewsNext.{views-acted, views-edited}

module _ (shape : Shape) (file : View) (before : History) (order : IsInOrder (scene_of shape file before)) (no_links : MakeNoLinks (scene_of shape file before)) where
  edited : (owner page : ℕ) (e : Edit) (landed : Bool) → IsLegal shape file (happens owner (Local (local.Edit page e)) landed ∷ before) → (found : Option Page) → page_after shape (world_of shape file before) owner page e ≡ found → is_some found ≡ true
      → LinksAreMeant (scene_of shape file (happens owner (Local (local.Edit page e)) landed ∷ before))
  edited owner page e landed legal None is fits = absurd cc
  edited owner page e landed legal (Some content) is fits =
      views-edited shape file before AreMeant owner page e landed legal content is order.original.meant
      (λ seen stamps later later_stamps v was. edit-meant (scene_of shape file before) order owner page content seen stamps later later_stamps was e legal.1.guard is (no_links owner page e content legal.1.guard is) v)

  fits_of : (owner page : ℕ) (e : Edit) → GuardOfEdit (scene_of shape file before) owner page e → is_some (page_after shape (world_of shape file before) owner page e) ≡ true
  fits_of owner page e g = g.fits

  step : (owner : ℕ) (act : Act) (landed : Bool) → IsLegal shape file (happens owner act landed ∷ before) → LinksAreMeant (scene_of shape file (happens owner act landed ∷ before))
  step owner (Local (local.Edit page e)) landed legal = edited owner page e landed legal (page_after shape (world_of shape file before) owner page e) refl (fits_of owner page e legal.1.guard)
  step owner (Local (local.Before high low)) landed legal = views-acted shape file before AreMeant (happens owner (Local (local.Before high low)) landed) legal refl order.original.meant
  step owner (Local (local.Pin page)) landed legal = views-acted shape file before AreMeant (happens owner (Local (local.Pin page)) landed) legal refl order.original.meant
  step owner (Local (local.Unpin page)) landed legal = views-acted shape file before AreMeant (happens owner (Local (local.Unpin page)) landed) legal refl order.original.meant
  step owner act landed legal = views-acted shape file before AreMeant (happens owner act landed) legal refl order.original.meant

  pub links-next : (moment : Moment) → IsLegal shape file (moment ∷ before) → LinksAreMeant (scene_of shape file (moment ∷ before))
  links-next moment legal = step moment.event.actor moment.event.act moment.landed legal
