-- Rows that the file names are named, and those of open numbers are named or drafted, after every legal event.
use Rattle.std.proofs.Common.{◌≡◌, ℕ, Bool, true, [], ◌∷◌, Option, Some, None, is_some, refl, subst}
use Rattle.fbc_kinds.specs.declared.edits.Edit.{Edit}
use Rattle.fbc_kinds.specs.declared.edits.Edit.TheVariants as edit
use Rattle.fbc_kinds.specs.declared.pages.Page.{Page}
use Rattle.fbc_kinds.specs.declared.shapes.Shape.{Shape}
use Rattle.fbc_kinds.specs.declared.snapshots.Transaction.{Transaction}
use Rattle.fbc_kinds.specs.View.{View}
use Rattle.fbc_legal.specs.Guards.{GuardOfEdit}
use Rattle.fbc_legal.specs.Legal.{IsLegal}
use Rattle.fbc_legal.specs.Scene.{Scene, scene_of}
use Rattle.fbc_legal.specs.Stamps.{Stamps}
use Rattle.fbc_origins.proofs.Meant.{in-seen}
use Rattle.fbc_origins.proofs.ViewsNext.{IsEditedView, views-edited}
use Rattle.fbc_origins.specs.Owed.{IsInOrder}
use Rattle.fbc_origins.proofs.OpensCells.{clear-opens, put-opens}
use Rattle.fbc_origins.proofs.PutsNamed.{IsNamedFrom}
use Rattle.fbc_origins.proofs.RowsActed.{rows-stand-acted}
use Rattle.fbc_origins.proofs.RowsCame.{RowsCame}
use Rattle.fbc_origins.proofs.RowsEdits.{rows-came}
use Rattle.fbc_origins.proofs.RowsNext.{clear-named, put-named, rows-first, rows-views, views-rows}
use Rattle.fbc_origins.proofs.RowsOfTops.{OpensAreNamedIn}
use Rattle.fbc_origins.proofs.RowsOpen.{opens-edited}
use Rattle.fbc_origins.specs.Rows.{RowsAreNamed, RowsStand}
use Rattle.fbc_page_edits.specs.Edited.{with_page}
use Rattle.fbc_world.specs.declared.events.Act.{Act}
use Rattle.fbc_world.specs.declared.events.Act.TheVariants.{Local}
use Rattle.fbc_world.specs.declared.events.LocalEvent.TheVariants as local
use Rattle.fbc_world.specs.History.{History, Moment, happens}
use Rattle.fbc_world.specs.World.{page_after, world_of}

-- Before the first event no transaction is open.
pub rows-stand-first : (shape : Shape) (file : View) → RowsStand (scene_of shape file [])
rows-stand-first shape file = record { rows = rows-first shape file; opens = λ cut relation sequence pointer page cell owner top t closed row stands first is own. absurd cc }

module _ (shape : Shape) (file : View) (before : History) (order : IsInOrder (scene_of shape file before)) (stand : RowsStand (scene_of shape file before)) where
  abbrev at : Scene
  at = scene_of shape file before

  module _ (owner page : ℕ) (e : Edit) (landed : Bool) (legal : IsLegal shape file (happens owner (Local (local.Edit page e)) landed ∷ before)) (content : Page) (is : page_after shape at.world owner page e ≡ Some content) where
    g : GuardOfEdit at owner page e
    g = legal.1.guard

    module _ (seen : View) (stamps : ℕ → Stamps) (after : View) (later_stamps : ℕ → Stamps) (v : IsEditedView at owner page e content seen stamps after later_stamps) where
      named-seen : IsNamedFrom at seen
      named-seen = in-seen at (λ view origin. IsNamedFrom at view) owner page seen stamps v.sees (rows-views at stand.rows)

      rows-seen : (any : Edit) → e ≡ any → IsNamedFrom at (with_page seen page content)
      rows-seen (edit.PutCell cell put) same =
          put-named at order owner page content seen stamps v.sees named-seen cell put (subst (GuardOfEdit at owner page) same g) (subst (λ x. page_after shape at.world owner page x ≡ Some content) same is)
      rows-seen (edit.ClearCell cell) same =
          clear-named at order owner page content seen stamps v.sees named-seen cell (subst (GuardOfEdit at owner page) same g) (subst (λ x. page_after shape at.world owner page x ≡ Some content) same is)
      rows-seen any same =
          let came : RowsCame shape seen (with_page seen page content) = rows-came at order.upheld owner page content seen stamps v.sees any refl (subst (GuardOfEdit at owner page) same g) (subst (λ x. page_after shape at.world owner page x ≡ Some content) same is) in
          λ relation sequence pointer named cell top row stands settled.
          let was = came relation sequence pointer named cell top (record { row = row; stands = stands }) settled.0 in
          named-seen relation sequence pointer named cell top was.row was.stands settled

      opens-seen : (other : ℕ) (t : Transaction) → at.world.transaction other ≡ Some t → OpensAreNamedIn at other t.number seen → (any : Edit) → e ≡ any → OpensAreNamedIn at other t.number (with_page seen page content)
      opens-seen other t is_open opens (edit.PutCell cell put) same =
          put-opens at order owner page content seen stamps v.sees named-seen other t is_open opens cell put (subst (GuardOfEdit at owner page) same g) (subst (λ x. page_after shape at.world owner page x ≡ Some content) same is)
      opens-seen other t is_open opens (edit.ClearCell cell) same =
          clear-opens at order owner page content seen stamps v.sees named-seen other t is_open opens cell (subst (GuardOfEdit at owner page) same g) (subst (λ x. page_after shape at.world owner page x ≡ Some content) same is)
      opens-seen other t is_open opens any same =
          let came : RowsCame shape seen (with_page seen page content) = rows-came at order.upheld owner page content seen stamps v.sees any refl (subst (GuardOfEdit at owner page) same g) (subst (λ x. page_after shape at.world owner page x ≡ Some content) same is) in
          λ relation sequence pointer named cell top row stands such.
          let was = came relation sequence pointer named cell top (record { row = row; stands = stands }) such.0 in
          opens relation sequence pointer named cell top was.row was.stands such

    rows-edited : RowsAreNamed (scene_of shape file (happens owner (Local (local.Edit page e)) landed ∷ before))
    rows-edited =
        views-rows (scene_of shape file (happens owner (Local (local.Edit page e)) landed ∷ before))
        (views-edited shape file before (λ seen stamps. IsNamedFrom at seen) owner page e landed legal content is (rows-views at stand.rows)
        (λ seen stamps after later_stamps v each. subst (λ (x : View). IsNamedFrom at x) v.pages (rows-seen seen stamps after later_stamps v e refl)))

    rows-stand-edited : RowsStand (scene_of shape file (happens owner (Local (local.Edit page e)) landed ∷ before))
    rows-stand-edited = record {
      rows = rows-edited;
      opens = opens-edited shape file before order stand.opens owner page e landed legal content is
          (λ other t is_open seen stamps after later_stamps v opens. subst (λ (x : View). OpensAreNamedIn at other t.number x) v.pages (opens-seen seen stamps after later_stamps v other t is_open opens e refl));
    }

  edited : (owner page : ℕ) (e : Edit) (landed : Bool) → IsLegal shape file (happens owner (Local (local.Edit page e)) landed ∷ before) → (found : Option Page) → page_after shape (world_of shape file before) owner page e ≡ found → is_some found ≡ true
      → RowsStand (scene_of shape file (happens owner (Local (local.Edit page e)) landed ∷ before))
  edited owner page e landed legal None is fits = absurd cc
  edited owner page e landed legal (Some content) is fits = rows-stand-edited owner page e landed legal content is

  fits_of : (owner page : ℕ) (e : Edit) → GuardOfEdit at owner page e → is_some (page_after shape (world_of shape file before) owner page e) ≡ true
  fits_of owner page e guard = guard.fits

  step : (owner : ℕ) (act : Act) (landed : Bool) → IsLegal shape file (happens owner act landed ∷ before) → RowsStand (scene_of shape file (happens owner act landed ∷ before))
  step owner (Local (local.Edit page e)) landed legal = edited owner page e landed legal (page_after shape (world_of shape file before) owner page e) refl (fits_of owner page e legal.1.guard)
  step owner (Local (local.Before high low)) landed legal = rows-stand-acted shape file before (happens owner (Local (local.Before high low)) landed) legal refl order stand
  step owner (Local (local.Pin page)) landed legal = rows-stand-acted shape file before (happens owner (Local (local.Pin page)) landed) legal refl order stand
  step owner (Local (local.Unpin page)) landed legal = rows-stand-acted shape file before (happens owner (Local (local.Unpin page)) landed) legal refl order stand
  step owner act landed legal = rows-stand-acted shape file before (happens owner act landed) legal refl order stand

  pub rows-stand-next : (moment : Moment) → IsLegal shape file (moment ∷ before) → RowsStand (scene_of shape file (moment ∷ before))
  rows-stand-next moment legal = step moment.event.actor moment.event.act moment.landed legal
