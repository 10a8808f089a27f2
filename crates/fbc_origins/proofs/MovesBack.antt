-- A back value that was moved stays one in every view, after each event.
use Rattle.std.proofs.Common.{◌≡◌, ◌∙◌, ◌≤◌, ◌==◌, ◌⊎◌, inl, inr, ℕ, Bool, true, false, ◌∷◌, length, Option, Some, None, is_some, if◌then◌else◌, refl, sym, ap, subst, arith}
use Rattle.std.proofs.lemmas.Option.{same_Some}
use Rattle.fbc_kinds.specs.declared.edits.Edit.{Edit}
use Rattle.fbc_kinds.specs.declared.edits.Edit.TheVariants.{PutCell}
use Rattle.fbc_kinds.specs.declared.pages.Cell.{Cell}
use Rattle.fbc_kinds.specs.declared.pages.Page.{Page}
use Rattle.fbc_kinds.specs.declared.shapes.Shape.{Shape}
use Rattle.fbc_kinds.specs.View.{View, cell_at, cell_in, is_back}
use Rattle.fbc_kinds.proofs.Tests.{differ_from_test, same_from_test, test_of_same}
use Rattle.fbc_page_edits.specs.Allowed.{Fits}
use Rattle.fbc_page_edits.specs.Edited.{with_page}
use Rattle.fbc_world.specs.declared.events.Act.{Act}
use Rattle.fbc_world.specs.declared.events.Act.TheVariants.{Local}
use Rattle.fbc_world.specs.declared.events.LocalEvent.TheVariants as local
use Rattle.fbc_world.specs.History.{History, Moment, happens}
use Rattle.fbc_world.specs.World.{page_after, world_of}
use Rattle.fbc_legal.specs.Guards.{GuardOfEdit}
use Rattle.fbc_legal.specs.Legal.{IsLegal}
use Rattle.fbc_legal.specs.Scene.{Scene, newest_at, scene_of}
use Rattle.fbc_legal.specs.Stamps.{Stamps, born_in_newest, newest_stamps, stamp_after, stamped}
use Rattle.fbc_closed_cuts.specs.Cut.{Cut}
use Rattle.fbc_closed_cuts.specs.Views.{is_edit, view_stamps}
use Rattle.fbc_origins.specs.Origins.{EveryView, MovesAreBack}
use Rattle.fbc_origins.specs.Owed.{IsInOrder}
use Rattle.fbc_origins.proofs.CellsAfter.{cells-put}
use Rattle.fbc_origins.proofs.MovedBefore.{IsMoveNow, IsStillMoved, moved-at, moved-past}
use Rattle.fbc_origins.proofs.NewestFits.{newest-fits}
use Rattle.fbc_origins.proofs.OlderCells.{IsOlder, older-cell}
use Rattle.fbc_origins.proofs.ViewsNext.{IsEditedView, views-acted, views-edited}

-- In a view a cell with this stamp holds a back value.
abbrev pub HoldsBackValue : ℕ → ℕ → ℕ → View → (ℕ → Stamps) → Type 0
HoldsBackValue page cell stamp seen stamps = (stamps page).born cell ≡ stamp → (version : Cell) → cell_at seen page cell ≡ Some version → is_back version.flag ≡ true

-- A stamp of before is no new one.
module _ (at : Scene) (order : IsInOrder at) (owner edited : ℕ) (e : Edit) (content : Page) (g : GuardOfEdit at owner edited e) (is : page_after at.shape at.world owner edited e ≡ Some content)
    (seen : View) (stamps : ℕ → Stamps) (after : View) (later : ℕ → Stamps) (v : IsEditedView at owner edited e content seen stamps after later) (page cell stamp : ℕ) where
  fits : Fits at.shape e (newest_at at edited) content
  fits = newest-fits at order.upheld.coherent owner edited e content g is

  -- What stands in a cell of an old stamp stood there before, as a version of the same kind.
  pub older : stamp ≤ length at.past → (later page).born cell ≡ stamp → (version : Cell) → cell_at (with_page seen edited content) page cell ≡ Some version → IsOlder (seen page) (stamps page) cell stamp version
  older past born version stands = go (page == edited) refl stands where
    go : (b : Bool) → (page == edited) ≡ b → cell_in (if b then Some content else seen page) cell ≡ Some version → IsOlder (seen page) (stamps page) cell stamp version
    go false apart there = record { born = ap (λ (s : Stamps). s.born cell) (sym (v.others page (differ_from_test page edited apart))) ∙ born; old = version; stands = there; flag = refl }
    go true same there =
        let one : page ≡ edited = same_from_test page edited same in
        let now : (stamped (stamp_after at.past) (born_in_newest at.world at.stamps) (newest_at at edited) e (newest_stamps at.world at.stamps edited)).born cell ≡ stamp =
        ap (λ (s : Stamps). s.born cell) (sym v.now) ∙ ap (λ q. (later q).born cell) (sym one) ∙ born in
        let found : IsOlder (newest_at at edited) (newest_stamps at.world at.stamps edited) cell stamp version =
        older-cell (length at.past) (born_in_newest at.world at.stamps) (newest_at at edited) (newest_stamps at.world at.stamps edited) content cell stamp past version at.shape e fits now there in
        subst (λ q. IsOlder (seen q) (stamps q) cell stamp version) (sym one)
        (record {
          born = ap (λ (s : Stamps). s.born cell) v.sees.edited_page.stamps ∙ found.born;
          old = found.old;
          stands = ap (λ (o : Option Page). cell_in o cell) v.sees.edited_page.page ∙ found.stands;
          flag = found.flag;
        })

  pub back-kept : stamp ≤ length at.past → HoldsBackValue page cell stamp seen stamps → HoldsBackValue page cell stamp after later
  back-kept past was = subst (λ (w : View). HoldsBackValue page cell stamp w later) v.pages kept where
    kept : HoldsBackValue page cell stamp (with_page seen edited content) later
    kept born version stands =
        let found : IsOlder (seen page) (stamps page) cell stamp version = older past born version stands in
        ap is_back (sym found.flag) ∙ was found.born found.old found.stands

  -- Where it is moved now, it is what was put.
  pub back-put : (moved : Cell) → e ≡ PutCell cell moved → page ≡ edited → is_back moved.flag ≡ true → HoldsBackValue page cell stamp after later
  back-put moved same one back = subst (λ (w : View). HoldsBackValue page cell stamp w later) v.pages put where
    fits_put : Fits at.shape (PutCell cell moved) (newest_at at edited) content
    fits_put = subst (λ (any : Edit). Fits at.shape any (newest_at at edited) content) same fits

    put : HoldsBackValue page cell stamp (with_page seen edited content) later
    put born version stands = go (page == edited) (rw one (test_of_same edited edited refl)) stands where
      go : (b : Bool) → b ≡ true → cell_in (if b then Some content else seen page) cell ≡ Some version → is_back version.flag ≡ true
      go false sure there = cc
      go true sure there =
          let found : Some moved ≡ Some version = rw (test_of_same cell cell refl) at (sym (cells-put at.shape cell moved (newest_at at edited) content fits_put cell) ∙ there) in
          ap (λ (w : Cell). is_back w.flag) (sym (same_Some moved version found)) ∙ back

module _ (shape : Shape) (file : View) (before : History) (order : IsInOrder (scene_of shape file before)) where
  abbrev at : Scene
  at = scene_of shape file before

  -- No view of before has the stamp of the next event.
  view_past : (stamp page cell : ℕ) → stamp ≡ stamp_after before → EveryView at (HoldsBackValue page cell stamp)
  view_past stamp page cell number cut closed born version stands = absurd (grind (arith, number, born, below cut (cut page))) where
    chosen : (b : Bool) → (newest_stamps at.world at.stamps page).born cell ≤ length before
    chosen b = go (is_some (at.world.draft page)) where
      go : (c : Bool) → (if c then at.stamps.draft page else at.stamps.kept page).born cell ≤ length before
      go true = (order.original.past page).1.born cell
      go false = (order.original.past page).0.born cell

    below : (any : Cut) (b : Bool) → (view_stamps at.world at.stamps cut page).born cell ≤ length before
    below any b = go (cut page) where
      go : (c : Bool) → (if c then newest_stamps at.world at.stamps page else at.stamps.kept page).born cell ≤ length before
      go true = chosen true
      go false = (order.original.past page).0.born cell

  module _ (owner page cell stamp : ℕ) where
    edited : (actor number : ℕ) (e : Edit) (landed : Bool) → IsLegal shape file (happens actor (Local (local.Edit number e)) landed ∷ before) → (found : Option Page) → page_after shape (world_of shape file before) actor number e ≡ found → is_some found ≡ true
        → IsMoveNow shape file owner page cell stamp before (happens actor (Local (local.Edit number e)) landed) ⊎ IsStillMoved shape file owner page cell stamp before (happens actor (Local (local.Edit number e)) landed)
        → EveryView (scene_of shape file (happens actor (Local (local.Edit number e)) landed ∷ before)) (HoldsBackValue page cell stamp)
    edited actor number e landed legal None is fits how = absurd cc
    edited actor number e landed legal (Some content) is fits (inr held) =
        views-edited shape file before (HoldsBackValue page cell stamp) actor number e landed legal content is (order.original.backs owner page cell stamp held.was)
        (λ seen stamps after later v was. back-kept at order actor number e content legal.1.guard is seen stamps after later v page cell stamp (moved-past shape file owner page cell stamp before held.was) was)
    edited actor number e landed legal (Some content) is fits (inl now) =
        views-edited shape file before (HoldsBackValue page cell stamp) actor number e landed legal content is (view_past stamp page cell now.number)
        (λ seen stamps after later v was. back-put at order actor number e content legal.1.guard is seen stamps after later v page cell stamp now.content (let act = now.is.act in cc) (let act = now.is.act in cc) now.back)

    plain : (moment : Moment) → IsLegal shape file (moment ∷ before) → is_edit moment.event.act ≡ false → IsMoveNow shape file owner page cell stamp before moment ⊎ IsStillMoved shape file owner page cell stamp before moment
        → EveryView (scene_of shape file (moment ∷ before)) (HoldsBackValue page cell stamp)
    plain moment legal none (inl now) = absurd (let both : true ≡ false = sym (ap is_edit now.is.act) ∙ none in cc)
    plain moment legal none (inr held) = views-acted shape file before (HoldsBackValue page cell stamp) moment legal none (order.original.backs owner page cell stamp held.was)

    fits_of : (actor number : ℕ) (e : Edit) → GuardOfEdit at actor number e → is_some (page_after shape (world_of shape file before) actor number e) ≡ true
    fits_of actor number e g = g.fits

    step : (actor : ℕ) (act : Act) (landed : Bool) → IsLegal shape file (happens actor act landed ∷ before)
        → IsMoveNow shape file owner page cell stamp before (happens actor act landed) ⊎ IsStillMoved shape file owner page cell stamp before (happens actor act landed)
        → EveryView (scene_of shape file (happens actor act landed ∷ before)) (HoldsBackValue page cell stamp)
    step actor (Local (local.Edit number e)) landed legal how = edited actor number e landed legal (page_after shape (world_of shape file before) actor number e) refl (fits_of actor number e legal.1.guard) how
    step actor (Local (local.Before high low)) landed legal how = plain (happens actor (Local (local.Before high low)) landed) legal refl how
    step actor (Local (local.Pin number)) landed legal how = plain (happens actor (Local (local.Pin number)) landed) legal refl how
    step actor (Local (local.Unpin number)) landed legal how = plain (happens actor (Local (local.Unpin number)) landed) legal refl how
    step actor act landed legal how = plain (happens actor act landed) legal refl how

  pub backs-next : (moment : Moment) → IsLegal shape file (moment ∷ before) → MovesAreBack (scene_of shape file (moment ∷ before))
  backs-next moment legal owner page cell stamp moved = step owner page cell stamp moment.event.actor moment.event.act moment.landed legal (moved-at shape file owner page cell stamp (moment ∷ before) moved)
