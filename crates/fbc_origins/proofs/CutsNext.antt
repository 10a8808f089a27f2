-- Links that a draft has lost were cut of settled versions: before the first event, after each event, and in each view.
use Rattle.std.proofs.Common.{◌≡◌, ◌≢◌, ◌∙◌, ◌∷◌, [], ◌<◌, ℕ, Bool, true, false, if◌then◌else◌, Some, refl, sym, ap, subst, arith}
use Rattle.std.proofs.lemmas.Option.{same_Some}
use Rattle.fbc_kinds.specs.declared.edits.Edit.{Edit}
use Rattle.fbc_kinds.specs.declared.edits.Edit.TheVariants as edit
use Rattle.fbc_kinds.specs.declared.pages.Cell.{Cell}
use Rattle.fbc_kinds.specs.declared.pages.Page.{Page}
use Rattle.fbc_kinds.specs.declared.shapes.Shape.{Shape}
use Rattle.fbc_kinds.specs.DataSpelling.{empty_cell}
use Rattle.fbc_kinds.specs.View.{View, cell_in}
use Rattle.fbc_world.specs.History.{History, Moment}
use Rattle.fbc_world.specs.World.{page_after}
use Rattle.fbc_legal.specs.Guards.{GuardOfEdit}
use Rattle.fbc_legal.specs.Legal.{IsLegal}
use Rattle.fbc_legal.specs.Rows.{IsCut, IsSettled}
use Rattle.fbc_legal.specs.Scene.{Scene, born_at, newest_at, scene_of}
use Rattle.fbc_legal.specs.Stamps.{Stamps, born_in_newest, newest_stamps, stamp_after, stamped, takes_link}
use Rattle.fbc_closed_cuts.specs.Cut.{Cut, view}
use Rattle.fbc_closed_cuts.specs.Upheld.{IsUpheld}
use Rattle.fbc_closed_cuts.specs.Views.{view_stamps}
use Rattle.fbc_origins.specs.Origins.{StampsArePast}
use Rattle.fbc_origins.specs.Owed.{IsInOrder, leaves_cells}
use Rattle.fbc_origins.proofs.CellsAfter.{cells-cleared, cells-left, cells-put}
use Rattle.fbc_origins.proofs.LinkTaken.{is-cut, taken}
use Rattle.fbc_origins.proofs.NewestFits.{newest-fits}
use Rattle.fbc_origins.proofs.StampLineage.{stamp-lineage}
use Rattle.fbc_origins.specs.Cuts.{CutsAreSettled}
use Rattle.fbc_origins.proofs.CutCells.{AreCutOf, cut-cleared, cut-left, cut-put, none-cut}
use Rattle.fbc_origins.proofs.SettledStays.{settled-next}

module _ (at : Scene) (u : IsUpheld at) (past : StampsArePast at) (owner number : ℕ) where
  abbrev stamp : ℕ
  stamp = stamp_after at.past

  abbrev keeps : Stamps
  keeps = at.stamps.kept number

  abbrev news : Stamps
  news = newest_stamps at.world at.stamps number

  below : (cell : ℕ) → keeps.born cell < stamp
  below cell = grind (arith, (past number).0.born cell)

  abbrev Held : Type 0
  Held = AreCutOf (IsSettled at) (at.world.kept number) keeps (newest_at at number) news

  -- A put by which a version only loses its link is a cut.
  cut_settled : (cell : ℕ) (fresh old : Cell) → GuardOfEdit at owner number (edit.PutCell cell fresh) → cell_in (newest_at at number) cell ≡ Some old → takes_link old fresh ≡ true → IsSettled at fresh.number
  cut_settled cell fresh old g stands takes =
      let cut : IsCut at number cell fresh = is-cut at u owner number cell fresh g old stands takes in
      let same : cut.old ≡ old = same_Some cut.old old (sym cut.stands ∙ stands) in
      subst (IsSettled at) (ap (λ (v : Cell). v.number) same ∙ (taken old fresh takes).number) cut.settled

  left_by : (e : Edit) → leaves_cells e ≡ true → GuardOfEdit at owner number e → (content : Page) → page_after at.shape at.world owner number e ≡ Some content → Held
      → AreCutOf (IsSettled at) (at.world.kept number) keeps (Some content) (record news { edits = stamp ∷ news.edits })
  left_by e leaves g content is held =
      cut-left (IsSettled at) (at.world.kept number) keeps (newest_at at number) news stamp (born_in_newest at.world at.stamps) below held (Some content)
      (cells-left at.shape e (newest_at at number) content leaves (newest-fits at u.coherent owner number e content g is)) (record news { edits = stamp ∷ news.edits }) (λ c. refl)

  pub cuts-keep : (e : Edit) → GuardOfEdit at owner number e → (content : Page) → page_after at.shape at.world owner number e ≡ Some content → Held
      → AreCutOf (IsSettled at) (at.world.kept number) keeps (Some content) (stamped stamp (born_in_newest at.world at.stamps) (newest_at at number) e news)
  cuts-keep (edit.PutCell cell fresh) g content is held =
      cut-put (IsSettled at) (at.world.kept number) keeps (newest_at at number) news stamp (born_in_newest at.world at.stamps) below held cell fresh (λ old stands takes. cut_settled cell fresh old g stands takes) (Some content)
      (cells-put at.shape cell fresh (newest_at at number) content (newest-fits at u.coherent owner number (edit.PutCell cell fresh) content g is))
  cuts-keep (edit.ClearCell cell) g content is held =
      cut-cleared (IsSettled at) (at.world.kept number) keeps (newest_at at number) news stamp (born_in_newest at.world at.stamps) below held cell empty_cell (Some content)
      (cells-cleared at.shape cell (newest_at at number) content (newest-fits at u.coherent owner number (edit.ClearCell cell) content g is))
  cuts-keep (edit.Format k page relation sequence) g content is held = λ cell old new was now one linked alone. absurd (grind (arith, below cell, one))
  cuts-keep _ g content is held = left_by _ refl g content is held

pub first-cuts : (shape : Shape) (file : View) → CutsAreSettled (scene_of shape file [])
first-cuts shape file page = none-cut (IsSettled (scene_of shape file [])) (file page) ((scene_of shape file []).stamps.kept page)

module _ (shape : Shape) (file : View) (before : History) (order : IsInOrder (scene_of shape file before)) (held : CutsAreSettled (scene_of shape file before)) where
  abbrev scene : Scene
  scene = scene_of shape file before

  pub next-cuts : (moment : Moment) → IsLegal shape file (moment ∷ before) → CutsAreSettled (scene_of shape file (moment ∷ before))
  next-cuts moment legal page cell old new was is one linked alone = settled-next shape file before order new.number settled moment legal where
    settled : IsSettled scene new.number
    settled =
        stamp-lineage (AreCutOf (IsSettled scene)) (none-cut (IsSettled scene)) scene (stamp_after before) moment.event.actor page order.upheld.coherent moment.event.act moment.landed legal.1.guard
        (cuts-keep scene order.upheld order.original.past moment.event.actor page) (held page) cell old new was is one linked alone

-- A view shows a page as the newest pages do, or as it is kept.
pub cuts-in-views : (at : Scene) → CutsAreSettled at → (cut : Cut) (page cell : ℕ) (seen new : Cell) → cell_in (view at.world cut page) cell ≡ Some seen → cell_in (newest_at at page) cell ≡ Some new
    → (view_stamps at.world at.stamps cut page).born cell ≡ born_at at page cell → seen.back_page ≢ 0 → new.back_page ≡ 0 → IsSettled at new.number
cuts-in-views at held cut page cell seen new was is one linked alone = go (cut page) was one where
  go : (b : Bool) → cell_in (if b then newest_at at page else at.world.kept page) cell ≡ Some seen → (if b then newest_stamps at.world at.stamps page else at.stamps.kept page).born cell ≡ born_at at page cell → IsSettled at new.number
  go true there same = absurd (linked (ap (λ (v : Cell). v.back_page) (same_Some seen new (sym there ∙ is)) ∙ alone))
  go false there same = held page cell seen new there is same linked alone
