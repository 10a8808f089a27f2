-- A cell with the same stamp in the file and in the newest pages holds one version, after each event.
use Rattle.std.proofs.Common.{◌≡◌, ◌<◌, ℕ, true, [], ◌∷◌, Option, Some, refl, sym, ◌∙◌, arith}
use Rattle.std.proofs.lemmas.Option.{same_Some}
use Rattle.fbc_kinds.specs.declared.edits.Edit.{Edit}
use Rattle.fbc_kinds.specs.declared.edits.Edit.TheVariants as edit
use Rattle.fbc_kinds.specs.declared.pages.Page.{Page}
use Rattle.fbc_kinds.specs.declared.shapes.Shape.{Shape}
use Rattle.fbc_kinds.specs.DataSpelling.{empty_cell}
use Rattle.fbc_kinds.specs.View.{View}
use Rattle.fbc_world.specs.History.{History, Moment}
use Rattle.fbc_world.specs.World.{page_after}
use Rattle.fbc_legal.specs.Guards.{GuardOfEdit}
use Rattle.fbc_legal.specs.Legal.{IsLegal}
use Rattle.fbc_legal.specs.Scene.{Scene, newest_at, scene_of}
use Rattle.fbc_legal.specs.Stamps.{Stamps, born_in_newest, newest_stamps, stamp_after, stamped}
use Rattle.fbc_closed_cuts.specs.Upheld.{IsUpheld, IsUpheldThroughout}
use Rattle.fbc_closed_cuts.proofs.UpheldLegal.{upheld-now}
use Rattle.fbc_origins.specs.Origins.{CellsKeepVersions, StampsArePast}
use Rattle.fbc_origins.proofs.CellsAfter.{cells-cleared, cells-left, cells-put}
use Rattle.fbc_origins.specs.Owed.{leaves_cells}
use Rattle.fbc_origins.proofs.CellsKept.{KeepsCells, cleared, left, put, same-itself}
use Rattle.fbc_origins.proofs.LinkTaken.{only-cuts}
use Rattle.fbc_origins.proofs.NewestFits.{newest-fits}
use Rattle.fbc_origins.proofs.PastStamps.{stamps-past}
use Rattle.fbc_origins.proofs.StampLineage.{stamp-lineage}

module _ (at : Scene) (u : IsUpheld at) (past : StampsArePast at) (owner number : ℕ) where
  abbrev stamp : ℕ
  stamp = stamp_after at.past

  abbrev keeps : Stamps
  keeps = at.stamps.kept number

  abbrev news : Stamps
  news = newest_stamps at.world at.stamps number

  below : (cell : ℕ) → keeps.born cell < stamp
  below cell = grind (arith, (past number).0.born cell)

  abbrev Held : Type 0
  Held = KeepsCells (at.world.kept number) keeps (newest_at at number) news

  left_by : (e : Edit) → leaves_cells e ≡ true → GuardOfEdit at owner number e → (content : Page) → page_after at.shape at.world owner number e ≡ Some content → Held
      → KeepsCells (at.world.kept number) keeps (Some content) (record news { edits = stamp ∷ news.edits })
  left_by e leaves g content is held =
      left (at.world.kept number) keeps (newest_at at number) news stamp (born_in_newest at.world at.stamps) below held (Some content)
      (cells-left at.shape e (newest_at at number) content leaves (newest-fits at u.coherent owner number e content g is)) (record news { edits = stamp ∷ news.edits }) (λ c. refl) (λ c. refl)

  pub cells-keep : (e : Edit) → GuardOfEdit at owner number e → (content : Page) → page_after at.shape at.world owner number e ≡ Some content → Held
      → KeepsCells (at.world.kept number) keeps (Some content) (stamped stamp (born_in_newest at.world at.stamps) (newest_at at number) e news)
  cells-keep (edit.PutCell cell fresh) g content is held =
      put (at.world.kept number) keeps (newest_at at number) news stamp (born_in_newest at.world at.stamps) below held cell fresh (only-cuts at u owner number cell fresh g) (Some content)
      (cells-put at.shape cell fresh (newest_at at number) content (newest-fits at u.coherent owner number (edit.PutCell cell fresh) content g is))
  cells-keep (edit.ClearCell cell) g content is held =
      cleared (at.world.kept number) keeps (newest_at at number) news stamp (born_in_newest at.world at.stamps) below held cell empty_cell (Some content)
      (cells-cleared at.shape cell (newest_at at number) content (newest-fits at u.coherent owner number (edit.ClearCell cell) content g is))
  cells-keep (edit.Format k page relation sequence) g content is held = λ cell old new was now one. absurd (grind (arith, below cell, one))
  cells-keep _ g content is held = left_by _ refl g content is held

pub first-versions : (shape : Shape) (file : View) → CellsKeepVersions (scene_of shape file [])
first-versions shape file page cell old new was is one =
    let same : old ≡ new = same_Some old new (sym was ∙ is) in
    (rw (← same) (same-itself old), refl)

pub next-versions : (shape : Shape) (file : View) (before : History) (moment : Moment) → IsLegal shape file (moment ∷ before) → IsUpheld (scene_of shape file before) → CellsKeepVersions (scene_of shape file before)
    → CellsKeepVersions (scene_of shape file (moment ∷ before))
next-versions shape file before moment legal u held page =
    stamp-lineage KeepsCells itself (scene_of shape file before) (stamp_after before) moment.event.actor page u.coherent moment.event.act moment.landed legal.1.guard
    (cells-keep (scene_of shape file before) u (stamps-past shape file before) moment.event.actor page)
    (held page)
  where
    itself : (p : Option Page) (s : Stamps) → KeepsCells p s p s
    itself p s cell old new was is one =
        let same : old ≡ new = same_Some old new (sym was ∙ is) in
        (rw (← same) (same-itself old), refl)

pub versions-kept : (shape : Shape) (file : View) (history : History) → IsLegal shape file history → IsUpheldThroughout shape file history → CellsKeepVersions (scene_of shape file history)
versions-kept shape file [] legal upheld = first-versions shape file
versions-kept shape file (moment ∷ before) legal upheld =
    next-versions shape file before moment legal (upheld-now shape file before upheld.1) (versions-kept shape file before legal.0 upheld.1)
