-- A back value that was moved has one link in the file and in the newest pages, after each event.
use Rattle.std.proofs.Common.{◌≡◌, ◌∙◌, ◌≤◌, ◌==◌, ◌⊎◌, inl, inr, ℕ, Bool, true, false, ◌∷◌, length, Option, Some, None, is_some, if◌then◌else◌, refl, sym, ap, subst, arith}
use Rattle.std.proofs.lemmas.Option.{same_Some}
use Rattle.fbc_kinds.specs.declared.edits.Edit.{Edit}
use Rattle.fbc_kinds.specs.declared.edits.Edit.TheVariants as edit
use Rattle.fbc_kinds.specs.declared.pages.Cell.{Cell}
use Rattle.fbc_kinds.specs.declared.pages.Page.{Page}
use Rattle.fbc_kinds.specs.declared.shapes.Shape.{Shape}
use Rattle.fbc_kinds.specs.DataSpelling.{empty_cell}
use Rattle.fbc_kinds.specs.Reach.{ReachesCell}
use Rattle.fbc_kinds.specs.View.{View, cell_at, cell_in, is_back, is_top}
use Rattle.fbc_kinds.proofs.Tests.{same_from_test}
use Rattle.fbc_page_edits.specs.Facing.{NameTheSame, IsLinked}
use Rattle.fbc_page_edits.specs.Allowed.{Fits}
use Rattle.fbc_world.specs.declared.events.Act.{Act}
use Rattle.fbc_world.specs.declared.events.Act.TheVariants.{Local}
use Rattle.fbc_world.specs.declared.events.LocalEvent.TheVariants as local
use Rattle.fbc_world.specs.History.{History, Moment}
use Rattle.fbc_legal.specs.Legal.{IsLegal}
use Rattle.fbc_world.specs.World.{page_after}
use Rattle.fbc_legal.specs.Guards.{GuardOfEdit}
use Rattle.fbc_legal.specs.Rows.{IsCut}
use Rattle.fbc_legal.specs.Scene.{Scene, newest_at, scene_of}
use Rattle.fbc_legal.specs.Stamps.{Stamps, born_after, born_in_newest, newest_stamps, stamp_after, stamped, stamps_step, takes_link}
use Rattle.fbc_legal.specs.Traces.{IsMovedBy}
use Rattle.fbc_closed_cuts.specs.Views.{view_stamps}
use Rattle.fbc_version_edits.proofs.Flags.{reached_how, top_of_back}
use Rattle.fbc_origins.specs.Owed.{IsInOrder, leaves_cells}
use Rattle.fbc_origins.proofs.CellsAfter.{cells-cleared, cells-left, cells-put}
use Rattle.fbc_origins.proofs.LinksNext.{plain_born}
use Rattle.fbc_origins.proofs.LinkTaken.{is-cut}
use Rattle.fbc_origins.proofs.Meant.{in-newest, newest-stamps-view}
use Rattle.fbc_origins.proofs.MovedBefore.{IsMoveNow, IsStillMoved, moved-at, moved-past}
use Rattle.fbc_origins.proofs.StampLineage.{stamp-lineage}
use Rattle.fbc_origins.specs.Origins.{MovesKeepLinks}
use Rattle.fbc_origins.proofs.MovesBack.{HoldsBackValue}
use Rattle.fbc_origins.proofs.NewestFits.{newest-fits}
use Rattle.fbc_origins.proofs.PutPages.{newest-sound}

-- Cells of this stamp have one link.
abbrev pub KeepLink : ℕ → ℕ → Option Page → Stamps → Option Page → Stamps → Type 0
KeepLink cell stamp kept keeps newest news = keeps.born cell ≡ stamp → news.born cell ≡ stamp → (old new : Cell) → cell_in kept cell ≡ Some old → cell_in newest cell ≡ Some new → NameTheSame old new

pub one-link : (cell stamp : ℕ) (page : Option Page) (s : Stamps) → KeepLink cell stamp page s page s
one-link cell stamp page s born also old new there here =
    let same : old ≡ new = same_Some old new (sym there ∙ here) in
    subst (NameTheSame old) same (record { page = refl; cell = refl })

module _ (at : Scene) (order : IsInOrder at) (mover page cell stamp : ℕ) (was : IsMovedBy at.shape at.file mover page cell stamp at.past) where
  abbrev news : Stamps
  news = newest_stamps at.world at.stamps page

  past : stamp ≤ length at.past
  past = moved-past at.shape at.file mover page cell stamp at.past was

  -- The newest pages do not reach it.
  newest_unreached : news.born cell ≡ stamp → (version : Cell) → cell_at (newest_at at) page cell ≡ Some version → (relation : ℕ) → ¬ ReachesCell (newest_at at) relation page cell
  newest_unreached born version there relation reached = go (reached_how (newest-sound at order.upheld) relation page cell reached version there) where
    in_view : (view_stamps at.world at.stamps (λ p. is_some (at.world.draft p)) page).born cell ≡ stamp
    in_view = ap (λ (s : Stamps). s.born cell) (newest-stamps-view at page) ∙ born

    go : (is_top version.flag ≡ true) ⊎ IsLinked (newest_at at) page cell → ⊥
    go (inl top) =
        let back : is_back version.flag ≡ true = in-newest at (HoldsBackValue page cell stamp) (order.original.backs mover page cell stamp was) in_view version there in
        absurd (let both : true ≡ false = sym top ∙ top_of_back version.flag back in cc)
    go (inr linked) = in-newest at (λ view origin. (origin page).born cell ≡ stamp → ¬ IsLinked view page cell) (order.original.moves mover page cell stamp was) in_view linked

  module _ (owner : ℕ) (kept : Option Page) (keeps : Stamps) (content : Page) (held : KeepLink cell stamp kept keeps (newest_at at page) news) where
    abbrev Kept : Edit → Type 0
    Kept e = KeepLink cell stamp kept keeps (Some content) (stamped (stamp_after at.past) (born_in_newest at.world at.stamps) (newest_at at page) e news)

    fresh : (X : Type 0) → stamp_after at.past ≡ stamp → X
    fresh X is = absurd (grind (arith, past, is))

    put : (place : ℕ) (new : Cell) → GuardOfEdit at owner page (edit.PutCell place new) → Fits at.shape (edit.PutCell place new) (newest_at at page) content → Kept (edit.PutCell place new)
    put place new g fits born also old version there stands = go (cell == place) refl (sym (cells-put at.shape place new (newest_at at page) content fits cell) ∙ stands) also where
      over : cell ≡ place → (found : Option Cell) → cell_in (newest_at at page) cell ≡ found → born_after (stamp_after at.past) (news.born cell) new found ≡ stamp → NameTheSame old version
      over one None is at_stamp = fresh _ at_stamp
      over one (Some top) is at_stamp = by (takes_link top new) refl at_stamp where
        by : (b : Bool) → takes_link top new ≡ b → (if b then news.born cell else stamp_after at.past) ≡ stamp → NameTheSame old version
        by false takes same = fresh _ same
        by true takes same =
            let cut : IsCut at page place new = is-cut at order.upheld owner page place new g top (ap (cell_in (newest_at at page)) (sym one) ∙ is) takes in
            absurd (newest_unreached same top is cut.relation (subst (λ c. ReachesCell (newest_at at) cut.relation page c) (sym one) cut.reached))

      go : (b : Bool) → (cell == place) ≡ b → (if b then Some new else cell_in (newest_at at page) cell) ≡ Some version
          → (if b then born_after (stamp_after at.past) (news.born cell) new (cell_in (newest_at at page) cell) else news.born cell) ≡ stamp → NameTheSame old version
      go true same found at_stamp = over (same_from_test cell place same) (cell_in (newest_at at page) cell) refl at_stamp
      go false apart found at_stamp = held born at_stamp old version there found

    clear : (place : ℕ) → Fits at.shape (edit.ClearCell place) (newest_at at page) content → Kept (edit.ClearCell place)
    clear place fits born also old version there stands = go (cell == place) refl (sym (cells-cleared at.shape place (newest_at at page) content fits cell) ∙ stands) also where
      go : (b : Bool) → (cell == place) ≡ b → (if b then Some empty_cell else cell_in (newest_at at page) cell) ≡ Some version → (if b then stamp_after at.past else news.born cell) ≡ stamp → NameTheSame old version
      go true same found at_stamp = fresh _ at_stamp
      go false apart found at_stamp = held born at_stamp old version there found

    plain : (e : Edit) → leaves_cells e ≡ true → Fits at.shape e (newest_at at page) content → Kept e
    plain e leaves fits born also old version there stands =
        held born (sym (plain_born (stamp_after at.past) (born_in_newest at.world at.stamps) (newest_at at page) e news leaves cell) ∙ also) old version there (sym (cells-left at.shape e (newest_at at page) content leaves fits cell) ∙ stands)

    pub keeps-link : (e : Edit) → GuardOfEdit at owner page e → Fits at.shape e (newest_at at page) content → Kept e
    keeps-link (edit.PutCell place new) g fits = put place new g fits
    keeps-link (edit.ClearCell place) g fits = clear place fits
    keeps-link (edit.Format k number relation sequence) g fits = λ born also old version there stands. fresh _ also
    keeps-link (edit.SetNext next) g fits = plain (edit.SetNext next) refl fits
    keeps-link (edit.AddTip number) g fits = plain (edit.AddTip number) refl fits
    keeps-link (edit.AddPointer relation number) g fits = plain (edit.AddPointer relation number) refl fits
    keeps-link edit.AddInventory g fits = plain edit.AddInventory refl fits
    keeps-link (edit.TakePage number) g fits = plain (edit.TakePage number) refl fits
    keeps-link (edit.FreePage number) g fits = plain (edit.FreePage number) refl fits
    keeps-link (edit.Mark number state) g fits = plain (edit.Mark number state) refl fits
    keeps-link (edit.Name slot number) g fits = plain (edit.Name slot number) refl fits
    keeps-link (edit.Unname slot) g fits = plain (edit.Unname slot) refl fits

module _ (shape : Shape) (file : View) (before : History) (order : IsInOrder (scene_of shape file before)) where
  abbrev scene : Scene
  scene = scene_of shape file before

  -- An edit leaves the stamps of what is kept.
  edit_leaves : (stamp owner number page : ℕ) (e : Edit) (landed : Bool) (act : Act) → act ≡ Local (local.Edit number e) → (stamps_step shape scene.world stamp owner act landed scene.stamps).kept page ≡ scene.stamps.kept page
  edit_leaves stamp owner number page e landed act same =
      subst (λ a. (stamps_step shape scene.world stamp owner a landed scene.stamps).kept page ≡ scene.stamps.kept page) (sym same) (go (is_some (page_after shape scene.world owner number e)) _) where
        go : (b : Bool) (draft : ℕ → Stamps) → (if b then record scene.stamps { draft = draft } else scene.stamps).kept page ≡ scene.stamps.kept page
        go true draft = refl
        go false draft = refl

  pub links_kept-next : (moment : Moment) → IsLegal shape file (moment ∷ before) → MovesKeepLinks (scene_of shape file (moment ∷ before))
  links_kept-next moment legal owner page cell stamp old new moved born also there here = go (moved-at shape file owner page cell stamp (moment ∷ before) moved) where
    go : IsMoveNow shape file owner page cell stamp before moment ⊎ IsStillMoved shape file owner page cell stamp before moment → NameTheSame old new
    go (inl now) =
        let kept_born : (scene.stamps.kept page).born cell ≡ stamp =
        ap (λ (s : Stamps). s.born cell) (sym (edit_leaves (stamp_after before) moment.event.actor page page (edit.PutCell cell now.content) moment.landed moment.event.act now.is.act)) ∙ born in
        absurd (grind (arith, kept_born, now.number, (order.original.past page).0.born cell))
    go (inr held) =
        stamp-lineage (KeepLink cell stamp) (one-link cell stamp) scene (stamp_after before) moment.event.actor page order.upheld.coherent moment.event.act moment.landed legal.1.guard
        (λ e g content is r. keeps-link scene order owner page cell stamp held.was moment.event.actor (scene.world.kept page) (scene.stamps.kept page) content r e g (newest-fits scene order.upheld.coherent moment.event.actor page e content g is))
        (λ b a o n t h. order.original.links owner page cell stamp o n held.was b a t h)
        born also old new there here
