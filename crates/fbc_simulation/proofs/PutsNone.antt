-- Versions that are put and are no change of a row: moves, backouts and cuts.
use Rattle.std.proofs.Common.{◌≡◌, ◌∙◌, ℕ, true, [], Some, refl, sym, ap}
use Rattle.fbc_kinds.proofs.Tests.{test_of_different}
use Rattle.fbc_kinds.specs.declared.edits.Edit.TheVariants.{PutCell}
use Rattle.fbc_kinds.specs.declared.pages.Cell.{Cell}
use Rattle.fbc_kinds.specs.declared.shapes.Shape.{Shape}
use Rattle.fbc_kinds.specs.declared.snapshots.Transaction.{Transaction}
use Rattle.fbc_kinds.specs.Reach.{LinksTo, top}
use Rattle.fbc_kinds.specs.View.{View}
use Rattle.fbc_world.specs.Commands.{change_on}
use Rattle.fbc_world.specs.History.{History}
use Rattle.fbc_world.specs.PageCell.{page_for}
use Rattle.fbc_world.specs.World.{World, is_number_of}
use Rattle.fbc_legal.specs.Guards.{GuardOfEdit}
use Rattle.fbc_legal.specs.Rows.{IsBackout, IsCut, IsMove}
use Rattle.fbc_legal.specs.Scene.{Scene, newest_at, scene_of}
use Rattle.fbc_numbers.specs.Numbers.{is_committed_in}
use Rattle.fbc_numbers.proofs.CutFacts.{clash}
use Rattle.fbc_origins.proofs.PutPages.{IsPutPage, newest-sound, put-page, put-reached}
use Rattle.fbc_soundness.specs.Whole.{IsWhole}
use Rattle.fbc_simulation.specs.EditIn.{commands_made}
use Rattle.fbc_simulation.proofs.PutsIn.{back-command, no-command, not-own}

module _ (shape : Shape) (file : View) (past : History) (whole : IsWhole (scene_of shape file past)) (owner page cell : ℕ) (new : Cell)
    (g : GuardOfEdit (scene_of shape file past) owner page (PutCell cell new)) where
  abbrev at : Scene
  at = scene_of shape file past

  abbrev w : World
  w = at.world

  abbrev None_made : Type 0
  None_made = commands_made shape w owner page (PutCell cell new) ≡ []

  other_number : ((t : Transaction) → w.transaction owner ≡ Some t → ¬ (t.number ≡ new.number)) → None_made
  other_number apart = no-command (is_number_of new.number (w.transaction owner)) (change_on shape owner cell new (page_for owner (w.kept page) (w.draft page))) (not-own new.number (w.transaction owner) apart)

  pub moves-none : IsMove at owner page cell new → None_made
  moves-none move = back-command (is_number_of new.number (w.transaction owner)) shape owner cell new (page_for owner (w.kept page) (w.draft page)) (ap (λ (v : Cell). v.flag) move.same)

  -- The number is committed in the file.
  pub cut-committed : (takes : IsCut at page cell new) → is_committed_in w.kept new.number ≡ true
  cut-committed takes = ap (is_committed_in w.kept) (ap (λ (v : Cell). v.number) takes.same) ∙ takes.settled.committed

  pub cuts-none : IsCut at page cell new → None_made
  cuts-none takes = other_number (λ t open_is one. absurd (clash (is_committed_in w.kept new.number) (cut-committed takes) (ap (is_committed_in w.kept) (sym one) ∙ whole.apart.out_of_file owner t open_is)))

  module _ (backout : IsBackout at page cell new) where
    abbrev put : IsPutPage at owner page cell new
    put = put-page at owner page cell new g

    -- In the newest pages the top is reached, and links to the version below.
    pub newest-link : LinksTo (newest_at at) put.data_page.relation page cell backout.old backout.old.back_page backout.old.back_cell
    newest-link = record {
      reached = top put.data_page.sequence page cell backout.old (put-reached at owner page cell new g whole.order.upheld) backout.stands backout.over;
      stands = backout.stands;
      names = record { some = test_of_different backout.old.back_page 0 backout.linked; page_is = refl; cell_is = refl };
    }

    -- Which is committed there.
    pub below-committed : is_committed_in (newest_at at) new.number ≡ true
    below-committed =
        ap (is_committed_in (newest_at at)) (ap (λ (v : Cell). v.number) backout.same)
        ∙ (newest-sound at whole.order.upheld).below put.data_page.relation page cell backout.old.back_page backout.old.back_cell backout.old backout.back newest-link backout.below

    pub backouts-none : None_made
    backouts-none =
        other_number
        (λ t open_is one. absurd (clash (is_committed_in (newest_at at) new.number) below-committed (ap (is_committed_in (newest_at at)) (sym one) ∙ whole.order.numbered.uncommitted owner t open_is g.unmarked)))
