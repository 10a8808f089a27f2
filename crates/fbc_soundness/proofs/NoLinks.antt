-- An edit of what is no cell adds no link to a view that sees it.
use Rattle.std.proofs.Common.{◌≡◌, ℕ, true, Some, inl, refl}
use Rattle.fbc_kinds.specs.declared.edits.Edit.{Edit}
use Rattle.fbc_kinds.specs.declared.edits.Edit.TheVariants as edit
use Rattle.fbc_kinds.specs.declared.pages.Page.{Page}
use Rattle.fbc_kinds.specs.declared.pages.State.{State}
use Rattle.fbc_kinds.specs.declared.pages.State.TheVariants.{Active, Committed, Dead, Limbo}
use Rattle.fbc_kinds.specs.declared.shapes.Shape.{Shape}
use Rattle.fbc_kinds.specs.View.{View}
use Rattle.fbc_page_edits.specs.Alike.{HasNoMoreLinks}
use Rattle.fbc_page_edits.specs.Edited.{with_page}
use Rattle.fbc_version_edits.specs.Forms.{AllowsMark}
use Rattle.fbc_version_edits.proofs.Marked.{marked_view}
use Rattle.fbc_world.specs.History.{History}
use Rattle.fbc_world.specs.World.{page_after, world_of}
use Rattle.fbc_legal.specs.Guards.{GuardOfEdit}
use Rattle.fbc_legal.specs.Scene.{Scene, scene_of}
use Rattle.fbc_legal.specs.Stamps.{Stamps}
use Rattle.fbc_closed_cuts.specs.Owed.{IsSeenEdit, SeesEdit}
use Rattle.fbc_numbers.proofs.DeadMarks.{allows-dead, begun-seen}
use Rattle.fbc_origins.specs.Owed.{IsInOrder, MakeNoLinks, leaves_cells}
use Rattle.fbc_origins.proofs.NewestFits.{newest-fits}
use Rattle.fbc_origins.proofs.Seeing.{seen-shape, seen-sound}
use Rattle.fbc_soundness.proofs.HeaderEdits.{inventory_kept, pointer_kept, tip_kept}
use Rattle.fbc_soundness.proofs.NextNumbers.{next_kept}
use Rattle.fbc_soundness.proofs.PageEdits.{free_kept, name_kept, take_kept, unname_kept}

module _ (shape : Shape) (file : View) (past : History) (order : IsInOrder (scene_of shape file past)) (owner page : ℕ) (content : Page) (seen : View) (stamps : ℕ → Stamps)
    (sees : SeesEdit (scene_of shape file past) owner page seen stamps) where
  abbrev at : Scene
  at = scene_of shape file past

  -- The view sees the edit as what is owed of edits wants it.
  pub seen-edit : (e : Edit) → GuardOfEdit at owner page e → page_after shape (world_of shape file past) owner page e ≡ Some content → IsSeenEdit shape file past owner page e content seen stamps
  seen-edit e g made = record {
    guard = g;
    sees = sees;
    of_shape = seen-shape at owner page seen stamps sees order.upheld;
    fits = rw sees.edited_page.page (newest-fits at order.upheld.coherent owner page e content g made);
    sound = seen-sound at owner page seen stamps sees order.upheld;
  }

  abbrev Stays : Type 0
  Stays = HasNoMoreLinks seen (with_page seen page content)

  marked : (number : ℕ) (state : State) → IsSeenEdit shape file past owner page (edit.Mark number state) content seen stamps → AllowsMark seen number state → Stays
  marked number state is allowed = (marked_view shape seen page number state content (record { of_shape = is.of_shape; sound = is.sound; own = tt; fits = is.fits; allowed = allowed })).links

  by_state : (number : ℕ) (state : State) → IsSeenEdit shape file past owner page (edit.Mark number state) content seen stamps → Stays
  by_state number Committed is = marked number Committed is (record { begun = begun-seen at owner page number Committed is.guard seen stamps sees; stays = inl refl })
  by_state number Dead is = marked number Dead is (allows-dead at order.numbered owner page number is.guard seen stamps sees)
  by_state number Active is = absurd is.guard.row
  by_state number Limbo is = absurd is.guard.row

  pub links-stay : (e : Edit) → leaves_cells e ≡ true → IsSeenEdit shape file past owner page e content seen stamps → Stays
  links-stay (edit.SetNext next) leaves is = (next_kept shape file past owner page content seen stamps next is).alike.links
  links-stay (edit.AddTip added) leaves is = (tip_kept shape file past owner page content seen stamps added is).alike.links
  links-stay (edit.AddPointer relation added) leaves is = (pointer_kept shape file past owner page content seen stamps relation added is).alike.links
  links-stay edit.AddInventory leaves is = (inventory_kept shape file past owner page content seen stamps is).alike.links
  links-stay (edit.TakePage taken) leaves is = (take_kept shape file past owner page content seen stamps taken is).alike.links
  links-stay (edit.FreePage freed) leaves is = (free_kept shape file past owner page content seen stamps freed is).alike.links
  links-stay (edit.Name slot named) leaves is = (name_kept shape file past owner page content seen stamps slot named is).alike.links
  links-stay (edit.Unname slot) leaves is = (unname_kept shape file past owner page content seen stamps slot is).alike.links
  links-stay (edit.Mark number state) leaves is = by_state number state is
  links-stay _ leaves is = absurd cc

pub no-links : (shape : Shape) (file : View) (past : History) → IsInOrder (scene_of shape file past) → MakeNoLinks (scene_of shape file past)
no-links shape file past order owner page e content g made leaves seen stamps sees =
    links-stay shape file past order owner page content seen stamps sees e leaves (seen-edit shape file past order owner page content seen stamps sees e g made)
