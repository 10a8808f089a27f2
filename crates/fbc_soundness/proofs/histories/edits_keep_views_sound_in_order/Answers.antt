use Rattle.std.proofs.Common.{ℕ}
use Rattle.fbc_kinds.specs.declared.edits.Edit.{Edit}
use Rattle.fbc_kinds.specs.declared.edits.Edit.TheVariants as edit
use Rattle.fbc_kinds.specs.declared.pages.State.{State}
use Rattle.fbc_kinds.specs.declared.pages.State.TheVariants.{Active, Committed, Dead, Limbo}
use Rattle.fbc_closed_cuts.specs.Owed.{KeepsViewsSound}
use Rattle.fbc_soundness.proofs.histories.edits_keep_views_sound_in_order.Goals as goal

pub returns : goal.returns
returns c shape file past e order = go e where
  marks : (number : ℕ) (state : State) → KeepsViewsSound shape file past (edit.Mark number state)
  marks number Dead = c.dead_marks_keep_views_sound.ensures shape file past number order.numbered
  marks number Committed = c.commit_marks_keep_views_sound.ensures shape file past number
  marks number Active = λ owner page content seen stamps is. absurd is.guard.row
  marks number Limbo = λ owner page content seen stamps is. absurd is.guard.row

  go : (e : Edit) → KeepsViewsSound shape file past e
  go (edit.SetNext next) = λ owner page content seen stamps is. (c.set_next_keeps_views.ensures shape file next past owner page content seen stamps is).sound
  go (edit.AddTip added) = λ owner page content seen stamps is. (c.add_tip_keeps_views.ensures shape file added past owner page content seen stamps is).sound
  go (edit.AddPointer relation added) = λ owner page content seen stamps is. (c.add_pointer_keeps_views.ensures shape file relation added past owner page content seen stamps is).sound
  go edit.AddInventory = λ owner page content seen stamps is. (c.add_inventory_keeps_views.ensures shape file past owner page content seen stamps is).sound
  go (edit.TakePage taken) = λ owner page content seen stamps is. (c.take_page_keeps_views.ensures shape file taken past owner page content seen stamps is).sound
  go (edit.FreePage freed) = λ owner page content seen stamps is. (c.free_page_keeps_views.ensures shape file freed past owner page content seen stamps is).sound
  go (edit.Mark number state) = marks number state
  go (edit.Name slot named) = λ owner page content seen stamps is. (c.name_keeps_views.ensures shape file slot named past owner page content seen stamps is).sound
  go (edit.Unname slot) = λ owner page content seen stamps is. (c.unname_keeps_views.ensures shape file slot past owner page content seen stamps is).sound
  go (edit.PutCell cell content) = c.put_cell_keeps_views_sound.ensures shape file past cell content order
  go (edit.ClearCell cell) = c.clear_cell_keeps_views_sound.ensures shape file past cell order
  go (edit.Format kind number relation sequence) = λ owner page content seen stamps is. (c.format_keeps_views.ensures shape file kind number relation sequence past owner page content seen stamps is).sound
