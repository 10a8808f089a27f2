use Rattle.fbc_kinds.specs.declared.edits.Edit.TheVariants.{ClearCell}
use Rattle.fbc_origins.proofs.PutsSound.{admits-clear}
use Rattle.fbc_origins.proofs.puts.clear_cell_keeps_views_sound.Goals as goal

pub returns : goal.returns
returns c = λ shape file past cell order owner page made seen stamps is.
    c.edits_keep_views_sound.ensures shape seen page (ClearCell cell) made (admits-clear shape file past order owner page cell made seen stamps is)
