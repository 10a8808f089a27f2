use Rattle.fbc_kinds.specs.declared.edits.Edit.TheVariants.{PutCell}
use Rattle.fbc_origins.proofs.PutsSound.{admits-put}
use Rattle.fbc_origins.proofs.puts.put_cell_keeps_views_sound.Goals as goal

pub returns : goal.returns
returns c = λ shape file past cell content order owner page made seen stamps is.
    c.edits_keep_views_sound.ensures shape seen page (PutCell cell content) made (admits-put shape file past order owner page cell made seen stamps content is)
