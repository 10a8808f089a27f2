use Rattle.fbc_firm_facts.proofs.NotesKept.{own-notes-kept}
use Rattle.fbc_firm_facts.proofs.notes.own_acts_leave_notes.Goals as goal

pub returns : goal.returns
returns c = λ shape file before moment t note legal plain lives open_is unmarked holds.
    own-notes-kept shape file before moment t legal plain lives open_is unmarked note holds
