use Rattle.fbc_firm_facts.proofs.NotesFirm.{note-holds}
use Rattle.fbc_firm_facts.proofs.notes.notes_hold_where_copies_show_them.Goals as goal

pub returns : goal.returns
returns c = λ shape file history owner notes note of_shape sound legal all may.
    note-holds shape file history (c.legal_histories_are_whole.ensures shape file history of_shape sound legal).order.upheld owner notes all note may
