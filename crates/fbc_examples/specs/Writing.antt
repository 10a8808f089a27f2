-- Histories in which pages are written for each cause, and locks are lowered.
use Rattle.std.specs.Prelude.{true, false, [], None}
use Rattle.fbc_kinds.specs.declared.edits.Edit.TheVariants.{TakePage}
use Rattle.fbc_levels.specs.declared.levels.Level.TheVariants.{Free, Pr, Sw}
use Rattle.fbc_world.specs.declared.asks.Cause.TheVariants as cause
use Rattle.fbc_world.specs.declared.events.Act.TheVariants.{Ask, Enter, Grant, Local, Lower, Opened, Poll, Read, Write}
use Rattle.fbc_world.specs.declared.events.LocalEvent.TheVariants as local
use Rattle.fbc_world.specs.History.{History}
use Rattle.fbc_levels.specs.Resources.{page_resource}
use Rattle.fbc_legal.specs.Scene.{number_resource}
use Rattle.fbc_examples.specs.Owners.{with_draft}
use Rattle.fbc_examples.specs.Pages.{with_taken_page}
use Rattle.fbc_examples.specs.Rows.{with_commit}
use Rattle.fbc_examples.specs.Steps.{does, edits, gets, holds, relation_resource, with_owner}

-- Owner 1, which goes, writes its draft of the page inventory.
abbrev pub with_detach : History
with_detach = does 1 (Write 1 cause.Detach false) with_draft

-- The page inventory is to be written before page 4, and owner 1 writes it, as page 4 is to be written before it.
abbrev pub with_cycle : History
with_cycle = does 1 (Write 1 (cause.Cycle 4) false) with_taken_page

-- Owner 1 has room for one page, and has a draft of the page inventory.
abbrev pub with_little_room : History
with_little_room = does 1 (Local (local.Unpin 1)) (edits 1 (TakePage 4) (holds 1 (does 1 (Enter 1 1) (does 0 (Opened 16) []))))

-- It wants page 4: it writes its draft, gives that page up, and gets page 4.
abbrev pub with_eviction : History
with_eviction = gets 1 (page_resource 4) 0 (does 1 (Lower (page_resource 1) Free) (does 1 (Write 1 (cause.Evict 4) false) with_little_room))

-- Owner 2 waits for PR on the page inventory, of which owner 1 has a draft.
abbrev pub with_wanted_draft : History
with_wanted_draft = does 2 (Ask (page_resource 1) Pr true 0) (does 2 (Enter 8 2) with_draft)

-- Owner 1 is called back, and writes the page.
abbrev pub with_callback : History
with_callback = does 1 (Write 1 (cause.CallbackOf 2) false) (does 1 (Poll None) with_wanted_draft)

-- It keeps PR. Owner 2 gets PR, and reads the page.
abbrev pub with_two_readers : History
with_two_readers = does 2 (Read 1 false) (does 2 (Grant (page_resource 1) Pr) (does 1 (Lower (page_resource 1) Pr) with_callback))

-- Owner 1, whose transaction is committed, gives its number up.
abbrev pub with_free_number : History
with_free_number = does 1 (Lower (number_resource 1) Free) with_commit

-- Owner 1 gets the relation in SW.
abbrev pub with_relation : History
with_relation = does 1 (Grant relation_resource Sw) (does 1 (Ask relation_resource Sw true 0) with_owner)

-- It gives the relation up.
abbrev pub with_free_relation : History
with_free_relation = does 1 (Lower relation_resource Free) with_relation
