-- Histories that are not legal: each ends with a step that its guard refuses.
use Rattle.fbc_kinds.specs.declared.edits.Edit.TheVariants.{ClearCell, Mark, Unname}
use Rattle.fbc_kinds.specs.declared.pages.State.TheVariants.{Committed}
use Rattle.fbc_levels.specs.declared.levels.Level.TheVariants.{Ex, Free}
use Rattle.fbc_world.specs.declared.asks.Ask.TheVariants as ask
use Rattle.fbc_world.specs.declared.events.Act.TheVariants.{Enter, Grant, Local, Lower, Reap}
use Rattle.fbc_world.specs.declared.events.LocalEvent.TheVariants as local
use Rattle.fbc_world.specs.History.{History}
use Rattle.fbc_levels.specs.Resources.{page_resource}
use Rattle.fbc_examples.specs.Clearing.{with_both}
use Rattle.fbc_examples.specs.Owners.{with_draft, with_waiter}
use Rattle.fbc_examples.specs.Rows.{with_changed_row, with_pages}
use Rattle.fbc_examples.specs.Steps.{asks, begins, does, edits, gets, holds, with_owner, writes}

-- The header is written, and then the transaction is marked as committed, before the data page is written.
abbrev pub with_early_mark : History
with_early_mark = edits 2 (Mark 1 Committed) (writes 0 with_changed_row)

-- The data page is written before the header, which is to be written before it.
abbrev pub with_early_write : History
with_early_write = writes 4 with_changed_row

-- A data page that has a version is named no more.
abbrev pub with_lost_page : History
with_lost_page = edits 3 (Unname 0) (holds 3 (holds 4 with_owner))

-- An older version is cleared that another one names.
abbrev pub with_torn_chain : History
with_torn_chain = edits 4 (ClearCell 1) with_both

-- A page is given up before its draft is written.
abbrev pub with_lost_draft : History
with_lost_draft = does 1 (Lower (page_resource 1) Free) with_draft

-- An owner gets a page that another one has.
abbrev pub with_two_holders : History
with_two_holders = does 2 (Grant (page_resource 1) Ex) with_waiter

-- A living owner's locks are taken away.
abbrev pub with_robbed_owner : History
with_robbed_owner = does 2 (Reap 1 ask.Look) with_waiter

-- The header is pinned no more before its next number is raised.
abbrev pub with_early_unpin : History
with_early_unpin = does 1 (Local (local.Unpin 0)) (begins 1 with_pages)

-- An owner that has the page inventory pinned waits for a data page, which ranks lower.
abbrev pub with_downward_wait : History
with_downward_wait = asks 1 (page_resource 4) 0 (gets 2 (page_resource 4) 0 (does 2 (Enter 8 2) (holds 1 with_owner)))
