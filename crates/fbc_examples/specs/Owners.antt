-- Histories in which owners come, wait, go and die.
use Rattle.std.specs.Prelude.{Bool, true, false, [], ◌∷◌, None}
use Rattle.fbc_kinds.specs.declared.edits.Edit.TheVariants.{TakePage}
use Rattle.fbc_kinds.specs.declared.replies.Reply.TheVariants as reply
use Rattle.fbc_levels.specs.declared.levels.Level.TheVariants.{Ex, Free, Sr}
use Rattle.fbc_world.specs.declared.asks.Ask.TheVariants as ask
use Rattle.fbc_world.specs.declared.asks.Cause.TheVariants.{Commit}
use Rattle.fbc_world.specs.declared.events.Act.TheVariants.{Ask, Die, Enter, Grant, Leave, Least, Local, Look, Lower, Note, Opened, Poll, Read, Reap, Withdraw, Write}
use Rattle.fbc_world.specs.declared.events.LocalEvent.TheVariants as local
use Rattle.fbc_world.specs.History.{History, happens}
use Rattle.fbc_levels.specs.Resources.{page_resource}
use Rattle.fbc_examples.specs.Steps.{asks, does, edits, gets, holds, relation_resource, with_owner}

-- Owners 1 and 2 come, and owner 1 gets the page inventory.
abbrev pub with_two : History
with_two = gets 1 (page_resource 1) 0 (does 2 (Enter 8 2) with_owner)

-- Owner 2 waits for that page.
abbrev pub with_waiter : History
with_waiter = asks 2 (page_resource 1) 0 with_two

-- Owner 1 looks who waits for it. Owner 2 looks whether it waits still, and then waits no more.
abbrev pub with_withdrawal : History
with_withdrawal = does 2 Withdraw (does 2 Look (does 1 (Poll None) with_waiter))

-- Owner 2 asks for the least data word, answers a statement, and goes.
abbrev pub with_leave : History
with_leave = does 2 Leave (does 2 (Note reply.Ok) (does 2 Least with_withdrawal))

-- Where owner 2 waits, owner 1 dies. Owner 2 looks, what owner 1 left is taken away, and owner 2 gets the page.
abbrev pub with_reaped_holder : History
with_reaped_holder = does 2 (Grant (page_resource 1) Ex) (does 2 (Reap 1 ask.Look) (does 2 Look (does 1 Die with_waiter)))

-- Where owner 2 has the page inventory, owner 1 has page 4 pinned, and waits for the page inventory, which ranks higher.
abbrev pub with_upward_wait : History
with_upward_wait = asks 1 (page_resource 1) 0 (gets 2 (page_resource 1) 0 (does 2 (Enter 8 2) (holds 4 with_owner)))

-- Owner 2 asks for the page inventory, which owner 1 has, and does not wait.
abbrev pub with_busy_ask : History
with_busy_ask = does 2 (Ask (page_resource 1) Ex false 0) with_two

-- There is room for one request, which owner 1 has. Owner 2 asks for another page.
abbrev pub with_full_ask : History
with_full_ask = asks 2 (page_resource 4) 0 (gets 1 (page_resource 1) 0 (does 2 (Enter 8 2) (does 1 (Enter 8 1) (does 0 (Opened 1) []))))

-- Owners 1 and 2 get the relation in SR.
abbrev pub with_shared_relation : History
with_shared_relation =
    does 2 (Grant relation_resource Sr)
    (does 2 (Ask relation_resource Sr true 0)
    (does 1 (Grant relation_resource Sr)
    (does 1 (Ask relation_resource Sr true 0)
    (does 2 (Enter 8 2) with_owner))))

-- Owner 1 wants it in EX, and waits for owner 2. Owner 2 wants it in EX too, and its wait would close a circle.
abbrev pub with_circle : History
with_circle = asks 2 relation_resource 0 (asks 1 relation_resource 0 with_shared_relation)

-- Where nobody waits, owner 1 dies. Owner 2 asks for the page, and what owner 1 left is taken away before.
abbrev pub with_reaped_owner : History
with_reaped_owner = gets 2 (page_resource 1) 0 (does 2 (Reap 1 (ask.Lock (page_resource 1) Ex true 0)) (does 1 Die with_two))

-- There is room for one request. Owner 1 gets a page and dies. Owner 2 asks for another, and what owner 1 left is taken away
-- before.
abbrev pub with_full_table : History
with_full_table =
    gets 2 (page_resource 4) 0
    (does 2 (Reap 1 (ask.Lock (page_resource 4) Ex true 0))
    (does 1 Die
    (gets 1 (page_resource 1) 0
    (does 2 (Enter 8 2)
    (does 1 (Enter 8 1)
    (does 0 (Opened 1) []))))))

-- Owner 1 gets a page whose read fails, reads it again, and gives it up.
abbrev pub with_given_up : History
with_given_up = does 1 (Lower (page_resource 1) Free) (does 1 (Read 1 false) (does 1 (Read 1 true) (gets 1 (page_resource 1) 0 with_owner)))

-- Owner 1 takes a page, and pins the page inventory no more.
abbrev pub with_draft : History
with_draft = does 1 (Local (local.Unpin 1)) (edits 1 (TakePage 4) (holds 1 with_owner))

-- Its write of the page inventory fails, and the page has reached the file or has not.
abbrev pub with_failed_write : Bool → History
with_failed_write landed = happens 1 (Write 1 Commit true) landed ∷ with_draft
