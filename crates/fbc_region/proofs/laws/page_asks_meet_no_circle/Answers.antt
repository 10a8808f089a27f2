use Rattle.std.proofs.Common.{◌≡◌, ◌∙◌, ap, ℕ, Bool, List, None, sym}
use Rattle.fbc_levels.specs.declared.levels.Level.{Level}
use Rattle.fbc_levels.specs.declared.resources.Resource.{Resource}
use Rattle.fbc_levels.specs.declared.resources.Series.TheVariants as series
use Rattle.fbc_levels.specs.LockState.{wait_of}
use Rattle.fbc_lock_table.specs.declared.answers.Asked.{Asked}
use Rattle.fbc_lock_table.specs.declared.answers.Asked.TheVariants as asked
use Rattle.fbc_lock_table.specs.Answers.{answer_to_ask}
use Rattle.fbc_owner_queues.proofs.Named.{page_asked-closes_none}
use Rattle.fbc_world.specs.declared.answers.Answer.{Answer}
use Rattle.fbc_world.specs.declared.answers.Answer.TheVariants as answers
use Rattle.fbc_world.specs.History.{Recording}
use Rattle.fbc_region.specs.Answering.{AskComesTo, answer_to_wait}
use Rattle.fbc_region.specs.Shared.{locks_in}
use Rattle.fbc_region.proofs.laws.page_asks_meet_no_circle.Goals as goal

module _ (before after : Recording) (owner : ℕ) (resource : Resource) (level : Level) (wait : Bool) (word : ℕ) (answer : Answer) (circle : List ℕ) (free : wait_of (locks_in before) owner ≡ None) (page : resource.series ≡ series.Page)
    (is : answer ≡ answers.Deadlock circle) where
  told : (come : Asked) → AskComesTo before after owner resource level wait word answer come → ⊥
  told asked.Granted comes = let no : answers.Granted ≡ answers.Deadlock circle = sym comes.0 ∙ is in cc
  told asked.Queued comes =
      let queued : answer ≡ answers.Queued = comes.0 ∙ ap answer_to_wait (page_asked-closes_none owner resource level page (locks_in before) word free) in
      let no : answers.Queued ≡ answers.Deadlock circle = sym queued ∙ is in
      cc
  told (asked.Busy holder held) comes = let no : answers.Busy holder held ≡ answers.Deadlock circle = sym comes.0 ∙ is in cc
  told (asked.Room used) comes = let no : answers.Room used ≡ answers.Deadlock circle = sym comes.0 ∙ is in cc
  told (asked.Dead dead) comes = let no : answers.Reaped dead ≡ answers.Deadlock circle = sym comes.answered ∙ is in cc

pub returns : goal.returns
returns c before after owner resource level wait word answer circle free page comes is =
    told before after owner resource level wait word answer circle free page is (answer_to_ask (locks_in before) owner resource level wait) comes
