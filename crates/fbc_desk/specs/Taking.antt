-- The desk after the answer to a step.
use Rattle.std.specs.Prelude.{◌≡◌, ◌==◌, ℕ, not, List}
use Rattle.std.specs.List.{filter}
use Rattle.fbc_world.specs.declared.answers.Answer.{Answer}
use Rattle.fbc_world.specs.declared.asks.Ask.{Ask}
use Rattle.fbc_world.specs.declared.asks.Ask.TheVariants as ask
use Rattle.fbc_cache.specs.Cache.{CacheState}
use Rattle.fbc_cache.specs.Takes.{Takes}
use Rattle.fbc_desk.specs.declared.own.Deed.{Deed}
use Rattle.fbc_desk.specs.Desk.{DeskState, sent, with_cache}
use Rattle.fbc_desk.specs.Grounds.{support_of_deed}

-- What was done in a page that is written is no more what this attachment alone has: it is forgotten.
abbrev pub deeds_left : Ask → List Deed → List Deed
deeds_left (ask.Write page cause) deeds = filter (λ (deed : Deed). not (support_of_deed deed == page)) deeds
deeds_left _ deeds = deeds

-- The cache takes the answer, and nothing is unsent any more.
pub record DeskTakes (before after : DeskState) (asked : Ask) (answer : Answer) (bytes : List ℕ) : Type 0 where
  pub cache : CacheState
  pub takes : Takes before.cache cache asked answer bytes
  pub is_after : after ≡ record (with_cache (sent before) cache) { deeds = deeds_left asked before.deeds }
