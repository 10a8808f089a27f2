use Rattle.std.proofs.Common.{◌∷◌, ℕ}
use Rattle.fbc_kinds.specs.declared.shapes.Shape.{Shape}
use Rattle.fbc_kinds.specs.View.{View}
use Rattle.fbc_levels.specs.declared.resources.Callback.{Callback}
use Rattle.fbc_levels.specs.declared.resources.Resource.{Resource}
use Rattle.fbc_world.specs.declared.asks.Cause.TheVariants.{CallbackOf}
use Rattle.fbc_world.specs.declared.events.Act.TheVariants as act
use Rattle.fbc_world.specs.History.{History, happens}
use Rattle.fbc_world.specs.World.{world_of}
use Rattle.fbc_legal.specs.Legal.{IsLegal}
use Rattle.fbc_cache.specs.Cache.{CacheState}
use Rattle.fbc_fit.specs.Fit.{Fits}
use Rattle.fbc_downgrade.specs.Ending.{after_writing}
use Rattle.fbc_downgrade.specs.Histories.{MayServe, ServesOver, grants, none, others, writes, written_for}
use Rattle.fbc_downgrade.proofs.Further.{after-grant, after-other, after-write, by-series, in-turn, legal-start}
use Rattle.fbc_downgrade.proofs.Written.{due-write, write-due}
use Rattle.fbc_downgrade.proofs.legality.servings_go_on_over_histories.Goals as goal

pub returns-clause-served : goal.returns-clause-served
returns-clause-served k = λ shape file history later owner callback c after count legal over may. go shape file owner callback history later c after count over legal may where
  go : (shape : Shape) (file : View) (owner : ℕ) (callback : Callback) (history later : History) (c after : CacheState) (count : ℕ) → ServesOver owner callback history c count later after → IsLegal shape file later → MayServe shape file owner callback history c → MayServe shape file owner callback later after
  go shape file owner callback _ _ _ _ _ (none history c) legal may = may
  go shape file owner callback _ _ _ _ _ (writes history later c after page count landed serves rest) legal may =
      go shape file owner callback (written_for owner callback page landed ∷ history) later (after_writing c callback page) after count rest legal
      (after-write shape file owner callback history c may page landed serves
      (k.written_pages_fit.ensures shape file history owner page (CallbackOf callback.asker) landed c
      (write-due c callback page may.cache (due-write c callback page serves.1)) may.fits))
  go shape file owner callback _ _ _ _ _ (others history later c after moment count differs rest) legal may =
      go shape file owner callback (moment ∷ history) later c after count rest legal
      (after-other shape file owner callback history c may moment differs
      (k.others_leave_the_fit.ensures shape file history moment owner c (legal-start shape file owner callback (moment ∷ history) later c after count rest legal) may.alive differs may.fits))
  go shape file owner callback _ _ _ _ _ (grants history later c after resource count level landed rest) legal may =
      go shape file owner callback (happens owner (act.Grant resource level) landed ∷ history) later c after count rest legal
      (after-grant shape file owner callback history c may resource level landed
      (by-series
      (λ (r : Resource). IsLegal shape file (happens owner (act.Grant r level) landed ∷ history) → Fits shape (world_of shape file (happens owner (act.Grant r level) landed ∷ history)) owner c)
      (λ page before. k.late_grants_fit.ensures shape file history owner page level landed c before may.fits)
      (λ r other before. k.other_acts_leave_the_fit.ensures shape file history owner c (act.Grant r level) landed other may.fits)
      resource (legal-start shape file owner callback (happens owner (act.Grant resource level) landed ∷ history) later c after count rest legal)))

pub returns-clause-in_turn : goal.returns-clause-in_turn
returns-clause-in_turn k = λ history later owner callback c after count over. in-turn owner callback history later c after count over
