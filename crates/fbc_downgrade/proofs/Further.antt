-- A callback is served further.
use Rattle.std.proofs.Common.{◌≡◌, ◌≢◌, ◌∷◌, ℕ, Bool, false, refl, arith}
use Rattle.std.proofs.lemmas.Bool.Decides.{nat_tests}
use Rattle.fbc_kinds.specs.declared.shapes.Shape.{Shape}
use Rattle.fbc_kinds.specs.View.{View}
use Rattle.fbc_levels.specs.declared.levels.Level.{Level}
use Rattle.fbc_levels.specs.declared.resources.Callback.{Callback}
use Rattle.fbc_levels.specs.declared.resources.Resource.{Resource}
use Rattle.fbc_levels.specs.declared.resources.Series.{Series}
use Rattle.fbc_levels.specs.declared.resources.Series.TheVariants.{Page, Relation, Transaction}
use Rattle.fbc_world.specs.declared.events.Act.TheVariants as act
use Rattle.fbc_world.specs.History.{History, Moment, happens}
use Rattle.fbc_levels.specs.Resources.{page_resource}
use Rattle.fbc_world.specs.World.{world_of}
use Rattle.fbc_legal.specs.Causes.{still}
use Rattle.fbc_legal.specs.Legal.{IsLegal}
use Rattle.fbc_cache.specs.Cache.{CacheState}
use Rattle.fbc_cache.specs.Wants.{is_page_series}
use Rattle.fbc_fit.specs.Fit.{Fits}
use Rattle.fbc_downgrade.specs.declared.serving.Serving.TheVariants.{Must}
use Rattle.fbc_downgrade.specs.Ending.{Writes, after_writing, write_for, none as nothing, more}
use Rattle.fbc_downgrade.specs.Histories.{MayServe, ServesOver, grants, none, others, writes, written_for}
use Rattle.fbc_downgrade.specs.Serving.{Serves}
use Rattle.fbc_downgrade.proofs.Written.{cache-after, due-write}

-- What is true of each page, and of each resource that is none, is true of each resource.
pub by-series : (P : Resource → Type 0) → ((page : ℕ) → P (page_resource page)) → ((resource : Resource) → is_page_series resource ≡ false → P resource) → (resource : Resource) → P resource
by-series P pages rest resource = go resource.series resource.key where
  go : (kind : Series) (key : ℕ) → P (record { series = kind; key = key })
  go Page key = pages key
  go Transaction key = rest (record { series = Transaction; key = key }) refl
  go Relation key = rest (record { series = Relation; key = key }) refl

-- What goes on to a legal history was legal.
pub legal-start : (shape : Shape) (file : View) (owner : ℕ) (callback : Callback) (history later : History) (c after : CacheState) (count : ℕ) → ServesOver owner callback history c count later after → IsLegal shape file later → IsLegal shape file history
legal-start shape file owner callback _ _ _ _ _ (none history c) legal = legal
legal-start shape file owner callback _ _ _ _ _ (writes history later c after page count landed serves rest) legal =
    (legal-start shape file owner callback (written_for owner callback page landed ∷ history) later (after_writing c callback page) after count rest legal).0
legal-start shape file owner callback _ _ _ _ _ (others history later c after moment count differs rest) legal =
    (legal-start shape file owner callback (moment ∷ history) later c after count rest legal).0
legal-start shape file owner callback _ _ _ _ _ (grants history later c after resource count level landed rest) legal =
    (legal-start shape file owner callback (happens owner (act.Grant resource level) landed ∷ history) later c after count rest legal).0

-- The writes are those that the cache gives in turn.
pub in-turn : (owner : ℕ) (callback : Callback) (history later : History) (c after : CacheState) (count : ℕ) → ServesOver owner callback history c count later after → Writes callback c count after
in-turn owner callback _ _ _ _ _ (none history c) = nothing c
in-turn owner callback _ _ _ _ _ (writes history later c after page count landed serves rest) =
    more c page count after serves (in-turn owner callback (written_for owner callback page landed ∷ history) later (after_writing c callback page) after count rest)
in-turn owner callback _ _ _ _ _ (others history later c after moment count differs rest) = in-turn owner callback (moment ∷ history) later c after count rest
in-turn owner callback _ _ _ _ _ (grants history later c after resource count level landed rest) =
    in-turn owner callback (happens owner (act.Grant resource level) landed ∷ history) later c after count rest

module _ (shape : Shape) (file : View) (owner : ℕ) (callback : Callback) (history : History) (c : CacheState) (may : MayServe shape file owner callback history c) where
  -- After a write for the asker.
  pub after-write : (page : ℕ) (landed : Bool) → Serves c callback (Must (write_for callback page)) → Fits shape (world_of shape file (written_for owner callback page landed ∷ history)) owner (after_writing c callback page) → MayServe shape file owner callback (written_for owner callback page landed ∷ history) (after_writing c callback page)
  after-write page landed serves fits = record {
    alive = grind (arith, nat_tests, may.alive);
    cache = cache-after c callback page may.cache (due-write c callback page serves.1);
    fits = fits;
    polled = still history (written_for owner callback page landed) may.polled (λ above actor is. absurd (cc));
  }

  -- After what another owner did.
  pub after-other : (moment : Moment) → moment.event.actor ≢ owner → Fits shape (world_of shape file (moment ∷ history)) owner c → MayServe shape file owner callback (moment ∷ history) c
  after-other moment differs fits = record {
    alive = grind (arith, nat_tests, differs, may.alive);
    cache = may.cache;
    fits = fits;
    polled = still history moment may.polled (λ above actor is. differs actor);
  }

  -- After a grant, of which the cache has not learnt.
  pub after-grant : (resource : Resource) (level : Level) (landed : Bool) → Fits shape (world_of shape file (happens owner (act.Grant resource level) landed ∷ history)) owner c → MayServe shape file owner callback (happens owner (act.Grant resource level) landed ∷ history) c
  after-grant resource level landed fits = record {
    alive = grind (arith, nat_tests, may.alive);
    cache = may.cache;
    fits = fits;
    polled = still history (happens owner (act.Grant resource level) landed) may.polled (λ above actor is. absurd (cc));
  }
