-- Grants behind an owner's own event leave the fit of its cache.
use Rattle.std.proofs.Common.{◌≡◌, ◌≢◌, ◌∙◌, ap, ℕ, Bool, true, false, ◌==◌, if◌then◌else◌, List, [], ◌∷◌, refl, sym, subst, arith}
use Rattle.std.proofs.lemmas.Bool.Decides.{nat_tests}
use Rattle.std.specs.List.{AllByRecursion}
use Rattle.fbc_kinds.specs.declared.shapes.Shape.{Shape}
use Rattle.fbc_kinds.specs.View.{View}
use Rattle.fbc_levels.specs.declared.levels.Level.{Level}
use Rattle.fbc_levels.specs.declared.resources.Resource.{Resource}
use Rattle.fbc_levels.specs.declared.resources.Series.{Series}
use Rattle.fbc_levels.specs.declared.resources.Series.TheVariants as series
use Rattle.fbc_levels.specs.Resources.{is_same_series, page_resource}
use Rattle.fbc_world.specs.declared.answers.Answer.{Answer}
use Rattle.fbc_world.specs.declared.asks.Ask.{Ask}
use Rattle.fbc_world.specs.declared.events.Act.TheVariants as act
use Rattle.fbc_world.specs.declared.events.Event.{Event}
use Rattle.fbc_world.specs.History.{History, happens}
use Rattle.fbc_world.specs.Locks.{locks_of}
use Rattle.fbc_world.specs.Owners.{is_alive}
use Rattle.fbc_world.specs.World.{world_of}
use Rattle.fbc_legal.specs.Legal.{IsLegal}
use Rattle.fbc_region.specs.Steps.{IsAnswered, IsGrant, act_of, with_events}
use Rattle.fbc_region.proofs.FollowingGrants.{follow_are_grants}
use Rattle.fbc_cache.specs.Cache.{CacheState}
use Rattle.fbc_cache.specs.Wants.{is_page_series}
use Rattle.fbc_fit.specs.After.{FitsAfter}
use Rattle.fbc_fit.proofs.LateGrants.{fits-granted}
use Rattle.fbc_fit.proofs.Left.{fits-left}
use Rattle.fbc_fit.proofs.OtherActs.{fits-acted}

pub series-page : (s : Series) → is_same_series s series.Page ≡ true → s ≡ series.Page
series-page series.Page is = refl
series-page _ is = absurd (cc)

-- A resource that is a page is the one of its number.
pub resource-page : (r : Resource) → is_page_series r ≡ true → r ≡ page_resource r.key
resource-page r is = ap (λ (s : Series). record { series = s; key = r.key }) (series-page r.series is)

pub same-either : (b : Bool) (x : Bool) → (if b then x else x) ≡ x
same-either true x = refl
same-either false x = refl

module _ (shape : Shape) (file : View) (who : ℕ) where
  pub legal-before : (events : List Event) (past : History) → IsLegal shape file (with_events past events) → IsLegal shape file past
  legal-before [] past legal = legal
  legal-before (event ∷ events) past legal = (legal-before events (record { event = event; landed = false } ∷ past) legal).0

  module _ (c : CacheState) where
    -- A grant to the owner itself: of a page that its cache waits for, or of what is no page.
    own-grant : (past : History) (resource : Resource) (level : Level) → IsLegal shape file (happens who (act.Grant resource level) false ∷ past)
        → FitsAfter shape file past who c → FitsAfter shape file (happens who (act.Grant resource level) false ∷ past) who c
    own-grant past resource level legal fits = go (is_page_series resource) refl where
      page-grant : (r : Resource) (page : ℕ) → r ≡ page_resource page → IsLegal shape file (happens who (act.Grant r level) false ∷ past) → FitsAfter shape file (happens who (act.Grant r level) false ∷ past) who c
      page-grant r page is =
          subst (λ (x : Resource). IsLegal shape file (happens who (act.Grant x level) false ∷ past) → FitsAfter shape file (happens who (act.Grant x level) false ∷ past) who c) (sym is)
          (λ its. fits-granted shape (world_of shape file past) who page level false c its.1.guard.wanted fits)

      go : (paged : Bool) → is_page_series resource ≡ paged → FitsAfter shape file (happens who (act.Grant resource level) false ∷ past) who c
      go true is = page-grant resource resource.key (resource-page resource is) legal
      go false is = fits-acted shape (world_of shape file past) who false c (act.Grant resource level) is fits

    one-grant : (past : History) (owner : ℕ) (resource : Resource) (level : Level) → IsLegal shape file (happens owner (act.Grant resource level) false ∷ past)
        → is_alive past who ≡ true → FitsAfter shape file past who c → FitsAfter shape file (happens owner (act.Grant resource level) false ∷ past) who c
    one-grant past owner resource level legal lives fits = go (owner == who) refl where
      go : (own : Bool) → owner == who ≡ own → FitsAfter shape file (happens owner (act.Grant resource level) false ∷ past) who c
      go true is =
          let same : who ≡ owner = grind (arith, nat_tests, is) in
          subst (λ (o : ℕ). IsLegal shape file (happens o (act.Grant resource level) false ∷ past) → FitsAfter shape file (happens o (act.Grant resource level) false ∷ past) who c) same
          (λ its. own-grant past resource level its fits) legal
      go false is =
          let apart : owner ≢ who = grind (arith, nat_tests, is) in
          fits-left shape file past (happens owner (act.Grant resource level) false) who c legal lives apart fits

    pub fits-behind : (grants : List Event) (past : History) → AllByRecursion IsGrant grants → IsLegal shape file (with_events past grants)
        → is_alive past who ≡ true → FitsAfter shape file past who c → FitsAfter shape file (with_events past grants) who c
    fits-behind [] past all legal lives fits = fits
    fits-behind (event ∷ grants) past all legal lives fits =
        fits-behind grants (record { event = event; landed = false } ∷ past) all.1 legal (alive-behind event all.0) (fits-one event all.0 (legal-before grants _ legal)) where
          alive-behind : (e : Event) → IsGrant e → is_alive (record { event = e; landed = false } ∷ past) who ≡ true
          alive-behind e grant = rw grant.is (same-either (grant.owner == who) (is_alive past who) ∙ lives)

          fits-one : (e : Event) → IsGrant e → IsLegal shape file (record { event = e; landed = false } ∷ past) → FitsAfter shape file (record { event = e; landed = false } ∷ past) who c
          fits-one e grant =
              rw grant.is (λ its. one-grant past grant.owner grant.resource grant.level its lives fits)

-- A step: where the cache fits behind the owner's own event, it fits behind the grants too.
module _ (shape : Shape) (file : View) (past later : History) (who : ℕ) (answer : Answer) (asked : Ask) (step : IsAnswered past who answer asked later) (legal : IsLegal shape file later) where
  abbrev pub own_moment : History
  own_moment = happens who (act_of answer asked) step.landed ∷ past

  pub legal-own : IsLegal shape file own_moment
  legal-own = legal-before shape file who step.grants own_moment (subst (IsLegal shape file) step.later_is legal)

  pub fits-step : (c : CacheState) → is_alive own_moment who ≡ true → FitsAfter shape file own_moment who c → FitsAfter shape file later who c
  fits-step c lives fits =
      subst (λ (h : History). FitsAfter shape file h who c) (sym step.later_is)
      (fits-behind shape file who c step.grants own_moment (follow_are_grants (locks_of past) who answer (act_of answer asked) step.grants step.follow) (subst (IsLegal shape file) step.later_is legal) lives fits)
