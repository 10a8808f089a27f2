-- Ranks rise along waits for pinned pages, so that these close no circle.
use Rattle.std.proofs.Common.{◌≡◌, ◌⊎◌, inl, inr, ℕ, Bool, true, false, ◌==◌, if◌then◌else◌, List, [], ◌∷◌, Option, Some, None, is_some, refl, ap}
use Rattle.std.specs.Prelude.{IsSomeAnd}
use Rattle.std.specs.Option.{option_map_or}
use Rattle.fbc_kinds.specs.declared.pages.Page.{Page}
use Rattle.fbc_kinds.specs.declared.shapes.Shape.{Shape}
use Rattle.fbc_kinds.specs.View.{View, header_in}
use Rattle.fbc_levels.specs.declared.resources.Request.{Request}
use Rattle.fbc_levels.specs.declared.resources.Resource.{Resource}
use Rattle.fbc_levels.specs.declared.resources.Series.{Series}
use Rattle.fbc_levels.specs.declared.resources.Series.TheVariants as series
use Rattle.fbc_levels.specs.LockState.{is_wait_of, wait_of}
use Rattle.fbc_levels.specs.Waits.{IsCircle, Leads}
use Rattle.fbc_world.specs.declared.drafts.Draft.{Draft}
use Rattle.fbc_world.specs.History.{History}
use Rattle.fbc_levels.specs.Resources.{page_resource}
use Rattle.fbc_world.specs.PageCell.{newest_in, page_for}
use Rattle.fbc_world.specs.World.{World, world_of}
use Rattle.fbc_world.proofs.Found.{find_passes}
use Rattle.fbc_world.proofs.WorldLaws.{IsReplayed-world}
use Rattle.fbc_legal.specs.Circles.{HasJustAsked, IsHeldOverPage}
use Rattle.fbc_legal.specs.Legal.{IsLegal}
use Rattle.fbc_legal.specs.Ranks.{IsLower, Rank, WaitsUpward, pinned_rank, rank_in, waited_rank}
use Rattle.fbc_legal.specs.Scene.{Scene, scene_of}
use Rattle.fbc_legal.proofs.AtOnce.{IsUnblocked, unblocked-just, waits_for_nobody}
use Rattle.fbc_legal.proofs.Exclusion.{both_of, same_number}
use Rattle.fbc_legal.proofs.HeaderGrowth.{Grows}
use Rattle.fbc_legal.proofs.RankOrder.{IsAtMost, at_most-lower, at_most-self, lower-self, lower-trans}
use Rattle.fbc_legal.proofs.Ranked.{IsRanked, IsRanked-legal}
use Rattle.fbc_legal.proofs.Waiters.{waits_in, waits_of}

-- What rises with each step along a relation closes no circle.
module _ (R : ℕ → ℕ → Type 0) (height : ℕ → Rank) (rises : (a b c : ℕ) → R a b → R b c → IsLower (height a) (height b)) where
  begins : (first : ℕ) (rest : List ℕ) (last : ℕ) → Leads R first rest last → (next : ℕ) × R first next
  begins first [] last leads = (last, leads)
  begins first (next ∷ rest) last leads = (next, leads.0)

  climbs : (first : ℕ) (rest : List ℕ) (last beyond : ℕ) → Leads R first rest last → R last beyond → IsLower (height first) (height last)
  climbs first [] last beyond leads onward = rises first last beyond leads onward
  climbs first (next ∷ rest) last beyond leads onward =
      let after = begins next rest last leads.1 in
      lower-trans _ _ _ (rises first next after.0 leads.0 after.1) (climbs next rest last beyond leads.1 onward)

  pub no_circle : (owners : List ℕ) → IsCircle R owners → ⊥
  no_circle [] circle = circle
  no_circle (owner ∷ rest) circle =
      let after = begins owner rest owner circle in
      lower-self _ (climbs owner rest owner after.0 circle after.1)

-- What an owner may know of the header gives no higher ranks than the newest one.
known : (size page owner : ℕ) (kept : Option Page) (draft : Option Draft) → Grows size kept draft
    → IsAtMost (rank_in size (header_in (page_for owner kept draft)) page) (rank_in size (header_in (newest_in kept draft)) page)
known size page owner kept None grow = at_most-self _
known size page owner kept (Some draft) grow = go (draft.owner == owner) where
  go : (b : Bool) → IsAtMost (rank_in size (header_in (if b then Some draft.content else kept)) page) (rank_in size (header_in (Some draft.content)) page)
  go true = at_most-self _
  go false = grow page

-- The page that a request waits for.
abbrev pub page_of : Option Request → ℕ
page_of found = option_map_or (λ (r : Request). r.resource.key) found 0

module _ (shape : Shape) (file : View) (history : History) (legal : IsLegal shape file history) where
  abbrev at : Scene
  at = scene_of shape file history

  abbrev w : World
  w = world_of shape file history

  h : IsRanked at
  h = IsRanked-legal shape file history legal

  abbrev pub awaited : ℕ → ℕ
  awaited owner = page_of (wait_of w.locks owner)

  -- The owner waits for the page, not as one that has just asked with nobody in the way, and the other has it pinned.
  pub record IsHeldUp (owner other page : ℕ) : Type 0 where
    pub waits : waits_in w.locks owner (page_resource page) ≡ true
    pub behind : HasJustAsked history owner (page_resource page) → ⊥
    pub pinned : w.is_pinned other page ≡ true

  pub unblocked : (owner : ℕ) (resource : Resource) → HasJustAsked history owner resource → IsUnblocked w.locks owner resource
  unblocked owner resource just = rw (IsReplayed-world shape file history).locks_is (unblocked-just history owner resource just)

  pub held_up : (owner other : ℕ) → IsHeldOverPage w owner other → IsHeldUp owner other (awaited owner)
  held_up owner other held = go (wait_of w.locks owner) refl held.1 where
    go : (found : Option Request) → wait_of w.locks owner ≡ found → IsSomeAnd found (λ wait. (wait.resource.series ≡ series.Page) × (w.is_pinned other wait.resource.key ≡ true)) → IsHeldUp owner other (page_of found)
    go None is over = absurd over
    go (Some wait) is over =
        let passes = both_of (wait.owner == owner) (is_some wait.waiting) (find_passes (is_wait_of owner) w.locks.requests wait is) in
        let its : wait.owner ≡ owner = same_number wait.owner owner passes.0 in
        let same : wait.resource ≡ page_resource wait.resource.key = ap (λ (kind : Series). record { series = kind; key = wait.resource.key }) over.0 in
        record {
          waits = waits_of owner (page_resource wait.resource.key) w.locks wait is its same passes.1;
          behind = λ just. waits_for_nobody w.locks owner (page_resource wait.resource.key) (unblocked owner (page_resource wait.resource.key) just) wait other is its same held.0;
          pinned = over.1;
        }

  rises : (a b c : ℕ) → IsHeldOverPage w a b → IsHeldOverPage w b c → IsLower (waited_rank at a (awaited a)) (waited_rank at b (awaited b))
  rises a b c first second =
      let one = held_up a b first in
      let two = held_up b c second in
      at_most-lower _ _ _ (known shape.size (awaited a) a (w.kept 0) (w.draft 0) h.grow) (go (h.upward b (page_resource (awaited b)) (h.pins b (awaited a) one.pinned).alive two.waits) one.pinned two.behind) where
        go : WaitsUpward at b (page_resource (awaited b)) ⊎ HasJustAsked history b (page_resource (awaited b)) → w.is_pinned b (awaited a) ≡ true → (HasJustAsked history b (page_resource (awaited b)) → ⊥)
            → IsLower (pinned_rank at (awaited a)) (waited_rank at b (awaited b))
        go (inl upward) pinned behind = upward (awaited a) pinned
        go (inr just) pinned behind = absurd (behind just)

  pub no_page_circle : (owners : List ℕ) → IsCircle (IsHeldOverPage w) owners → ⊥
  no_page_circle owners = no_circle (IsHeldOverPage w) (λ owner. waited_rank at owner (awaited owner)) rises owners
