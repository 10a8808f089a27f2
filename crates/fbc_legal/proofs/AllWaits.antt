-- Waits of all kinds form no circle: one over pages leads on over pages alone, and ranks rise along it.
use Rattle.std.proofs.Common.{◌≡◌, ◌⊎◌, inl, inr, ℕ, Bool, true, false, not, ◌==◌, ◌&&◌, List, [], ◌∷◌, Option, Some, None, is_some, refl, arith}
use Rattle.std.specs.Prelude.{IsSomeAnd}
use Rattle.std.specs.Option.{option_map_or}
use Rattle.fbc_kinds.specs.declared.shapes.Shape.{Shape}
use Rattle.fbc_kinds.specs.View.{View}
use Rattle.fbc_levels.specs.declared.resources.Request.{Request}
use Rattle.fbc_levels.specs.declared.resources.Series.{Series}
use Rattle.fbc_levels.specs.declared.resources.Series.TheVariants as series
use Rattle.fbc_levels.specs.Resources.{is_same_series}
use Rattle.fbc_levels.specs.LockState.{is_wait_of, wait_of}
use Rattle.fbc_levels.specs.Waits.{IsCircle, Leads, WaitsForNumber, is_for_number, is_wait_for}
use Rattle.fbc_world.specs.History.{History}
use Rattle.fbc_world.specs.World.{World, world_of}
use Rattle.fbc_world.proofs.Found.{find_passes}
use Rattle.fbc_legal.specs.Circles.{HasJustAsked, IsHeldOverPage, IsHeldUpBy}
use Rattle.fbc_legal.specs.Legal.{IsLegal}
use Rattle.fbc_legal.specs.Ranks.{MayWaitFor, WaitsUpward}
use Rattle.fbc_legal.specs.Scene.{Scene, scene_of}
use Rattle.fbc_legal.proofs.AtOnce.{waits_for_nobody}
use Rattle.fbc_legal.proofs.Exclusion.{both_of, same_number}
use Rattle.fbc_legal.proofs.NumberCircles.{IsUncircled-legal}
use Rattle.fbc_legal.proofs.PageWaits.{awaited, held_up, no_page_circle, unblocked}
use Rattle.fbc_legal.proofs.Pins.{clash}
use Rattle.fbc_legal.proofs.Ranked.{IsRanked, IsRanked-legal}
use Rattle.fbc_legal.proofs.Through.{first_step}
use Rattle.fbc_legal.proofs.Waiters.{waits_of}

module _ (shape : Shape) (file : View) (history : History) (legal : IsLegal shape file history) where
  abbrev at : Scene
  at = scene_of shape file history

  abbrev w : World
  w = world_of shape file history

  h : IsRanked at
  h = IsRanked-legal shape file history legal

  abbrev Holds : ℕ → ℕ → Type 0
  Holds = IsHeldUpBy w

  -- Whether the owner waits for a page.
  abbrev for_page : ℕ → Bool
  for_page owner = option_map_or (λ wait. not (is_for_number wait)) (wait_of w.locks owner) false

  number_step : (owner other : ℕ) → Holds owner other → for_page owner ≡ false → WaitsForNumber w.locks owner other
  number_step owner other held number = go (wait_of w.locks owner) held.0 number where
    go : (found : Option Request) → option_map_or (is_wait_for w.locks other) found false ≡ true → option_map_or (λ wait. not (is_for_number wait)) found false ≡ false
        → option_map_or (λ wait. is_for_number wait && is_wait_for w.locks other wait) found false ≡ true
    go None waits is = waits
    go (Some wait) waits is = grind (arith, waits, is)

  page_step : (owner other : ℕ) → Holds owner other → for_page owner ≡ true → IsHeldOverPage w owner other
  page_step owner other held page = (held.0, go (wait_of w.locks owner) held.1 page) where
    is_page : (kind : Series) → not (not (is_same_series kind series.Page)) ≡ true → kind ≡ series.Page
    is_page series.Page is = refl
    is_page _ is = absurd cc

    go : (found : Option Request) → IsSomeAnd found (λ wait. wait.resource.series ≡ series.Page → w.is_pinned other wait.resource.key ≡ true) → option_map_or (λ wait. not (is_for_number wait)) found false ≡ true
        → IsSomeAnd found (λ wait. (wait.resource.series ≡ series.Page) × (w.is_pinned other wait.resource.key ≡ true))
    go None some is = absurd some
    go (Some wait) some is = let kind = is_page wait.resource.series is in (kind, some kind)

  -- Who has a page pinned waits for nothing but pages.
  pinned_for_page : (owner other pin : ℕ) → w.is_pinned owner pin ≡ true → Holds owner other → for_page owner ≡ true
  pinned_for_page owner other pin pinned held = go (wait_of w.locks owner) refl held.1 where
    go : (found : Option Request) → wait_of w.locks owner ≡ found → IsSomeAnd found (λ wait. wait.resource.series ≡ series.Page → w.is_pinned other wait.resource.key ≡ true)
        → option_map_or (λ wait. not (is_for_number wait)) found false ≡ true
    go None is some = absurd some
    go (Some wait) is some = by_rank (h.upward owner wait.resource (h.pins owner pin pinned).alive (waits_of owner wait.resource w.locks wait is its refl passes.1)) where
      passes : (wait.owner == owner ≡ true) × (is_some wait.waiting ≡ true)
      passes = both_of (wait.owner == owner) (is_some wait.waiting) (find_passes (is_wait_of owner) w.locks.requests wait is)

      its : wait.owner ≡ owner
      its = same_number wait.owner owner passes.0

      by_kind : (kind : Series) → MayWaitFor at owner kind wait.resource.key → not (not (is_same_series kind series.Page)) ≡ true
      by_kind series.Page may = refl
      by_kind series.Transaction may = absurd (clash _ (may pin) pinned)
      by_kind series.Relation may = absurd (clash _ (may pin) pinned)

      by_rank : WaitsUpward at owner wait.resource ⊎ HasJustAsked history owner wait.resource → not (is_for_number wait) ≡ true
      by_rank (inl upward) = by_kind wait.resource.series upward
      by_rank (inr just) = absurd (waits_for_nobody w.locks owner wait.resource (unblocked shape file history legal owner wait.resource just) wait other is its refl held.0)

  page_on : (a b c : ℕ) → Holds a b → Holds b c → for_page a ≡ true → for_page b ≡ true
  page_on a b c first second page = pinned_for_page b c (awaited shape file history legal a) (held_up shape file history legal a b (page_step a b first page)).pinned second

  pages_on : (first : ℕ) (rest : List ℕ) (last beyond : ℕ) → Leads Holds first rest last → Holds last beyond → for_page first ≡ true → Leads (IsHeldOverPage w) first rest last × (for_page last ≡ true)
  pages_on first [] last beyond leads onward page = (page_step first last leads page, page_on first last beyond leads onward page)
  pages_on first (next ∷ rest) last beyond leads onward page =
      let after = first_step Holds next rest last leads.1 in
      let more = pages_on next rest last beyond leads.1 onward (page_on first next after.0 leads.0 after.1 page) in
      ((page_step first next leads.0 page, more.0), more.1)

  -- A path over numbers and relations alone, or one whose end waits for a page.
  numbers_or : (first : ℕ) (rest : List ℕ) (last beyond : ℕ) → Leads Holds first rest last → Holds last beyond → Leads (WaitsForNumber w.locks) first rest last ⊎ (for_page last ≡ true)
  numbers_or first [] last beyond leads onward = go (for_page first) refl where
    go : (b : Bool) → for_page first ≡ b → WaitsForNumber w.locks first last ⊎ (for_page last ≡ true)
    go true page = inr (page_on first last beyond leads onward page)
    go false number = inl (number_step first last leads number)
  numbers_or first (next ∷ rest) last beyond leads onward = go (for_page first) refl (numbers_or next rest last beyond leads.1 onward) where
    go : (b : Bool) → for_page first ≡ b → Leads (WaitsForNumber w.locks) next rest last ⊎ (for_page last ≡ true) → Leads (WaitsForNumber w.locks) first (next ∷ rest) last ⊎ (for_page last ≡ true)
    go true page more = inr (pages_on first (next ∷ rest) last beyond leads onward page).1
    go false number (inl path) = inl (number_step first next leads.0 number, path)
    go false number (inr page) = inr page

  pub no_wait_circle : (owners : List ℕ) → IsCircle (IsHeldUpBy w) owners → ⊥
  no_wait_circle [] circle = circle
  no_wait_circle (owner ∷ rest) circle = go (numbers_or owner rest owner after.0 circle after.1) where
    after : (next : ℕ) × Holds owner next
    after = first_step Holds owner rest owner circle

    go : Leads (WaitsForNumber w.locks) owner rest owner ⊎ (for_page owner ≡ true) → ⊥
    go (inl path) = (IsUncircled-legal shape file history legal).none (owner ∷ rest) path
    go (inr page) = no_page_circle shape file history legal (owner ∷ rest) (pages_on owner rest owner after.0 circle after.1 page).0
