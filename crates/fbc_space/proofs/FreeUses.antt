-- A free page is used after the page inventory over it.
use Rattle.std.proofs.Common.{◌≡◌, ◌∙◌, ◌/◌, ℕ, sym, ap, subst}
use Rattle.fbc_kinds.specs.declared.rules.Rule.{Rule}
use Rattle.fbc_kinds.specs.Limits.{inventory_bits}
use Rattle.fbc_kinds.specs.View.{inventory_page}
use Rattle.fbc_cache.specs.declared.needs.Need.{Need}
use Rattle.fbc_desk.specs.declared.holding.Held.{Held}
use Rattle.fbc_desk.specs.declared.holding.Held.TheVariants as holds
use Rattle.fbc_desk.specs.Calls.{after_pin}
use Rattle.fbc_desk.specs.Desk.{DeskState}
use Rattle.fbc_desk.specs.Holds.{after_hold}
use Rattle.fbc_space.specs.declared.free_steps.FreeStep.{FreeStep}
use Rattle.fbc_space.specs.declared.free_steps.FreeStep.TheVariants as steps
use Rattle.fbc_space.specs.FreeSteps.{FreeComesTo, HoldsFree, OverComesTo, after_free, comes, over, stops}
use Rattle.fbc_space.specs.Needs.{InventoryComesTo, to_change}

module _ (before : DeskState) (page bits : ℕ) (is_bits : bits ≡ inventory_bits before.cache.shape.size) where
  over-bits : (found : Held) → InventoryComesTo before (page / bits) found → OverComesTo before page found
  over-bits found is = subst (λ n. InventoryComesTo before (page / n) found) is_bits is

  after-bits : (found : Held) (after : DeskState) → after ≡ after_hold before (to_change (inventory_page before.cache.shape.size (page / bits))) found
      → after ≡ after_hold before (to_change (over before page)) found
  after-bits found after is = subst (λ n. after ≡ after_hold before (to_change (inventory_page before.cache.shape.size (page / n))) found) is_bits is

  -- The page inventory may be changed.
  pub uses-free : (mid after : DeskState) (step : FreeStep) → InventoryComesTo before (page / bits) holds.Here
      → mid ≡ after_hold before (to_change (inventory_page before.cache.shape.size (page / bits))) holds.Here
      → FreeComesTo mid page step → after ≡ after_free mid page step → HoldsFree before page step after
  uses-free mid after step here is_mid free is_after =
      let same : mid ≡ after_pin before (over before page) = after-bits holds.Here mid is_mid in
      let whole : after ≡ after_free (after_pin before (over before page)) page step = is_after ∙ ap (λ d. after_free d page step) same in
      subst (λ d. HoldsFree before page step d) (sym whole) (comes step (over-bits holds.Here here) (subst (λ d. FreeComesTo d page step) same free))

  -- It may not be changed.
  pub stops-missing : (after : DeskState) (need : Need) → InventoryComesTo before (page / bits) (holds.Miss need)
      → after ≡ after_hold before (to_change (inventory_page before.cache.shape.size (page / bits))) (holds.Miss need) → HoldsFree before page (steps.Miss need) after
  stops-missing after need is is_after =
      subst (λ d. HoldsFree before page (steps.Miss need) d) (sym (after-bits (holds.Miss need) after is_after)) (stops (holds.Miss need) (λ same. absurd (cc)) (over-bits (holds.Miss need) is))

  pub stops-damaged : (after : DeskState) (at : ℕ) (rule : Rule) → InventoryComesTo before (page / bits) (holds.Damaged at rule)
      → after ≡ after_hold before (to_change (inventory_page before.cache.shape.size (page / bits))) (holds.Damaged at rule) → HoldsFree before page (steps.Damaged at rule) after
  stops-damaged after at rule is is_after =
      subst (λ d. HoldsFree before page (steps.Damaged at rule) d) (sym (after-bits (holds.Damaged at rule) after is_after)) (stops (holds.Damaged at rule) (λ same. absurd (cc)) (over-bits (holds.Damaged at rule) is))
