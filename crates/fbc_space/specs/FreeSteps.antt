-- What it comes to when a free page is to be used.
use Rattle.std.specs.Prelude.{◌≡◌, ◌≢◌, ◌⊎◌, ◌/◌, ℕ, Bool, true, false}
use Rattle.fbc_kinds.specs.declared.rules.Rule.TheVariants as rule
use Rattle.fbc_kinds.specs.Limits.{inventory_bits}
use Rattle.fbc_cache.specs.Cache.{is_pinned_in}
use Rattle.fbc_cache.specs.Readers.{is_taken_in}
use Rattle.fbc_desk.specs.declared.holding.Held.{Held}
use Rattle.fbc_desk.specs.declared.holding.Held.TheVariants as holds
use Rattle.fbc_desk.specs.Calls.{after_pin}
use Rattle.fbc_desk.specs.Desk.{DeskState}
use Rattle.fbc_desk.specs.Grounds.{inventory_over}
use Rattle.fbc_desk.specs.Holds.{Holds, after_hold}
use Rattle.fbc_space.specs.declared.free_steps.FreeStep.{FreeStep}
use Rattle.fbc_space.specs.declared.free_steps.FreeStep.TheVariants as steps
use Rattle.fbc_space.specs.Needs.{InventoryComesTo, to_change, to_format}

-- Where the page inventory over the page stands, and what it comes to when that is to be changed.
abbrev pub over : DeskState → ℕ → ℕ
over d page = inventory_over d.cache.shape.size page

abbrev pub OverComesTo : DeskState → ℕ → Held → Type 0
OverComesTo d page held = InventoryComesTo d (page / inventory_bits d.cache.shape.size) held

-- Whether the page inventory over the page shows it as taken.
abbrev pub is_gone : DeskState → ℕ → Bool
is_gone d page = is_taken_in d.cache (over d page) page

-- The page is free, and is not in use.
pub record IsFreeToUse (d : DeskState) (page : ℕ) : Type 0 where
  pub free : is_gone d page ≡ false
  pub unused : is_pinned_in d.cache.held page ≡ false

-- What it comes to when the page inventory over the page is in use: the page is gone exactly where that shows it as taken; it is
-- damage where it is shown as free and is in use; else it is used as a page that is to be formatted.
abbrev pub FreeComesTo : DeskState → ℕ → FreeStep → Type 0
FreeComesTo d page steps.Here = IsFreeToUse d page × Holds d (to_format page) holds.Here
FreeComesTo d page (steps.Miss need) = IsFreeToUse d page × Holds d (to_format page) (holds.Miss need)
FreeComesTo d page steps.Gone = is_gone d page ≡ true
FreeComesTo d page (steps.Damaged damaged broken) =
    ((is_gone d page ≡ false) × (is_pinned_in d.cache.held page ≡ true) × (damaged ≡ page) × (broken ≡ rule.Taken))
    ⊎ (IsFreeToUse d page × Holds d (to_format page) (holds.Damaged damaged broken))

-- The desk afterwards.
abbrev pub after_free : DeskState → ℕ → FreeStep → DeskState
after_free d page steps.Here = after_pin d page
after_free d page _ = d

-- What a use of the page inventory comes to where it may not be changed.
abbrev pub stopped : Held → FreeStep
stopped holds.Here = steps.Here
stopped (holds.Miss need) = steps.Miss need
stopped (holds.Damaged page rule) = steps.Damaged page rule

-- A free page is used, and stays in use with the page inventory over it: what that comes to, and the desk afterwards. The page
-- inventory is used first, and where it may not be changed, nothing else is done.
pub data HoldsFree (before : DeskState) (page : ℕ) : FreeStep → DeskState → Type 0 where
  stops : (held : Held) → held ≢ holds.Here → OverComesTo before page held
      → HoldsFree before page (stopped held) (after_hold before (to_change (over before page)) held)
  comes : (step : FreeStep) → OverComesTo before page holds.Here → FreeComesTo (after_pin before (over before page)) page step
      → HoldsFree before page step (after_free (after_pin before (over before page)) page step)
