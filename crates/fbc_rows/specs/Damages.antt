-- Which pages an insert calls damaged.
use Rattle.std.specs.Prelude.{◌≡◌, ◌⊎◌, ◌≤◌, ℕ, Option, Some, true}
use Rattle.fbc_kinds.specs.declared.rules.Rule.{Rule}
use Rattle.fbc_kinds.specs.declared.rules.Rule.TheVariants as rule
use Rattle.fbc_kinds.specs.View.{inventory_page}
use Rattle.fbc_cache.specs.Cache.{is_pinned_in}
use Rattle.fbc_cache.specs.Readers.{place, place_in}
use Rattle.fbc_desk.specs.declared.holding.Held.{Held}
use Rattle.fbc_desk.specs.declared.holding.Held.TheVariants as held
use Rattle.fbc_desk.specs.Desk.{DeskState}
use Rattle.fbc_desk.specs.Roles.{misplaced}
use Rattle.fbc_space.specs.declared.finding.Found.{Found}
use Rattle.fbc_space.specs.declared.finding.Found.TheVariants as found
use Rattle.fbc_space.specs.declared.free_steps.FreeStep.{FreeStep}
use Rattle.fbc_space.specs.declared.free_steps.FreeStep.TheVariants as free
use Rattle.fbc_chains.specs.Showing.{Showing, shown_by}
use Rattle.fbc_rows.specs.declared.gathering.Empty.{Empty}
use Rattle.fbc_rows.specs.declared.gathering.Empty.TheVariants as empty
use Rattle.fbc_rows.specs.declared.parts.InsertPart.{InsertPart}
use Rattle.fbc_rows.specs.declared.parts.RowStep.{RowStep}
use Rattle.fbc_rows.specs.declared.parts.RowStep.TheVariants as step
use Rattle.fbc_rows.specs.declared.parts.Stage.TheVariants as stage
use Rattle.fbc_rows.specs.declared.searching.Stop.{Stop}
use Rattle.fbc_rows.specs.declared.searching.Stop.TheVariants as stop
use Rattle.fbc_rows.specs.declared.slots.SlotStep.{SlotStep}
use Rattle.fbc_rows.specs.declared.slots.SlotStep.TheVariants as slot
use Rattle.fbc_rows.specs.Needs.{pointer_at, pointer_place}
use Rattle.fbc_rows.specs.Slots.{Names}

-- By the copies at hand, a page is damaged: it lies past those that the file may have; or the header, a pointer page of the relation, a
-- page inventory, or a page that a slot names stands elsewhere than is due. The rule is the first one that it breaks so.
pub data IsDamaged (s : Showing) (relation page : ℕ) (broken : Rule) : Type 0 where
  past : s.shape.limit ≤ page → broken ≡ rule.Taken → IsDamaged s relation page broken
  header : page ≡ 0 → misplaced (place_in (s.copies 0)) (place 1 0 0) ≡ Some broken → IsDamaged s relation page broken
  pointer : (k : ℕ) → page ≡ pointer_at s relation k → misplaced (place_in (s.copies page)) (pointer_place relation k) ≡ Some broken → IsDamaged s relation page broken
  inventory : (k : ℕ) → page ≡ inventory_page s.shape.size k → misplaced (place_in (s.copies page)) (place 2 0 k) ≡ Some broken → IsDamaged s relation page broken
  data_page : (sequence : ℕ) → Names s relation sequence page → misplaced (place_in (s.copies page)) (place 5 relation sequence) ≡ Some broken → IsDamaged s relation page broken

-- Or it is in use, and is shown as free.
abbrev pub IsDamage : DeskState → ℕ → ℕ → Rule → Type 0
IsDamage d relation page broken = IsDamaged (shown_by d.cache) relation page broken ⊎ ((is_pinned_in d.cache.held page ≡ true) × (broken ≡ rule.Taken))

-- So it is of the page that is called damaged, whatever calls it so.
abbrev pub HeldDamages : DeskState → ℕ → Held → Type 0
HeldDamages d relation (held.Damaged page broken) = IsDamage d relation page broken
HeldDamages d relation _ = Unit {0}

abbrev pub SlotDamages : DeskState → ℕ → SlotStep → Type 0
SlotDamages d relation (slot.Damaged page broken) = IsDamage d relation page broken
SlotDamages d relation _ = Unit {0}

abbrev pub StopDamages : DeskState → ℕ → Stop → Type 0
StopDamages d relation (stop.Damaged page broken) = IsDamage d relation page broken
StopDamages d relation _ = Unit {0}

-- A page that was used as the data page of a sequence broke this rule then, if any, and its slot names it still.
pub record IsNamedStill (s : Showing) (relation sequence used : ℕ) (kept : Option Rule) (page : ℕ) (broken : Rule) : Type 0 where
  pub is_page : page ≡ used
  pub was : kept ≡ Some broken
  pub names : Names s relation sequence page

abbrev pub NamedDamages : DeskState → ℕ → ℕ → ℕ → Option Rule → Stop → Type 0
NamedDamages d relation sequence used kept (stop.Damaged page broken) =
    IsDamage d relation page broken ⊎ IsNamedStill (shown_by d.cache) relation sequence used kept page broken
NamedDamages d relation sequence used kept _ = Unit {0}

-- The part remembers so that the page was used, broke the rule, and was left; its slot names it still.
pub record IsRemembered (s : Showing) (relation : ℕ) (from : InsertPart) (page : ℕ) (broken : Rule) : Type 0 where
  pub was : from.stage ≡ stage.Named page (Some broken)
  pub names : Names s relation from.at page

-- What a part calls damaged is damage, or is remembered by it as such.
abbrev pub IsDamageTo : DeskState → ℕ → InsertPart → ℕ → Rule → Type 0
IsDamageTo d relation from page broken = IsDamage d relation page broken ⊎ IsRemembered (shown_by d.cache) relation from page broken

abbrev pub SearchDamages : DeskState → ℕ → InsertPart → Stop → Type 0
SearchDamages d relation from (stop.Damaged page broken) = IsDamageTo d relation from page broken
SearchDamages d relation from _ = Unit {0}

abbrev pub EmptyDamages : DeskState → ℕ → Empty → Type 0
EmptyDamages d relation (empty.Damaged page broken) = IsDamage d relation page broken
EmptyDamages d relation _ = Unit {0}

abbrev pub FoundDamages : DeskState → ℕ → Found → Type 0
FoundDamages d relation (found.Damaged page broken) = IsDamage d relation page broken
FoundDamages d relation _ = Unit {0}

abbrev pub FreeDamages : DeskState → ℕ → FreeStep → Type 0
FreeDamages d relation (free.Damaged page broken) = IsDamage d relation page broken
FreeDamages d relation _ = Unit {0}

abbrev pub Damages : DeskState → ℕ → RowStep → Type 0
Damages d relation (step.Damaged page broken) = IsDamage d relation page broken
Damages d relation _ = Unit {0}

abbrev pub InsertDamages : DeskState → ℕ → InsertPart → RowStep → Type 0
InsertDamages d relation from (step.Damaged page broken) = IsDamageTo d relation from page broken
InsertDamages d relation from _ = Unit {0}
