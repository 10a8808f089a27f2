-- What is shown stays, where nothing is edited.
use Rattle.std.proofs.Common.{◌≡◌, ◌∙◌, ◌&&◌, ℕ, Bool, true, false, refl, sym, subst}
use Rattle.fbc_cache.specs.Cache.{is_pinned_in}
use Rattle.fbc_desk.specs.declared.holding.Held.TheVariants as held
use Rattle.fbc_desk.specs.Calls.{PinnedOrNot, Unpins, UnpinsAll, after_pin}
use Rattle.fbc_desk.specs.Desk.{DeskState}
use Rattle.fbc_desk.specs.Holds.{after_hold}
use Rattle.fbc_space.specs.declared.free_steps.FreeStep.{FreeStep}
use Rattle.fbc_space.specs.declared.free_steps.FreeStep.TheVariants as free
use Rattle.fbc_space.specs.FreeSteps.{HoldsFree, after_free, over}
use Rattle.fbc_space.specs.Needs.{to_change, to_format}
use Rattle.fbc_chains.specs.Showing.{shown_by}
use Rattle.fbc_chains.proofs.Showing.{held-shows, shown-unpin}

-- When a page that is in use is unpinned, and when all are.
and-true : (b : Bool) → (b && true) ≡ true → b ≡ true
and-true true is = refl
and-true false is = is

unpin-shows : (before after : DeskState) (page : ℕ) → is_pinned_in before.cache.held page ≡ true → Unpins before page after → shown_by after.cache ≡ shown_by before.cache
unpin-shows before after page pinned unpins = shown-unpin before after page (subst (λ (t : Bool). PinnedOrNot t before page after) (sym pinned) unpins)

pub unpins-show : (before after : DeskState) → UnpinsAll before after → shown_by after.cache ≡ shown_by before.cache
unpins-show before _ (UnpinsAll.none d empty) = refl
unpins-show before after (UnpinsAll.next d between last page least unpins rest) = unpins-show between after rest ∙ unpin-shows before between page (and-true (is_pinned_in before.cache.held page) least.0) unpins

-- When a page inventory and the free page are used.
step-shows : (d : DeskState) (page : ℕ) (step : FreeStep) → shown_by (after_free d page step).cache ≡ shown_by d.cache
step-shows d page free.Here = held-shows d (after_pin d page) (to_format page) held.Here refl
step-shows d page (free.Miss need) = refl
step-shows d page free.Gone = refl
step-shows d page (free.Damaged damaged broken) = refl

pub free-shows : (before : DeskState) (page : ℕ) (step : FreeStep) (after : DeskState) → HoldsFree before page step after → shown_by after.cache ≡ shown_by before.cache
free-shows before page _ _ (HoldsFree.stops answer other is) = held-shows before (after_hold before (to_change (over before page)) answer) (to_change (over before page)) answer refl
free-shows before page step _ (HoldsFree.comes _ above is) =
    step-shows (after_pin before (over before page)) page step ∙ held-shows before (after_pin before (over before page)) (to_change (over before page)) held.Here refl
