-- What stands after a history is what each part of it is by its own definition.
use Rattle.std.proofs.Common.{◌≡◌, ◌==◌, ◌∙◌, ap, ℕ, Bool, [], ◌∷◌, Option, if◌then◌else◌, refl}
use Rattle.fbc_kinds.specs.declared.pages.Page.{Page}
use Rattle.fbc_kinds.specs.declared.shapes.Shape.{Shape}
use Rattle.fbc_kinds.specs.View.{View}
use Rattle.fbc_levels.specs.declared.resources.Resource.{Resource}
use Rattle.fbc_world.specs.declared.drafts.Draft.{Draft}
use Rattle.fbc_world.specs.History.{History, Moment}
use Rattle.fbc_world.specs.Locks.{locks_of, locks_step}
use Rattle.fbc_world.specs.Owners.{alive_step, granted, granted_step, is_alive}
use Rattle.fbc_world.specs.PageCell.{PageCell, cell_of, copy_of, copy_step, draft, draft_step, kept, kept_step, newest, newest_in}
use Rattle.fbc_world.specs.World.{World, newest_of, world_of}
use Rattle.fbc_world.specs.WriteOrder.{pair_step, pairs_of}
use Rattle.fbc_world.proofs.WorldSteps.{alive-acted, copy-acted, draft-acted, granted-acted, kept-acted, locks-acted, pairs-acted}

-- Each part is what its own definition says.
pub record IsReplayed (shape : Shape) (file : View) (history : History) (w : World) : Type 0 where
  pub kept_is : (page : ℕ) → w.kept page ≡ kept shape file history page
  pub draft_is : (page : ℕ) → w.draft page ≡ draft shape file history page
  pub copy_is : (owner page : ℕ) → w.copy owner page ≡ copy_of shape file history owner page
  pub granted_is : (owner : ℕ) (resource : Resource) → w.granted owner resource ≡ granted history owner resource
  pub locks_is : w.locks ≡ locks_of history
  pub pairs_is : (owner high low : ℕ) → w.has_pair owner high low ≡ pairs_of history owner high low
  pub alive_is : (owner : ℕ) → w.is_alive owner ≡ is_alive history owner

module _ (shape : Shape) (file : View) where
  module _ (moment : Moment) (before : History) (is : IsReplayed shape file before (world_of shape file before)) where
    abbrev w : World
    w = world_of shape file before

    cell_is : (page : ℕ) → record { kept = w.kept page; draft = w.draft page } ≡ cell_of shape file page before
    cell_is page = ap (λ (k : Option Page). record { kept = k; draft = w.draft page }) (is.kept_is page) ∙ ap (λ (d : Option Draft). record { kept = kept shape file before page; draft = d }) (is.draft_is page)

    kept_goes : (page : ℕ) → (world_of shape file (moment ∷ before)).kept page ≡ kept shape file (moment ∷ before) page
    kept_goes page =
        kept-acted shape w moment.event.actor moment.event.act moment.landed page
        ∙ ap (λ (cell : PageCell). kept_step page cell.kept cell.draft moment.event.actor moment.event.act moment.landed) (cell_is page)

    draft_goes : (page : ℕ) → (world_of shape file (moment ∷ before)).draft page ≡ draft shape file (moment ∷ before) page
    draft_goes page =
        draft-acted shape w moment.event.actor moment.event.act moment.landed page
        ∙ ap (λ (cell : PageCell). draft_step shape page cell.kept cell.draft moment.event.actor moment.event.act) (cell_is page)

    copy_goes : (owner page : ℕ) → (world_of shape file (moment ∷ before)).copy owner page ≡ copy_of shape file (moment ∷ before) owner page
    copy_goes owner page =
        copy-acted shape w moment.event.actor moment.event.act moment.landed owner page
        ∙ ap (λ (c : Option Page). copy_step shape owner page c (record { kept = w.kept page; draft = w.draft page }) moment) (is.copy_is owner page)
        ∙ ap (λ (cell : PageCell). copy_step shape owner page (copy_of shape file before owner page) cell moment) (cell_is page)

    more : IsReplayed shape file (moment ∷ before) (world_of shape file (moment ∷ before))
    more = record {
      kept_is = kept_goes;
      draft_is = draft_goes;
      copy_is = copy_goes;
      granted_is = λ owner resource. granted-acted shape w moment.event.actor moment.event.act moment.landed owner resource
          ∙ ap (λ level. granted_step owner resource level moment.event.actor moment.event.act) (is.granted_is owner resource);
      locks_is = locks-acted shape w moment.event.actor moment.event.act moment.landed ∙ ap (λ s. locks_step s moment.event.actor moment.event.act) is.locks_is;
      pairs_is = λ owner high low. pairs-acted shape w moment.event.actor moment.event.act moment.landed owner high low
          ∙ ap (λ (b : Bool). pair_step owner high low b moment.event.actor moment.event.act moment.landed) (is.pairs_is owner high low);
      alive_is = λ owner. alive-acted shape w moment.event.actor moment.event.act moment.landed owner
          ∙ ap (λ (b : Bool). if moment.event.actor == owner then alive_step b moment.event.act else b) (is.alive_is owner);
    }

  pub IsReplayed-world : (history : History) → IsReplayed shape file history (world_of shape file history)
  IsReplayed-world [] = record {
    kept_is = λ page. refl;
    draft_is = λ page. refl;
    copy_is = λ owner page. refl;
    granted_is = λ owner resource. refl;
    locks_is = refl;
    pairs_is = λ owner high low. refl;
    alive_is = λ owner. refl;
  }
  IsReplayed-world (moment ∷ before) = more moment before (IsReplayed-world before)

  pub newest-world : (history : History) (page : ℕ) → newest_of (world_of shape file history) page ≡ newest shape file history page
  newest-world history page =
      let is = IsReplayed-world history in
      ap (λ (k : Option Page). newest_in k ((world_of shape file history).draft page)) (is.kept_is page) ∙ ap (λ (d : Option Draft). newest_in (kept shape file history page) d) (is.draft_is page)
