-- A chronicle with one event more is one.
use Rattle.std.proofs.Common.{◌≡◌, ◌≤◌, false, ◌++◌, ◌∷◌, [], sym, subst}
use Rattle.fbc_legal.specs.Lives.{entered, entered_step}
use Rattle.fbc_world.specs.declared.events.Event.{Event}
use Rattle.fbc_world.specs.History.{History, Recording, recorded}
use Rattle.fbc_region.specs.declared.census.Census.{Census}
use Rattle.fbc_region.specs.Census.{IsCensus, IsNew, residents_step}
use Rattle.fbc_region.specs.Kept.{IsAtRest, IsChronicle, LeavesRest}
use Rattle.fbc_region.proofs.Ending.{rests_left}
use Rattle.fbc_region.proofs.Places.{census_next}
use Rattle.fbc_region.proofs.Pushed.{recorded_push}

module _ (before after : Recording) (old new : Census) (event : Event) (few : entered_step (entered (recorded before)) event.act ≤ 65536)
    (comes : IsNew (recorded before) event.actor event.act) (rests : LeavesRest (recorded before) event.actor event.act) (events : after.events ≡ before.events ++ event ∷ [])
    (counted : new.owners ≡ entered_step old.owners event.act) (placed : new.residents.items ≡ residents_step old.residents.items event.actor event.act) where
  abbrev longer : History
  longer = record { event = event; landed = false } ∷ recorded before

  whole : longer ≡ recorded after
  whole = sym (recorded_push before after event events)

  pub chronicle_next : IsChronicle before old → IsChronicle after new
  chronicle_next k = record {
    few = subst (λ h. entered h ≤ 65536) whole few;
    rests = subst (λ h. IsAtRest h) whole (rests_left (recorded before) event.actor event.act false rests);
    census_is = subst (λ h. IsCensus h new) whole (census_next (recorded before) old new event.actor event.act k.census_is comes counted placed);
  }
