-- A reader goes on standing in a cell while the cell's page is pinned, and through its own events that are no edits.
use Rattle.std.proofs.Common.{◌≡◌, ◌≢◌, ◌∙◌, ◌==◌, ◌∷◌, ℕ, suc, Bool, true, false, if◌then◌else◌, Some, refl, sym, ap, subst}
use Rattle.fbc_kinds.specs.declared.pages.Cell.{Cell}
use Rattle.fbc_kinds.specs.declared.shapes.Shape.{Shape}
use Rattle.fbc_kinds.specs.declared.snapshots.Transaction.{Transaction}
use Rattle.fbc_kinds.specs.Chain.{see, versions_from}
use Rattle.fbc_kinds.specs.Machine.{Machine, is_held, seen_by}
use Rattle.fbc_kinds.specs.Reach.{NamesBack}
use Rattle.fbc_kinds.specs.Sound.{IsSound}
use Rattle.fbc_kinds.specs.View.{View, cell_at, cell_in}
use Rattle.fbc_kinds.proofs.Tests.{test_of_different}
use Rattle.fbc_levels.specs.Resources.{page_resource}
use Rattle.fbc_world.specs.declared.events.Act.{Act}
use Rattle.fbc_world.specs.History.{History, Moment, happens}
use Rattle.fbc_world.specs.World.{World, world_of}
use Rattle.fbc_legal.specs.Legal.{IsLegal}
use Rattle.fbc_legal.specs.Scene.{scene_of}
use Rattle.fbc_legal.proofs.Exclusion.{excluded}
use Rattle.fbc_legal.proofs.Induction.{IsCoherent-legal}
use Rattle.fbc_legal.proofs.Ranked.{IsRanked-legal}
use Rattle.fbc_closed_cuts.specs.Cut.{Cut, view}
use Rattle.fbc_closed_cuts.specs.Firm.{HasOwnDrafts}
use Rattle.fbc_closed_cuts.specs.Views.{is_edit}
use Rattle.fbc_numbers.proofs.CutFacts.{clash}
use Rattle.fbc_soundness.specs.Whole.{IsWhole}
use Rattle.fbc_simulation.specs.Beside.{machine_of}
use Rattle.fbc_simulation.specs.Simulated.{IsSimulated}
use Rattle.fbc_firm_facts.specs.Standing.{IsLinkedBelow, IsStanding, StandsFirmly, place_of, sequence_of}
use Rattle.fbc_firm_facts.proofs.EditsLeave.{edits-leave-commits}
use Rattle.fbc_firm_facts.proofs.EventsLeave.{others-keep}
use Rattle.fbc_firm_facts.proofs.OwnActs.{own-acts-keep}
use Rattle.fbc_firm_facts.proofs.PathsKept.{linked-still}
use Rattle.fbc_firm_facts.proofs.SeeDown.{see-alone, see-held-first}
use Rattle.fbc_levels.specs.Levels.{is_page_level}
use Rattle.fbc_firm_facts.proofs.StandsFirm.{linked-sees-there, shows-held, shows-none}

-- Through others' events.
module _ (shape : Shape) (file : View) (before : History) (whole : IsWhole (scene_of shape file before)) (simulated : IsSimulated (scene_of shape file before))
    (owner actor : ℕ) (landed : Bool) (done : Act) (whole_after : IsWhole (scene_of shape file (happens actor done landed ∷ before))) (simulated_after : IsSimulated (scene_of shape file (happens actor done landed ∷ before)))
    (legal : IsLegal shape file (happens actor done landed ∷ before)) (apart : actor ≢ owner)
    (t : Transaction) (open_is : (world_of shape file before).transaction owner ≡ Some t) (open_after : (world_of shape file (happens actor done landed ∷ before)).transaction owner ≡ Some t)
    (same_seen : (r k : ℕ) → seen_by (machine_of shape file (happens actor done landed ∷ before)) owner r k ≡ seen_by (machine_of shape file before) owner r k)
    (relation row page cell : ℕ) (version : Cell) (pinned : (world_of shape file before).is_pinned owner page ≡ true) where
  abbrev w : World
  w = world_of shape file before

  abbrev now : History
  now = happens actor done landed ∷ before

  abbrev held : ℕ → Bool
  held = is_held t.snapshot

  abbrev sequence : ℕ
  sequence = sequence_of shape relation row

  abbrev place : ℕ
  place = place_of shape relation row

  -- The version, and who names what it names.
  abbrev Passed : View → Type 0
  Passed seen =
      (cell_at seen page cell ≡ Some version)
      × (held version.number ≡ false → (back_page back_cell : ℕ) → NamesBack version back_page back_cell → IsLinkedBelow seen held relation sequence place version.number page cell back_page back_cell)

  module _ (stand : StandsFirmly shape file before owner relation row page cell version t) where
    passed : (cut : Cut) → HasOwnDrafts (world_of shape file now) owner cut → Passed (view (world_of shape file now) cut)
    passed =
        others-keep shape file before owner Passed actor landed apart done legal
        (λ number e is edits holds.
        let elsewhere : page ≡ number → ⊥ =
        λ same. clash _ ((IsRanked-legal shape file before legal.0).pins owner page pinned).usable
        (subst (λ q. is_page_level (w.granted owner (page_resource q)) ≡ false) (sym same)
        (excluded w (IsCoherent-legal shape file before legal.0) actor owner (page_resource number) apart edits.1.guard.exclusive)) in
        edits-leave-commits shape file before actor number e landed edits whole.order.upheld owner Passed whole.order.numbered.grow whole.order.numbered.uncommitted
        (λ content cut own commits was. (
          ap (λ b. cell_in (if b then Some content else view w cut page) cell) (test_of_different page number elsewhere) ∙ was.0,
          λ unheld back_page back_cell names.
              linked-still shape file before legal.0 whole simulated actor owner number e apart t open_is content cut own relation sequence place commits page cell elsewhere
              back_page back_cell version.number (was.1 unheld back_page back_cell names),
        ))
        holds)
        (λ cut own. ((stand cut own).stands, (stand cut own).below))

    pub stand-kept : StandsFirmly shape file now owner relation row page cell version t
    stand-kept cut own = record { stands = (passed cut own).0; sees = sees (held version.number) refl (version.back_page == 0) refl; below = (passed cut own).1 } where
      sound : IsSound (view (world_of shape file now) cut)
      sound = whole_after.order.upheld.sound cut own.closed

      sees : (b : Bool) → held version.number ≡ b → (none : Bool) → (version.back_page == 0) ≡ none → see (versions_from (view (world_of shape file now) cut) (suc version.number) (Some version)) held ≡ seen_by (machine_of shape file now) owner relation row
      sees true is none alone =
          see-held-first (view (world_of shape file now) cut) sound held relation sequence place version.number version is
          ∙ sym (shows-held shape file before whole owner t relation row page cell version stand is) ∙ sym (same_seen relation row)
      sees false unheld true alone =
          see-alone (view (world_of shape file now) cut) sound held relation sequence place version unheld alone
          ∙ sym (shows-none shape file before whole owner t relation row page cell version stand unheld alone) ∙ sym (same_seen relation row)
      sees false unheld false some =
          let names : NamesBack version version.back_page version.back_cell = record { some = some; page_is = refl; cell_is = refl } in
          linked-sees-there (scene_of shape file now) whole_after simulated_after owner t open_after cut own relation row page cell version unheld version.back_page version.back_cell names
          ((passed cut own).1 unheld version.back_page version.back_cell names)

-- Through the owner's own events that are no edits.
pub own-stand-kept : (shape : Shape) (file : View) (before : History) (moment : Moment) (t : Transaction) → IsLegal shape file (moment ∷ before) → is_edit moment.event.act ≡ false
    → (world_of shape file (moment ∷ before)).is_alive moment.event.actor ≡ true
    → machine_of shape file (moment ∷ before) ≡ machine_of shape file before → (relation row page cell : ℕ) (version : Cell)
    → StandsFirmly shape file before moment.event.actor relation row page cell version t → StandsFirmly shape file (moment ∷ before) moment.event.actor relation row page cell version t
own-stand-kept shape file before moment t legal plain lives same relation row page cell version stand cut own =
    subst (λ (m : Machine). IsStanding (view (world_of shape file (moment ∷ before)) cut) (is_held t.snapshot) (seen_by m moment.event.actor relation row) relation (sequence_of shape relation row) (place_of shape relation row) page cell version) (sym same)
    (own-acts-keep shape file before moment legal plain
    (λ seen. IsStanding seen (is_held t.snapshot) (seen_by (machine_of shape file before) moment.event.actor relation row) relation (sequence_of shape relation row) (place_of shape relation row) page cell version)
    lives stand cut own)
