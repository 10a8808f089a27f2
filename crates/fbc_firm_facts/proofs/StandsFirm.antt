-- A reader that is led to a cell stands there, and what it sees from there is what is seen of the row.
use Rattle.std.proofs.Common.{List, ◌≡◌, ◌∙◌, ◌==◌, ◌/◌, ◌%◌, ℕ, suc, Bool, true, false, Some, None, sym, ap}
use Rattle.fbc_kinds.specs.declared.pages.Cell.{Cell}
use Rattle.fbc_kinds.specs.declared.shapes.Shape.{Shape}
use Rattle.fbc_kinds.specs.declared.snapshots.Transaction.{Transaction}
use Rattle.fbc_kinds.specs.Chain.{Version, cells_of, see, value_of, versions_from}
use Rattle.fbc_kinds.specs.Edits.{value_length}
use Rattle.fbc_kinds.specs.Limits.{cells, slots}
use Rattle.fbc_kinds.specs.Machine.{is_held, seen_by}
use Rattle.fbc_kinds.specs.Reach.{DataRole, NamesBack, Reaches}
use Rattle.fbc_kinds.specs.Sound.{IsSound}
use Rattle.fbc_kinds.specs.View.{View, cell_at, data_of, is_top}
use Rattle.fbc_page_edits.specs.Edited.{IsOfShape}
use Rattle.fbc_page_edits.proofs.HeaderStands.{size_is}
use Rattle.fbc_world.specs.History.{History}
use Rattle.fbc_world.specs.World.{World, world_of}
use Rattle.fbc_page_edits.specs.Facing.{IsRowAt}
use Rattle.fbc_version_edits.proofs.Frames.{chain_of_none, row_stands}
use Rattle.fbc_legal.specs.Scene.{Scene, scene_of}
use Rattle.fbc_closed_cuts.specs.Cut.{Cut, view}
use Rattle.fbc_closed_cuts.specs.Firm.{HasOwnDrafts}
use Rattle.fbc_origins.proofs.PutPages.{every_draft}
use Rattle.fbc_soundness.specs.Whole.{IsWhole}
use Rattle.fbc_simulation.specs.Beside.{machine_of}
use Rattle.fbc_simulation.specs.Simulated.{IsSimulated, machine_at}
use Rattle.fbc_firm_facts.specs.Standing.{IsLinkedBelow, IsStanding, LeadsUnheld, StandsFirmly, place_of, sequence_of}
use Rattle.fbc_firm_facts.proofs.GroundRows.{IsNamedBy, row-by}
use Rattle.fbc_firm_facts.proofs.OwnCellsSeen.{all-own, cells-are}
use Rattle.fbc_firm_facts.proofs.OwnViewsSee.{own-view-shows}
use Rattle.fbc_firm_facts.proofs.SeeDown.{led-stands, linked-sees, see-alone, see-held-first}

-- The page with which a way begins.
led-named : (seen : View) (held : ℕ → Bool) (relation sequence place page cell : ℕ) → LeadsUnheld seen held relation sequence place page cell → (first : ℕ) × Reaches seen (DataRole relation sequence) first
led-named seen held relation sequence place page cell (LeadsUnheld.begins _ _ version at_place reached stands first) = (page, reached)
led-named seen held relation sequence place page cell (LeadsUnheld.goes_on upper_page upper_cell _ _ version leads stands unheld names) = led-named seen held relation sequence place upper_page upper_cell leads

module _ (at : Scene) (whole : IsWhole at) (simulated : IsSimulated at) (owner : ℕ) (t : Transaction) (open_is : at.world.transaction owner ≡ Some t) (cut : Cut) (own : HasOwnDrafts at.world owner cut) (relation row : ℕ) where
  abbrev seen : View
  seen = view at.world cut

  abbrev held : ℕ → Bool
  held = is_held t.snapshot

  abbrev Led : ℕ → ℕ → Type 0
  Led page cell = LeadsUnheld seen held relation (sequence_of at.shape relation row) (place_of at.shape relation row) page cell

  sound-seen : IsSound seen
  sound-seen = whole.order.upheld.sound cut own.closed

  shape-seen : IsOfShape at.shape seen
  shape-seen = whole.order.upheld.of_shape cut own.closed

  cells-seen : (first : ℕ) → Reaches seen (DataRole relation (sequence_of at.shape relation row)) first → cells_of seen relation ≡ cells at.shape.size (value_length at.shape relation)
  cells-seen first reached =
      let by : IsNamedBy at.shape seen relation (sequence_of at.shape relation row) first = row-by at.shape seen (size_is at.shape seen shape-seen sound-seen) relation (sequence_of at.shape relation row) first reached in
      cells-are at.shape seen shape-seen sound-seen relation (sequence_of at.shape relation row / slots at.shape.size) by.pointer by.is.pointed

  pub led-stands-there : (page cell : ℕ) (version : Cell) → Led page cell → cell_at seen page cell ≡ Some version
      → IsStanding seen held (seen_by (machine_at at) owner relation row) relation (sequence_of at.shape relation row) (place_of at.shape relation row) page cell version
  led-stands-there page cell version leads stands =
      let top = led-named seen held relation (sequence_of at.shape relation row) (place_of at.shape relation row) page cell leads in
      let same = cells-seen top.0 top.1 in
      led-stands seen sound-seen held relation (sequence_of at.shape relation row) (place_of at.shape relation row) row (seen_by (machine_at at) owner relation row)
      (ap (λ n. row / n) same) (ap (λ n. row % n) same) (own-view-shows at whole simulated owner t open_is cut own relation row) page cell version leads stands

  -- Without a newest version in the row's own cell nothing is seen.
  pub none-there : (page : ℕ) (version : Cell) → Reaches seen (DataRole relation (sequence_of at.shape relation row)) page → cell_at seen page (place_of at.shape relation row) ≡ Some version → is_top version.flag ≡ false
      → seen_by (machine_at at) owner relation row ≡ None
  none-there page version reached stands none =
      let same = cells-seen page reached in
      let row_at : IsRowAt seen relation row page (place_of at.shape relation row) =
      record { named = ap (λ n. data_of seen relation (row / n)) same ∙ reached; place = ap (λ n. row % n) same } in
      sym (own-view-shows at whole simulated owner t open_is cut own relation row)
      ∙ ap (λ (versions : List Version). see versions held)
      (chain_of_none seen relation row version (row_stands seen relation row page (place_of at.shape relation row) row_at ∙ stands) none)

  pub linked-sees-there : (pinned_page pinned_cell : ℕ) (version : Cell) → held version.number ≡ false → (back_page back_cell : ℕ) → NamesBack version back_page back_cell
      → IsLinkedBelow seen held relation (sequence_of at.shape relation row) (place_of at.shape relation row) version.number pinned_page pinned_cell back_page back_cell
      → see (versions_from seen (suc version.number) (Some version)) held ≡ seen_by (machine_at at) owner relation row
  linked-sees-there pinned_page pinned_cell version unheld back_page back_cell names by =
      let top = led-named seen held relation (sequence_of at.shape relation row) (place_of at.shape relation row) by.page by.cell by.leads in
      let same = cells-seen top.0 top.1 in
      linked-sees seen sound-seen held relation (sequence_of at.shape relation row) (place_of at.shape relation row) row (seen_by (machine_at at) owner relation row)
      (ap (λ n. row / n) same) (ap (λ n. row % n) same) (own-view-shows at whole simulated owner t open_is cut own relation row) pinned_page pinned_cell version unheld back_page back_cell names by

-- What a place where one stands shows.
module _ (shape : Shape) (file : View) (history : History) (whole : IsWhole (scene_of shape file history)) (owner : ℕ) (t : Transaction) (relation row page cell : ℕ) (version : Cell)
    (stand : StandsFirmly shape file history owner relation row page cell version t) where
  abbrev w : World
  w = world_of shape file history

  abbrev shown : View
  shown = view w (every_draft w)

  abbrev its : ℕ → Bool
  its = is_held t.snapshot

  whole-sound : IsSound shown
  whole-sound = whole.order.upheld.sound (every_draft w) (all-own w owner).closed

  pub shows-held : its version.number ≡ true → seen_by (machine_of shape file history) owner relation row ≡ value_of version.flag version.value
  shows-held is =
      sym (stand (every_draft w) (all-own w owner)).sees
      ∙ see-held-first shown whole-sound its relation (sequence_of shape relation row) (place_of shape relation row) version.number version is

  pub shows-none : its version.number ≡ false → (version.back_page == 0) ≡ true → seen_by (machine_of shape file history) owner relation row ≡ None
  shows-none unheld alone =
      sym (stand (every_draft w) (all-own w owner)).sees
      ∙ see-alone shown whole-sound its relation (sequence_of shape relation row) (place_of shape relation row) version unheld alone
