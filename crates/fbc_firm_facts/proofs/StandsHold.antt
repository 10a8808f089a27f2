-- Where an open transaction may note that it stands, it does, and what it may note of a row from there it sees.
use Rattle.std.proofs.Common.{is_some, ◌≡◌, ◌∙◌, ◌/◌, ◌%◌, ◌==◌, ◌⊎◌, inl, inr, ℕ, Bool, true, false, List, Option, Some, None, refl, sym, ap, subst}
use Rattle.std.specs.List.{All, Contains}
use Rattle.std.specs.Option.{IfSome}
use Rattle.std.proofs.lemmas.List.Elements.{All-contains}
use Rattle.fbc_kinds.specs.declared.pages.Cell.{Cell}
use Rattle.fbc_kinds.specs.declared.pages.Page.{Page}
use Rattle.fbc_kinds.specs.declared.shapes.Shape.{Shape}
use Rattle.fbc_kinds.specs.declared.snapshots.Transaction.{Transaction}
use Rattle.fbc_kinds.specs.Chain.{Version, see}
use Rattle.fbc_kinds.specs.Limits.{slots}
use Rattle.fbc_kinds.specs.Machine.{is_held}
use Rattle.fbc_kinds.specs.Reach.{DataRole, shows_role, Reaches}
use Rattle.fbc_kinds.specs.View.{View, cell_at, cell_in, data_of, is_top, named_in, pointer_of, size_of}
use Rattle.fbc_kinds.proofs.Tests.{test_of_same}
use Rattle.fbc_page_edits.specs.Edited.{IsOfShape}
use Rattle.fbc_page_edits.proofs.HeaderStands.{size_is}
use Rattle.fbc_world.specs.History.{History}
use Rattle.fbc_world.specs.World.{World, world_of}
use Rattle.fbc_legal.specs.Scene.{scene_of}
use Rattle.fbc_closed_cuts.specs.Cut.{Cut, view}
use Rattle.fbc_closed_cuts.specs.Firm.{HasOwnDrafts}
use Rattle.fbc_closed_cuts.proofs.Firmness.{copy-firm}
use Rattle.fbc_numbers.proofs.CutFacts.{clash}
use Rattle.fbc_soundness.specs.Whole.{IsWhole}
use Rattle.fbc_simulation.specs.Beside.{machine_of}
use Rattle.fbc_simulation.specs.Simulated.{IsSimulated}
use Rattle.fbc_notes.specs.declared.notes.Note.{Note}
use Rattle.fbc_notes.specs.declared.notes.Note.TheVariants as note
use Rattle.fbc_notes.specs.Sights.{MaySeeBelow, MaySeeNoPage, MaySeeNone, MayStand, TellsBelow}
use Rattle.fbc_firm_facts.specs.Grounds.{IsGround, IsGroundIn, IsLoneUnheld}
use Rattle.fbc_firm_facts.specs.NotesHold.{NoteHolds}
use Rattle.fbc_firm_facts.specs.Standing.{IsLinkedBelow, LeadsUnheld, StandsFirmly, place_of, sequence_of}
use Rattle.fbc_firm_facts.proofs.StandsFirm.{led-stands-there, none-there, shows-held, shows-none}
use Rattle.fbc_firm_facts.proofs.OwnCellsSeen.{all-own}
use Rattle.fbc_firm_facts.proofs.SeeDown.{see-alone}
use Rattle.fbc_firm_facts.proofs.NamesStay.{found}
use Rattle.fbc_firm_facts.proofs.NoPages.{no-chain, no-page, no-pointer}
use Rattle.fbc_firm_facts.proofs.OwnViewsSee.{own-view-shows}
use Rattle.fbc_origins.proofs.PutPages.{every_draft}
use Rattle.fbc_origins.proofs.RowsWritten.{pointer_by}

module _ (shape : Shape) (file : View) (history : History) (whole : IsWhole (scene_of shape file history)) (simulated : IsSimulated (scene_of shape file history))
    (owner : ℕ) (t : Transaction) (open_is : (world_of shape file history).transaction owner ≡ Some t) (notes : List Note) (all : All (NoteHolds shape file history owner) notes)
    (relation row : ℕ) where
  abbrev w : World
  w = world_of shape file history

  abbrev held : ℕ → Bool
  held = is_held t.snapshot

  abbrev sequence : ℕ
  sequence = sequence_of shape relation row

  abbrev place : ℕ
  place = place_of shape relation row

  stand-noted : (page cell : ℕ) (version : Cell) → Contains notes (note.Stands relation row page cell version) → StandsFirmly shape file history owner relation row page cell version t
  stand-noted page cell version there =
      subst (λ o. IfSome o (StandsFirmly shape file history owner relation row page cell version)) open_is
      (All-contains (NoteHolds shape file history owner) notes (note.Stands relation row page cell version) all there)

  ground-noted : (page : ℕ) → Contains notes (note.Ground relation sequence page) → IsGround shape file history owner relation sequence page t
  ground-noted page there =
      subst (λ o. IfSome o (IsGround shape file history owner relation sequence page)) open_is
      (All-contains (NoteHolds shape file history owner) notes (note.Ground relation sequence page) all there)

  -- What a copy shows every own view shows.
  copied : (cut : Cut) → HasOwnDrafts w owner cut → (page cell : ℕ) (version : Cell) → cell_in (w.copy owner page) cell ≡ Some version → view w cut page ≡ w.copy owner page
  copied cut own page cell version stands = go (w.copy owner page) refl stands where
    go : (o : Option Page) → w.copy owner page ≡ o → cell_in o cell ≡ Some version → view w cut page ≡ o
    go None is shown = absurd cc
    go (Some content) is shown = copy-firm w whole.order.upheld.coherent owner page content is cut own

  module _ (page cell : ℕ) (version : Cell) (stands : cell_at (w.copy owner) page cell ≡ Some version) (cut : Cut) (own : HasOwnDrafts w owner cut) where
    seen-stands : cell_at (view w cut) page cell ≡ Some version
    seen-stands = ap (λ (o : Option Page). cell_in o cell) (copied cut own page cell version stands) ∙ stands

    -- A version that is held, or leads on, is no lone one that is not held.
    no-lone : (held version.number ≡ true) ⊎ ((version.back_page == 0) ≡ false) → IsLoneUnheld held version → ⊥
    no-lone (inl is) lone = clash (held version.number) is lone.unheld
    no-lone (inr some) lone = clash (version.back_page == 0) (test_of_same version.back_page 0 lone.alone) some

    led-first : shows_role (DataRole relation sequence) page (w.copy owner page) ≡ true → cell ≡ place → is_top version.flag ≡ true → (held version.number ≡ true) ⊎ ((version.back_page == 0) ≡ false)
        → IsGroundIn shape (machine_of shape file history) owner held relation sequence page (view w cut) → LeadsUnheld (view w cut) held relation sequence place page cell
    led-first role at_place first leads (IsGroundIn.named reached) = LeadsUnheld.begins page cell version at_place reached seen-stands first
    led-first role at_place first leads (IsGroundIn.bare none lone) =
        absurd (no-lone leads (lone (ap (shows_role (DataRole relation sequence) page) (copied cut own page cell version stands) ∙ role) cell version seen-stands first))

  pub stand-holds : (page cell : ℕ) (version : Cell) → MayStand shape held (w.copy owner) notes relation row page cell version → NoteHolds shape file history owner (note.Stands relation row page cell version)
  stand-holds page cell version may = subst (λ o. IfSome o (StandsFirmly shape file history owner relation row page cell version)) (sym open_is) (go may) where
    led : (cut : Cut) → HasOwnDrafts w owner cut → MayStand shape held (w.copy owner) notes relation row page cell version → LeadsUnheld (view w cut) held relation sequence place page cell
    led cut own (MayStand.at_first there role at_place stands first leads) =
        led-first page cell version stands cut own role at_place first leads (ground-noted page there cut own)
    led cut own (MayStand.below upper_page upper_cell upper there unheld names stands) =
        let by : IsLinkedBelow (view w cut) held relation sequence place upper.number upper_page upper_cell page cell = (stand-noted upper_page upper_cell upper there cut own).below unheld page cell names in
        LeadsUnheld.goes_on by.page by.cell page cell by.version by.leads by.stands by.unheld by.names

    shown : MayStand shape held (w.copy owner) notes relation row page cell version → cell_at (w.copy owner) page cell ≡ Some version
    shown (MayStand.at_first there role at_place stands first leads) = stands
    shown (MayStand.below upper_page upper_cell upper there unheld names stands) = stands

    go : MayStand shape held (w.copy owner) notes relation row page cell version → StandsFirmly shape file history owner relation row page cell version t
    go one cut own = led-stands-there (scene_of shape file history) whole simulated owner t open_is cut own relation row page cell version (led cut own one) (seen-stands page cell version (shown one) cut own)

  pub below-holds : (value : Option (List ℕ)) → MaySeeBelow held notes relation row value → NoteHolds shape file history owner (note.Sees relation row value)
  below-holds value may = told may.tells where
    told : TellsBelow held may.version value → NoteHolds shape file history owner (note.Sees relation row value)
    told (TellsBelow.of_held is same) = shows-held shape file history whole owner t relation row may.page may.cell may.version (stand-noted may.page may.cell may.version may.stand) is ∙ same
    told (TellsBelow.of_last unheld last none) =
        shows-none shape file history whole owner t relation row may.page may.cell may.version (stand-noted may.page may.cell may.version may.stand) unheld last ∙ sym none

  -- Nothing is seen by a ground: in one of its views.
  abbrev every : Cut
  every = every_draft w

  own-all : HasOwnDrafts w owner every
  own-all = all-own w owner

  by-ground : (page : ℕ) → Contains notes (note.Ground relation sequence page) → (Reaches (view w every) (DataRole relation sequence) page → NoteHolds shape file history owner (note.Sees relation row None))
      → NoteHolds shape file history owner (note.Sees relation row None)
  by-ground page there named = go (ground-noted page there every own-all) where
    go : IsGroundIn shape (machine_of shape file history) owner held relation sequence page (view w every) → NoteHolds shape file history owner (note.Sees relation row None)
    go (IsGroundIn.named reached) = named reached
    go (IsGroundIn.bare none lone) = none row refl

  same-content : (page : ℕ) → is_some (w.copy owner page) ≡ true → view w every page ≡ w.copy owner page
  same-content page has = go (w.copy owner page) refl has where
    go : (o : Option Page) → w.copy owner page ≡ o → is_some o ≡ true → view w every page ≡ o
    go None is some = absurd cc
    go (Some content) is some = copy-firm w whole.order.upheld.coherent owner page content is every own-all

  pub none-holds : MaySeeNone shape held (w.copy owner) notes relation row → NoteHolds shape file history owner (note.Sees relation row None)
  none-holds (MaySeeNone.elsewhere page there has other) =
      by-ground page there
      (λ reached.
      absurd
      (clash (shows_role (DataRole relation sequence) page (view w every page)) ((whole.order.upheld.sound every own-all.closed).fitting (DataRole relation sequence) page reached)
      (ap (shows_role (DataRole relation sequence) page) (same-content page has) ∙ other)))
  none-holds (MaySeeNone.no_newest page version there stands none) =
      by-ground page there
      (λ reached.
      none-there (scene_of shape file history) whole simulated owner t open_is every own-all relation row page version reached (seen-stands page place version stands every own-all) none)
  none-holds (MaySeeNone.lone page version there stands first unheld alone) =
      by-ground page there
      (λ reached.
      let here : cell_at (view w every) page place ≡ Some version = seen-stands page place version stands every own-all in
      sym (led-stands-there (scene_of shape file history) whole simulated owner t open_is every own-all relation row page place version (LeadsUnheld.begins page place version refl reached here first) here).sees
      ∙ see-alone (view w every) (whole.order.upheld.sound every own-all.closed) held relation sequence place version unheld alone)

  -- Nothing is seen of a row for which copies name no page.
  abbrev all-seen : View
  all-seen = view w every

  of-shape : IsOfShape shape all-seen
  of-shape = whole.order.upheld.of_shape every own-all.closed

  size-same : size_of all-seen ≡ shape.size
  size-same = size_is shape all-seen of-shape (whole.order.upheld.sound every own-all.closed)

  no-data : MaySeeNoPage shape (w.copy owner) notes relation row → data_of all-seen relation sequence ≡ None
  no-data (MaySeeNoPage.no_page pointer there has none) =
      no-page shape all-seen of-shape size-same relation sequence pointer
      (found (pointer_of all-seen relation (sequence / slots shape.size)) pointer
      (All-contains (NoteHolds shape file history owner) notes (note.Pointer relation (sequence / slots shape.size) pointer) all there every own-all))
      (ap (λ (o : Option Page). named_in o (sequence % slots shape.size)) (same-content pointer has) ∙ none)
  no-data (MaySeeNoPage.no_pointer has none) =
      no-pointer shape all-seen of-shape size-same relation sequence (ap (λ (o : Option Page). pointer_by o relation (sequence / slots shape.size)) (same-content 0 has) ∙ none)

  pub no-page-holds : MaySeeNoPage shape (w.copy owner) notes relation row → NoteHolds shape file history owner (note.Sees relation row None)
  no-page-holds may =
      sym (own-view-shows (scene_of shape file history) whole simulated owner t open_is every own-all relation row)
      ∙ ap (λ (versions : List Version). see versions held) (no-chain shape all-seen of-shape size-same relation row (no-data may))
