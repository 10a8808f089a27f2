-- A ground stays one through each edit of another, in each view with all drafts of its owner.
use Rattle.std.proofs.Common.{◌≡◌, ◌≢◌, ◌∙◌, ◌==◌, ◌&&◌, ◌⊎◌, inl, inr, ℕ, Bool, true, false, if◌then◌else◌, Some, refl, sym, ap, subst}
use Rattle.fbc_kinds.specs.declared.edits.Edit.{Edit}
use Rattle.fbc_kinds.specs.declared.edits.Edit.TheVariants as edit
use Rattle.fbc_kinds.specs.declared.pages.Cell.{Cell}
use Rattle.fbc_kinds.specs.declared.pages.Data.{Data}
use Rattle.fbc_kinds.specs.declared.pages.Page.{Page}
use Rattle.fbc_kinds.specs.declared.pages.Page.TheVariants as kind
use Rattle.fbc_kinds.specs.declared.shapes.Shape.{Shape}
use Rattle.fbc_kinds.specs.declared.snapshots.Transaction.{Transaction}
use Rattle.fbc_kinds.specs.Machine.{is_held}
use Rattle.fbc_kinds.specs.Reach.{DataRole, Reaches, shows_role}
use Rattle.fbc_kinds.specs.View.{View, cell_at, cell_in, header_in, is_top, named_in, size_of}
use Rattle.fbc_kinds.proofs.Heads.{both_pass}
use Rattle.fbc_kinds.proofs.Tests.{same_from_test}
use Rattle.fbc_page_edits.specs.Allowed.{Fits}
use Rattle.fbc_page_edits.specs.Edited.{with_page}
use Rattle.fbc_page_edits.specs.Facing.{HasNoVersion}
use Rattle.fbc_page_edits.proofs.HeaderStands.{has_header, size_is}
use Rattle.fbc_world.specs.History.{History}
use Rattle.fbc_world.specs.World.{world_of}
use Rattle.fbc_legal.specs.Facts.{HasNoVersion as HasNoVersionIn}
use Rattle.fbc_legal.specs.Guards.{GuardOfEdit}
use Rattle.fbc_legal.specs.Leans.{LeansOn, UnnameLeans}
use Rattle.fbc_legal.specs.Legal.{IsLegal}
use Rattle.fbc_legal.specs.Rows.{IsNewVersion, IsPut}
use Rattle.fbc_legal.specs.Scene.{Scene, newest_at, scene_of}
use Rattle.fbc_legal.proofs.Induction.{IsCoherent-legal}
use Rattle.fbc_closed_cuts.specs.Cut.{Cut, view}
use Rattle.fbc_closed_cuts.proofs.LeansSeen.{lean-seen}
use Rattle.fbc_numbers.specs.Numbers.{IsSnapshotNumber, is_committed_in}
use Rattle.fbc_numbers.proofs.CutFacts.{clash}
use Rattle.fbc_origins.specs.Owed.{leaves_cells}
use Rattle.fbc_origins.proofs.CellsAfter.{cells-left}
use Rattle.fbc_origins.proofs.NamedEverywhere.{named-everywhere}
use Rattle.fbc_origins.proofs.PutPages.{IsPutPage, put-page, put-reached}
use Rattle.fbc_origins.proofs.Seeing.{stands-seen}
use Rattle.fbc_soundness.specs.Whole.{IsWhole}
use Rattle.fbc_simulation.specs.Simulated.{IsSimulated, machine_at}
use Rattle.fbc_firm_facts.specs.EditLeaves.{IsOwnViewOfEdit, stamps_after}
use Rattle.fbc_firm_facts.specs.Grounds.{HasLoneTops, IsGroundIn, IsLoneUnheld, SeesNoRow}
use Rattle.fbc_firm_facts.proofs.GroundRows.{IsNamedBy, by-row, not-top, row-by, rows-none, size-grown}
use Rattle.fbc_firm_facts.proofs.HeadersSeen.{header-grown}
use Rattle.fbc_firm_facts.proofs.LoneTops.{cleared-lone, formatted-top, other-lone, put-lone, role-put}
use Rattle.fbc_firm_facts.proofs.NamesStay.{found, is_found, names-stay}
use Rattle.fbc_notes.specs.HeaderTests.{is_number}

-- The slot that an edit empties.
abbrev slot_of : Edit → ℕ
slot_of (edit.Unname slot) = slot
slot_of e = 0

-- A data page with this role is of this relation and sequence.
role_is : (relation sequence page : ℕ) (d : Data) → shows_role (DataRole relation sequence) page (Some (kind.Data d)) ≡ true → (d.relation ≡ relation) × (d.sequence ≡ sequence)
role_is relation sequence page d is =
    let all = both_pass ((d.page == page) && (d.relation == relation)) (d.sequence == sequence) is in
    let both = both_pass (d.page == page) (d.relation == relation) all.0 in
    (same_from_test d.relation relation both.1, same_from_test d.sequence sequence all.1)

module _ (shape : Shape) (file : View) (before : History) (legal : IsLegal shape file before) (whole : IsWhole (scene_of shape file before)) (simulated : IsSimulated (scene_of shape file before))
    (actor owner number : ℕ) (e : Edit) (apart : actor ≢ owner) (t : Transaction) (open_is : (world_of shape file before).transaction owner ≡ Some t)
    (content : Page) (cut : Cut) (own : IsOwnViewOfEdit shape file before actor number e owner content cut) (relation sequence page : ℕ) where
  abbrev at : Scene
  at = scene_of shape file before

  abbrev seen : View
  seen = view at.world cut

  abbrev after : View
  after = with_page seen number content

  abbrev held : ℕ → Bool
  held = is_held t.snapshot

  abbrev IsGroundOf : View → Type 0
  IsGroundOf shown = IsGroundIn shape (machine_at at) owner held relation sequence page shown

  size-seen : size_of seen ≡ shape.size
  size-seen = size_is shape seen own.sees.of_shape own.sees.sound

  size-after : size_of after ≡ shape.size
  size-after =
      let header = has_header seen own.sees.sound in
      size-grown (seen 0) (after 0)
      (header-grown at (IsCoherent-legal shape file before legal) actor e content seen number own.sees.guard own.fits own.sees.sees.edited_page.page)
      header.header (ap header_in header.stands)
      ∙ size-seen

  -- A page that the view names, and that the edit does not unname, is named after it.
  pub named-on : Reaches seen (DataRole relation sequence) page → ((slot : ℕ) → e ≡ edit.Unname slot → named_in (newest_at at number) slot ≡ Some page → ⊥) → Reaches after (DataRole relation sequence) page
  named-on reached kept =
      let by : IsNamedBy shape seen relation sequence page = row-by shape seen size-seen relation sequence page reached in
      by-row shape after size-after relation sequence by.pointer page
      (names-stay shape file before legal actor number e owner content cut own relation sequence by.pointer page by.is kept)

  pub cells-same : leaves_cells e ≡ true → (cell : ℕ) → cell_at after page cell ≡ cell_at seen page cell
  cells-same left cell = go (page == number) refl where
    go : (b : Bool) → page == number ≡ b → cell_in (if b then Some content else seen page) cell ≡ cell_at seen page cell
    go true same = cells-left shape e (seen number) content left own.sees.fits cell ∙ ap (λ p. cell_at seen p cell) (sym (same_from_test page number same))
    go false other = refl

  -- One that is unnamed has no version, so nothing is seen of its rows.
  unnamed : (slot : ℕ) → e ≡ edit.Unname slot → named_in (newest_at at number) slot ≡ Some page → Reaches seen (DataRole relation sequence) page → IsGroundOf after
  unnamed slot is names reached =
      let leans : UnnameLeans at actor number page = subst (LeansOn at actor number) is own.sees.guard.leans page names in
      let empty : HasNoVersion seen page = lean-seen at actor number seen (stamps_after shape file before cut) own.sees.sees HasNoVersionIn page leans.empty in
      IsGroundIn.bare (rows-none at whole simulated owner t open_is cut own.own relation sequence page reached empty)
      (λ role cell top there first.
      absurd (clash (is_top top.flag) first (not-top top.flag (empty cell top (sym (cells-same (subst (λ x. leaves_cells x ≡ true) (sym is) refl) cell) ∙ there)))))

  from-named : Reaches seen (DataRole relation sequence) page → IsGroundOf after
  from-named reached = by-edit e refl where
    by-edit : (some : Edit) → e ≡ some → IsGroundOf after
    by-edit (edit.Unname slot) is = go (is_number (named_in (newest_at at number) slot) page) refl where
      go : (b : Bool) → is_number (named_in (newest_at at number) slot) page ≡ b → IsGroundOf after
      go true named = unnamed slot is (found _ page named) reached
      go false other = IsGroundIn.named (named-on reached (λ place unnames names.
          let same : place ≡ slot = ap slot_of (sym unnames ∙ is) in
          clash _ (is_found (named_in (newest_at at number) slot) page (ap (named_in (newest_at at number)) (sym same) ∙ names)) other))
    by-edit some is = IsGroundIn.named (named-on reached (λ slot unnames names. absurd (let other : some ≡ edit.Unname slot = sym is ∙ unnames in cc)))

  -- A number that another has open is not held.
  pub others-unheld : (u : Transaction) → at.world.transaction actor ≡ Some u → held u.number ≡ false
  others-unheld u begun = go (held u.number) refl where
    no : IsSnapshotNumber at.world t u.number → ⊥
    no (inl same) = whole.order.numbered.differ actor owner u t apart begun open_is same
    no (inr both) = clash (is_committed_in at.world.kept u.number) both.0 (whole.apart.out_of_file actor u begun)

    go : (b : Bool) → held u.number ≡ b → b ≡ false
    go true is = absurd (no (whole.order.numbered.snapshots owner t u.number open_is is))
    go false is = refl

  module _ (cell : ℕ) (new : Cell) (g : GuardOfEdit at actor number (edit.PutCell cell new)) where
    abbrev p : IsPutPage at actor number cell new
    p = put-page at actor number cell new g

    page-seen : seen number ≡ Some (kind.Data p.data_page)
    page-seen = own.sees.sees.edited_page.page ∙ p.stands

    stands : (version : Cell) → cell_at (newest_at at) number cell ≡ Some version → cell_at seen number cell ≡ Some version
    stands version is = stands-seen at actor number seen (stamps_after shape file before cut) own.sees.sees cell version is

    -- A page on which a new version comes over a committed one is named in every view.
    named-of-over : IsNewVersion at actor number cell new → shows_role (DataRole relation sequence) page (seen number) ≡ true → Reaches seen (DataRole relation sequence) number
    named-of-over f role =
        let its = role_is relation sequence page p.data_page (subst (λ o. shows_role (DataRole relation sequence) page o ≡ true) page-seen role) in
        subst (λ r. Reaches seen (DataRole r sequence) number) its.0
        (subst (λ s. Reaches seen (DataRole p.data_page.relation s) number) its.1
        (named-everywhere at whole.order.upheld whole.rows.rows p.data_page.relation p.data_page.sequence number cell f.old
        (put-reached at actor number cell new g whole.order.upheld) f.stands
        (ap is_top f.over, inr (committed (whole.order.numbered.snapshots actor f.t f.old.number f.open_is f.held))) cut own.own.closed))
      where
        committed : IsSnapshotNumber at.world f.t f.old.number → is_committed_in at.world.kept f.old.number ≡ true
        committed (inl same) = absurd (f.over_other same)
        committed (inr both) = both.0

    module _ (was : HasLoneTops held relation sequence page (seen number)) (role : shows_role (DataRole relation sequence) page (seen number) ≡ true) where
      new-top : IsPut at actor number cell new → is_top new.flag ≡ true → IsLoneUnheld held new ⊎ Reaches seen (DataRole relation sequence) number
      new-top (IsPut.first f) first = inl (record { unheld = ap held f.own ∙ others-unheld f.t f.open_is; alone = f.alone })
      new-top (IsPut.over_own f) first =
          inl (record { unheld = ap held f.own ∙ others-unheld f.t f.open_is; alone = f.link.page ∙ (was role cell f.old (stands f.old f.stands) (ap is_top f.over)).alone })
      new-top (IsPut.over f) first = inr (named-of-over f role)
      new-top (IsPut.move f) first = absurd (clash (is_top new.flag) first (ap (λ (v : Cell). is_top v.flag) f.same))
      new-top (IsPut.backout f) first = absurd (f.linked (was role cell f.old (stands f.old f.stands) f.over).alone)
      new-top (IsPut.cut f) first = absurd (f.linked (was role cell f.old (stands f.old f.stands) (sym (ap (λ (v : Cell). is_top v.flag) f.same) ∙ first)).alone)

  abbrev LoneOrNamed : Type 0
  LoneOrNamed = HasLoneTops held relation sequence page (Some content) ⊎ Reaches seen (DataRole relation sequence) number

  -- What stands on the page that is edited.
  edited : (some : Edit) → GuardOfEdit at actor number some → Fits shape some (seen number) content → HasLoneTops held relation sequence page (seen number) → LoneOrNamed
  edited (edit.PutCell cell new) g fits was = go (shows_role (DataRole relation sequence) page (seen number)) refl (is_top new.flag) refl where
    lone : (is_top new.flag ≡ true → IsLoneUnheld held new) → LoneOrNamed
    lone its = inl (put-lone shape relation sequence page held cell new (seen number) content fits was its)

    go : (a : Bool) → shows_role (DataRole relation sequence) page (seen number) ≡ a → (b : Bool) → is_top new.flag ≡ b → LoneOrNamed
    go a role false none = lone (λ first. absurd (clash (is_top new.flag) first none))
    go true role true first = elim (new-top cell new g was role g.row first) [ inl its ↦ lone (λ same. its) | inr named ↦ inr named ]
    go false role true first =
        inl (λ shown. absurd (clash (shows_role (DataRole relation sequence) page (seen number)) (sym (role-put shape relation sequence page cell new (seen number) content fits) ∙ shown) role))
  edited (edit.ClearCell cell) g fits was = inl (cleared-lone shape relation sequence page held cell (seen number) content fits was)
  edited (edit.Format page_kind made other place) g fits was =
      inl (λ role cell top there first. absurd (clash (is_top top.flag) first (formatted-top shape relation sequence page held page_kind made other place content fits cell top there)))
  edited some g fits was = inl (other-lone shape relation sequence page held some (seen number) content refl fits)

  from-bare : SeesNoRow shape (machine_at at) owner relation sequence → HasLoneTops held relation sequence page (seen page) → IsGroundOf after
  from-bare none lone = go (page == number) refl where
    go : (b : Bool) → page == number ≡ b → IsGroundOf after
    go false other = IsGroundIn.bare none (subst (HasLoneTops held relation sequence page) (sym (ap (λ b. if b then Some content else seen page) other)) lone)
    go true is =
        let same : page ≡ number = same_from_test page number is in
        elim (edited e own.sees.guard own.sees.fits (subst (λ n. HasLoneTops held relation sequence page (seen n)) same lone)) [
          | inl left ↦ IsGroundIn.bare none (subst (HasLoneTops held relation sequence page) (sym (ap (λ b. if b then Some content else seen page) is)) left)
          | inr reached ↦ from-named (subst (λ n. Reaches seen (DataRole relation sequence) n) (sym same) reached)
        ]

  pub ground-on : IsGroundOf seen → IsGroundOf after
  ground-on (IsGroundIn.named reached) = from-named reached
  ground-on (IsGroundIn.bare none lone) = from-bare none lone
