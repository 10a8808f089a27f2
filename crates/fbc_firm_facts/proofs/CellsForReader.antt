-- What an edit of another makes of a version that a reader passes: one that is not held, and names another.
use Rattle.std.proofs.Common.{◌≡◌, ◌≢◌, ◌∙◌, ◌==◌, ◌⊎◌, inl, inr, ℕ, Bool, true, false, if◌then◌else◌, Option, Some, refl, sym, ap, subst}
use Rattle.std.proofs.lemmas.Option.{same_Some}
use Rattle.fbc_kinds.specs.declared.edits.Edit.{Edit}
use Rattle.fbc_kinds.specs.declared.edits.Edit.TheVariants as edit
use Rattle.fbc_kinds.specs.declared.pages.Cell.{Cell}
use Rattle.fbc_kinds.specs.declared.pages.Flag.{Flag}
use Rattle.fbc_kinds.specs.declared.pages.Flag.TheVariants as flag
use Rattle.fbc_kinds.specs.declared.pages.Page.{Page}
use Rattle.fbc_kinds.specs.declared.shapes.Shape.{Shape}
use Rattle.fbc_kinds.specs.declared.snapshots.Transaction.{Transaction}
use Rattle.fbc_kinds.specs.DataSpelling.{empty_cell}
use Rattle.fbc_kinds.specs.Machine.{is_held}
use Rattle.fbc_kinds.specs.Reach.{NamesBack, ReachesPage}
use Rattle.fbc_kinds.specs.View.{View, cell_at, cell_in, is_back, is_empty, is_top}
use Rattle.fbc_kinds.proofs.Tests.{differ_from_test, same_from_test, test_of_different, test_of_same}
use Rattle.fbc_page_edits.specs.Allowed.{Fits}
use Rattle.fbc_page_edits.specs.Edited.{with_page}
use Rattle.fbc_page_edits.specs.Facing.{IsLinked, NameTheSame}
use Rattle.fbc_version_edits.proofs.Flags.{top_of_back, top_of_empty, unlinked}
use Rattle.fbc_world.specs.History.{History}
use Rattle.fbc_world.specs.World.{world_of}
use Rattle.fbc_legal.specs.Guards.{GuardOfEdit}
use Rattle.fbc_legal.specs.Legal.{IsLegal}
use Rattle.fbc_legal.specs.Rows.{IsBackout, IsClearing, IsPut, as_back}
use Rattle.fbc_legal.specs.Scene.{Scene, newest_at, scene_of}
use Rattle.fbc_closed_cuts.specs.Cut.{Cut, view}
use Rattle.fbc_numbers.specs.Numbers.{is_committed_in}
use Rattle.fbc_numbers.proofs.CutFacts.{clash}
use Rattle.fbc_origins.specs.Owed.{leaves_cells}
use Rattle.fbc_origins.proofs.CellsAfter.{cells-cleared, cells-put}
use Rattle.fbc_origins.proofs.ClearsAllowed.{clears-unnamed}
use Rattle.fbc_origins.proofs.PutsAllowed.{allows-over}
use Rattle.fbc_origins.proofs.Seeing.{stands-seen}
use Rattle.fbc_soundness.specs.Whole.{IsWhole}
use Rattle.fbc_simulation.specs.Simulated.{IsSimulated}
use Rattle.fbc_firm_facts.specs.EditLeaves.{IsOwnViewOfEdit, stamps_after}
use Rattle.fbc_firm_facts.proofs.GroundStays.{cells-same, others-unheld}

back_of_empty : (kind_of : Flag) → is_empty kind_of ≡ true → is_back kind_of ≡ false
back_of_empty flag.Empty is = refl
back_of_empty flag.Primary is = absurd cc
back_of_empty flag.Deletion is = absurd cc
back_of_empty flag.Back is = absurd cc

-- The version stays; or it is a top: its own transaction changes it again, or a new version comes over it, or it is taken back.
pub data CellFate (shape : Shape) (file : View) (before : History) (number : ℕ) (e : Edit) (held : ℕ → Bool) (seen after : View) (page cell : ℕ) (version : Cell) : Type 0 where
  stays : cell_at after page cell ≡ Some version → CellFate shape file before number e held seen after page cell version
  again : (new : Cell) → is_top version.flag ≡ true → cell_at after page cell ≡ Some new → is_top new.flag ≡ true → new.number ≡ version.number → NameTheSame version new
      → CellFate shape file before number e held seen after page cell version
  over : (new : Cell) → is_top version.flag ≡ true → cell_at after page cell ≡ Some new → is_top new.flag ≡ true → held new.number ≡ false → (new.back_page == 0) ≡ false
      → cell_at after new.back_page new.back_cell ≡ Some (as_back version) → is_committed_in seen version.number ≡ true
      → CellFate shape file before number e held seen after page cell version
  taken : (new : Cell) → is_top version.flag ≡ true → page ≡ number → e ≡ edit.PutCell cell new → cell_at after page cell ≡ Some new → IsBackout (scene_of shape file before) number cell new
      → CellFate shape file before number e held seen after page cell version

module _ (shape : Shape) (file : View) (before : History) (legal : IsLegal shape file before) (whole : IsWhole (scene_of shape file before)) (simulated : IsSimulated (scene_of shape file before))
    (actor owner number : ℕ) (e : Edit) (apart : actor ≢ owner) (t : Transaction) (open_is : (world_of shape file before).transaction owner ≡ Some t)
    (content : Page) (cut : Cut) (own : IsOwnViewOfEdit shape file before actor number e owner content cut) (page cell : ℕ) (version : Cell) where
  abbrev at : Scene
  at = scene_of shape file before

  abbrev seen : View
  seen = view at.world cut

  abbrev after : View
  after = with_page seen number content

  abbrev held : ℕ → Bool
  held = is_held t.snapshot

  abbrev Its : Type 0
  Its = CellFate shape file before number e held seen after page cell version

  module _ (stands : cell_at seen page cell ≡ Some version) (reached : ReachesPage seen page) (shown : (is_top version.flag ≡ true) ⊎ IsLinked seen page cell)
      (unheld : held version.number ≡ false) (back_page back_cell : ℕ) (names : NamesBack version back_page back_cell) where
    -- On another page nothing changes.
    elsewhere : page == number ≡ false → Its
    elsewhere other = CellFate.stays (ap (λ b. cell_in (if b then Some content else seen page) cell) other ∙ stands)

    linked_back : is_back version.flag ≡ false → is_top version.flag ≡ true
    linked_back none = go shown where
      go : (is_top version.flag ≡ true) ⊎ IsLinked seen page cell → is_top version.flag ≡ true
      go (inl first) = first
      go (inr link) = absurd (unlinked own.sees.sound page cell version stands none link)

    not_empty : is_empty version.flag ≡ true → ⊥
    not_empty is = clash (is_top version.flag) (linked_back (back_of_empty version.flag is)) (top_of_empty version.flag is)

    some_link : version.back_page ≢ 0
    some_link = differ_from_test version.back_page 0 names.some

    module _ (same : page ≡ number) where
      is_old : (old : Cell) (c : ℕ) → cell ≡ c → cell_at (newest_at at) number c ≡ Some old → old ≡ version
      is_old old c one there =
          same_Some old version
          (sym (stands-seen at actor number seen (stamps_after shape file before cut) own.sees.sees c old there)
          ∙ ap (λ q. cell_at seen q c) (sym same) ∙ ap (cell_at seen page) (sym one) ∙ stands)

      now : (o : Option Cell) → cell_in (Some content) cell ≡ o → cell_at after page cell ≡ o
      now o is = ap (λ b. cell_in (if b then Some content else seen page) cell) (test_same page number same) ∙ is where
        test_same : (a b : ℕ) → a ≡ b → a == b ≡ true
        test_same a b is = test_of_same a b is

      module _ (c : ℕ) (new : Cell) (g : GuardOfEdit at actor number (edit.PutCell c new)) (fits : Fits shape (edit.PutCell c new) (seen number) content) (is_e : e ≡ edit.PutCell c new) (one : cell ≡ c) where
        put_there : cell_at after page cell ≡ Some new
        put_there =
            now (Some new)
            (cells-put shape c new (seen number) content fits cell
            ∙ ap (λ b. if b then Some new else cell_in (seen number) cell) (test_of_same cell c one))

        put : IsPut at actor number c new → Its
        put (IsPut.first f) = absurd (not_empty (ap (λ (v : Cell). is_empty v.flag) (sym (is_old f.old c one f.stands)) ∙ f.over))
        put (IsPut.move f) = absurd (not_empty (ap (λ (v : Cell). is_empty v.flag) (sym (is_old f.old c one f.stands)) ∙ f.over))
        put (IsPut.over_own f) =
            let old : f.old ≡ version = is_old f.old c one f.stands in
            CellFate.again new (ap (λ (v : Cell). is_top v.flag) (sym old) ∙ ap is_top f.over) put_there f.top
            (f.own ∙ sym f.over_own ∙ ap (λ (v : Cell). v.number) old)
            (subst (λ (v : Cell). NameTheSame v new) old f.link)
        put (IsPut.over f) =
            let old : f.old ≡ version = is_old f.old c one f.stands in
            let by = allows-over at whole.order.upheld whole.order.numbered whole.order.original actor number c new g seen (stamps_after shape file before cut) own.sees.sees f in
            CellFate.over new (ap (λ (v : Cell). is_top v.flag) (sym old) ∙ ap is_top f.over) put_there f.top
            (ap held f.own ∙ others-unheld shape file before legal whole simulated actor owner number e apart t open_is content cut own 0 0 page f.t f.open_is) by.linked
            (moved_there by.below f.over) (ap (λ (v : Cell). is_committed_in seen v.number) (sym old) ∙ by.committed)
          where
            -- The moved one stands elsewhere.
            moved_there : cell_at seen new.back_page new.back_cell ≡ Some (record f.old { flag = flag.Back }) → f.old.flag ≡ flag.Primary → cell_at after new.back_page new.back_cell ≡ Some (as_back version)
            moved_there below primary = by_page (new.back_page == number) refl where
              old : f.old ≡ version
              old = is_old f.old c one f.stands

              as_is : Some (record f.old { flag = flag.Back }) ≡ Some (as_back version)
              as_is = ap (λ (v : Cell). Some (as_back v)) old

              other_cell : new.back_page ≡ number → new.back_cell ≡ c → ⊥
              other_cell here place =
                  let both : Some (record f.old { flag = flag.Back }) ≡ Some f.old = sym below ∙ ap (λ q. cell_at seen q new.back_cell) here ∙ ap (cell_at seen number) place
                  ∙ stands-seen at actor number seen (stamps_after shape file before cut) own.sees.sees c f.old f.stands in
                  let flags : flag.Back ≡ flag.Primary = ap (λ (v : Cell). v.flag) (same_Some _ f.old both) ∙ primary in
                  absurd cc

              by_page : (b : Bool) → new.back_page == number ≡ b → cell_in (if b then Some content else seen new.back_page) new.back_cell ≡ Some (as_back version)
              by_page false other = below ∙ as_is
              by_page true here =
                  cells-put shape c new (seen number) content fits new.back_cell
                  ∙ ap (λ b. if b then Some new else cell_in (seen number) new.back_cell) (test_of_different new.back_cell c (other_cell (same_from_test new.back_page number here)))
                  ∙ ap (λ q. cell_at seen q new.back_cell) (sym (same_from_test new.back_page number here)) ∙ below ∙ as_is
        put (IsPut.backout f) =
            let old : f.old ≡ version = is_old f.old c one f.stands in
            CellFate.taken new (ap (λ (v : Cell). is_top v.flag) (sym old) ∙ f.over) same
            (is_e ∙ ap (λ k. edit.PutCell k new) (sym one)) put_there (subst (λ k. IsBackout at number k new) (sym one) f)
        put (IsPut.cut f) =
            absurd (clash (held version.number) (ap (λ (v : Cell). held v.number) (sym (is_old f.old c one f.stands)) ∙ f.settled.held owner t open_is) unheld)

      module _ (c : ℕ) (g : GuardOfEdit at actor number (edit.ClearCell c)) (one : cell ≡ c) where
        cleared : IsClearing at number c → ⊥
        cleared (IsClearing.backout old there first dead alone) = some_link (ap (λ (v : Cell). v.back_page) (sym (is_old old c one there)) ∙ alone)
        cleared (IsClearing.deleted old there first settled) =
            clash (held version.number) (ap (λ (v : Cell). held v.number) (sym (is_old old c one there)) ∙ settled.held owner t open_is) unheld
        cleared (IsClearing.unreached old there value none) = go shown where
          go : (is_top version.flag ≡ true) ⊎ IsLinked seen page cell → ⊥
          go (inl first) = clash (is_top version.flag) first (top_of_back version.flag (ap (λ (v : Cell). is_back v.flag) (sym (is_old old c one there)) ∙ value))
          go (inr link) =
              (clears-unnamed at whole.order actor number c g seen (stamps_after shape file before cut) own.sees.sees).unnamed
              (subst (IsLinked seen number) one (subst (λ q. IsLinked seen q cell) same link))

    pub cell-fate : Its
    cell-fate = by-edit e refl own.sees.guard own.sees.fits where
      other_place : (c : ℕ) (o : Option Cell) → page ≡ number → cell == c ≡ false → cell_in (Some content) cell ≡ (if cell == c then o else cell_in (seen number) cell) → Its
      other_place c o same other is =
          CellFate.stays (now same (Some version) (is ∙ ap (λ b. if b then o else cell_in (seen number) cell) other ∙ ap (λ q. cell_at seen q cell) (sym same) ∙ stands))

      by-edit : (some : Edit) → e ≡ some → GuardOfEdit at actor number some → Fits shape some (seen number) content → Its
      by-edit (edit.PutCell c new) is g fits = go (page == number) refl (cell == c) refl where
        go : (a : Bool) → page == number ≡ a → (b : Bool) → cell == c ≡ b → Its
        go false other b is_b = elsewhere other
        go true here false other = other_place c (Some new) (same_from_test page number here) other (cells-put shape c new (seen number) content fits cell)
        go true here true one = put (same_from_test page number here) c new g fits is (same_from_test cell c one) g.row
      by-edit (edit.ClearCell c) is g fits = go (page == number) refl (cell == c) refl where
        go : (a : Bool) → page == number ≡ a → (b : Bool) → cell == c ≡ b → Its
        go false other b is_b = elsewhere other
        go true here false other = other_place c (Some empty_cell) (same_from_test page number here) other (cells-cleared shape c (seen number) content fits cell)
        go true here true one = absurd (cleared (same_from_test page number here) c g (same_from_test cell c one) g.row)
      by-edit (edit.Format page_kind made relation place) is g fits = go (page == number) refl where
        go : (a : Bool) → page == number ≡ a → Its
        go false other = elsewhere other
        go true here = absurd (own.sees.sees.unreached number g.leans.nowhere g.row.no_header g.row.no_inventory (subst (ReachesPage seen) (same_from_test page number here) reached))
      by-edit some is g fits =
          CellFate.stays (cells-same shape file before legal whole simulated actor owner number e apart t open_is content cut own 0 0 page (subst (λ x. leaves_cells x ≡ true) (sym is) refl) cell ∙ stands)
