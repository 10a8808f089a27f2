-- Whoever names a cell on a reader's way, somebody names it still after an edit of another.
use Rattle.std.proofs.Common.{◌≡◌, ◌≢◌, ◌∙◌, ◌==◌, ◌⊎◌, inl, inr, ℕ, Bool, true, false, if◌then◌else◌, Some, refl, sym, ap, subst}
use Rattle.std.proofs.lemmas.Option.{same_Some}
use Rattle.fbc_kinds.specs.declared.edits.Edit.{Edit}
use Rattle.fbc_kinds.specs.declared.edits.Edit.TheVariants as edit
use Rattle.fbc_kinds.specs.declared.pages.Cell.{Cell}
use Rattle.fbc_kinds.specs.declared.pages.Page.{Page}
use Rattle.fbc_kinds.specs.declared.shapes.Shape.{Shape}
use Rattle.fbc_kinds.specs.declared.snapshots.Transaction.{Transaction}
use Rattle.fbc_kinds.specs.Machine.{is_held}
use Rattle.fbc_kinds.specs.Reach.{DataRole, LinksTo, NamesBack, Reaches, ReachesCell}
use Rattle.fbc_kinds.specs.Sound.{IsBackValue}
use Rattle.fbc_kinds.specs.View.{View, cell_at, is_back, is_top}
use Rattle.fbc_kinds.proofs.Tests.{differ_from_test, test_of_different}
use Rattle.fbc_page_edits.specs.Edited.{with_page}
use Rattle.fbc_page_edits.specs.Facing.{HasNoVersion, IsLinked, NameTheSame}
use Rattle.fbc_version_edits.specs.Forms.{IsRaised, NamesNone}
use Rattle.fbc_version_edits.proofs.Flags.{top_of_back, top_of_empty}
use Rattle.fbc_world.specs.History.{History}
use Rattle.fbc_world.specs.World.{world_of}
use Rattle.fbc_legal.specs.Facts.{HasNoVersion as HasNoVersionIn}
use Rattle.fbc_legal.specs.Guards.{GuardOfEdit}
use Rattle.fbc_legal.specs.Leans.{LeansOn, UnnameLeans}
use Rattle.fbc_legal.specs.Legal.{IsLegal}
use Rattle.fbc_legal.specs.Rows.{IsBackout, IsSettled, as_back}
use Rattle.fbc_legal.specs.Scene.{Scene, born_at, newest_at, scene_of}
use Rattle.fbc_legal.specs.Stamps.{Stamps, newest_stamps}
use Rattle.fbc_closed_cuts.specs.Cut.{Cut, view}
use Rattle.fbc_closed_cuts.proofs.LeansSeen.{lean-seen}
use Rattle.fbc_numbers.specs.Numbers.{is_committed_in}
use Rattle.fbc_numbers.proofs.CutFacts.{clash}
use Rattle.fbc_origins.proofs.CutsNext.{cuts-in-views}
use Rattle.fbc_closed_cuts.specs.Views.{view_stamps}
use Rattle.fbc_origins.proofs.PutPages.{IsPutPage, every_draft, newest-closed, newest-view, put-page, put-reached}
use Rattle.fbc_origins.proofs.PutsAllowed.{allows-backout}
use Rattle.fbc_origins.proofs.Seeing.{stands-seen}
use Rattle.fbc_soundness.specs.Whole.{IsWhole}
use Rattle.fbc_simulation.specs.Simulated.{IsSimulated}
use Rattle.fbc_firm_facts.specs.EditLeaves.{IsOwnViewOfEdit, stamps_after}
use Rattle.fbc_firm_facts.specs.Standing.{IsLinkedBelow, LeadsUnheld}
use Rattle.fbc_firm_facts.proofs.CellsForReader.{CellFate, cell-fate}
use Rattle.fbc_firm_facts.proofs.GroundStays.{named-on}
use Rattle.fbc_firm_facts.proofs.SeeDown.{led-reached, link-of}

-- Somebody names the cell in a view: the version itself, or one of its number, which is committed in the view before.
pub record IsNamedStill (seen after : View) (held : ℕ → Bool) (relation sequence place page cell : ℕ) (version : Cell) (back_page back_cell : ℕ) : Type 0 where
  pub other_page : ℕ
  pub other_cell : ℕ
  pub other : Cell
  pub leads : LeadsUnheld after held relation sequence place other_page other_cell
  pub stands : cell_at after other_page other_cell ≡ Some other
  pub same : other.number ≡ version.number
  pub names : NamesBack other back_page back_cell
  pub sure : ((other_page ≡ page) × (other_cell ≡ cell)) ⊎ (is_committed_in seen version.number ≡ true)

-- The version is the row's top, and is taken back.
pub record IsTakenBack (shape : Shape) (file : View) (before : History) (number : ℕ) (e : Edit) (seen after : View) (relation sequence place page cell : ℕ) (version : Cell) : Type 0 where
  pub new : Cell
  pub at_place : cell ≡ place
  pub reached : Reaches seen (DataRole relation sequence) page
  pub first : is_top version.flag ≡ true
  pub same : page ≡ number
  pub is : e ≡ edit.PutCell cell new
  pub there : cell_at after page cell ≡ Some new
  pub backout : IsBackout (scene_of shape file before) number cell new

same_link : (version new : Cell) (back_page back_cell : ℕ) → NameTheSame version new → NamesBack version back_page back_cell → NamesBack new back_page back_cell
same_link version new back_page back_cell link names =
    record { some = ap (λ n. n == 0) link.page ∙ names.some; page_is = link.page ∙ names.page_is; cell_is = link.cell ∙ names.cell_is }

module _ (shape : Shape) (file : View) (before : History) (legal : IsLegal shape file before) (whole : IsWhole (scene_of shape file before)) (simulated : IsSimulated (scene_of shape file before))
    (actor owner number : ℕ) (e : Edit) (apart : actor ≢ owner) (t : Transaction) (open_is : (world_of shape file before).transaction owner ≡ Some t)
    (content : Page) (cut : Cut) (own : IsOwnViewOfEdit shape file before actor number e owner content cut) (relation sequence place : ℕ) where
  abbrev at : Scene
  at = scene_of shape file before

  abbrev seen : View
  seen = view at.world cut

  abbrev after : View
  after = with_page seen number content

  abbrev held : ℕ → Bool
  held = is_held t.snapshot

  abbrev Led : ℕ → ℕ → Type 0
  Led page cell = LeadsUnheld seen held relation sequence place page cell

  abbrev Fate : ℕ → ℕ → Cell → ℕ → ℕ → Type 0
  Fate page cell version back_page back_cell =
      IsNamedStill seen after held relation sequence place page cell version back_page back_cell
      ⊎ IsTakenBack shape file before number e seen after relation sequence place page cell version

  -- A page with a top stays named.
  top-named : (page cell : ℕ) (version : Cell) → Reaches seen (DataRole relation sequence) page → cell_at seen page cell ≡ Some version → is_top version.flag ≡ true → Reaches after (DataRole relation sequence) page
  top-named page cell version reached stands first =
      named-on shape file before legal whole simulated actor owner number e apart t open_is content cut own relation sequence page reached
      (λ slot unnames names.
      let leans : UnnameLeans at actor number page = subst (LeansOn at actor number) unnames own.sees.guard.leans page names in
      let empty : HasNoVersion seen page = lean-seen at actor number seen (stamps_after shape file before cut) own.sees.sees HasNoVersionIn page leans.empty in
      clash (is_top version.flag) first (top_of_empty version.flag (empty cell version stands)))

  linked : (upper_page upper_cell page cell : ℕ) (upper : Cell) → Led upper_page upper_cell → cell_at seen upper_page upper_cell ≡ Some upper → NamesBack upper page cell → IsLinked seen page cell
  linked upper_page upper_cell page cell upper leads stands names = record {
    relation = relation;
    from_page = upper_page;
    from_cell = upper_cell;
    version = upper;
    links = record { reached = led-reached seen own.sees.sound held relation sequence place upper_page upper_cell leads; stands = stands; names = names };
  }

  -- A version that is named is no top.
  no-top : (upper_page upper_cell page cell : ℕ) (upper version : Cell) → Led upper_page upper_cell → cell_at seen upper_page upper_cell ≡ Some upper → NamesBack upper page cell → cell_at seen page cell ≡ Some version → is_top version.flag ≡ true → ⊥
  no-top upper_page upper_cell page cell upper version leads stands names here first =
      let link : IsBackValue seen relation page cell upper.number = link-of seen own.sees.sound held relation sequence place upper_page upper_cell upper leads stands page cell names in
      clash (is_top version.flag) first
      (top_of_back version.flag (ap (λ (v : Cell). is_back v.flag) (same_Some version link.back (sym here ∙ link.stands)) ∙ link.is_value))

  -- The row's own cell.
  first-fate : (page cell : ℕ) (version : Cell) (back_page back_cell : ℕ) → cell ≡ place → Reaches seen (DataRole relation sequence) page → cell_at seen page cell ≡ Some version → is_top version.flag ≡ true
      → held version.number ≡ false → NamesBack version back_page back_cell → Fate page cell version back_page back_cell
  first-fate page cell version back_page back_cell at_place reached stands first unheld names =
      go (cell-fate shape file before legal whole simulated actor owner number e apart t open_is content cut own page cell version stands (DataRole relation sequence, reached) (inl first) unheld back_page back_cell names)
    where
      still : Reaches after (DataRole relation sequence) page
      still = top-named page cell version reached stands first

      go : CellFate shape file before number e held seen after page cell version → Fate page cell version back_page back_cell
      go (CellFate.stays is) =
          inl (record { other_page = page; other_cell = cell; other = version; leads = LeadsUnheld.begins page cell version at_place still is first; stands = is; same = refl; names = names; sure = inl (refl, refl) })
      go (CellFate.again new top is new_top same link) =
          inl (record { other_page = page; other_cell = cell; other = new; leads = LeadsUnheld.begins page cell new at_place still is new_top; stands = is; same = same; names = same_link version new back_page back_cell link names; sure = inl (refl, refl) })
      go (CellFate.over new top is new_top new_unheld some below committed) =
          inl (record {
            other_page = new.back_page;
            other_cell = new.back_cell;
            other = as_back version;
            leads = LeadsUnheld.goes_on page cell new.back_page new.back_cell new (LeadsUnheld.begins page cell new at_place still is new_top) is new_unheld (record { some = some; page_is = refl; cell_is = refl });
            stands = below;
            same = refl;
            names = record { some = names.some; page_is = names.page_is; cell_is = names.cell_is };
            sure = inr committed;
          })
      go (CellFate.taken new top same is there backout) =
          inr (record { new = new; at_place = at_place; reached = reached; first = first; same = same; is = is; there = there; backout = backout })

  -- A version that is taken back is not committed.
  module _ (page cell : ℕ) (version : Cell) (stands : cell_at seen page cell ≡ Some version) (taken : IsTakenBack shape file before number e seen after relation sequence place page cell version) where
    abbrev taken-guard : GuardOfEdit at actor number (edit.PutCell cell taken.new)
    taken-guard = subst (λ x. GuardOfEdit at actor number x) taken.is own.sees.guard

    taken-old : taken.backout.old ≡ version
    taken-old =
        same_Some taken.backout.old version
        (sym (stands-seen at actor number seen (stamps_after shape file before cut) own.sees.sees cell taken.backout.old taken.backout.stands) ∙ ap (λ q. cell_at seen q cell) (sym taken.same) ∙ stands)

    taken-uncommitted : is_committed_in seen version.number ≡ false
    taken-uncommitted =
        ap (λ (v : Cell). is_committed_in seen v.number) (sym taken-old)
        ∙ (allows-backout at whole.order.upheld whole.order.numbered whole.order.original actor number cell taken.new taken-guard seen (stamps_after shape file before cut) own.sees.sees taken.backout).uncommitted

  -- Under a top that is taken back the version below it comes up with its link.
  module _ (upper_page upper_cell page cell : ℕ) (upper version : Cell) (leads : Led upper_page upper_cell) (upper_stands : cell_at seen upper_page upper_cell ≡ Some upper) (upper_names : NamesBack upper page cell)
      (stands : cell_at seen page cell ≡ Some version) (unheld : held version.number ≡ false) (back_page back_cell : ℕ) (names : NamesBack version back_page back_cell) where
    link : LinksTo seen relation upper_page upper_cell upper page cell
    link = record { reached = led-reached seen own.sees.sound held relation sequence place upper_page upper_cell leads; stands = upper_stands; names = upper_names }

    module _ (taken : IsTakenBack shape file before number e seen after relation sequence place upper_page upper_cell upper) where
      abbrev g : GuardOfEdit at actor number (edit.PutCell upper_cell taken.new)
      g = taken-guard upper_page upper_cell upper upper_stands taken

      abbrev f : IsBackout at number upper_cell taken.new
      f = taken.backout

      old_is : f.old ≡ upper
      old_is = taken-old upper_page upper_cell upper upper_stands taken

      old_link : LinksTo seen relation number upper_cell f.old f.old.back_page f.old.back_cell
      old_link =
          subst (λ q. LinksTo seen relation q upper_cell f.old f.old.back_page f.old.back_cell) taken.same
          (subst (λ (v : Cell). LinksTo seen relation upper_page upper_cell v v.back_page v.back_cell) (sym old_is)
          (record { reached = link.reached; stands = upper_stands; names = record { some = upper_names.some; page_is = refl; cell_is = refl } }))

      raised : IsRaised seen taken.new f.old.back_page f.old.back_cell
      raised = (allows-backout at whole.order.upheld whole.order.numbered whole.order.original actor number upper_cell taken.new g seen (stamps_after shape file before cut) own.sees.sees f).raised relation old_link

      page_is : f.old.back_page ≡ page
      page_is = ap (λ (v : Cell). v.back_page) old_is ∙ upper_names.page_is

      cell_is : f.old.back_cell ≡ cell
      cell_is = ap (λ (v : Cell). v.back_cell) old_is ∙ upper_names.cell_is

      below_is : raised.below ≡ version
      below_is = same_Some raised.below version (sym raised.stands ∙ ap (λ q. cell_at seen q f.old.back_cell) page_is ∙ ap (cell_at seen page) cell_is ∙ stands)

      abbrev p : IsPutPage at actor number upper_cell taken.new
      p = put-page at actor number upper_cell taken.new g

      -- What the top meant stands in the newest pages too.
      newest-meant : (newest_stamps at.world at.stamps number).meant upper_cell ≡ born_at at f.old.back_page f.old.back_cell
      newest-meant = ap (λ (s : Stamps). s.meant upper_cell) (sym (same_stamps number)) ∙ meant_in ∙ ap (λ (s : Stamps). s.born f.old.back_cell) (same_stamps f.old.back_page) where
        newest_link : LinksTo (newest_at at) p.data_page.relation number upper_cell f.old f.old.back_page f.old.back_cell
        newest_link = record {
          reached = ReachesCell.top p.data_page.sequence number upper_cell f.old (put-reached at actor number upper_cell taken.new g whole.order.upheld) f.stands f.over;
          stands = f.stands;
          names = record { some = test_of_different f.old.back_page 0 f.linked; page_is = refl; cell_is = refl };
        }

        meant_in : (view_stamps at.world at.stamps (every_draft at.world) number).meant upper_cell ≡ (view_stamps at.world at.stamps (every_draft at.world) f.old.back_page).born f.old.back_cell
        meant_in = whole.order.original.meant (every_draft at.world) (newest-closed at.world) p.data_page.relation number upper_cell f.old.back_page f.old.back_cell f.old
            (subst (λ (v : View). LinksTo v p.data_page.relation number upper_cell f.old f.old.back_page f.old.back_cell) (sym (newest-view at.world)) newest_link)

        same_stamps : (q : ℕ) → view_stamps at.world at.stamps (every_draft at.world) q ≡ newest_stamps at.world at.stamps q
        same_stamps q = pick (every_draft at.world q) (at.stamps.draft q) (at.stamps.kept q) where
          pick : (c : Bool) (x y : Stamps) → (if c then (if c then x else y) else y) ≡ (if c then x else y)
          pick true x y = refl
          pick false x y = refl

      one_born : (stamps_after shape file before cut f.old.back_page).born f.old.back_cell ≡ born_at at f.old.back_page f.old.back_cell
      one_born =
          sym (whole.order.original.meant cut own.own.closed relation number upper_cell f.old.back_page f.old.back_cell f.old old_link)
          ∙ ap (λ (s : Stamps). s.meant upper_cell) own.sees.sees.edited_page.stamps
          ∙ newest-meant

      -- It has its link, since it is not settled.
      keeps_link : NamesNone taken.new ⊎ NameTheSame raised.below taken.new → NameTheSame version taken.new
      keeps_link (inr same) = subst (λ (v : Cell). NameTheSame v taken.new) below_is same
      keeps_link (inl none) =
          let settled : IsSettled at f.back.number =
          cuts-in-views at whole.cuts cut f.old.back_page f.old.back_cell raised.below f.back raised.stands f.below one_born
          (λ zero. differ_from_test version.back_page 0 names.some (ap (λ (v : Cell). v.back_page) (sym below_is) ∙ zero))
          (sym (ap (λ (v : Cell). v.back_page) f.same) ∙ none) in
          let same : f.back.number ≡ version.number = sym (ap (λ (v : Cell). v.number) f.same) ∙ raised.same_number ∙ ap (λ (v : Cell). v.number) below_is in
          absurd (clash (held version.number) (ap held (sym same) ∙ settled.held owner t open_is) unheld)

      raised-named : IsNamedStill seen after held relation sequence place page cell version back_page back_cell
      raised-named = record {
        other_page = upper_page;
        other_cell = upper_cell;
        other = taken.new;
        leads = LeadsUnheld.begins upper_page upper_cell taken.new taken.at_place (top-named upper_page upper_cell upper taken.reached upper_stands taken.first) taken.there (ap (λ (v : Cell). is_top v.flag) f.same);
        stands = taken.there;
        same = raised.same_number ∙ ap (λ (v : Cell). v.number) below_is;
        names = same_link version taken.new back_page back_cell (keeps_link raised.link) names;
        sure = inr (own.sees.sound.below relation upper_page upper_cell page cell upper version link stands);
      }

    next-fate : held upper.number ≡ false → Fate upper_page upper_cell upper page cell → Fate page cell version back_page back_cell
    next-fate upper_unheld (inr taken) = inl (raised-named taken)
    next-fate upper_unheld (inl n) =
        go (cell-fate shape file before legal whole simulated actor owner number e apart t open_is content cut own page cell version stands (DataRole relation value.sequence, value.named)
        (inr (linked upper_page upper_cell page cell upper leads upper_stands upper_names)) unheld back_page back_cell names)
      where
        value : IsBackValue seen relation page cell upper.number
        value = link-of seen own.sees.sound held relation sequence place upper_page upper_cell upper leads upper_stands page cell upper_names

        not_first : is_top version.flag ≡ true → ⊥
        not_first = no-top upper_page upper_cell page cell upper version leads upper_stands upper_names stands

        go : CellFate shape file before number e held seen after page cell version → Fate page cell version back_page back_cell
        go (CellFate.stays is) =
            inl (record { other_page = page; other_cell = cell; other = version; leads = LeadsUnheld.goes_on n.other_page n.other_cell page cell n.other n.leads n.stands (ap held n.same ∙ upper_unheld) n.names; stands = is; same = refl; names = names; sure = inl (refl, refl) })
        go (CellFate.again new top is new_top same same_one) = absurd (not_first top)
        go (CellFate.over new top is new_top new_unheld some below committed) = absurd (not_first top)
        go (CellFate.taken new top same is there backout) = absurd (not_first top)

  namer : (page cell : ℕ) → Led page cell → (version : Cell) → cell_at seen page cell ≡ Some version → held version.number ≡ false → (back_page back_cell : ℕ) → NamesBack version back_page back_cell
      → Fate page cell version back_page back_cell
  namer page cell (LeadsUnheld.begins _ _ found at_place reached stands first) version here unheld back_page back_cell names =
      first-fate page cell version back_page back_cell at_place reached here (subst (λ (v : Cell). is_top v.flag ≡ true) (same_Some found version (sym stands ∙ here)) first) unheld names
  namer page cell (LeadsUnheld.goes_on upper_page upper_cell _ _ upper leads stands upper_unheld upper_names) version here unheld back_page back_cell names =
      next-fate upper_page upper_cell page cell upper version leads stands upper_names here unheld back_page back_cell names upper_unheld
      (namer upper_page upper_cell leads upper stands upper_unheld page cell upper_names)

  module _ (commits : (n : ℕ) → is_committed_in seen n ≡ true → is_committed_in after n ≡ true) (pinned_page pinned_cell : ℕ) (elsewhere : pinned_page ≡ number → ⊥) where
    pub linked-still : (back_page back_cell version_number : ℕ) → IsLinkedBelow seen held relation sequence place version_number pinned_page pinned_cell back_page back_cell
        → IsLinkedBelow after held relation sequence place version_number pinned_page pinned_cell back_page back_cell
    linked-still back_page back_cell version_number by = go (namer by.page by.cell by.leads by.version by.stands by.unheld back_page back_cell by.names) by.sure where
      made : (n : IsNamedStill seen after held relation sequence place by.page by.cell by.version back_page back_cell)
          → ((n.other_page ≡ pinned_page) × (n.other_cell ≡ pinned_cell)) ⊎ (is_committed_in after n.other.number ≡ true)
          → IsLinkedBelow after held relation sequence place version_number pinned_page pinned_cell back_page back_cell
      made n sure = record {
        page = n.other_page;
        cell = n.other_cell;
        version = n.other;
        leads = n.leads;
        stands = n.stands;
        same = n.same ∙ by.same;
        unheld = ap held n.same ∙ by.unheld;
        names = n.names;
        sure = sure;
      }

      by_commit : (n : IsNamedStill seen after held relation sequence place by.page by.cell by.version back_page back_cell) → is_committed_in seen by.version.number ≡ true → is_committed_in after n.other.number ≡ true
      by_commit n is = commits n.other.number (ap (is_committed_in seen) n.same ∙ is)

      go : Fate by.page by.cell by.version back_page back_cell → ((by.page ≡ pinned_page) × (by.cell ≡ pinned_cell)) ⊎ (is_committed_in seen by.version.number ≡ true)
          → IsLinkedBelow after held relation sequence place version_number pinned_page pinned_cell back_page back_cell
      go (inl n) (inr committed) = made n (inr (by_commit n committed))
      go (inl n) (inl pinned) = itself n.sure where
        itself : ((n.other_page ≡ by.page) × (n.other_cell ≡ by.cell)) ⊎ (is_committed_in seen by.version.number ≡ true) → IsLinkedBelow after held relation sequence place version_number pinned_page pinned_cell back_page back_cell
        itself (inl same) = made n (inl (same.0 ∙ pinned.0, same.1 ∙ pinned.1))
        itself (inr committed) = made n (inr (by_commit n committed))
      go (inr taken) (inl pinned) = absurd (elsewhere (sym pinned.0 ∙ taken.same))
      go (inr taken) (inr committed) = absurd (uncommitted taken committed) where
        uncommitted : IsTakenBack shape file before number e seen after relation sequence place by.page by.cell by.version → is_committed_in seen by.version.number ≡ true → ⊥
        uncommitted b is = clash (is_committed_in seen by.version.number) is (taken-uncommitted by.page by.cell by.version by.stands b)
