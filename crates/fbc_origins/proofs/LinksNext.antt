-- Links of every view are meant by its stamps, after each event.
use Rattle.std.proofs.Common.{◌≡◌, ◌∙◌, ◌==◌, ℕ, Bool, true, false, Option, Some, None, refl, sym, ap, subst}
use Rattle.fbc_kinds.specs.declared.edits.Edit.{Edit}
use Rattle.fbc_kinds.specs.declared.edits.Edit.TheVariants as edit
use Rattle.fbc_kinds.specs.declared.pages.Cell.{Cell}
use Rattle.fbc_kinds.specs.declared.pages.Page.{Page}
use Rattle.fbc_kinds.specs.declared.pages.Page.TheVariants as kind
use Rattle.fbc_kinds.specs.DataSpelling.{empty_cell}
use Rattle.fbc_kinds.specs.Reach.{DataRole, LinksTo, NamesBack, ReachesPage}
use Rattle.fbc_kinds.specs.Sound.{IsSound}
use Rattle.fbc_kinds.specs.View.{View}
use Rattle.fbc_kinds.proofs.Tests.{differ_from_test, same_from_test}
use Rattle.fbc_page_edits.specs.Alike.{HasNoMoreLinks}
use Rattle.fbc_page_edits.specs.Allowed.{Fits}
use Rattle.fbc_page_edits.specs.Edited.{with_page}
use Rattle.fbc_page_edits.specs.Facing.{IsLinked}
use Rattle.fbc_page_edits.proofs.OffReach.{off_reach_alike}
use Rattle.fbc_page_edits.proofs.SameVersions.{reached_holds}
use Rattle.fbc_world.specs.World.{page_after}
use Rattle.fbc_legal.specs.Guards.{GuardOfEdit}
use Rattle.fbc_legal.specs.Scene.{Scene}
use Rattle.fbc_legal.specs.Stamps.{Stamps, newest_stamps, stamped}
use Rattle.fbc_version_edits.specs.Differences.{IsPlace}
use Rattle.fbc_version_edits.specs.Puts.{IsClearIn, IsPutIn}
use Rattle.fbc_version_edits.proofs.NoLinkForms.{no_link_clear}
use Rattle.fbc_version_edits.proofs.NoNewLinks.{names_none, no_more_links}
use Rattle.fbc_version_edits.proofs.OneCell.{IsOneCell, is_new, one_cell_cleared}
use Rattle.fbc_origins.specs.Owed.{IsInOrder, LinksStay, leaves_cells}
use Rattle.fbc_origins.proofs.ClearsAllowed.{IsUnnamed, clears-unnamed}
use Rattle.fbc_origins.proofs.Meant.{AreMeant}
use Rattle.fbc_origins.proofs.NewestFits.{newest-fits}
use Rattle.fbc_origins.proofs.NewLinks.{puts-meant}
use Rattle.fbc_origins.proofs.PutPages.{put-page}
use Rattle.fbc_origins.proofs.PutsAllowed.{page-seen}
use Rattle.fbc_origins.proofs.Seeing.{seen-shape, seen-sound}
use Rattle.fbc_origins.proofs.ViewsNext.{IsEditedView}

-- An edit of what is no cell leaves the stamps of all cells.
pub plain_born : (stamp : ℕ) (born : ℕ → ℕ → ℕ) (old : Option Page) (e : Edit) (s : Stamps) → leaves_cells e ≡ true → (c : ℕ) → (stamped stamp born old e s).born c ≡ s.born c
plain_born stamp born old (edit.PutCell cell content) s leaves c = cc
plain_born stamp born old (edit.ClearCell cell) s leaves c = cc
plain_born stamp born old (edit.Format k page relation sequence) s leaves c = cc
plain_born stamp born old _ s leaves c = refl

pub plain_meant : (stamp : ℕ) (born : ℕ → ℕ → ℕ) (old : Option Page) (e : Edit) (s : Stamps) → leaves_cells e ≡ true → (c : ℕ) → (stamped stamp born old e s).meant c ≡ s.meant c
plain_meant stamp born old (edit.PutCell cell content) s leaves c = cc
plain_meant stamp born old (edit.ClearCell cell) s leaves c = cc
plain_meant stamp born old (edit.Format k page relation sequence) s leaves c = cc
plain_meant stamp born old _ s leaves c = refl

-- The pages of a link are reached.
from_reached : (seen : View) → IsSound seen → (relation page cell back_page back_cell : ℕ) (version : Cell) → LinksTo seen relation page cell version back_page back_cell → ReachesPage seen page
from_reached seen sound relation page cell back_page back_cell version link = let holder = reached_holds seen sound relation page cell link.reached in (DataRole relation holder.sequence, holder.is.named)

to_reached : (seen : View) → IsSound seen → (relation page cell back_page back_cell : ℕ) (version : Cell) → LinksTo seen relation page cell version back_page back_cell → ReachesPage seen back_page
to_reached seen sound relation page cell back_page back_cell version link = let value = sound.back relation page cell back_page back_cell version link in (DataRole relation value.sequence, value.named)

module _ (at : Scene) (order : IsInOrder at) (owner page : ℕ) (content : Page) (seen : View) (stamps : ℕ → Stamps) (after : View) (later : ℕ → Stamps) (was : AreMeant seen stamps) where
  abbrev next : View
  next = with_page seen page content

  abbrev news : Stamps
  news = newest_stamps at.world at.stamps page

  -- What is no cell is edited.
  plain-meant : (e : Edit) → IsEditedView at owner page e content seen stamps after later → leaves_cells e ≡ true → HasNoMoreLinks seen next → AreMeant next later
  plain-meant e v leaves links relation from_page from_cell back_page back_cell version link =
      meant_same from_page from_cell (from_page == page) refl
      ∙ was relation from_page from_cell back_page back_cell version (links relation from_page from_cell back_page back_cell version link)
      ∙ sym (born_same back_page back_cell (back_page == page) refl)
    where
      born_same : (q c : ℕ) (b : Bool) → (q == page) ≡ b → (later q).born c ≡ (stamps q).born c
      born_same q c false apart = ap (λ (s : Stamps). s.born c) (v.others q (differ_from_test q page apart))
      born_same q c true same = subst (λ n. (later n).born c ≡ (stamps n).born c) (sym (same_from_test q page same))
          (ap (λ (s : Stamps). s.born c) v.now ∙ plain_born _ _ _ e news leaves c ∙ ap (λ (s : Stamps). s.born c) (sym v.sees.edited_page.stamps))

      meant_same : (q c : ℕ) (b : Bool) → (q == page) ≡ b → (later q).meant c ≡ (stamps q).meant c
      meant_same q c false apart = ap (λ (s : Stamps). s.meant c) (v.others q (differ_from_test q page apart))
      meant_same q c true same = subst (λ n. (later n).meant c ≡ (stamps n).meant c) (sym (same_from_test q page same))
          (ap (λ (s : Stamps). s.meant c) v.now ∙ plain_meant _ _ _ e news leaves c ∙ ap (λ (s : Stamps). s.meant c) (sym v.sees.edited_page.stamps))

  -- A page that is not reached is made.
  format-meant : (e : Edit) → IsEditedView at owner page e content seen stamps after later → ¬ ReachesPage seen page → AreMeant next later
  format-meant e v off relation from_page from_cell back_page back_cell version link =
      ap (λ (s : Stamps). s.meant from_cell) (v.others from_page (not_it from_page (from_reached seen sound relation from_page from_cell back_page back_cell version there)))
      ∙ was relation from_page from_cell back_page back_cell version there
      ∙ sym (ap (λ (s : Stamps). s.born back_cell) (v.others back_page (not_it back_page (to_reached seen sound relation from_page from_cell back_page back_cell version there))))
    where
      sound : IsSound seen
      sound = seen-sound at owner page seen stamps v.sees order.upheld

      there : LinksTo seen relation from_page from_cell version back_page back_cell
      there = (off_reach_alike seen page content off sound).links relation from_page from_cell back_page back_cell version link

      not_it : (q : ℕ) → ReachesPage seen q → ¬ (q ≡ page)
      not_it q reached same = off (subst (ReachesPage seen) same reached)

  -- A cell is cleared that none names.
  clear-meant : (cell : ℕ) → IsEditedView at owner page (edit.ClearCell cell) content seen stamps after later → (clear : IsClearIn at.shape seen page cell content) → IsUnnamed seen page cell → AreMeant next later
  clear-meant cell v clear unnamed relation from_page from_cell back_page back_cell version link =
      (elsewhere from_page from_cell from_apart).1 ∙ was relation from_page from_cell back_page back_cell version there ∙ sym (elsewhere back_page back_cell to_apart).0
    where
      one : IsOneCell seen next page cell unnamed.old empty_cell
      one = one_cell_cleared clear unnamed.stands

      there : LinksTo seen relation from_page from_cell version back_page back_cell
      there = no_more_links clear.sound one (no_link_clear clear.sound page cell unnamed.old unnamed.unnamed) (λ r bp bc reached names. names_none empty_cell bp bc refl names) relation from_page from_cell back_page back_cell version link

      from_apart : ¬ IsPlace page cell from_page from_cell
      from_apart place = names_none empty_cell back_page back_cell refl (subst (λ (w : Cell). NamesBack w back_page back_cell) (is_new one from_page from_cell version place link.stands) link.names)

      to_apart : ¬ IsPlace page cell back_page back_cell
      to_apart place =
          unnamed.unnamed (subst (λ c. IsLinked seen page c) place.1 (subst (λ q. IsLinked seen q back_cell) place.0 (record { relation = relation; from_page = from_page; from_cell = from_cell; version = version; links = there })))

      on_page : (c : ℕ) → (c == cell) ≡ false → ((later page).born c ≡ (stamps page).born c) × ((later page).meant c ≡ (stamps page).meant c)
      on_page c other = (
        ap (λ (s : Stamps). s.born c) v.now ∙ rw other refl ∙ ap (λ (s : Stamps). s.born c) (sym v.sees.edited_page.stamps),
        ap (λ (s : Stamps). s.meant c) v.now ∙ rw other refl ∙ ap (λ (s : Stamps). s.meant c) (sym v.sees.edited_page.stamps),
      )

      elsewhere : (q c : ℕ) → ¬ IsPlace page cell q c → ((later q).born c ≡ (stamps q).born c) × ((later q).meant c ≡ (stamps q).meant c)
      elsewhere q c differ = go (q == page) refl (c == cell) refl where
        go : (a : Bool) → (q == page) ≡ a → (b : Bool) → (c == cell) ≡ b → ((later q).born c ≡ (stamps q).born c) × ((later q).meant c ≡ (stamps q).meant c)
        go false apart b is = (ap (λ (s : Stamps). s.born c) (v.others q (differ_from_test q page apart)), ap (λ (s : Stamps). s.meant c) (v.others q (differ_from_test q page apart)))
        go true same true also = absurd (differ (same_from_test q page same, same_from_test c cell also))
        go true same false other = subst (λ n. ((later n).born c ≡ (stamps n).born c) × ((later n).meant c ≡ (stamps n).meant c)) (sym (same_from_test q page same)) (on_page c other)

  pub clear_in : (cell : ℕ) → IsEditedView at owner page (edit.ClearCell cell) content seen stamps after later → Fits at.shape (edit.ClearCell cell) (seen page) content → IsClearIn at.shape seen page cell content
  clear_in cell v fits = go (seen page) refl fits where
    go : (found : Option Page) → seen page ≡ found → Fits at.shape (edit.ClearCell cell) found content → IsClearIn at.shape seen page cell content
    go (Some (kind.Data d)) is made = record { of_shape = seen-shape at owner page seen stamps v.sees order.upheld; sound = seen-sound at owner page seen stamps v.sees order.upheld; page = d; stands = is; fits = made }
    go None is made = absurd made
    go (Some _) is made = cc

  abbrev pub put_in : (cell : ℕ) (version : Cell) (g : GuardOfEdit at owner page (edit.PutCell cell version)) → IsEditedView at owner page (edit.PutCell cell version) content seen stamps after later
      → Fits at.shape (edit.PutCell cell version) (seen page) content → IsPutIn at.shape seen page cell version content
  put_in cell version g v fits =
      let there : seen page ≡ Some (kind.Data (put-page at owner page cell version g).data_page) = page-seen at order.upheld order.numbered order.original owner page cell version g seen stamps v.sees in
      record {
        of_shape = seen-shape at owner page seen stamps v.sees order.upheld;
        sound = seen-sound at owner page seen stamps v.sees order.upheld;
        page = (put-page at owner page cell version g).data_page;
        stands = there;
        fits = subst (λ (o : Option Page). Fits at.shape (edit.PutCell cell version) o content) there fits;
      }

  put_meant : (cell : ℕ) (version : Cell) → GuardOfEdit at owner page (edit.PutCell cell version) → IsEditedView at owner page (edit.PutCell cell version) content seen stamps after later
      → Fits at.shape (edit.PutCell cell version) (seen page) content → AreMeant next later
  put_meant cell version g v fits = puts-meant at order owner page cell version content g seen stamps after later v (put_in cell version g v fits) refl g.row

  pub edit-meant : (e : Edit) → GuardOfEdit at owner page e → page_after at.shape at.world owner page e ≡ Some content → LinksStay at owner page e content → IsEditedView at owner page e content seen stamps after later → AreMeant after later
  edit-meant e g is links v = subst (λ (w : View). AreMeant w later) v.pages (go e g links v (rw v.sees.edited_page.page (newest-fits at order.upheld.coherent owner page e content g is))) where
    go : (any : Edit) → GuardOfEdit at owner page any → LinksStay at owner page any content → IsEditedView at owner page any content seen stamps after later → Fits at.shape any (seen page) content → AreMeant next later
    go (edit.PutCell cell version) guard stay w fits = put_meant cell version guard w fits
    go (edit.ClearCell cell) guard stay w fits = clear-meant cell w (clear_in cell w fits) (clears-unnamed at order owner page cell guard seen stamps w.sees)
    go (edit.Format k number relation sequence) guard stay w fits =
        format-meant (edit.Format k number relation sequence) w (w.sees.unreached page guard.leans.nowhere guard.row.no_header guard.row.no_inventory)
    go _ guard stay w fits = plain-meant _ w refl (stay refl seen stamps w.sees)
