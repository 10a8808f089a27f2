-- A pinned data page stays named through every edit of another, in each view with all drafts of the pin's owner.
use Rattle.std.proofs.Common.{◌≡◌, ◌≢◌, ◌∙◌, ◌==◌, ◌/◌, ◌%◌, ℕ, Bool, true, false, if◌then◌else◌, Option, Some, None, refl, sym, ap, subst}
use Rattle.fbc_kinds.specs.declared.edits.Edit.{Edit}
use Rattle.fbc_kinds.specs.declared.edits.Edit.TheVariants as edit
use Rattle.fbc_kinds.specs.declared.pages.Page.{Page}
use Rattle.fbc_kinds.specs.declared.shapes.Shape.{Shape}
use Rattle.fbc_kinds.specs.Limits.{slots}
use Rattle.fbc_kinds.specs.Reach.{PointerRole}
use Rattle.fbc_kinds.specs.View.{View, named_in, pointer_of}
use Rattle.fbc_kinds.proofs.Heads.{both_pass}
use Rattle.fbc_kinds.proofs.Tests.{same_from_test, test_of_same}
use Rattle.fbc_page_edits.specs.Edited.{with_page}
use Rattle.fbc_levels.specs.Resources.{page_resource}
use Rattle.fbc_world.specs.declared.events.Act.{Act}
use Rattle.fbc_world.specs.History.{History}
use Rattle.fbc_world.specs.World.{world_of}
use Rattle.fbc_legal.specs.Leans.{LeansOn, UnnameLeans}
use Rattle.fbc_legal.specs.Legal.{IsLegal}
use Rattle.fbc_legal.specs.Rows.{IsEditOfRow}
use Rattle.fbc_legal.specs.Scene.{Scene, newest_at, scene_of}
use Rattle.fbc_legal.proofs.Exclusion.{excluded}
use Rattle.fbc_legal.proofs.Induction.{IsCoherent-legal}
use Rattle.fbc_legal.proofs.Ranked.{IsRanked-legal}
use Rattle.fbc_closed_cuts.specs.Cut.{Cut, view}
use Rattle.fbc_closed_cuts.specs.Upheld.{IsUpheld}
use Rattle.fbc_numbers.proofs.CutFacts.{clash}
use Rattle.fbc_origins.specs.Rows.{NamesRow}
use Rattle.fbc_origins.proofs.PointersCame.{pointer-grown}
use Rattle.fbc_firm_facts.specs.EditLeaves.{IsOwnViewOfEdit}
use Rattle.fbc_notes.specs.HeaderTests.{is_number}
use Rattle.fbc_notes.specs.RowNames.{names_row}
use Rattle.fbc_firm_facts.proofs.EditsLeave.{edits-leave}
use Rattle.fbc_firm_facts.proofs.EventsLeave.{IsKeptWhereEdited}
use Rattle.fbc_firm_facts.proofs.HeadersSeen.{header-grown}
use Rattle.fbc_firm_facts.proofs.SlotsStay.{slot-stays}

-- A number that was found.
pub found : (o : Option ℕ) (number : ℕ) → is_number o number ≡ true → o ≡ Some number
found None number is = absurd cc
found (Some n) number is = ap Some (same_from_test n number is)

pub is_found : (o : Option ℕ) (number : ℕ) → o ≡ Some number → is_number o number ≡ true
is_found o number is = rw is (test_of_same number number refl)

module _ (shape : Shape) (relation sequence pointer page : ℕ) (seen : View) where
  pub row-named : names_row shape relation sequence pointer page seen ≡ true → NamesRow shape seen relation sequence pointer page
  row-named is =
      let both = both_pass (is_number (pointer_of seen relation (sequence / slots shape.size)) pointer) (is_number (named_in (seen pointer) (sequence % slots shape.size)) page) is in
      record { pointed = found _ pointer both.0; named = found _ page both.1 }

  pub named-row : NamesRow shape seen relation sequence pointer page → names_row shape relation sequence pointer page seen ≡ true
  named-row names = rw (is_found _ pointer names.pointed, is_found _ page names.named) refl

-- A view that has all drafts of an owner, and sees an edit that may not unname the page.
module _ (shape : Shape) (file : View) (before : History) (legal : IsLegal shape file before) (actor number : ℕ) (e : Edit) (owner : ℕ) (content : Page) (cut : Cut) (own : IsOwnViewOfEdit shape file before actor number e owner content cut)
    (relation sequence pointer page : ℕ) (names : NamesRow shape (view (world_of shape file before) cut) relation sequence pointer page) (kept : (slot : ℕ) → e ≡ edit.Unname slot → named_in (newest_at (scene_of shape file before) number) slot ≡ Some page → ⊥) where
  abbrev at : Scene
  at = scene_of shape file before

  abbrev seen : View
  seen = view at.world cut

  abbrev after : View
  after = with_page seen number content

  pointed : pointer_of after relation (sequence / slots shape.size) ≡ Some pointer
  pointed =
      pointer-grown (seen 0) (after 0)
      (header-grown at (IsCoherent-legal shape file before legal) actor e content seen number own.sees.guard own.fits own.sees.sees.edited_page.page)
      relation (sequence / slots shape.size) pointer names.pointed

  -- The pointer page is not made anew, since it is reached.
  never_made : number ≡ pointer → (page_kind carried other place : ℕ) → LeansOn at actor number (edit.Format page_kind carried other place) → IsEditOfRow at actor number (edit.Format page_kind carried other place) → ⊥
  never_made same page_kind carried other place leans row =
      own.sees.sees.unreached number leans.nowhere row.no_header row.no_inventory
      (PointerRole relation (sequence / slots shape.size), subst (λ p. pointer_of seen relation (sequence / slots shape.size) ≡ Some p) (sym same) names.pointed)

  in_pointer : number ≡ pointer → named_in (Some content) (sequence % slots shape.size) ≡ Some page
  in_pointer same =
      slot-stays at actor number content (seen number) own.sees.sees.edited_page.page page (never_made same) e kept own.sees.guard.row own.sees.guard.leans own.sees.fits (sequence % slots shape.size)
      (ap (λ p. named_in (seen p) (sequence % slots shape.size)) same ∙ names.named)

  named : named_in (after pointer) (sequence % slots shape.size) ≡ Some page
  named = go (pointer == number) refl where
    go : (b : Bool) → pointer == number ≡ b → named_in (if b then Some content else seen pointer) (sequence % slots shape.size) ≡ Some page
    go true same = in_pointer (sym (same_from_test pointer number same))
    go false apart = names.named

  pub names-stay : NamesRow shape after relation sequence pointer page
  names-stay = record { pointed = pointed; named = named }

-- Who unnames a page has it in EX, and nobody has that pinned beside.
pub pinned-lasts : (shape : Shape) (file : View) (before : History) → IsLegal shape file before → (actor owner number page : ℕ) → actor ≢ owner → (world_of shape file before).is_pinned owner page ≡ true
    → UnnameLeans (scene_of shape file before) actor number page → ⊥
pinned-lasts shape file before legal actor owner number page apart pinned leans =
    clash _ ((IsRanked-legal shape file before legal).pins owner page pinned).usable
    (excluded (world_of shape file before) (IsCoherent-legal shape file before legal) actor owner (page_resource page) apart leans.exclusive)

pub names-kept : (shape : Shape) (file : View) (before : History) (owner actor : ℕ) (landed : Bool) (relation sequence pointer page : ℕ) → IsUpheld (scene_of shape file before) → actor ≢ owner → (world_of shape file before).is_pinned owner page ≡ true
    → (act : Act) → IsKeptWhereEdited shape file before owner (λ seen. names_row shape relation sequence pointer page seen ≡ true) actor landed act
names-kept shape file before owner actor landed relation sequence pointer page u apart pinned act number e is legal holds =
    edits-leave shape file before actor number e landed legal u owner (λ seen. names_row shape relation sequence pointer page seen ≡ true)
    (λ content cut own named.
    named-row shape relation sequence pointer page (with_page (view (world_of shape file before) cut) number content)
    (names-stay shape file before legal.0 actor number e owner content cut own relation sequence pointer page
    (row-named shape relation sequence pointer page (view (world_of shape file before) cut) named)
    (λ slot unnames names.
    pinned-lasts shape file before legal.0 actor owner number page apart pinned
    (subst (LeansOn (scene_of shape file before) actor number) unnames own.sees.guard.leans page names))))
    holds
