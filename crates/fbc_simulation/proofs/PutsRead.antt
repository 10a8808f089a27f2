-- What an owner puts that goes on, in a view that has all its drafts: the view names the row, and the version is a change of it.
use Rattle.std.proofs.Common.{◌≡◌, ◌∙◌, ◌/◌, ◌%◌, ◌⊎◌, inl, inr, ℕ, Bool, true, false, List, Option, Some, refl, sym, ap, subst}
use Rattle.std.specs.Prelude.{Contains}
use Rattle.std.proofs.lemmas.Option.{same_Some}
use Rattle.fbc_kinds.specs.declared.edits.Edit.TheVariants.{PutCell}
use Rattle.fbc_kinds.specs.declared.pages.Cell.{Cell}
use Rattle.fbc_kinds.specs.declared.pages.Page.{Page}
use Rattle.fbc_kinds.specs.declared.pages.Page.TheVariants as kind
use Rattle.fbc_kinds.specs.declared.shapes.Shape.{Shape}
use Rattle.fbc_kinds.specs.declared.snapshots.Transaction.{Transaction}
use Rattle.fbc_kinds.specs.Limits.{slots}
use Rattle.fbc_kinds.specs.View.{View, cell_at, cell_in, is_empty, named_in, pointer_of}
use Rattle.fbc_kinds.proofs.Tests.{test_of_same}
use Rattle.fbc_runs.specs.Ended.{is_owner_of}
use Rattle.fbc_version_edits.specs.Open.{IsMaker}
use Rattle.fbc_page_edits.specs.Facing.{IsRowAt}
use Rattle.fbc_world.specs.Commands.{change_of, change_on, is_empty_cell, row_of, where_true}
use Rattle.fbc_world.specs.History.{History}
use Rattle.fbc_world.specs.PageCell.{page_for}
use Rattle.fbc_world.specs.World.{World, is_number_of}
use Rattle.fbc_legal.specs.Guards.{GuardOfEdit}
use Rattle.fbc_legal.specs.Naming.{IsNamedData}
use Rattle.fbc_legal.specs.Rows.{HasOpen}
use Rattle.fbc_legal.specs.Scene.{HasDraft, Scene, newest_at, scene_of}
use Rattle.fbc_legal.proofs.HeaderGrowth.{exclusive-own, newest-own}
use Rattle.fbc_closed_cuts.specs.Cut.{Cut}
use Rattle.fbc_numbers.proofs.CutFacts.{clash}
use Rattle.fbc_origins.proofs.PutPages.{IsPutPage, put-page}
use Rattle.fbc_soundness.specs.Whole.{IsWhole}
use Rattle.fbc_simulation.specs.EditIn.{IsEditIn, commands_made}
use Rattle.fbc_simulation.proofs.CellEdits.{living-open}
use Rattle.fbc_simulation.proofs.LivingOwners.{HasLiving, has_living}
use Rattle.fbc_simulation.proofs.PutRows.{row-at}
use Rattle.fbc_simulation.proofs.PutsIn.{before, data-page, p}

-- The change that a version of the owner's open number is.
module _ (shape : Shape) (file : View) (past : History) (whole : IsWhole (scene_of shape file past)) (owner page cell : ℕ) (new : Cell)
    (g : GuardOfEdit (scene_of shape file past) owner page (PutCell cell new)) (t : Transaction) (open_is : HasOpen (scene_of shape file past) owner t) (own : new.number ≡ t.number) where
  abbrev at : Scene
  at = scene_of shape file past

  abbrev put : IsPutPage at owner page cell new
  put = put-page at owner page cell new g

  own_page : page_for owner (at.world.kept page) (at.world.draft page) ≡ Some (kind.Data put.data_page)
  own_page = sym (newest-own owner (at.world.kept page) (at.world.draft page) (exclusive-own at.world whole.order.upheld.coherent owner page g.exclusive)) ∙ put.stands

  numbered : is_number_of new.number (at.world.transaction owner) ≡ true
  numbered = ap (is_number_of new.number) open_is ∙ test_of_same t.number new.number (sym own)

  pub one-change : (old : Cell) (first : Bool) → cell_at (newest_at at) page cell ≡ Some old → is_empty old.flag ≡ first
      → commands_made shape at.world owner page (PutCell cell new) ≡ change_of t.owner put.data_page.relation (row_of shape put.data_page cell) first new.flag new.value
  one-change old first stands empty =
      ap (λ b. where_true b (change_on shape owner cell new (page_for owner (at.world.kept page) (at.world.draft page)))) numbered
      ∙ ap (change_on shape owner cell new) own_page
      ∙ ap (λ b. change_of owner put.data_page.relation (row_of shape put.data_page cell) b new.flag new.value)
      (ap is_empty_cell (ap (λ (o : Option Page). cell_in o cell) (sym put.stands) ∙ stands) ∙ empty)
      ∙ ap (λ who. change_of who put.data_page.relation (row_of shape put.data_page cell) first new.flag new.value) (sym (whole.order.numbered.stand owner t open_is).own)

module _ (shape : Shape) (file : View) (past : History) (owner page cell : ℕ) (new : Cell) (content : Page) (cut : Cut) (living : List Transaction)
    (is : IsEditIn shape file past owner page (PutCell cell new) content cut living) (lives : is_owner_of living owner ≡ true) where
  abbrev here : Scene
  here = scene_of shape file past

  abbrev w : World
  w = here.world

  abbrev seen : View
  seen = before shape file past owner page cell new content cut living is

  abbrev row : IsPutPage here owner page cell new
  row = p shape file past owner page cell new content cut living is

  -- The owner's transaction is one of those that go on.
  own_of : HasLiving living owner → (t : Transaction) → HasOpen here owner t → Contains living t
  own_of own t open_is = subst (Contains living) (same_Some own.t t (sym (is.opens.each own.t own.lives) ∙ ap w.transaction own.own ∙ open_is)) own.lives

  pub own-lives : (t : Transaction) → HasOpen here owner t → Contains living t
  own-lives = own_of (has_living living owner lives)

  pub own-maker : (t : Transaction) → HasOpen here owner t → new.number ≡ t.number → IsMaker living t new
  own-maker t open_is own = record { open_ones = living-open shape file past owner page (PutCell cell new) content cut living is; lives = own-lives t open_is; number = sym own }

  -- Its drafts are in the cut.
  drafted_of : HasLiving living owner → (other : ℕ) → HasDraft here owner other → cut other ≡ true
  drafted_of own other has = is.opens.drafts own.t other own.lives (subst (λ o. HasDraft here o other) (sym own.own) has)

  drafted : (other : ℕ) → HasDraft here owner other → cut other ≡ true
  drafted = drafted_of (has_living living owner lives)

  -- So the view names the page.
  module _ (named : IsNamedData here owner page row.data_page.relation row.data_page.sequence) where
    pointed_seen : pointer_of seen row.data_page.relation (row.data_page.sequence / slots shape.size) ≡ Some named.pointer
    pointed_seen = go (cut 0) refl where
      in_file : cut 0 ≡ false → (pointer_of w.kept row.data_page.relation (row.data_page.sequence / slots shape.size) ≡ Some named.pointer) ⊎ HasDraft here owner 0
          → pointer_of w.kept row.data_page.relation (row.data_page.sequence / slots shape.size) ≡ Some named.pointer
      in_file out (inl kept) = kept
      in_file out (inr own) = absurd (clash (cut 0) (drafted 0 own) out)

      go : (b : Bool) → cut 0 ≡ b → pointer_of seen row.data_page.relation (row.data_page.sequence / slots shape.size) ≡ Some named.pointer
      go true in_cut = rw in_cut named.pointed
      go false out = rw out (in_file out named.pointed_in_file)

    named_seen : named_in (seen named.pointer) (row.data_page.sequence % slots shape.size) ≡ Some page
    named_seen = go (cut named.pointer) refl where
      in_file : cut named.pointer ≡ false → (named_in (w.kept named.pointer) (row.data_page.sequence % slots shape.size) ≡ Some page) ⊎ HasDraft here owner named.pointer
          → named_in (w.kept named.pointer) (row.data_page.sequence % slots shape.size) ≡ Some page
      in_file out (inl kept) = kept
      in_file out (inr own) = absurd (clash (cut named.pointer) (drafted named.pointer own) out)

      go : (b : Bool) → cut named.pointer ≡ b → named_in (seen named.pointer) (row.data_page.sequence % slots shape.size) ≡ Some page
      go true in_cut = rw in_cut named.named
      go false out = rw out (in_file out named.named_in_file)

  pub own-row : (old : Cell) → cell_at seen page cell ≡ Some old → IsRowAt seen row.data_page.relation (row_of shape row.data_page cell) page cell
  own-row old there =
      row-at shape seen is.sees.of_shape is.sees.sound page cell row.data_page (data-page shape file past owner page cell new content cut living is) old there
      row.named.pointer (pointed_seen row.named) (named_seen row.named)
