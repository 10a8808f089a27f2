-- A version that is put, in a view that sees it, and the commands that it is.
use Rattle.std.proofs.Common.{◌≡◌, ◌∙◌, ◌==◌, ℕ, Bool, true, false, List, [], Option, Some, None, refl, sym, ap, subst}
use Rattle.fbc_kinds.specs.declared.commands.Command.{Command}
use Rattle.fbc_kinds.specs.declared.edits.Edit.TheVariants.{PutCell}
use Rattle.fbc_kinds.specs.declared.pages.Cell.{Cell}
use Rattle.fbc_kinds.specs.declared.pages.Flag.{Flag}
use Rattle.fbc_kinds.specs.declared.pages.Flag.TheVariants as flag
use Rattle.fbc_kinds.specs.declared.pages.Page.{Page}
use Rattle.fbc_kinds.specs.declared.pages.Page.TheVariants as kind
use Rattle.fbc_kinds.specs.declared.shapes.Shape.{Shape}
use Rattle.fbc_kinds.specs.declared.snapshots.Transaction.{Transaction}
use Rattle.fbc_kinds.specs.Meaning.{meaning_with}
use Rattle.fbc_kinds.specs.View.{View}
use Rattle.fbc_kinds.proofs.Tests.{same_from_test}
use Rattle.fbc_runs.specs.Ended.{settled_by}
use Rattle.fbc_runs.specs.Reading.{ReadsAs}
use Rattle.fbc_runs.specs.Runs.{machine_after}
use Rattle.fbc_page_edits.specs.Allowed.{Fits}
use Rattle.fbc_page_edits.specs.Edited.{with_page}
use Rattle.fbc_version_edits.specs.Puts.{IsPutIn}
use Rattle.fbc_world.specs.Commands.{change_of, change_on, where_true}
use Rattle.fbc_world.specs.History.{History}
use Rattle.fbc_world.specs.World.{is_number_of}
use Rattle.fbc_legal.specs.Scene.{Scene, scene_of}
use Rattle.fbc_legal.specs.Stamps.{Stamps, stamps_of}
use Rattle.fbc_closed_cuts.specs.Cut.{Cut}
use Rattle.fbc_closed_cuts.specs.Views.{view_stamps}
use Rattle.fbc_origins.proofs.PutPages.{IsPutPage, put-page}
use Rattle.fbc_simulation.specs.Beside.{commits_in}
use Rattle.fbc_simulation.specs.EditIn.{EditIsMeant, IsEditIn, commands_made}
use Rattle.fbc_simulation.proofs.CellEdits.{beside, machine, same-ends, seen}

-- No command, where the number is not the open one.
pub not-own : (number : ℕ) (open_one : Option Transaction) → ((t : Transaction) → open_one ≡ Some t → ¬ (t.number ≡ number)) → is_number_of number open_one ≡ false
not-own number None apart = refl
not-own number (Some t) apart = go (t.number == number) refl where
  go : (b : Bool) → (t.number == number) ≡ b → b ≡ false
  go false is = refl
  go true is = absurd (apart t refl (same_from_test t.number number is))

pub no-command : (b : Bool) (commands : List Command) → b ≡ false → where_true b commands ≡ []
no-command b commands is = rw is refl

-- Nor where a back value is put.
back_of : (owner relation row : ℕ) (first : Bool) (f : Flag) (value : List ℕ) → f ≡ flag.Back → change_of owner relation row first f value ≡ []
back_of owner relation row true flag.Back value is = refl
back_of owner relation row false flag.Back value is = refl
back_of owner relation row first flag.Empty value is = cc
back_of owner relation row first flag.Primary value is = cc
back_of owner relation row first flag.Deletion value is = cc

pub back-command : (b : Bool) (shape : Shape) (owner cell : ℕ) (new : Cell) (found : Option Page) → new.flag ≡ flag.Back → where_true b (change_on shape owner cell new found) ≡ []
back-command true shape owner cell new (Some (kind.Data d)) is = back_of owner _ _ _ new.flag new.value is
back-command true shape owner cell new None is = refl
back-command true shape owner cell new (Some _) is = refl
back-command false shape owner cell new found is = refl

module _ (shape : Shape) (file : View) (past : History) (owner page cell : ℕ) (new : Cell) (content : Page) (cut : Cut) (living : List Transaction)
    (is : IsEditIn shape file past owner page (PutCell cell new) content cut living) where
  abbrev pub at : Scene
  at = scene_of shape file past

  abbrev pub before : View
  before = seen shape file past owner page (PutCell cell new) content cut living is

  abbrev pub origin : ℕ → Stamps
  origin = view_stamps at.world (stamps_of shape file past) cut

  abbrev pub p : IsPutPage at owner page cell new
  p = put-page at owner page cell new is.sees.guard

  pub data-page : before page ≡ Some (kind.Data p.data_page)
  data-page = is.sees.sees.edited_page.page ∙ p.stands

  -- The view has a data page there.
  abbrev pub put-in : IsPutIn shape before page cell new content
  put-in = record {
    of_shape = is.sees.of_shape;
    sound = is.sees.sound;
    page = p.data_page;
    stands = data-page;
    fits = subst (λ (found : Option Page). Fits shape (PutCell cell new) found content) data-page is.sees.fits;
  }

  -- What is read with the version is meant, where it is no command.
  pub reads-meant : ReadsAs (meaning_with living (with_page before page content)) (beside shape file past owner page (PutCell cell new) content cut living is)
      → commands_made shape at.world owner page (PutCell cell new) ≡ [] → EditIsMeant shape file past owner page (PutCell cell new) content cut living
  reads-meant reads none =
      subst (ReadsAs (meaning_with living (with_page before page content)))
      (sym
      (same-ends shape file past owner page (PutCell cell new) content cut living is refl
      (machine_after (machine shape file past owner page (PutCell cell new) content cut living is) (commands_made shape at.world owner page (PutCell cell new)))
      ∙ ap (λ (commands : List Command). settled_by living (commits_in at.world cut) (machine_after (machine shape file past owner page (PutCell cell new) content cut living is) commands)) none))
      reads
