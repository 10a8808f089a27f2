-- The change that a version is, by what it is put over.
use Rattle.std.proofs.Common.{◌≡◌, ◌∙◌, ◌⊎◌, inl, inr, ℕ, true, false, List, Some, refl, ap}
use Rattle.fbc_kinds.specs.declared.commands.Command.TheVariants.{Delete, Insert, Update}
use Rattle.fbc_kinds.specs.declared.edits.Edit.TheVariants.{PutCell}
use Rattle.fbc_kinds.specs.declared.pages.Cell.{Cell}
use Rattle.fbc_kinds.specs.declared.pages.Flag.{Flag}
use Rattle.fbc_kinds.specs.declared.pages.Flag.TheVariants as flag
use Rattle.fbc_kinds.specs.declared.pages.Page.{Page}
use Rattle.fbc_kinds.specs.declared.replies.Reply.TheVariants as reply
use Rattle.fbc_kinds.specs.declared.shapes.Shape.{Shape}
use Rattle.fbc_kinds.specs.declared.snapshots.Transaction.{Transaction}
use Rattle.fbc_kinds.specs.Machine.{Machine}
use Rattle.fbc_kinds.specs.Meaning.{meaning_with}
use Rattle.fbc_kinds.specs.View.{View, cell_at, is_empty, is_top}
use Rattle.fbc_meanings.specs.Beside.{IsCarriedOut}
use Rattle.fbc_page_edits.specs.Edited.{with_page}
use Rattle.fbc_world.specs.Commands.{change_of, row_of}
use Rattle.fbc_world.specs.History.{History}
use Rattle.fbc_legal.specs.Rows.{HasOpen}
use Rattle.fbc_legal.specs.Scene.{newest_at, scene_of}
use Rattle.fbc_closed_cuts.specs.Cut.{Cut}
use Rattle.fbc_simulation.specs.Carried.{IsPutCarriedOut}
use Rattle.fbc_simulation.specs.EditIn.{IsEditIn}
use Rattle.fbc_simulation.proofs.CellEdits.{beside}
use Rattle.fbc_simulation.proofs.PutsIn.{before, p}
use Rattle.fbc_simulation.proofs.PutsRead.{one-change}

-- A top is a value or a deletion.
pub top-kinds : (f : Flag) → is_top f ≡ true → (f ≡ flag.Primary) ⊎ (f ≡ flag.Deletion)
top-kinds flag.Primary top = inl refl
top-kinds flag.Deletion top = inr refl
top-kinds flag.Empty top = cc
top-kinds flag.Back top = cc

module _ (shape : Shape) (file : View) (past : History) (owner page cell : ℕ) (new : Cell) (content : Page) (cut : Cut) (living : List Transaction)
    (is : IsEditIn shape file past owner page (PutCell cell new) content cut living) (t : Transaction) (open_is : HasOpen (scene_of shape file past) owner t) (own : new.number ≡ t.number)
    (old : Cell) (stands : cell_at (newest_at (scene_of shape file past)) page cell ≡ Some old) where
  abbrev m : Machine
  m = beside shape file past owner page (PutCell cell new) content cut living is

  abbrev relation : ℕ
  relation = (p shape file past owner page cell new content cut living is).data_page.relation

  abbrev row : ℕ
  row = row_of shape (p shape file past owner page cell new content cut living is).data_page cell

  abbrev later : Machine
  later = meaning_with living (with_page (before shape file past owner page cell new content cut living is) page content)

  same_owner : t.owner ≡ owner
  same_owner = (is.whole.order.numbered.stand owner t open_is).own

  pub carried-first : is_empty old.flag ≡ true → new.flag ≡ flag.Primary → IsCarriedOut m (Insert t.owner relation row new.value) (reply.Row row) later
      → IsPutCarriedOut shape file past owner page cell new content cut living
  carried-first over kind done = record {
    asked = Insert t.owner relation row new.value;
    change = same_owner;
    are = one-change shape file past is.whole owner page cell new is.sees.guard t open_is own old true stands over ∙ ap (λ (f : Flag). change_of t.owner relation row true f new.value) kind;
    done = done;
  }

  pub carried-update : old.flag ≡ flag.Primary → new.flag ≡ flag.Primary → IsCarriedOut m (Update t.owner relation row new.value) reply.Ok later
      → IsPutCarriedOut shape file past owner page cell new content cut living
  carried-update over kind done = record {
    asked = Update t.owner relation row new.value;
    change = same_owner;
    are = one-change shape file past is.whole owner page cell new is.sees.guard t open_is own old false stands (ap is_empty over) ∙ ap (λ (f : Flag). change_of t.owner relation row false f new.value) kind;
    done = done;
  }

  pub carried-delete : old.flag ≡ flag.Primary → new.flag ≡ flag.Deletion → IsCarriedOut m (Delete t.owner relation row) reply.Ok later
      → IsPutCarriedOut shape file past owner page cell new content cut living
  carried-delete over kind done = record {
    asked = Delete t.owner relation row;
    change = same_owner;
    are = one-change shape file past is.whole owner page cell new is.sees.guard t open_is own old false stands (ap is_empty over) ∙ ap (λ (f : Flag). change_of t.owner relation row false f new.value) kind;
    done = done;
  }
