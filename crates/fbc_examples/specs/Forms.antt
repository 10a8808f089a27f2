-- The forms that edits of cells, marks and pages have, and that each occurs in a legal history.
use Rattle.std.specs.Prelude.{◌≡◌, ℕ, true}
use Rattle.fbc_kinds.specs.declared.edits.Edit.{Edit}
use Rattle.fbc_kinds.specs.declared.edits.Edit.TheVariants.{ClearCell, Format, Mark, PutCell}
use Rattle.fbc_kinds.specs.declared.pages.Cell.{Cell}
use Rattle.fbc_kinds.specs.declared.pages.Flag.{Flag}
use Rattle.fbc_kinds.specs.declared.pages.Flag.TheVariants as flag
use Rattle.fbc_kinds.specs.declared.pages.State.TheVariants.{Committed, Dead}
use Rattle.fbc_kinds.specs.declared.shapes.Shape.{Shape}
use Rattle.fbc_kinds.specs.declared.snapshots.Transaction.{Transaction}
use Rattle.fbc_kinds.specs.View.{View, is_back, is_top}
use Rattle.fbc_levels.specs.declared.levels.Level.TheVariants.{Sr}
use Rattle.fbc_world.specs.declared.events.Act.TheVariants.{Local}
use Rattle.fbc_world.specs.declared.events.LocalEvent.TheVariants as local
use Rattle.fbc_world.specs.History.{History}
use Rattle.fbc_legal.specs.Legal.{IsLegal}
use Rattle.fbc_legal.specs.Rows.{HasOpen, IsBackout, IsCut, IsFirstVersion, IsMove, IsNewVersion, IsOwnChange, Stands}
use Rattle.fbc_legal.specs.Scene.{Scene, number_resource, scene_of}
use Rattle.fbc_examples.specs.Files.{IsStart}
use Rattle.fbc_examples.specs.Steps.{does}

-- Changes, moves, backouts and cuts; clearings, by what is cleared; marks, by whose number is marked; and formats, by the
-- kind of page that is made.
pub data Form : Type 0 where
  FirstVersion : Form
  OwnChange : Form
  NewVersion : Form
  Deletion : Form
  Move : Form
  Backout : Form
  CutBelowTop : Form
  CutBelowOld : Form
  ClearedValue : Form
  ClearedDeletion : Form
  ClearedOld : Form
  CommitMark : Form
  OwnDeadMark : Form
  OthersDeadMark : Form
  MadeInventory : Form
  MadeTip : Form
  MadePointer : Form
  MadeData : Form

-- A cell that stands so is cleared.
abbrev pub Clears : Scene → ℕ → ℕ → Flag → Type 0
Clears at page cell flag = (old : Cell) × Stands at page cell old × (old.flag ≡ flag)

-- The owner's edit of a page has this form.
abbrev pub HasForm : Form → Scene → ℕ → ℕ → Edit → Type 0
HasForm FirstVersion at owner page (PutCell cell content) = IsFirstVersion at owner page cell content
HasForm OwnChange at owner page (PutCell cell content) = IsOwnChange at owner page cell content
HasForm NewVersion at owner page (PutCell cell content) = IsNewVersion at owner page cell content × (content.flag ≡ flag.Primary)
HasForm Deletion at owner page (PutCell cell content) = IsNewVersion at owner page cell content × (content.flag ≡ flag.Deletion)
HasForm Move at owner page (PutCell cell content) = IsMove at owner page cell content
HasForm Backout at owner page (PutCell cell content) = IsBackout at page cell content
HasForm CutBelowTop at owner page (PutCell cell content) = IsCut at page cell content × (is_top content.flag ≡ true)
HasForm CutBelowOld at owner page (PutCell cell content) = IsCut at page cell content × (is_back content.flag ≡ true)
HasForm ClearedValue at owner page (ClearCell cell) = Clears at page cell flag.Primary
HasForm ClearedDeletion at owner page (ClearCell cell) = Clears at page cell flag.Deletion
HasForm ClearedOld at owner page (ClearCell cell) = Clears at page cell flag.Back
HasForm CommitMark at owner page (Mark number Committed) = (t : Transaction) × HasOpen at owner t × (number ≡ t.number)
HasForm OwnDeadMark at owner page (Mark number Dead) = (t : Transaction) × HasOpen at owner t × (number ≡ t.number)
HasForm OthersDeadMark at owner page (Mark number Dead) = at.world.granted owner (number_resource number) ≡ Sr
HasForm MadeInventory at owner page (Format page_kind number relation sequence) = page_kind ≡ 2
HasForm MadeTip at owner page (Format page_kind number relation sequence) = page_kind ≡ 3
HasForm MadePointer at owner page (Format page_kind number relation sequence) = page_kind ≡ 4
HasForm MadeData at owner page (Format page_kind number relation sequence) = page_kind ≡ 5
HasForm _ at owner page _ = ⊥

-- A legal history over a sound file ends with an edit of this form.
pub record OccursAs (form : Form) : Type 0 where
  pub shape : Shape
  pub file : View
  pub before : History
  pub owner : ℕ
  pub page : ℕ
  pub edit : Edit
  pub start : IsStart shape file
  pub legal : IsLegal shape file (does owner (Local (local.Edit page edit)) before)
  pub has : HasForm form (scene_of shape file before) owner page edit
