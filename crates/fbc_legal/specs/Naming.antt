-- That a page is named where its cells or states are edited.
use Rattle.std.specs.Prelude.{◌≡◌, ◌⊎◌, ◌/◌, ◌%◌, ℕ, Option, Some}
use Rattle.fbc_kinds.specs.declared.edits.Edit.{Edit}
use Rattle.fbc_kinds.specs.declared.edits.Edit.TheVariants as edit
use Rattle.fbc_kinds.specs.declared.pages.Page.{Page}
use Rattle.fbc_kinds.specs.declared.pages.Page.TheVariants as kind
use Rattle.fbc_kinds.specs.Limits.{slots}
use Rattle.fbc_kinds.specs.View.{named_in, pointer_of, tip_of}
use Rattle.fbc_legal.specs.Scene.{Scene, HasDraft, newest_at}

-- The newest header names the page as the transaction inventory page of its sequence; and the kept one does, or the draft
-- of the header is the owner's.
pub record IsNamedTip (at : Scene) (owner page sequence : ℕ) : Type 0 where
  pub newest : tip_of (newest_at at) sequence ≡ Some page
  pub in_file : (tip_of at.world.kept sequence ≡ Some page) ⊎ HasDraft at owner 0

-- The newest pointer page of its relation and sequence names the page in its slot, and the newest header that pointer page;
-- and what is kept of each does, or its draft is the owner's.
pub record IsNamedData (at : Scene) (owner page relation sequence : ℕ) : Type 0 where
  pub pointer : ℕ
  pub pointed : pointer_of (newest_at at) relation (sequence / slots at.shape.size) ≡ Some pointer
  pub named : named_in (newest_at at pointer) (sequence % slots at.shape.size) ≡ Some page
  pub pointed_in_file : (pointer_of at.world.kept relation (sequence / slots at.shape.size) ≡ Some pointer) ⊎ HasDraft at owner 0
  pub named_in_file : (named_in (at.world.kept pointer) (sequence % slots at.shape.size) ≡ Some page) ⊎ HasDraft at owner pointer

abbrev pub IsNamedFor : Scene → ℕ → ℕ → Option Page → Type 0
IsNamedFor at owner page (Some (kind.Tip t)) = IsNamedTip at owner page t.sequence
IsNamedFor at owner page (Some (kind.Data d)) = IsNamedData at owner page d.relation d.sequence
IsNamedFor at owner page _ = ⊥

-- A page is named where one of its cells or states is edited.
abbrev pub IsNamedWhereEdited : Scene → ℕ → ℕ → Edit → Type 0
IsNamedWhereEdited at owner page (edit.PutCell cell content) = IsNamedFor at owner page (newest_at at page)
IsNamedWhereEdited at owner page (edit.ClearCell cell) = IsNamedFor at owner page (newest_at at page)
IsNamedWhereEdited at owner page (edit.Mark number state) = IsNamedFor at owner page (newest_at at page)
IsNamedWhereEdited at owner page _ = Unit {0}
