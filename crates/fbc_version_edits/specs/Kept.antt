-- What each edit of a version, and a mark, makes of a view: the view before the edit, and the one after it. `was` and `is`
-- say what the chain of the row is before and after.
use Rattle.std.specs.Prelude.{◌≡◌, ◌⊎◌, ℕ, List, [], ◌∷◌}
use Rattle.fbc_kinds.specs.declared.commands.Command.TheVariants as command
use Rattle.fbc_kinds.specs.declared.pages.Cell.{Cell}
use Rattle.fbc_kinds.specs.declared.pages.Flag.TheVariants as flag
use Rattle.fbc_kinds.specs.declared.pages.State.{State}
use Rattle.fbc_kinds.specs.declared.replies.Reply.TheVariants as reply
use Rattle.fbc_kinds.specs.declared.snapshots.Transaction.{Transaction}
use Rattle.fbc_kinds.specs.Chain.{chain, state_of, version_of}
use Rattle.fbc_kinds.specs.Lost.{IsLostCell}
use Rattle.fbc_kinds.specs.Machine.{IsReply, Machine, MayCome, machine_step}
use Rattle.fbc_kinds.specs.Meaning.{MeanTheSame, meaning_with}
use Rattle.fbc_kinds.specs.Reach.{DataRole, LinksTo, Reaches, ReachesCell, TipRole}
use Rattle.fbc_kinds.specs.Sound.{IsSound}
use Rattle.fbc_kinds.specs.View.{View}
use Rattle.fbc_page_edits.specs.Alike.{HasNoMoreLinks, HaveOtherChains, HaveSameChains, HaveSameStates, IsCutBelow, KeepsLostCells, KeepsLostPages, ReadAlike}
use Rattle.fbc_page_edits.specs.Facing.{IsRowAt}
use Rattle.fbc_version_edits.specs.Differences.{BeginsWith, GoesThrough, HasOtherLinks, HasOtherTop, IsLeftAlone, IsLinkOver, KeepsLostCellsBut, LinksBelow}

-- A row got its first version: its chain was empty, and is this version alone.
pub record FirstVersionKeeps (view : View) (number cell : ℕ) (new : Cell) (after : View) : Type 0 where
  pub sound : IsSound after
  pub was : (relation row : ℕ) → IsRowAt view relation row number cell → chain view relation row ≡ []
  pub is : (relation row : ℕ) → IsRowAt view relation row number cell
      → chain after relation row ≡ version_of new ∷ []
  pub others : HaveOtherChains number cell view after
  pub states : HaveSameStates view after
  pub links : HasNoMoreLinks view after
  pub pages : KeepsLostPages view after
  pub cells : KeepsLostCells view after

-- The top of a row is another one of the same number, with the same link.
pub record OwnVersionKeeps (view : View) (number cell : ℕ) (old new : Cell) (after : View) : Type 0 where
  pub sound : IsSound after
  pub is : (relation row : ℕ) → IsRowAt view relation row number cell
      → HasOtherTop (version_of old) (version_of new) (chain view relation row) (chain after relation row)
  pub others : HaveOtherChains number cell view after
  pub states : HaveSameStates view after
  pub other_links : HasOtherLinks number cell view after
  pub own_link : (relation back_page back_cell : ℕ)
      → LinksTo after relation number cell new back_page back_cell
      → LinksTo view relation number cell old back_page back_cell
  pub pages : KeepsLostPages view after
  pub cells : KeepsLostCells view after

-- A back value stands in one more cell, which is lost until a version names it.
pub record MovedVersionKeeps (view : View) (number cell : ℕ) (new : Cell) (after : View) : Type 0 where
  pub sound : IsSound after
  pub alike : ReadAlike view after
  pub pages : KeepsLostPages view after
  pub lost : (relation sequence : ℕ) → Reaches view (DataRole relation sequence) number
      → IsLostCell after number cell

-- A new version stands in front of a row, and its link leads to where the old one has moved.
pub record NewVersionKeeps (view : View) (number cell : ℕ) (old new : Cell) (after : View) : Type 0 where
  pub sound : IsSound after
  pub is : (relation row : ℕ) → IsRowAt view relation row number cell
      → chain after relation row ≡ version_of new ∷ chain view relation row
  pub was : (relation row : ℕ) → IsRowAt view relation row number cell
      → BeginsWith (version_of old) (chain view relation row)
  pub others : HaveOtherChains number cell view after
  pub states : HaveSameStates view after
  pub links : (relation other place back_page back_cell : ℕ) (version : Cell)
      → LinksTo after relation other place version back_page back_cell
      → IsLinkOver view relation number cell old new other place version back_page back_cell
  -- The cell that the new version names is reached now, and is no longer lost.
  pub reached : (relation sequence : ℕ) → Reaches view (DataRole relation sequence) number
      → ReachesCell after relation new.back_page new.back_cell
  pub pages : KeepsLostPages view after
  pub cells : KeepsLostCellsBut new.back_page new.back_cell view after

-- The newest version of a row is taken back: the one below is its top, with its link or with none.
pub record BackoutKeeps (view : View) (number cell : ℕ) (old new : Cell) (after : View) : Type 0 where
  pub sound : IsSound after
  pub is : (relation row : ℕ) → IsRowAt view relation row number cell
      → (chain view relation row ≡ version_of old ∷ chain after relation row)
      ⊎ IsLeftAlone (version_of old) (version_of new) (chain view relation row) (chain after relation row)
  pub others : HaveOtherChains number cell view after
  pub states : HaveSameStates view after
  pub other_links : HasOtherLinks number cell view after
  pub own_link : (relation back_page back_cell : ℕ)
      → LinksTo after relation number cell new back_page back_cell
      → LinksBelow view relation old back_page back_cell
  -- The cell that the old top named is lost.
  pub lost : (relation sequence : ℕ) → Reaches view (DataRole relation sequence) number
      → IsLostCell after old.back_page old.back_cell
  pub pages : KeepsLostPages view after
  pub cells : KeepsLostCells view after

-- A version has lost its link: a chain that went through its cell ends with it, and all others stay.
pub record CutKeeps (view : View) (number cell : ℕ) (new : Cell) (after : View) : Type 0 where
  pub sound : IsSound after
  pub is : (relation row : ℕ) → GoesThrough view relation row number cell
      → IsCutBelow (version_of new) (chain view relation row) (chain after relation row)
  pub others : (relation row : ℕ) → ¬ GoesThrough view relation row number cell
      → chain after relation row ≡ chain view relation row
  pub states : HaveSameStates view after
  pub links : HasNoMoreLinks view after
  pub pages : KeepsLostPages view after
  pub cells : KeepsLostCells view after
  pub gone : (relation back_page back_cell : ℕ) (version : Cell)
      → ¬ LinksTo after relation number cell version back_page back_cell

-- The only version of a row is taken back: its chain is empty.
pub record ClearedVersionKeeps (view : View) (number cell : ℕ) (old : Cell) (after : View) : Type 0 where
  pub sound : IsSound after
  pub was : (relation row : ℕ) → IsRowAt view relation row number cell
      → chain view relation row ≡ version_of old ∷ []
  pub is : (relation row : ℕ) → IsRowAt view relation row number cell → chain after relation row ≡ []
  pub others : HaveOtherChains number cell view after
  pub states : HaveSameStates view after
  pub links : HasNoMoreLinks view after
  pub pages : KeepsLostPages view after
  pub cells : KeepsLostCells view after

-- A deletion is cleared, and all that was below it: the chain of its row is empty.
pub record ClearedDeletionKeeps (view : View) (number cell : ℕ) (old : Cell) (after : View) : Type 0 where
  pub sound : IsSound after
  pub was : (relation row : ℕ) → IsRowAt view relation row number cell
      → BeginsWith (version_of old) (chain view relation row)
  pub is : (relation row : ℕ) → IsRowAt view relation row number cell → chain after relation row ≡ []
  pub others : HaveOtherChains number cell view after
  pub states : HaveSameStates view after
  pub links : HasNoMoreLinks view after
  pub pages : KeepsLostPages view after
  pub cells : KeepsLostCells view after

-- A back value that no version named is gone: its cell is lost no more.
pub record ClearedValueKeeps (view : View) (number cell : ℕ) (after : View) : Type 0 where
  pub sound : IsSound after
  pub chains : HaveSameChains view after
  pub states : HaveSameStates view after
  pub links : HasNoMoreLinks view after
  pub pages : KeepsLostPages view after
  pub cells : KeepsLostCellsBut number cell view after
  pub found : ¬ IsLostCell after number cell

-- A number that was begun has another state, where its page is reached.
pub record MarkKeeps (view : View) (number marked : ℕ) (state : State) (after : View) : Type 0 where
  pub sound : IsSound after
  pub chains : HaveSameChains view after
  pub others : (other : ℕ) → ¬ (other ≡ marked) → state_of after other ≡ state_of view other
  pub now : (sequence : ℕ) → Reaches view (TipRole sequence) number → state_of after marked ≡ state
  pub links : HasNoMoreLinks view after
  pub pages : KeepsLostPages view after
  pub cells : KeepsLostCells view after

-- A page that is not reached is changed: the view reads as before, and means the same.
pub record ChangeOffReachKeeps (view after : View) : Type 0 where
  pub sound : IsSound after
  pub alike : ReadAlike view after
  pub pages : KeepsLostPages view after
  pub meaning : (living : List Transaction) → MeanTheSame (meaning_with living view) (meaning_with living after)

-- What the open transactions mean of the view goes on by an update, or a deletion, of the row, as the new version is one.
pub record MeansRowChange (living : List Transaction) (who relation row : ℕ) (new : Cell) (view after : View) : Type 0 where
  pub update : new.flag ≡ flag.Primary
      → MeanTheSame (machine_step (meaning_with living view) (command.Update who relation row new.value)) (meaning_with living after)
  pub delete : new.flag ≡ flag.Deletion
      → MeanTheSame (machine_step (meaning_with living view) (command.Delete who relation row)) (meaning_with living after)

-- An owner's insertion may come, and is answered by the row's number.
pub record IsInsertionDone (machine : Machine) (who relation row : ℕ) (value : List ℕ) : Type 0 where
  pub come : MayCome machine (command.Insert who relation row value)
  pub done : IsReply machine (command.Insert who relation row value) (reply.Row row)
