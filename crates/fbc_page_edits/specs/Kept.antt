-- What edits of the header and of page inventories make of a view: the view before the edit, and the one after it.
use Rattle.std.specs.Prelude.{ℕ, List}
use Rattle.fbc_kinds.specs.declared.snapshots.Transaction.{Transaction}
use Rattle.fbc_kinds.specs.Lost.{IsLostPage}
use Rattle.fbc_kinds.specs.Meaning.{MeanTheSame, meaning_with}
use Rattle.fbc_kinds.specs.Reach.{ReachesPage}
use Rattle.fbc_kinds.specs.Sound.{IsSound}
use Rattle.fbc_kinds.specs.View.{View}
use Rattle.fbc_page_edits.specs.Alike.{KeepsLostPages, KeepsLostPagesBut, ReadAlike}

-- The next number is raised: the view reads as before.
pub record RaisedNumberKeeps (view after : View) : Type 0 where
  pub sound : IsSound after
  pub alike : ReadAlike view after
  pub lost : KeepsLostPages view after

-- A page is counted or made that is not named: the view means the same.
pub record MadePageKeeps (view after : View) : Type 0 where
  pub sound : IsSound after
  pub alike : ReadAlike view after
  pub meaning : (living : List Transaction) → MeanTheSame (meaning_with living view) (meaning_with living after)
  pub lost : KeepsLostPages view after

-- A page is named by the page of this number, where that one is reached: it is lost no more, and the view means the same.
pub record NamedPageKeeps (view : View) (number page : ℕ) (after : View) : Type 0 where
  pub sound : IsSound after
  pub alike : ReadAlike view after
  pub meaning : (living : List Transaction) → MeanTheSame (meaning_with living view) (meaning_with living after)
  pub reached : ReachesPage view number → ReachesPage after page
  pub lost : KeepsLostPagesBut page view after

-- A page is marked as taken by the inventory of this number: it is lost until it is named, and the view means the same.
pub record TakenPageKeeps (view : View) (number page : ℕ) (after : View) : Type 0 where
  pub sound : IsSound after
  pub alike : ReadAlike view after
  pub meaning : (living : List Transaction) → MeanTheSame (meaning_with living view) (meaning_with living after)
  pub lost : KeepsLostPages view after
  pub taken : ReachesPage view number → ¬ ReachesPage view page → IsLostPage after page

-- A page that is not reached is marked as free by the inventory of this number: it is lost no more, and the view means
-- the same.
pub record FreedPageKeeps (view : View) (number page : ℕ) (after : View) : Type 0 where
  pub sound : IsSound after
  pub alike : ReadAlike view after
  pub meaning : (living : List Transaction) → MeanTheSame (meaning_with living view) (meaning_with living after)
  pub lost : KeepsLostPagesBut page view after
  pub found : ReachesPage view number → ¬ IsLostPage after page
