-- What an event does to a back value that was moved: it is moved now, or was so before and is not reached.
use Rattle.std.proofs.Common.{◌≡◌, ◌≤◌, ◌⊎◌, inl, inr, ℕ, [], ◌∷◌, true, length, arith}
use Rattle.fbc_kinds.specs.declared.edits.Edit.TheVariants.{PutCell}
use Rattle.fbc_kinds.specs.declared.pages.Cell.{Cell}
use Rattle.fbc_kinds.specs.declared.shapes.Shape.{Shape}
use Rattle.fbc_kinds.specs.View.{View, is_back}
use Rattle.fbc_page_edits.specs.Facing.{IsLinked}
use Rattle.fbc_world.specs.History.{History, Moment}
use Rattle.fbc_legal.specs.Scene.{newest_after}
use Rattle.fbc_legal.specs.Stamps.{stamp_after}
use Rattle.fbc_legal.specs.Traces.{IsEditOf, IsMovedBy, moved, still}

module _ (shape : Shape) (file : View) (owner page cell stamp : ℕ) where
  -- The moment moves a back value into the cell.
  pub record IsMoveNow (before : History) (moment : Moment) : Type 0 where
    pub content : Cell
    pub is : IsEditOf owner page (PutCell cell content) moment
    pub back : is_back content.flag ≡ true
    pub number : stamp ≡ stamp_after before

  -- A back value was moved before, and is still not reached.
  pub record IsStillMoved (before : History) (moment : Moment) : Type 0 where
    pub was : IsMovedBy shape file owner page cell stamp before
    pub unreached : ¬ IsLinked (newest_after shape file (moment ∷ before)) page cell

  abbrev pub MovedAt : History → Type 0
  MovedAt [] = ⊥
  MovedAt (moment ∷ before) = IsMoveNow before moment ⊎ IsStillMoved before moment

  pub moved-at : (past : History) → IsMovedBy shape file owner page cell stamp past → MovedAt past
  moved-at _ (moved before moment content is back number) = inl (record { content = content; is = is; back = back; number = number })
  moved-at _ (still before moment was unreached) = inr (record { was = was; unreached = unreached })

  -- The edit that moved it is one of the past.
  pub moved-past : (past : History) → IsMovedBy shape file owner page cell stamp past → stamp ≤ length past
  moved-past _ (moved before moment content is back number) = grind (arith, number)
  moved-past _ (still before moment was unreached) = grind (arith, moved-past before was)
