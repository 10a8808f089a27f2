-- A number that is settled stays so, with each event.
use Rattle.std.proofs.Common.{◌≡◌, ◌∷◌, ◌⊎◌, inl, inr, ℕ, Bool, true, false, Option, Some, None, is_some, refl, sym, subst}
use Rattle.fbc_kinds.specs.declared.edits.Edit.{Edit}
use Rattle.fbc_kinds.specs.declared.pages.Page.{Page}
use Rattle.fbc_kinds.specs.declared.shapes.Shape.{Shape}
use Rattle.fbc_kinds.specs.declared.snapshots.Transaction.{Transaction}
use Rattle.fbc_kinds.specs.Machine.{is_held}
use Rattle.fbc_kinds.specs.View.{View}
use Rattle.fbc_world.specs.declared.events.Act.{Act}
use Rattle.fbc_world.specs.declared.events.Act.TheVariants.{Local, Write}
use Rattle.fbc_world.specs.declared.events.LocalEvent.TheVariants as local
use Rattle.fbc_world.specs.History.{History, Moment, happens}
use Rattle.fbc_world.specs.World.{World, acted, page_after, with_edit, written}
use Rattle.fbc_legal.specs.Guards.{Guard}
use Rattle.fbc_legal.specs.Legal.{IsLegal, MayAct}
use Rattle.fbc_legal.specs.Rows.{IsSettled}
use Rattle.fbc_legal.specs.Scene.{Scene, scene_of}
use Rattle.fbc_legal.proofs.Exclusion.{is_plain}
use Rattle.fbc_closed_cuts.specs.Views.{is_edit}
use Rattle.fbc_numbers.proofs.ActCommits.{kept-after}
use Rattle.fbc_numbers.proofs.Opens.{Begins, WasOpen, open-acted, open-dead, open-edited, open-written}
use Rattle.fbc_origins.specs.Owed.{IsInOrder}
use Rattle.fbc_origins.proofs.CommittedHeld.{committed-held}

-- Every open snapshot of the world holds the number.
abbrev HoldAll : World → ℕ → Type 0
HoldAll w number = (other : ℕ) (t : Transaction) → w.transaction other ≡ Some t → is_held t.snapshot number ≡ true

module _ (at : Scene) (order : IsInOrder at) (number : ℕ) (settled : IsSettled at number) (owner : ℕ) where
  -- An act that is neither an edit nor a failed write.
  plain_held : (act : Act) (landed : Bool) → MayAct at owner act → Guard at owner act → is_plain act ≡ true → is_edit act ≡ false → HoldAll (acted at.shape at.world owner act landed) number
  plain_held act landed may g plain no_edit other t is = go (open-acted at owner act landed may g plain no_edit other t is) where
    go : WasOpen at.world (acted at.shape at.world owner act landed) other t ⊎ Begins at (acted at.shape at.world owner act landed) owner other t → is_held t.snapshot number ≡ true
    go (inl was) = settled.held other t was.was
    go (inr begins) = subst (λ (u : Transaction). is_held u.snapshot number ≡ true) (sym begins.is) (committed-held at order.upheld order.numbered.grow number settled.committed owner begins.number)

  -- An edit opens no transaction.
  edit_held : (page : ℕ) (e : Edit) → at.world.marked owner ≡ None → (after : Option Page) → is_some after ≡ true → HoldAll (with_edit at.world owner page e after) number
  edit_held page e unmarked None fits other t is = absurd cc
  edit_held page e unmarked (Some content) fits other t is = settled.held other t (open-edited at.world owner page e content unmarked other t is)

  held-acted : (act : Act) (landed : Bool) → MayAct at owner act → Guard at owner act → HoldAll (acted at.shape at.world owner act landed) number
  held-acted (Write page reason true) true may g other t is = settled.held other t (open-written at.world owner page other t (open-dead (written at.world owner page) owner other t is).open_is.was).was
  held-acted (Write page reason true) false may g other t is = settled.held other t (open-dead at.world owner other t is).open_is.was
  held-acted (Write page reason false) landed may g other t is = plain_held (Write page reason false) landed may g refl refl other t is
  held-acted (Local (local.Edit page e)) landed may g other t is = edit_held page e g.unmarked (page_after at.shape at.world owner page e) g.fits other t is
  held-acted (Local (local.Before high low)) landed may g other t is = settled.held other t is
  held-acted (Local (local.Pin page)) landed may g other t is = settled.held other t is
  held-acted (Local (local.Unpin page)) landed may g other t is = settled.held other t is
  held-acted act landed may g other t is = plain_held act landed may g refl refl other t is

module _ (shape : Shape) (file : View) (before : History) (order : IsInOrder (scene_of shape file before)) (number : ℕ) (settled : IsSettled (scene_of shape file before) number) where
  -- What the file has as committed it keeps so.
  step : (owner : ℕ) (act : Act) (landed : Bool) → IsLegal shape file (happens owner act landed ∷ before) → (b : Bool) → is_edit act ≡ b → IsSettled (scene_of shape file (happens owner act landed ∷ before)) number
  step owner (Local (local.Edit page e)) landed legal b is = record {
    committed = settled.committed;
    held = held-acted (scene_of shape file before) order number settled owner (Local (local.Edit page e)) landed legal.1.alive legal.1.guard;
  }
  step owner act landed legal false no_edit = record {
    committed = kept-after shape file before (happens owner act landed) legal no_edit order.numbered.grow number settled.committed;
    held = held-acted (scene_of shape file before) order number settled owner act landed legal.1.alive legal.1.guard;
  }
  step owner act landed legal true no_edit = absurd cc

  pub settled-next : (moment : Moment) → IsLegal shape file (moment ∷ before) → IsSettled (scene_of shape file (moment ∷ before)) number
  settled-next moment legal = step moment.event.actor moment.event.act moment.landed legal (is_edit moment.event.act) refl
