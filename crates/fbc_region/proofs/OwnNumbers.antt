-- An open number stays open, or was given out as its owner has the header.
use Rattle.std.proofs.Common.{◌≡◌, ◌≢◌, ◌∙◌, ◌⊎◌, inl, inr, ℕ, ◌≤◌, ◌<◌, Bool, true, false, ◌==◌, ◌&&◌, if◌then◌else◌, [], ◌∷◌, Option, Some, None, is_some, sym, subst, refl, arith}
use Rattle.fbc_kinds.specs.declared.edits.Edit.{Edit}
use Rattle.fbc_kinds.specs.declared.edits.Edit.TheVariants as edit
use Rattle.fbc_kinds.specs.declared.pages.State.TheVariants.{Dead}
use Rattle.fbc_kinds.specs.declared.shapes.Shape.{Shape}
use Rattle.fbc_kinds.specs.declared.snapshots.Transaction.{Transaction}
use Rattle.fbc_kinds.specs.Machine.{begun}
use Rattle.fbc_kinds.specs.Meaning.{meaning_of}
use Rattle.fbc_kinds.specs.View.{View}
use Rattle.fbc_levels.specs.declared.levels.Level.TheVariants.{Ex}
use Rattle.fbc_lock_table.specs.declared.answers.Asked.TheVariants.{Granted}
use Rattle.fbc_lock_table.specs.Answers.{answer_to_ask}
use Rattle.fbc_legal.specs.Guards.{Guard}
use Rattle.fbc_legal.specs.Legal.{ComesNext, IsGrantOf, IsLegal}
use Rattle.fbc_legal.specs.Scene.{Scene, number_resource, scene_of}
use Rattle.fbc_legal.proofs.Exclusion.{same_number}
use Rattle.fbc_legal.proofs.Induction.{IsCoherent-legal}
use Rattle.fbc_legal.proofs.Ranked.{granted_next}
use Rattle.fbc_world.specs.declared.events.Act.{Act}
use Rattle.fbc_world.specs.declared.events.Act.TheVariants.{Ask, Die, Grant, Local, Write}
use Rattle.fbc_world.specs.declared.events.LocalEvent.TheVariants as local
use Rattle.fbc_world.specs.History.{History, Moment}
use Rattle.fbc_world.specs.Locks.{locks_of}
use Rattle.fbc_world.specs.World.{World, acted, is_begin, is_mark_on, is_number_of, newest_of, page_after, transaction_after_edit}
use Rattle.fbc_region.proofs.OwnHeaders.{grows_legal, is_last, next_acted, next_for}
use Rattle.fbc_region.proofs.OwnMarks.{IsMarkBelow, marks_legal, shown_below}

-- The owner has just asked to begin the number, and nobody was in the way.
pub record IsBeginAsk (before : History) (owner number : ℕ) (moment : Moment) : Type 0 where
  pub wait : Bool
  pub word : ℕ
  pub actor : moment.event.actor ≡ owner
  pub act : moment.event.act ≡ Ask (number_resource number) Ex wait word
  pub free : answer_to_ask (locks_of before) owner (number_resource number) Ex wait ≡ Granted

abbrev pub HasJustBegun : History → ℕ → ℕ → Type 0
HasJustBegun [] owner number = ⊥
HasJustBegun (last ∷ before) owner number = IsBeginAsk before owner number last

-- The number was given out as the owner has the header, or it is the owner's open one, or the owner has just asked to begin it.
abbrev pub IsOpenAs : World → ℕ → ℕ → Type 0
IsOpenAs w owner number = (t : Transaction) × (w.transaction owner ≡ Some t) × (t.number ≡ number)

abbrev pub IsKnown : World → History → ℕ → ℕ → Type 0
IsKnown w past owner number = (number < next_for owner (w.kept 0) (w.draft 0)) ⊎ IsOpenAs w owner number ⊎ HasJustBegun past owner number

-- A begin that was granted stands open.
pub begins_number : (before : History) (moment : Moment) (owner number : ℕ) → ComesNext before moment → HasJustBegun before owner number → IsGrantOf owner (number_resource number) Ex moment
begins_number [] moment owner number follows just = absurd just
begins_number (last ∷ rest) moment owner number follows just =
    granted_next rest owner (number_resource number) Ex last.event.actor last.event.act just.wait just.word moment just.actor just.act just.free follows

module _ (shape : Shape) (file : View) (before : History) (legal : IsLegal shape file before) (actor : ℕ) (landed : Bool) (owner number : ℕ) where
  abbrev at : Scene
  at = scene_of shape file before

  abbrev w : World
  w = at.world

  abbrev now : ℕ
  now = next_for owner (w.kept 0) (w.draft 0)

  abbrev After : Act → World
  After act = acted shape w actor act landed

  abbrev later : Act → ℕ
  later act = next_for owner ((After act).kept 0) ((After act).draft 0)

  pub rises : (act : Act) → Guard at actor act → (is_last act ≡ true → actor ≢ owner) → now ≤ later act
  rises act g lives = next_acted at (IsCoherent-legal shape file before legal) (grows_legal shape file before legal) actor owner act landed g lives

  marked_below : IsMarkBelow (w.marked owner) (w.transaction owner) now
  marked_below = marks_legal shape file before legal owner

  mark_told : (mark : Option ℕ) (t : Transaction) (open_one : Option Transaction) → open_one ≡ Some t → (page : ℕ) → is_mark_on page mark ≡ true → IsMarkBelow mark open_one now → t.number < now
  mark_told None t open_one is page here below = absurd cc
  mark_told (Some marked) t None is page here below = absurd cc
  mark_told (Some marked) t (Some other) is page here below = let same : other ≡ t = cc in subst (λ u. u.number < now) same below

  -- An open transaction stays open, or its number was given out.
  abbrev Stays : Transaction → Act → Type 0
  Stays t act = ((After act).transaction owner ≡ Some t) ⊎ (t.number < now)

  module _ (t : Transaction) (is : w.transaction owner ≡ Some t) where
    by_write : (page : ℕ) (b : Bool) → (owner == actor) && is_mark_on page (w.marked owner) ≡ b → ((if b then None else w.transaction owner) ≡ Some t) ⊎ (t.number < now)
    by_write page false not_it = inl is
    by_write page true it = inr (mark_told (w.marked owner) t (w.transaction owner) is page (second (owner == actor) (is_mark_on page (w.marked owner)) it) marked_below) where
      second : (a b : Bool) → a && b ≡ true → b ≡ true
      second true b it' = it'
      second false b it' = absurd cc

    stays_dead : (is_dead : (owner == actor) ≡ false) → (if owner == actor then None else w.transaction owner) ≡ Some t
    stays_dead other = rw other is

    by_edit : (page : ℕ) (e : Edit) → owner ≡ actor → Guard at actor (Local (local.Edit page e)) → (transaction_after_edit e (w.transaction owner) ≡ Some t) ⊎ (t.number < now)
    by_edit page (edit.Mark number Dead) its g = go (t.number == number) refl where
      below : number < now
      below = subst (λ o. number < next_for o (w.kept 0) (w.draft 0)) (sym its) (shown_below at (IsCoherent-legal shape file before legal) (grows_legal shape file before legal) actor number page (edit.Mark number Dead) g g.leans)

      go : (b : Bool) → t.number == number ≡ b → ((if is_number_of number (w.transaction owner) then None else w.transaction owner) ≡ Some t) ⊎ (t.number < now)
      go true same = let here : t.number ≡ number = same_number t.number number same in inr (omega (arith, here, below))
      go false other = inl (rw (is, other) refl)
    by_edit page e its g = inl is

    pub stays : (act : Act) → Guard at actor act → (is_last act ≡ true → owner == actor ≡ false) → Stays t act
    stays Die g lives = inl (stays_dead (lives refl))
    stays (Write page reason true) g lives = dead_write landed (lives refl) where
      dead_write : (l : Bool) → owner == actor ≡ false → ((acted shape w actor (Write page reason true) l).transaction owner ≡ Some t) ⊎ (t.number < now)
      dead_write true other = inl (rw other is)
      dead_write false other = inl (rw other is)
    stays (Write page reason false) g lives = by_write page ((owner == actor) && is_mark_on page (w.marked owner)) refl
    stays (Grant r level) g lives = go (owner == actor) refl (is_begin r level) refl where
      go : (a : Bool) → owner == actor ≡ a → (b : Bool) → is_begin r level ≡ b → ((if a && b then Some (begun (meaning_of (newest_of w)) actor r.key) else w.transaction owner) ≡ Some t) ⊎ (t.number < now)
      go true its true high =
          absurd (let none : w.transaction owner ≡ None = subst (λ o. w.transaction o ≡ None) (sym (same_number owner actor its)) (g.begins high).none_open in
          let clash : None ≡ Some t = sym none ∙ is in cc)
      go true its false low = inl is
      go false other b high = inl is
    stays (Local (local.Edit page e)) g lives = go (owner == actor) refl (is_some (page_after at.shape w actor page e)) where
      go : (a : Bool) → owner == actor ≡ a → (b : Bool) → ((if a && b then transaction_after_edit e (w.transaction owner) else w.transaction owner) ≡ Some t) ⊎ (t.number < now)
      go true its true = by_edit page e (same_number owner actor its) g
      go true its false = inl is
      go false other b = inl is
    stays (Local (local.Before high low)) g lives = inl is
    stays (Local (local.Pin page)) g lives = inl is
    stays (Local (local.Unpin page)) g lives = inl is
    stays _ g lives = inl is
