-- A number whose mark is drafted was given out in the header as its owner has it.
use Rattle.std.proofs.Common.{◌≡◌, ◌≢◌, ◌⊎◌, inl, inr, ap, ℕ, ◌≤◌, ◌<◌, Bool, true, false, ◌==◌, ◌&&◌, if◌then◌else◌, [], ◌∷◌, Option, Some, None, is_some, sym, subst, refl, arith}
use Rattle.std.proofs.lemmas.Bool.Decides.{nat_tests}
use Rattle.fbc_kinds.specs.declared.edits.Edit.{Edit}
use Rattle.fbc_kinds.specs.declared.edits.Edit.TheVariants as edit
use Rattle.fbc_kinds.specs.declared.pages.Page.{Page}
use Rattle.fbc_kinds.specs.declared.pages.State.TheVariants.{Active, Committed, Dead, Limbo}
use Rattle.fbc_kinds.specs.declared.shapes.Shape.{Shape}
use Rattle.fbc_kinds.specs.declared.snapshots.Transaction.{Transaction}
use Rattle.fbc_kinds.specs.View.{View}
use Rattle.fbc_levels.specs.declared.levels.Level.{Level}
use Rattle.fbc_levels.specs.declared.levels.Level.TheVariants.{Ex}
use Rattle.fbc_levels.specs.declared.resources.Resource.{Resource}
use Rattle.fbc_world.specs.declared.asks.Cause.{Cause}
use Rattle.fbc_world.specs.declared.events.Act.{Act}
use Rattle.fbc_world.specs.declared.events.Act.TheVariants.{Die, Grant, Local, Write}
use Rattle.fbc_world.specs.declared.events.LocalEvent.TheVariants as local
use Rattle.fbc_world.specs.History.{History}
use Rattle.fbc_levels.specs.Resources.{page_resource}
use Rattle.fbc_world.specs.PageCell.{newest_in}
use Rattle.fbc_world.specs.World.{World, acted, is_begin, is_mark_on, is_number_of, mark_after_edit, page_after, transaction_after_edit, world_of}
use Rattle.fbc_legal.specs.Coherent.{IsCoherent}
use Rattle.fbc_legal.specs.Facts.{HasNextAbove}
use Rattle.fbc_legal.specs.Guards.{Guard, GuardOfEdit, GuardOfGrant}
use Rattle.fbc_legal.specs.Leans.{IsShown}
use Rattle.fbc_legal.specs.Legal.{IsLegal}
use Rattle.fbc_legal.specs.Scene.{Scene, HasDraft, IsBefore, scene_of}
use Rattle.fbc_legal.specs.Stamps.{Stamps, newest_stamps}
use Rattle.fbc_legal.proofs.Exclusion.{same_number}
use Rattle.fbc_legal.proofs.HeaderGrowth.{exclusive-own, newest-own, own_from}
use Rattle.fbc_legal.proofs.Induction.{IsCoherent-legal}
use Rattle.fbc_region.proofs.NextRises.{next_in}
use Rattle.fbc_region.proofs.OwnHeaders.{NextGrows, grows_legal, is_last, next_acted, next_for, next_kept}

-- The marked transaction's number is below the next one.
abbrev pub IsMarkBelow : Option ℕ → Option Transaction → ℕ → Type 0
IsMarkBelow None transaction next = Unit {0}
IsMarkBelow (Some page) None next = ⊥
IsMarkBelow (Some page) (Some t) next = t.number < next

abbrev pub MarksAreBelow : World → Type 0
MarksAreBelow w = (owner : ℕ) → IsMarkBelow (w.marked owner) (w.transaction owner) (next_for owner (w.kept 0) (w.draft 0))

raise : (mark : Option ℕ) (transaction : Option Transaction) (next later : ℕ) → next ≤ later → IsMarkBelow mark transaction next → IsMarkBelow mark transaction later
raise None transaction next later rises below = tt
raise (Some page) None next later rises below = below
raise (Some page) (Some t) next later rises below = omega (arith, rises, below)

unmarked : (mark : Option ℕ) (transaction : Option Transaction) (next : ℕ) → transaction ≡ None → IsMarkBelow mark transaction next → mark ≡ None
unmarked None transaction next none below = refl
unmarked (Some page) None next none below = absurd below
unmarked (Some page) (Some t) next none below = absurd cc

nothing_below : (mark : Option ℕ) (transaction : Option Transaction) (next : ℕ) → mark ≡ None → IsMarkBelow mark transaction next
nothing_below mark transaction next none = rw none tt

cleared : (b : Bool) (mark : Option ℕ) (transaction : Option Transaction) (next : ℕ) → mark ≡ None → IsMarkBelow (if b then None else mark) transaction next
cleared true mark transaction next none = tt
cleared false mark transaction next none = nothing_below mark transaction next none

above : (number : ℕ) (content : Option Page) (stamps : Stamps) → HasNextAbove number content stamps → number < next_in content
above number content stamps (header, is, below) = rw is below

module _ (at : Scene) (x : IsCoherent at.world) (grows : NextGrows (at.world.kept 0) (at.world.draft 0)) (actor : ℕ) where
  abbrev w : World
  w = at.world

  -- What an edit leans on of the next number its owner has in its header.
  pub shown_below : (number page : ℕ) (e : Edit) → GuardOfEdit at actor page e → IsShown at actor page 0 (HasNextAbove number) → number < next_for actor (w.kept 0) (w.draft 0)
  shown_below number page e g shown = go shown.in_time where
    in_newest : number < next_in (newest_in (w.kept 0) (w.draft 0))
    in_newest = above number (newest_in (w.kept 0) (w.draft 0)) (newest_stamps at.world at.stamps 0) shown.newest

    go : (0 ≡ page) ⊎ HasNextAbove number (w.kept 0) (at.stamps.kept 0) ⊎ (HasDraft at actor 0 × IsBefore at 0 page) → number < next_for actor (w.kept 0) (w.draft 0)
    go (inl same) =
        let exclusive : w.granted actor (page_resource 0) ≡ Ex = subst (λ p. w.granted actor (page_resource p) ≡ Ex) (sym same) g.exclusive in
        omega (arith, in_newest, ap next_in (newest-own actor (w.kept 0) (w.draft 0) (exclusive-own w x actor 0 exclusive)))
    go (inr (inl kept)) = omega (arith, above number (w.kept 0) (at.stamps.kept 0) kept, next_kept actor (w.kept 0) (w.draft 0) grows)
    go (inr (inr (its, before))) = omega (arith, in_newest, ap next_in (newest-own actor (w.kept 0) (w.draft 0) (own_from actor (w.draft 0) its)))

  own_mark : (page : ℕ) (e : Edit) → GuardOfEdit at actor page e → (later : ℕ) → next_for actor (w.kept 0) (w.draft 0) ≤ later
      → IsMarkBelow (mark_after_edit page e (w.transaction actor) (w.marked actor)) (transaction_after_edit e (w.transaction actor)) later
  own_mark page (edit.Mark number Committed) g later rises = go (w.transaction actor) where
    below : number < later
    below = omega (arith, shown_below number page (edit.Mark number Committed) g g.leans, rises)

    it : (t : Transaction) (b : Bool) → t.number == number ≡ b → IsMarkBelow (if b then Some page else w.marked actor) (Some t) later
    it t true is = let same : t.number ≡ number = grind (arith, nat_tests, is) in omega (arith, same, below)
    it t false is = nothing_below (w.marked actor) (Some t) later g.unmarked

    go : (open_one : Option Transaction) → IsMarkBelow (if is_number_of number open_one then Some page else w.marked actor) open_one later
    go None = nothing_below (w.marked actor) None later g.unmarked
    go (Some t) = it t (t.number == number) refl
  own_mark page (edit.Mark number Active) g later rises = cleared (is_number_of number (w.transaction actor)) (w.marked actor) (w.transaction actor) later g.unmarked
  own_mark page (edit.Mark number Limbo) g later rises = cleared (is_number_of number (w.transaction actor)) (w.marked actor) (w.transaction actor) later g.unmarked
  own_mark page (edit.Mark number Dead) g later rises =
      cleared (is_number_of number (w.transaction actor)) (w.marked actor) (if is_number_of number (w.transaction actor) then None else w.transaction actor) later g.unmarked
  own_mark page e g later rises = nothing_below (w.marked actor) (w.transaction actor) later g.unmarked

  module _ (marks : MarksAreBelow at.world) (owner : ℕ) where
    abbrev now : ℕ
    now = next_for owner (w.kept 0) (w.draft 0)

    abbrev later : Act → Bool → ℕ
    later act landed = next_for owner ((acted at.shape w actor act landed).kept 0) ((acted at.shape w actor act landed).draft 0)

    same : (act : Act) (landed : Bool) → Guard at actor act → (is_last act ≡ true → actor ≢ owner) → IsMarkBelow (w.marked owner) (w.transaction owner) (later act landed)
    same act landed g lives = raise (w.marked owner) (w.transaction owner) now (later act landed) (next_acted at x grows actor owner act landed g lives) (marks owner)

    apart : owner == actor ≡ false → actor ≢ owner
    apart other is = grind (arith, nat_tests, other, is)

    dies : (act : Act) (landed : Bool) → Guard at actor act
        → IsMarkBelow (if owner == actor then None else w.marked owner) (if owner == actor then None else w.transaction owner) (later act landed)
    dies act landed g = go (owner == actor) refl where
      go : (b : Bool) → owner == actor ≡ b → IsMarkBelow (if b then None else w.marked owner) (if b then None else w.transaction owner) (later act landed)
      go true its = tt
      go false other = same act landed g (λ last. apart other)

    lands : (page : ℕ) (reason : Cause) → Guard at actor (Write page reason true)
        → IsMarkBelow (if owner == actor then None else (if (owner == actor) && is_mark_on page (w.marked owner) then None else w.marked owner))
        (if owner == actor then None else (if (owner == actor) && is_mark_on page (w.marked owner) then None else w.transaction owner)) (later (Write page reason true) true)
    lands page reason g = go (owner == actor) refl where
      go : (b : Bool) → owner == actor ≡ b → IsMarkBelow (if b then None else (if b && is_mark_on page (w.marked owner) then None else w.marked owner))
          (if b then None else (if b && is_mark_on page (w.marked owner) then None else w.transaction owner)) (later (Write page reason true) true)
      go true its = tt
      go false other = same (Write page reason true) true g (λ last. apart other)

    writes : (page : ℕ) (reason : Cause) (landed : Bool) → Guard at actor (Write page reason false)
        → IsMarkBelow (if (owner == actor) && is_mark_on page (w.marked owner) then None else w.marked owner) (if (owner == actor) && is_mark_on page (w.marked owner) then None else w.transaction owner)
        (later (Write page reason false) landed)
    writes page reason landed g = go ((owner == actor) && is_mark_on page (w.marked owner)) where
      go : (b : Bool) → IsMarkBelow (if b then None else w.marked owner) (if b then None else w.transaction owner) (later (Write page reason false) landed)
      go true = tt
      go false = same (Write page reason false) landed g (λ last. absurd cc)

    begins : (resource : Resource) (level : Level) (landed : Bool) (begun_one : Option Transaction) → GuardOfGrant at actor resource level
        → IsMarkBelow (w.marked owner) (if (owner == actor) && is_begin resource level then begun_one else w.transaction owner) (later (Grant resource level) landed)
    begins resource level landed begun_one g = go (owner == actor) refl (is_begin resource level) refl where
      go : (a : Bool) → owner == actor ≡ a → (b : Bool) → is_begin resource level ≡ b → IsMarkBelow (w.marked owner) (if a && b then begun_one else w.transaction owner) (later (Grant resource level) landed)
      go true its true high =
          let none : w.transaction owner ≡ None = subst (λ o. w.transaction o ≡ None) (sym (same_number owner actor its)) (g.begins high).none_open in
          nothing_below (w.marked owner) begun_one (later (Grant resource level) landed) (unmarked (w.marked owner) (w.transaction owner) now none (marks owner))
      go true its false low = same (Grant resource level) landed g (λ last. absurd cc)
      go false other b high = same (Grant resource level) landed g (λ last. absurd cc)

    edits : (page : ℕ) (e : Edit) (landed : Bool) → GuardOfEdit at actor page e
        → IsMarkBelow (if (owner == actor) && is_some (page_after at.shape w actor page e) then mark_after_edit page e (w.transaction owner) (w.marked owner) else w.marked owner)
        (if (owner == actor) && is_some (page_after at.shape w actor page e) then transaction_after_edit e (w.transaction owner) else w.transaction owner) (later (Local (local.Edit page e)) landed)
    edits page e landed g = rw g.fits (go (owner == actor) refl) where
      go : (b : Bool) → owner == actor ≡ b → IsMarkBelow (if b && true then mark_after_edit page e (w.transaction owner) (w.marked owner) else w.marked owner)
          (if b && true then transaction_after_edit e (w.transaction owner) else w.transaction owner) (later (Local (local.Edit page e)) landed)
      go true its =
          subst (λ o. next_for o (w.kept 0) (w.draft 0) ≤ next_for o ((acted at.shape w actor (Local (local.Edit page e)) landed).kept 0) ((acted at.shape w actor (Local (local.Edit page e)) landed).draft 0)
          → IsMarkBelow (mark_after_edit page e (w.transaction o) (w.marked o)) (transaction_after_edit e (w.transaction o))
          (next_for o ((acted at.shape w actor (Local (local.Edit page e)) landed).kept 0) ((acted at.shape w actor (Local (local.Edit page e)) landed).draft 0)))
          (sym (same_number owner actor its))
          (λ rises. own_mark page e g _ rises) (next_acted at x grows actor owner (Local (local.Edit page e)) landed g (λ last. absurd cc))
      go false other = same (Local (local.Edit page e)) landed g (λ last. absurd cc)

    pub marks_acted : (act : Act) (landed : Bool) → Guard at actor act
        → IsMarkBelow ((acted at.shape w actor act landed).marked owner) ((acted at.shape w actor act landed).transaction owner) (later act landed)
    marks_acted Die landed g = dies Die landed g
    marks_acted (Write page reason true) true g = lands page reason g
    marks_acted (Write page reason true) false g = dies (Write page reason true) false g
    marks_acted (Write page reason false) landed g = writes page reason landed g
    marks_acted (Grant resource level) landed g = begins resource level landed _ g
    marks_acted (Local (local.Edit page e)) landed g = edits page e landed g
    marks_acted (Local (local.Before high low)) landed g = marks owner
    marks_acted (Local (local.Pin page)) landed g = marks owner
    marks_acted (Local (local.Unpin page)) landed g = marks owner
    marks_acted _ landed g = marks owner

pub marks_legal : (shape : Shape) (file : View) (history : History) → IsLegal shape file history → MarksAreBelow (world_of shape file history)
marks_legal shape file [] legal = λ owner. tt
marks_legal shape file (moment ∷ before) legal = λ owner.
    marks_acted (scene_of shape file before) (IsCoherent-legal shape file before legal.0) (grows_legal shape file before legal.0) moment.event.actor (marks_legal shape file before legal.0) owner
    moment.event.act moment.landed legal.1.guard
