-- Which open transactions there are after an act: those that were, and one that begins.
use Rattle.std.proofs.Common.{◌≡◌, ◌∙◌, ◌==◌, ◌&&◌, ◌⊎◌, ℕ, Bool, true, false, if◌then◌else◌, Option, Some, None, inl, inr, refl, sym, ap, subst, arith}
use Rattle.std.proofs.lemmas.Option.{same_Some}
use Rattle.std.proofs.lemmas.Bool.Decides.{nat_tests}
use Rattle.std.proofs.lemmas.Bool.{and_right}
use Rattle.fbc_kinds.specs.declared.edits.Edit.{Edit}
use Rattle.fbc_kinds.specs.declared.edits.Edit.TheVariants as edit
use Rattle.fbc_kinds.specs.declared.pages.Page.{Page}
use Rattle.fbc_kinds.specs.declared.pages.State.TheVariants.{Active, Committed, Dead, Limbo}
use Rattle.fbc_kinds.specs.declared.snapshots.Transaction.{Transaction}
use Rattle.fbc_kinds.specs.Machine.{begun}
use Rattle.fbc_kinds.specs.Meaning.{meaning_of}
use Rattle.fbc_levels.specs.declared.levels.Level.{Level}
use Rattle.fbc_levels.specs.declared.levels.Level.TheVariants.{Ex}
use Rattle.fbc_levels.specs.declared.resources.Resource.{Resource}
use Rattle.fbc_levels.specs.Resources.{is_same_resource, page_resource}
use Rattle.fbc_world.specs.declared.events.Act.{Act}
use Rattle.fbc_world.specs.declared.events.Act.TheVariants.{Die, Grant, Local, Write}
use Rattle.fbc_world.specs.declared.events.LocalEvent.TheVariants as local
use Rattle.fbc_world.specs.World.{World, acted, dead, is_begin, is_mark_on, is_number_of, mark_after_edit, newest_of, transaction_after_edit, with_edit, written}
use Rattle.fbc_legal.specs.Guards.{Guard, GuardOfGrant, MayBegin}
use Rattle.fbc_legal.specs.Legal.{MayAct}
use Rattle.fbc_legal.specs.Scene.{Scene}
use Rattle.fbc_legal.proofs.Exclusion.{is_plain, same_number}
use Rattle.fbc_closed_cuts.specs.Views.{is_edit}

-- The transaction was open before, with the same mark or none.
pub record WasOpen (w after : World) (owner : ℕ) (t : Transaction) : Type 0 where
  pub was : w.transaction owner ≡ Some t
  pub mark : after.marked owner ≡ w.marked owner

-- It begins now.
pub record Begins (at : Scene) (after : World) (actor owner : ℕ) (t : Transaction) : Type 0 where
  pub number : ℕ
  pub word : ℕ
  pub same : owner ≡ actor
  pub is : t ≡ begun (meaning_of (newest_of at.world)) actor number
  pub may : MayBegin at actor number word
  pub mark : after.marked owner ≡ at.world.marked owner
  pub newest : newest_of after ≡ newest_of at.world
  pub kept : after.kept ≡ at.world.kept
  pub alive : after.is_alive actor ≡ true
  pub pinned : after.is_pinned actor 0 ≡ true
  pub exclusive : after.granted actor (page_resource 0) ≡ Ex

-- What is begun is no page.
begin_apart : (resource : Resource) (level : Level) (page : ℕ) → is_begin resource level ≡ true → is_same_resource resource (page_resource page) ≡ false
begin_apart resource level page begins = grind (arith, nat_tests, begins)

module _ (w : World) (owner : ℕ) where
  -- At a death the open transaction of another is left.
  pub record IsOther (after : World) (other : ℕ) (t : Transaction) : Type 0 where
    pub apart : other == owner ≡ false
    pub open_is : WasOpen w after other t

  pub open-dead : (other : ℕ) (t : Transaction) → (dead w owner).transaction other ≡ Some t → IsOther (dead w owner) other t
  open-dead other t = go (other == owner) refl where
    go : (b : Bool) → other == owner ≡ b → (if b then None else w.transaction other) ≡ Some t → IsOther (dead w owner) other t
    go true its is = absurd cc
    go false its is = record { apart = its; open_is = record { was = is; mark = rw its refl } }

  pub open-written : (page other : ℕ) (t : Transaction) → (written w owner page).transaction other ≡ Some t → WasOpen w (written w owner page) other t
  open-written page other t = go ((other == owner) && is_mark_on page (w.marked other)) refl where
    go : (b : Bool) → (other == owner) && is_mark_on page (w.marked other) ≡ b → (if b then None else w.transaction other) ≡ Some t → WasOpen w (written w owner page) other t
    go true its is = absurd cc
    go false its is = record { was = is; mark = rw its refl }

module _ (at : Scene) (owner : ℕ) where
  abbrev w : World
  w = at.world

  open-granted : (resource : Resource) (level : Level) (landed : Bool) → w.is_alive owner ≡ true → GuardOfGrant at owner resource level → (other : ℕ) (t : Transaction) → (acted at.shape w owner (Grant resource level) landed).transaction other ≡ Some t
      → WasOpen w (acted at.shape w owner (Grant resource level) landed) other t ⊎ Begins at (acted at.shape w owner (Grant resource level) landed) owner other t
  open-granted resource level landed lives g other t = go (other == owner) refl (is_begin resource level) refl where
    go : (a : Bool) → other == owner ≡ a → (b : Bool) → is_begin resource level ≡ b → (if a && b then Some (begun (meaning_of (newest_of w)) owner resource.key) else w.transaction other) ≡ Some t
        → WasOpen w (acted at.shape w owner (Grant resource level) landed) other t ⊎ Begins at (acted at.shape w owner (Grant resource level) landed) owner other t
    go true its true begins is =
        inr (record { number = resource.key; word = _; same = same_number other owner its; is = same_Some t _ (sym is); may = g.begins begins; mark = refl; newest = refl; kept = refl; alive = lives; pinned = (g.begins begins).header; exclusive = rw (and_right (owner == owner) _ (begin_apart resource level 0 begins)) (g.begins begins).exclusive })
    go true its false begins is = inl (record { was = is; mark = refl })
    go false its b begins is = inl (record { was = is; mark = refl })

  pub open-acted : (act : Act) (landed : Bool) → MayAct at owner act → Guard at owner act → is_plain act ≡ true → is_edit act ≡ false → (other : ℕ) (t : Transaction) → (acted at.shape w owner act landed).transaction other ≡ Some t
      → WasOpen w (acted at.shape w owner act landed) other t ⊎ Begins at (acted at.shape w owner act landed) owner other t
  open-acted Die landed may g plain no_edit other t is = let was = (open-dead w owner other t is).open_is in inl (record { was = was.was; mark = was.mark })
  open-acted (Write page reason false) landed may g plain no_edit other t is = let was = open-written w owner page other t is in inl (record { was = was.was; mark = was.mark })
  open-acted (Write page reason true) landed may g plain no_edit other t is = absurd cc
  open-acted (Grant resource level) landed may g plain no_edit other t is = open-granted resource level landed may g other t is
  open-acted (Local (local.Edit page e)) landed may g plain no_edit other t is = absurd cc
  open-acted (Local (local.Before high low)) landed may g plain no_edit other t is = inl (record { was = is; mark = refl })
  open-acted (Local (local.Pin page)) landed may g plain no_edit other t is = inl (record { was = is; mark = refl })
  open-acted (Local (local.Unpin page)) landed may g plain no_edit other t is = inl (record { was = is; mark = refl })
  open-acted _ landed may g plain no_edit other t is = inl (record { was = is; mark = refl })

-- An edit leaves its owner's transaction open, or ends it.
pub left_open : (e : Edit) (before : Option Transaction) (t : Transaction) → transaction_after_edit e before ≡ Some t → before ≡ Some t
left_open (edit.Mark number Dead) before t is = go (is_number_of number before) is where
  go : (b : Bool) → (if b then None else before) ≡ Some t → before ≡ Some t
  go true is = absurd cc
  go false is = is
left_open (edit.Mark number Committed) before t is = is
left_open (edit.Mark number Active) before t is = is
left_open (edit.Mark number Limbo) before t is = is
left_open e before t is = is

-- The mark of an owner that had none.
pub record IsOwnMark (page : ℕ) (e : Edit) (t : Transaction) (marked : ℕ) : Type 0 where
  pub on : marked ≡ page
  pub edit_is : e ≡ edit.Mark t.number Committed

own_mark : (page : ℕ) (e : Edit) (t : Transaction) (marked : ℕ) → mark_after_edit page e (Some t) None ≡ Some marked → IsOwnMark page e t marked
own_mark page (edit.Mark number Committed) t marked is = go (t.number == number) refl is where
  go : (b : Bool) → t.number == number ≡ b → (if b then Some page else None) ≡ Some marked → IsOwnMark page (edit.Mark number Committed) t marked
  go true same is = record { on = same_Some marked page (sym is); edit_is = ap (λ n. edit.Mark n Committed) (sym (same_number t.number number same)) }
  go false other is = absurd cc
own_mark page (edit.Mark number Active) t marked is = go (t.number == number) is where
  go : (b : Bool) → (if b then None else None) ≡ Some marked → IsOwnMark page (edit.Mark number Active) t marked
  go true is = absurd cc
  go false is = absurd cc
own_mark page (edit.Mark number Dead) t marked is = go (t.number == number) is where
  go : (b : Bool) → (if b then None else None) ≡ Some marked → IsOwnMark page (edit.Mark number Dead) t marked
  go true is = absurd cc
  go false is = absurd cc
own_mark page (edit.Mark number Limbo) t marked is = go (t.number == number) is where
  go : (b : Bool) → (if b then None else None) ≡ Some marked → IsOwnMark page (edit.Mark number Limbo) t marked
  go true is = absurd cc
  go false is = absurd cc
own_mark page e t marked is = absurd cc

module _ (w : World) (owner page : ℕ) (e : Edit) (content : Page) (unmarked : w.marked owner ≡ None) where
  abbrev after : World
  after = with_edit w owner page e (Some content)

  pub open-edited : (other : ℕ) (t : Transaction) → after.transaction other ≡ Some t → w.transaction other ≡ Some t
  open-edited other t = go (other == owner) where
    go : (b : Bool) → (if b && true then transaction_after_edit e (w.transaction other) else w.transaction other) ≡ Some t → w.transaction other ≡ Some t
    go true is = left_open e (w.transaction other) t is
    go false is = is

  -- A mark is another's, or that of the actor's own number.
  pub mark-edited : (other : ℕ) (t : Transaction) (marked : ℕ) → after.transaction other ≡ Some t → after.marked other ≡ Some marked
      → ((other == owner ≡ false) × (w.marked other ≡ Some marked)) ⊎ ((other ≡ owner) × IsOwnMark page e t marked)
  mark-edited other t marked is_open = go (other == owner) refl where
    go : (b : Bool) → other == owner ≡ b → (if b && true then mark_after_edit page e (w.transaction other) (w.marked other) else w.marked other) ≡ Some marked
        → ((other == owner ≡ false) × (w.marked other ≡ Some marked)) ⊎ ((other ≡ owner) × IsOwnMark page e t marked)
    go true its is =
        let same : other ≡ owner = same_number other owner its in
        inr (same, own_mark page e t marked (subst (λ m. mark_after_edit page e (Some t) m ≡ Some marked) (ap w.marked same ∙ unmarked) (subst (λ o. mark_after_edit page e o (w.marked other) ≡ Some marked) (open-edited other t is_open) is)))
    go false apart is = inl (apart, is)

  -- Who has no mark after the edit had none, and has not marked its number as committed.
  pub unmarked-edited : (other : ℕ) (t : Transaction) → after.transaction other ≡ Some t → after.marked other ≡ None
      → (w.marked other ≡ None) × (other ≡ owner → e ≡ edit.Mark t.number Committed → ⊥)
  unmarked-edited other t is_open = go (other == owner) refl where
    never : (same : other ≡ owner) → e ≡ edit.Mark t.number Committed → mark_after_edit page e (w.transaction other) (w.marked other) ≡ None → ⊥
    never same it is = by (subst (λ o. mark_after_edit page (edit.Mark t.number Committed) o (w.marked other) ≡ None) (open-edited other t is_open) (subst (λ x. mark_after_edit page x (w.transaction other) (w.marked other) ≡ None) it is)) where
      by : (if t.number == t.number then Some page else w.marked other) ≡ None → ⊥
      by none = at (t.number == t.number) (grind (arith, nat_tests)) none where
        at : (b : Bool) → b ≡ true → (if b then Some page else w.marked other) ≡ None → ⊥
        at true key found = cc
        at false key found = cc

    go : (b : Bool) → other == owner ≡ b → (if b && true then mark_after_edit page e (w.transaction other) (w.marked other) else w.marked other) ≡ None
        → (w.marked other ≡ None) × (other ≡ owner → e ≡ edit.Mark t.number Committed → ⊥)
    go true its is = (ap w.marked (same_number other owner its) ∙ unmarked, λ same it. never same it is)
    go false apart is = (is, λ same it. apart_same same apart) where
      apart_same : other ≡ owner → other == owner ≡ false → ⊥
      apart_same same key = absurd (grind (arith, nat_tests, same, key))
