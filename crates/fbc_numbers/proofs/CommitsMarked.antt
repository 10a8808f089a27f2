-- What is committed in the newest pages and not in the file is an open number with a mark: after every act but a failed
-- write.
use Rattle.std.proofs.Common.{◌≡◌, ◌∙◌, ◌==◌, ◌&&◌, ◌∷◌, ◌/◌, ◌%◌, ℕ, Bool, true, false, if◌then◌else◌, Option, Some, None, is_some, refl, sym, ap, subst, arith}
use Rattle.std.specs.Option.{unwrap_or}
use Rattle.std.proofs.lemmas.Bool.Decides.{nat_tests}
use Rattle.std.proofs.lemmas.Bool.{false_from_ne_true}
use Rattle.std.proofs.lemmas.Option.{same_Some}
use Rattle.fbc_kinds.specs.declared.edits.Edit.{Edit}
use Rattle.fbc_kinds.specs.declared.edits.Edit.TheVariants as edit
use Rattle.fbc_kinds.specs.declared.pages.Page.{Page}
use Rattle.fbc_kinds.specs.declared.pages.State.{State}
use Rattle.fbc_kinds.specs.declared.pages.State.TheVariants.{Active, Committed, Dead, Limbo}
use Rattle.fbc_kinds.specs.declared.shapes.Shape.{Shape}
use Rattle.fbc_kinds.specs.declared.snapshots.Transaction.{Transaction}
use Rattle.fbc_kinds.specs.Limits.{tip_numbers}
use Rattle.fbc_kinds.specs.Machine.{begun}
use Rattle.fbc_kinds.specs.Meaning.{meaning_of}
use Rattle.fbc_kinds.specs.View.{View, is_committed_state, size_of, state_in, tip_of}
use Rattle.fbc_levels.specs.declared.levels.Level.{Level}
use Rattle.fbc_levels.specs.declared.resources.Resource.{Resource}
use Rattle.fbc_page_edits.proofs.HeaderStands.{size_is}
use Rattle.fbc_world.specs.declared.events.Act.{Act}
use Rattle.fbc_world.specs.declared.events.Act.TheVariants.{Die, Grant, Local, Write}
use Rattle.fbc_world.specs.declared.events.LocalEvent.TheVariants as local
use Rattle.fbc_world.specs.History.{History, happens}
use Rattle.fbc_world.specs.Holdings.{is_draft_of}
use Rattle.fbc_world.specs.World.{World, acted, dead, is_begin, is_mark_on, is_number_of, newest_of, page_after, with_edit, world_of, written}
use Rattle.fbc_legal.specs.Guards.{Guard, GuardOfGrant}
use Rattle.fbc_legal.specs.Legal.{IsLegal}
use Rattle.fbc_legal.specs.Rows.{IsCommitMark, IsEditOfRow, IsMark}
use Rattle.fbc_legal.specs.Scene.{Scene, scene_of}
use Rattle.fbc_legal.proofs.Exclusion.{both_of, is_plain, same_number}
use Rattle.fbc_closed_cuts.specs.Growth.{GrowsInto}
use Rattle.fbc_closed_cuts.specs.Upheld.{IsMarkDrafted, IsUpheld}
use Rattle.fbc_closed_cuts.specs.Views.{is_edit}
use Rattle.fbc_numbers.specs.Numbers.{CommitsAreMarked, CommitsGrow, IsMarkedBy, IsTrueMark, MarksAreTrue, OpensAreUncommitted, is_committed_in}
use Rattle.fbc_numbers.proofs.ActCommits.{kept-after, newest-before}
use Rattle.fbc_numbers.proofs.CutFacts.{all-closed, all-view, all_drafts, clash, no_draft, none-closed}
use Rattle.fbc_numbers.proofs.EditCommits.{committed_by, mark_of, newest-edited}
use Rattle.fbc_numbers.proofs.NamedTips.{tip_grown}
use Rattle.fbc_numbers.proofs.PageDrafts.{dead-kept, written-kept}
use Rattle.fbc_numbers.proofs.PageStates.{tip_in}
use Rattle.fbc_numbers.proofs.StatesNamed.{named-state, same-named}

-- The sizes of the newest pages and of the file.
pub newest-size : (at : Scene) → IsUpheld at → size_of (newest_of at.world) ≡ at.shape.size
newest-size at u = subst (λ (v : View). size_of v ≡ at.shape.size) (all-view at.world) (size_is at.shape _ (u.of_shape (all_drafts at.world) (all-closed at.world)) (u.sound (all_drafts at.world) (all-closed at.world)))

pub kept-size : (at : Scene) → IsUpheld at → size_of at.world.kept ≡ at.shape.size
kept-size at u = size_is at.shape _ (u.of_shape no_draft (none-closed at.world)) (u.sound no_draft (none-closed at.world))

-- The page of an owner's mark, which is its draft.
pub record IsMarkOn (w : World) (owner page : ℕ) : Type 0 where
  pub marked : w.marked owner ≡ Some page
  pub draft : is_draft_of owner (w.draft page) ≡ true

pub mark-on : (w : World) (owner : ℕ) (mark : Option ℕ) → w.marked owner ≡ mark → is_some mark ≡ true → IsMarkDrafted w owner mark → (page : ℕ) × IsMarkOn w owner page
mark-on w owner None is there held = absurd cc
mark-on w owner (Some page) is there held = (page, record { marked = is; draft = held.0 })

module _ (at : Scene) (u : IsUpheld at) (true_marks : MarksAreTrue at.shape at.world) (owner number : ℕ) where
  abbrev w : World
  w = at.world

  -- The page of a mark of the number.
  pub record IsMarkOf (other page : ℕ) : Type 0 where
    pub on : IsMarkOn w other page
    pub named : tip_of w.kept (number / tip_numbers at.shape.size) ≡ Some page
    pub shows : state_in (newest_of w page) (number % tip_numbers at.shape.size) ≡ Some Committed

  pub mark-of : (other : ℕ) → IsMarkedBy w other number → (page : ℕ) × IsMarkOf other page
  mark-of other m =
      let on = mark-on w other (w.marked other) refl m.marked (u.marks other) in
      let is : IsTrueMark at.shape w other on.0 m.t = true_marks other on.0 m.t on.1.marked m.open_is in (
        on.0,
        record {
          on = on.1;
          named = subst (λ n. tip_of w.kept (n / tip_numbers at.shape.size) ≡ Some on.0) m.number_is is.named;
          shows = subst (λ n. state_in (newest_of w on.0) (n % tip_numbers at.shape.size) ≡ Some Committed) m.number_is is.shows;
        },
      )

  -- With its owner the mark is gone from the newest pages.
  mark-lost : size_of (newest_of (dead w owner)) ≡ at.shape.size → GrowsInto (w.kept 0) (newest_of (dead w owner) 0) → IsMarkedBy w owner number → is_committed_in (newest_of (dead w owner)) number ≡ true → is_committed_in w.kept number ≡ true
  mark-lost size headers m committed =
      let mark = mark-of owner m in
      ap is_committed_state
      (sym (same-named (newest_of (dead w owner)) w.kept at.shape.size number mark.0 size (kept-size at u) (tip_grown (w.kept 0) _ headers (number / tip_numbers at.shape.size) mark.0 mark.1.named) mark.1.named (dead-kept w owner mark.0 mark.1.on.draft)))
      ∙ committed

  left-dead : size_of (newest_of (dead w owner)) ≡ at.shape.size → GrowsInto (w.kept 0) (newest_of (dead w owner) 0) → (other : ℕ) → IsMarkedBy w other number → is_committed_in (newest_of (dead w owner)) number ≡ true → is_committed_in w.kept number ≡ false
      → IsMarkedBy (dead w owner) other number
  left-dead size headers other m committed none = go (other == owner) refl where
    go : (b : Bool) → other == owner ≡ b → IsMarkedBy (dead w owner) other number
    go true its = absurd (clash _ (mark-lost size headers (subst (λ o. IsMarkedBy w o number) (same_number other owner its) m) committed) none)
    go false apart = record { t = m.t; open_is = rw apart m.open_is; number_is = m.number_is; marked = rw apart m.marked }

  module _ (page : ℕ) (its : is_draft_of owner (w.draft page) ≡ true) (size : size_of (written w owner page).kept ≡ at.shape.size) where
    names : tip_of w.kept (number / tip_numbers at.shape.size) ≡ Some page → tip_of (written w owner page).kept (number / tip_numbers at.shape.size) ≡ Some page
    names named = go (0 == page) refl where
      go : (b : Bool) → 0 == page ≡ b → tip_of (written w owner page).kept (number / tip_numbers at.shape.size) ≡ Some page
      go true same = subst (λ o. tip_in o (number / tip_numbers at.shape.size) ≡ Some page) (sym (written-kept w owner page its 0 same)) (tip_grown (w.kept 0) (newest_of w 0) u.headers (number / tip_numbers at.shape.size) page named)
      go false apart = rw apart named

    -- With its draft the mark is in the file.
    mark-written : IsMarkOf owner page → is_committed_in (written w owner page).kept number ≡ true
    mark-written mark =
        let shown : state_in ((written w owner page).kept page) (number % tip_numbers at.shape.size) ≡ Some Committed = rw (written-kept w owner page its page (grind (arith, nat_tests))) mark.shows in
        ap is_committed_state (named-state (written w owner page).kept at.shape.size number page size (names mark.named) ∙ ap (λ o. unwrap_or o Active) shown)

    on_page : (other : ℕ) → (other == owner) && is_mark_on page (w.marked other) ≡ true → IsMarkedBy w other number → IsMarkOf owner page
    on_page other both m =
        let parts = both_of (other == owner) (is_mark_on page (w.marked other)) both in
        let mark = mark-of other m in
        let on : mark.0 == page ≡ true = subst (λ k. is_mark_on page k ≡ true) mark.1.on.marked parts.1 in
        subst (λ o. IsMarkOf o page) (same_number other owner parts.0) (subst (IsMarkOf other) (same_number mark.0 page on) mark.1)

    left-written : (other : ℕ) → IsMarkedBy w other number → is_committed_in (written w owner page).kept number ≡ false → IsMarkedBy (written w owner page) other number
    left-written other m none = go ((other == owner) && is_mark_on page (w.marked other)) refl where
      go : (b : Bool) → (other == owner) && is_mark_on page (w.marked other) ≡ b → IsMarkedBy (written w owner page) other number
      go true both = absurd (clash _ (mark-written (on_page other both m)) none)
      go false key = record { t = m.t; open_is = rw key m.open_is; number_is = m.number_is; marked = rw key m.marked }

  left-granted : (resource : Resource) (level : Level) (landed : Bool) → GuardOfGrant at owner resource level → (other : ℕ) → IsMarkedBy w other number → IsMarkedBy (acted at.shape w owner (Grant resource level) landed) other number
  left-granted resource level landed g other m = record { t = m.t; open_is = go (other == owner) refl (is_begin resource level) refl; number_is = m.number_is; marked = m.marked } where
    go : (a : Bool) → other == owner ≡ a → (b : Bool) → is_begin resource level ≡ b → (if a && b then Some (begun (meaning_of (newest_of w)) owner resource.key) else w.transaction other) ≡ Some m.t
    go true its true begins = absurd (let both : None ≡ Some m.t = sym (g.begins begins).none_open ∙ ap w.transaction (sym (same_number other owner its)) ∙ m.open_is in cc)
    go true its false begins = m.open_is
    go false its b begins = m.open_is

  -- A number that is committed afterwards, and not in the file, has its mark still.
  pub left-acted : (act : Act) (landed : Bool) → Guard at owner act → is_plain act ≡ true → is_edit act ≡ false → size_of (newest_of (acted at.shape w owner act landed)) ≡ at.shape.size → size_of (acted at.shape w owner act landed).kept ≡ at.shape.size
      → GrowsInto ((acted at.shape w owner act landed).kept 0) (newest_of (acted at.shape w owner act landed) 0) → (other : ℕ) → IsMarkedBy w other number → is_committed_in (newest_of (acted at.shape w owner act landed)) number ≡ true
      → is_committed_in (acted at.shape w owner act landed).kept number ≡ false → IsMarkedBy (acted at.shape w owner act landed) other number
  left-acted Die landed g plain no_edit size file_size headers other m committed none =
      let left = left-dead size headers other m committed none in
      record { t = left.t; open_is = left.open_is; number_is = left.number_is; marked = left.marked }
  left-acted (Write page reason false) landed g plain no_edit size file_size headers other m committed none =
      let left = left-written page g.drafted file_size other m none in
      record { t = left.t; open_is = left.open_is; number_is = left.number_is; marked = left.marked }
  left-acted (Write page reason true) landed g plain no_edit size file_size headers other m committed none = absurd cc
  left-acted (Grant resource level) landed g plain no_edit size file_size headers other m committed none = left-granted resource level landed g other m
  left-acted (Local (local.Edit page e)) landed g plain no_edit size file_size headers other m committed none = absurd cc
  left-acted (Local (local.Before high low)) landed g plain no_edit size file_size headers other m committed none = record { t = m.t; open_is = m.open_is; number_is = m.number_is; marked = m.marked }
  left-acted (Local (local.Pin page)) landed g plain no_edit size file_size headers other m committed none = record { t = m.t; open_is = m.open_is; number_is = m.number_is; marked = m.marked }
  left-acted (Local (local.Unpin page)) landed g plain no_edit size file_size headers other m committed none = record { t = m.t; open_is = m.open_is; number_is = m.number_is; marked = m.marked }
  left-acted _ landed g plain no_edit size file_size headers other m committed none = record { t = m.t; open_is = m.open_is; number_is = m.number_is; marked = m.marked }

module _ (shape : Shape) (file : View) (before : History) (owner : ℕ) (act : Act) (landed : Bool) (legal : IsLegal shape file (happens owner act landed ∷ before)) (u : IsUpheld (scene_of shape file before)) (v : IsUpheld (scene_of shape file (happens owner act landed ∷ before)))
    (grow : CommitsGrow (world_of shape file before)) (true_marks : MarksAreTrue shape (world_of shape file before)) (marked : CommitsAreMarked (world_of shape file before)) (plain : is_plain act ≡ true) (no_edit : is_edit act ≡ false) where
  pub marked-acted : CommitsAreMarked (world_of shape file (happens owner act landed ∷ before))
  marked-acted number committed none =
      let was = newest-before shape file before (happens owner act landed) legal no_edit grow number committed in
      let out = false_from_ne_true (is_committed_in (world_of shape file before).kept number) (λ kept. clash _ (kept-after shape file before (happens owner act landed) legal no_edit grow number kept) none) in
      let by = marked number was out in (
        by.0,
        left-acted (scene_of shape file before) u true_marks owner number act landed legal.1.guard plain no_edit (newest-size (scene_of shape file (happens owner act landed ∷ before)) v)
            (kept-size (scene_of shape file (happens owner act landed ∷ before)) v) v.headers by.0 by.1 committed none,
      )

module _ (shape : Shape) (file : View) (before : History) (owner page : ℕ) (e : Edit) (landed : Bool) (legal : IsLegal shape file (happens owner (Local (local.Edit page e)) landed ∷ before)) (u : IsUpheld (scene_of shape file before))
    (grow : CommitsGrow (world_of shape file before)) (uncommitted : OpensAreUncommitted (world_of shape file before)) (marked : CommitsAreMarked (world_of shape file before)) (content : Page) (is : page_after shape (world_of shape file before) owner page e ≡ Some content) where
  abbrev scene : Scene
  scene = scene_of shape file before

  abbrev world : World
  world = scene.world

  -- Another's mark stays.
  other-mark : (x : Edit) (number other : ℕ) → IsMarkedBy world other number → IsMarkedBy (with_edit world owner page x (Some content)) other number
  other-mark x number other m = go (other == owner) refl where
    bare : world.marked owner ≡ None → other == owner ≡ true → ⊥
    bare none its = go (world.marked other) (ap world.marked (same_number other owner its) ∙ none) m.marked where
      go : (o : Option ℕ) → o ≡ None → is_some o ≡ true → ⊥
      go None is there = cc
      go (Some p) is there = cc

    unmarked : IsLegal shape file (happens owner (Local (local.Edit page e)) landed ∷ before) → world.marked owner ≡ None
    unmarked history = history.1.guard.unmarked

    go : (b : Bool) → other == owner ≡ b → IsMarkedBy (with_edit world owner page x (Some content)) other number
    go true its = absurd (bare (unmarked legal) its)
    go false apart = record { t = m.t; open_is = rw apart m.open_is; number_is = m.number_is; marked = rw apart m.marked }

  -- The mark that is made.
  own-mark : (number marks : ℕ) → number == marks ≡ true → IsCommitMark scene owner page marks → IsMarkedBy (with_edit world owner page (edit.Mark marks Committed) (Some content)) owner number
  own-mark number marks same row =
      record {
        t = row.0;
        open_is = open_part (owner == owner) ∙ row.1;
        number_is = sym row.2 ∙ sym (same_number number marks same);
        marked = mark_part (owner == owner) (is_number_of marks (world.transaction owner)) (grind (arith, nat_tests)) (its (world.transaction owner) row.1);
      } where
        its : (o : Option Transaction) → o ≡ Some row.0 → is_number_of marks o ≡ true
        its None found = absurd cc
        its (Some t) found = let same_t : t ≡ row.0 = same_Some t row.0 found in rw (same_t, row.2) (grind (arith, nat_tests))

        open_part : (b : Bool) → (if b && true then world.transaction owner else world.transaction owner) ≡ world.transaction owner
        open_part true = refl
        open_part false = refl

        mark_part : (b c : Bool) → b ≡ true → c ≡ true → is_some (if b && true then (if c then Some page else world.marked owner) else world.marked owner) ≡ true
        mark_part true true own key = refl
        mark_part true false own key = absurd cc
        mark_part false c own key = absurd cc

  pub marked-edited : CommitsAreMarked (world_of shape file (happens owner (Local (local.Edit page e)) landed ∷ before))
  marked-edited number committed none =
      subst (λ o. (other : ℕ) × IsMarkedBy (with_edit world owner page e o) other number) (sym is)
      (go e legal.1.guard.row (sym (newest-edited shape file before owner page e landed legal u grow uncommitted content is number) ∙ committed)) where
        as_marked : (marks : ℕ) (state : State) → number == marks ≡ true → IsMark scene owner page marks state → is_committed_state state ≡ true → (other : ℕ) × IsMarkedBy (with_edit world owner page (edit.Mark marks state) (Some content)) other number
        as_marked marks Committed same row it = (owner, own-mark number marks same row)
        as_marked marks Active same row it = absurd row
        as_marked marks Limbo same row it = absurd row
        as_marked marks Dead same row it = absurd cc

        before_it : (x : Edit) → is_committed_in (newest_of world) number ≡ true → (other : ℕ) × IsMarkedBy (with_edit world owner page x (Some content)) other number
        before_it x was = let by = marked number was none in (by.0, other-mark x number by.0 by.1)

        go : (x : Edit) → IsEditOfRow scene owner page x → committed_by (mark_of x number) (is_committed_in (newest_of world) number) ≡ true → (other : ℕ) × IsMarkedBy (with_edit world owner page x (Some content)) other number
        go (edit.Mark marks state) row kept = by (number == marks) refl kept where
          by : (b : Bool) → number == marks ≡ b → committed_by (if b then Some state else None) (is_committed_in (newest_of world) number) ≡ true → (other : ℕ) × IsMarkedBy (with_edit world owner page (edit.Mark marks state) (Some content)) other number
          by true same now = as_marked marks state same row now
          by false apart now = before_it (edit.Mark marks state) now
        go x row kept = before_it x kept
