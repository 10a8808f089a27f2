-- The draft with a mark is the only one of its owner; the file names its page, and the draft shows the mark: after every act
-- but a failed write.
use Rattle.std.proofs.Common.{◌≡◌, ◌∙◌, ◌<◌, ◌==◌, ◌/◌, ◌%◌, ◌⊎◌, ℕ, Bool, true, false, if◌then◌else◌, Some, None, is_some, length, inl, inr, refl, sym, ap, subst, arith}
use Rattle.std.proofs.Math.Nat.{mod-lt}
use Rattle.std.proofs.lemmas.Bool.Decides.{nat_tests}
use Rattle.fbc_kinds.specs.declared.edits.Edit.{Edit}
use Rattle.fbc_kinds.specs.declared.edits.Edit.TheVariants as edit
use Rattle.fbc_kinds.specs.declared.pages.Page.{Page}
use Rattle.fbc_kinds.specs.declared.pages.Page.TheVariants as kind
use Rattle.fbc_kinds.specs.declared.pages.State.TheVariants.{Committed}
use Rattle.fbc_kinds.specs.declared.snapshots.Transaction.{Transaction}
use Rattle.fbc_kinds.specs.Limits.{tip_numbers}
use Rattle.fbc_kinds.specs.View.{state_in, tip_of}
use Rattle.fbc_kinds.proofs.EditLimits.{slice_get-set_same}
use Rattle.fbc_page_edits.specs.Allowed.{Fits}
use Rattle.fbc_page_edits.specs.Edited.{IsOfShape}
use Rattle.fbc_version_edits.proofs.Marked.{Shows, shows_state}
use Rattle.fbc_world.specs.declared.events.Act.{Act}
use Rattle.fbc_world.specs.declared.events.Act.TheVariants.{Die, Local, Write}
use Rattle.fbc_world.specs.declared.events.LocalEvent.TheVariants as local
use Rattle.fbc_world.specs.Holdings.{is_draft_of}
use Rattle.fbc_world.specs.World.{World, acted, dead, newest_of, with_edit, written}
use Rattle.fbc_legal.specs.Guards.{Guard, GuardOfEdit}
use Rattle.fbc_legal.specs.Legal.{MayAct}
use Rattle.fbc_legal.specs.Naming.{IsNamedWhereEdited}
use Rattle.fbc_legal.specs.Rows.{IsCommitMark, IsEditOfRow}
use Rattle.fbc_legal.specs.Scene.{Scene}
use Rattle.fbc_legal.proofs.Exclusion.{is_plain, same_number}
use Rattle.fbc_legal.proofs.HeaderGrowth.{exclusive-own, own_from}
use Rattle.fbc_closed_cuts.specs.Upheld.{IsMarkDrafted, IsUpheld}
use Rattle.fbc_closed_cuts.specs.Views.{is_edit}
use Rattle.fbc_closed_cuts.proofs.MarksKept.{own_of}
use Rattle.fbc_numbers.specs.Numbers.{IsTrueMark, MarksAreTrue}
use Rattle.fbc_numbers.proofs.CutFacts.{all-closed, all-view, all_drafts, clash}
use Rattle.fbc_numbers.proofs.NamedTips.{commit-named, tip_grown}
use Rattle.fbc_numbers.proofs.Opens.{mark-edited, open-acted, open-dead, open-edited}
use Rattle.fbc_numbers.proofs.PageDrafts.{dead-newest, draft_left, not_drafter, written-draft, written-kept, written-newest}
use Rattle.fbc_numbers.proofs.PageStates.{tip_in}

module _ (at : Scene) (u : IsUpheld at) (true_marks : MarksAreTrue at.shape at.world) (owner : ℕ) where
  abbrev w : World
  w = at.world

  -- The page of a mark is its owner's draft.
  drafted_on : (other page : ℕ) → w.marked other ≡ Some page → is_draft_of other (w.draft page) ≡ true
  drafted_on other page marked = (subst (IsMarkDrafted w other) marked (u.marks other)).0

  module _ (other page : ℕ) (t : Transaction) (marked : w.marked other ≡ Some page) (was : IsTrueMark at.shape w other page t) where
    true-dead : other == owner ≡ false → IsTrueMark at.shape (dead w owner) other page t
    true-dead apart = record {
      only = λ p its. was.only p (draft_left owner other (w.draft p) its);
      named = was.named;
      shows =
          subst (λ o. state_in o (t.number % tip_numbers at.shape.size) ≡ Some Committed)
          (sym (dead-newest w owner page (not_drafter owner other (w.draft page) apart (own_from other (w.draft page) (drafted_on other page marked)))))
          was.shows;
    }

    true-written : (number : ℕ) → is_draft_of owner (w.draft number) ≡ true → IsTrueMark at.shape (written w owner number) other page t
    true-written number its = record {
      only = λ p own. was.only p (written-draft w owner number its other p own);
      named = go (0 == number) refl;
      shows = subst (λ o. state_in o (t.number % tip_numbers at.shape.size) ≡ Some Committed) (sym (written-newest w owner number its page)) was.shows;
    } where
      go : (b : Bool) → 0 == number ≡ b → tip_of (written w owner number).kept (t.number / tip_numbers at.shape.size) ≡ Some page
      go true same = subst (λ o. tip_in o (t.number / tip_numbers at.shape.size) ≡ Some page) (sym (written-kept w owner number its 0 same)) (tip_grown (w.kept 0) (newest_of w 0) u.headers (t.number / tip_numbers at.shape.size) page was.named)
      go false apart = rw apart was.named

    true-acted : (act : Act) (landed : Bool) → Guard at owner act → is_plain act ≡ true → is_edit act ≡ false → (acted at.shape w owner act landed).transaction other ≡ Some t → IsTrueMark at.shape (acted at.shape w owner act landed) other page t
    true-acted Die landed g plain no_edit after =
        let now = true-dead (open-dead w owner other t after).apart in
        record { only = now.only; named = now.named; shows = now.shows }
    true-acted (Write number reason false) landed g plain no_edit after =
        let now = true-written number g.drafted in
        record { only = now.only; named = now.named; shows = now.shows }
    true-acted (Write number reason true) landed g plain no_edit after = absurd cc
    true-acted (Local (local.Edit number e)) landed g plain no_edit after = absurd cc
    true-acted (Local (local.Before high low)) landed g plain no_edit after = record { only = was.only; named = was.named; shows = was.shows }
    true-acted (Local (local.Pin number)) landed g plain no_edit after = record { only = was.only; named = was.named; shows = was.shows }
    true-acted (Local (local.Unpin number)) landed g plain no_edit after = record { only = was.only; named = was.named; shows = was.shows }
    true-acted _ landed g plain no_edit after = record { only = was.only; named = was.named; shows = was.shows }

  -- Who begins has no mark.
  unmarked : (other page : ℕ) → w.transaction other ≡ None → w.marked other ≡ Some page → ⊥
  unmarked other page none marked = clash _ (subst (IsMarkDrafted w other) marked (u.marks other)).1 (ap is_some none)

  pub true_marks-acted : (act : Act) (landed : Bool) → MayAct at owner act → Guard at owner act → is_plain act ≡ true → is_edit act ≡ false → MarksAreTrue at.shape (acted at.shape w owner act landed)
  true_marks-acted act landed may g plain no_edit other page t marked is = elim (open-acted at owner act landed may g plain no_edit other t is) [
    | inl was ↦
        let before = sym was.mark ∙ marked in
        true-acted other page t before (true_marks other page t before was.was) act landed g plain no_edit is
    | inr begins ↦ absurd (unmarked other page (ap w.transaction begins.same ∙ begins.may.none_open) (sym begins.mark ∙ marked))
  ]

  module _ (edited : ℕ) (e : Edit) (content : Page) (g : GuardOfEdit at owner edited e) (fits : Fits at.shape e (newest_of w edited) content) where
    abbrev after : World
    after = with_edit w owner edited e (Some content)

    -- Another's draft was there before.
    draft_before : (other p : ℕ) → other == owner ≡ false → is_draft_of other (after.draft p) ≡ true → is_draft_of other (w.draft p) ≡ true
    draft_before other p apart = go (p == edited) where
      go : (b : Bool) → is_draft_of other (if b then Some (record { owner = owner; content = content }) else w.draft p) ≡ true → is_draft_of other (w.draft p) ≡ true
      go true its = absurd (grind (arith, nat_tests, its, apart))
      go false its = its

    own_before : (p : ℕ) → is_draft_of owner (after.draft p) ≡ true → (p ≡ edited) ⊎ (is_draft_of owner (w.draft p) ≡ true)
    own_before p = go (p == edited) refl where
      go : (b : Bool) → p == edited ≡ b → is_draft_of owner (if b then Some (record { owner = owner; content = content }) else w.draft p) ≡ true → (p ≡ edited) ⊎ (is_draft_of owner (w.draft p) ≡ true)
      go true same its = inl (same_number p edited same)
      go false apart its = inr its

    -- Another's mark.
    true-other : (other page : ℕ) (t : Transaction) → other == owner ≡ false → w.marked other ≡ Some page → IsTrueMark at.shape w other page t → IsTrueMark at.shape after other page t
    true-other other page t apart marked was = record { only = λ p its. was.only p (draft_before other p apart its); named = was.named; shows = go (page == edited) refl } where
      go : (b : Bool) → page == edited ≡ b → state_in (newest_of after page) (t.number % tip_numbers at.shape.size) ≡ Some Committed
      go true same =
          absurd (clash _ (own_of owner other (w.draft edited) (exclusive-own w u.coherent owner edited g.exclusive) (subst (λ p. is_draft_of other (w.draft p) ≡ true) (same_number page edited same) (drafted_on other page marked))) apart)
      go false elsewhere = rw elsewhere was.shows

    newest_of_shape : IsOfShape at.shape (newest_of w)
    newest_of_shape = subst (IsOfShape at.shape) (all-view w) (u.of_shape (all_drafts w) (all-closed w))

    -- The owner's mark, as it is made.
    true-own : (t : Transaction) → e ≡ edit.Mark t.number Committed → IsTrueMark at.shape after owner edited t
    true-own t is = record {
      only = λ p its. only p (own_before p its);
      named = commit-named at owner edited t.number content (subst (IsNamedWhereEdited at owner edited) is g.named) row mark_fits;
      shows = rw newest_is (subst (λ (p : Page). state_in (Some p) place ≡ Some Committed) shows.made (slice_get-set_same shows.tip.states place Committed inside));
    } where
      row : IsCommitMark at owner edited t.number
      row = subst (IsEditOfRow at owner edited) is g.row

      mark_fits : Fits at.shape (edit.Mark t.number Committed) (newest_of w edited) content
      mark_fits = subst (λ x. Fits at.shape x (newest_of w edited) content) is fits

      shows : Shows at.shape.size (newest_of w edited) t.number Committed content
      shows = shows_state at.shape t.number Committed (newest_of w edited) content mark_fits

      place : ℕ
      place = t.number % tip_numbers at.shape.size

      some_numbers : 0 < tip_numbers at.shape.size
      some_numbers = let right = newest_of_shape.is_shape.size in grind arith

      inside : t.number % tip_numbers at.shape.size < length shows.tip.states
      inside = let count = (newest_of_shape.within edited (kind.Tip shows.tip) shows.stands).count in rw count (mod-lt t.number some_numbers)

      newest_is : newest_of after edited ≡ Some content
      newest_is = rw (let self : edited == edited ≡ true = grind (arith, nat_tests) in self) refl

      only : (p : ℕ) → (p ≡ edited) ⊎ (is_draft_of owner (w.draft p) ≡ true) → p ≡ edited
      only p (inl same) = same
      only p (inr its) = row.3 p its

    pub true_marks-edited : MarksAreTrue at.shape after
    true_marks-edited other page t marked is = elim (mark-edited w owner edited e content g.unmarked other t page is marked) [
      | inl before ↦ true-other other page t before.0 before.1 (true_marks other page t before.1 (open-edited w owner edited e content g.unmarked other t is))
      | inr own ↦ subst (λ p. IsTrueMark at.shape after other p t) (sym own.1.on) (subst (λ o. IsTrueMark at.shape after o edited t) (sym own.0) (true-own t own.1.edit_is))
    ]
