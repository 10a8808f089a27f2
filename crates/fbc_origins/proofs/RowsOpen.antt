-- Open transactions and drafts after an edit: who has one after it had it before, and drafts stay.
use Rattle.std.proofs.Common.{◌≡◌, ◌==◌, ◌∷◌, ℕ, Bool, true, false, inl, inr, if◌then◌else◌, Some, refl, sym, subst, arith}
use Rattle.std.proofs.lemmas.Bool.Decides.{nat_tests}
use Rattle.fbc_kinds.specs.declared.edits.Edit.{Edit}
use Rattle.fbc_kinds.specs.declared.pages.Page.{Page}
use Rattle.fbc_kinds.specs.declared.shapes.Shape.{Shape}
use Rattle.fbc_kinds.specs.declared.snapshots.Transaction.{Transaction}
use Rattle.fbc_kinds.specs.View.{View}
use Rattle.fbc_kinds.proofs.Tests.{same_from_test}
use Rattle.fbc_closed_cuts.proofs.MarksKept.{own_of}
use Rattle.fbc_legal.proofs.Exclusion.{IsOwnDraft}
use Rattle.fbc_legal.proofs.HeaderGrowth.{exclusive-own}
use Rattle.fbc_legal.specs.Legal.{IsLegal}
use Rattle.fbc_legal.specs.Scene.{HasDraft, Scene, scene_of}
use Rattle.fbc_legal.specs.Stamps.{Stamps}
use Rattle.fbc_numbers.proofs.Opens.{open-edited}
use Rattle.fbc_origins.specs.Owed.{IsInOrder}
use Rattle.fbc_origins.specs.Rows.{IsNamedOrDrafted, OpensAreNamed}
use Rattle.fbc_origins.proofs.RowsOfTops.{OpensAreNamedIn, opens-views, views-opens}
use Rattle.fbc_world.specs.declared.events.Act.TheVariants.{Local}
use Rattle.fbc_world.specs.declared.events.LocalEvent.TheVariants as local
use Rattle.fbc_world.specs.History.{History, happens}
use Rattle.fbc_world.specs.Holdings.{is_draft_of}
use Rattle.fbc_world.specs.World.{World, page_after, with_edit, world_of}
use Rattle.fbc_origins.proofs.ViewsNext.{IsEditedView, views-edited}

module _ (shape : Shape) (file : View) (before : History) (order : IsInOrder (scene_of shape file before)) (opens : OpensAreNamed (scene_of shape file before)) (owner page : ℕ) (e : Edit) (landed : Bool)
    (legal : IsLegal shape file (happens owner (Local (local.Edit page e)) landed ∷ before)) (content : Page) (is : page_after shape (world_of shape file before) owner page e ≡ Some content) where
  abbrev at : Scene
  at = scene_of shape file before

  abbrev w : World
  w = at.world

  abbrev later : Scene
  later = scene_of shape file (happens owner (Local (local.Edit page e)) landed ∷ before)

  was-open : (other : ℕ) (t : Transaction) → later.world.transaction other ≡ Some t → w.transaction other ≡ Some t
  was-open other t now = open-edited w owner page e content legal.1.guard.unmarked other t (subst (λ o. (with_edit w owner page e o).transaction other ≡ Some t) is now)

  draft-left : (other number : ℕ) → HasDraft at other number → HasDraft later other number
  draft-left other number its = subst (λ o. is_draft_of other ((with_edit w owner page e o).draft number) ≡ true) (sym is) (go (number == page) refl) where
    own : IsOwnDraft owner (w.draft page)
    own = exclusive-own w order.upheld.coherent owner page legal.1.guard.exclusive

    go : (b : Bool) → number == page ≡ b → is_draft_of other (if b then Some (record { owner = owner; content = content }) else w.draft number) ≡ true
    go false apart = its
    go true same = let by : other == owner ≡ true = own_of owner other (w.draft page) own (subst (λ p. is_draft_of other (w.draft p) ≡ true) (same_from_test number page same) its) in grind (arith, nat_tests, by)

  still : (other relation sequence pointer named : ℕ) → IsNamedOrDrafted at other relation sequence pointer named → IsNamedOrDrafted later other relation sequence pointer named
  still other relation sequence pointer named was = record {
    pointed = elim was.pointed [ inl in_file ↦ inl in_file | inr own ↦ inr (draft-left other 0 own) ];
    named = elim was.named [ inl in_file ↦ inl in_file | inr own ↦ inr (draft-left other pointer own) ];
  }

  -- It is enough to see each view with the edit.
  pub opens-edited : ((other : ℕ) (t : Transaction) → w.transaction other ≡ Some t → (seen : View) (stamps : ℕ → Stamps) (after : View) (later_stamps : ℕ → Stamps) → IsEditedView at owner page e content seen stamps after later_stamps
      → OpensAreNamedIn at other t.number seen → OpensAreNamedIn at other t.number after) → OpensAreNamed later
  opens-edited keeps = views-opens later (λ other t now cut closed relation sequence pointer named cell top row stands such.
      still other relation sequence pointer named
      (views-edited shape file before (λ seen stamps. OpensAreNamedIn at other t.number seen) owner page e landed legal content is (opens-views at opens other t (was-open other t now)) (keeps other t (was-open other t now))
      cut closed relation sequence pointer named cell top row stands such))
