-- An edit keeps what is simulated, where what is owed of it is given.
use Rattle.std.proofs.Common.{◌≡◌, ◌∙◌, ℕ, Bool, true, false, ◌==◌, ◌&&◌, if◌then◌else◌, ◌∷◌, List, Option, Some, None, is_some, refl, sym, ap, subst}
use Rattle.std.specs.Prelude.{Contains}
use Rattle.std.proofs.Math.Path.{fun_ext}
use Rattle.std.proofs.lemmas.Bool.{and_right}
use Rattle.fbc_kinds.specs.declared.commands.Command.{Command}
use Rattle.fbc_kinds.specs.declared.edits.Edit.{Edit}
use Rattle.fbc_kinds.specs.declared.pages.Page.{Page}
use Rattle.fbc_kinds.specs.declared.shapes.Shape.{Shape}
use Rattle.fbc_kinds.specs.declared.snapshots.Transaction.{Transaction}
use Rattle.fbc_kinds.specs.Machine.{Machine, open_transaction}
use Rattle.fbc_kinds.specs.Meaning.{IsSameOpen, meaning_of, meaning_with}
use Rattle.fbc_kinds.specs.View.{View}
use Rattle.fbc_kinds.proofs.Tests.{same_from_test, test_of_same}
use Rattle.fbc_runs.specs.Ended.{is_owner_of, settled_by}
use Rattle.fbc_runs.specs.Orderly.{IsOrderly}
use Rattle.fbc_runs.specs.Reading.{ReadsAs}
use Rattle.fbc_runs.specs.Runs.{MayAllCome, machine_after}
use Rattle.fbc_runs.proofs.Ends.{other_commits_same}
use Rattle.fbc_runs.proofs.Steps.{run_orderly}
use Rattle.fbc_page_edits.specs.Edited.{with_page}
use Rattle.fbc_world.specs.Commands.{commands_at, commands_of, where_true}
use Rattle.fbc_world.specs.declared.events.Act.TheVariants.{Local}
use Rattle.fbc_world.specs.declared.events.LocalEvent.TheVariants as local
use Rattle.fbc_world.specs.History.{History, Moment, happens}
use Rattle.fbc_world.specs.Holdings.{is_draft_of}
use Rattle.fbc_world.specs.PageCell.{page_for}
use Rattle.fbc_world.specs.World.{World, page_after, with_edit, world_of}
use Rattle.fbc_legal.specs.Guards.{GuardOfEdit}
use Rattle.fbc_legal.specs.Legal.{IsLegal}
use Rattle.fbc_legal.specs.Scene.{scene_of}
use Rattle.fbc_legal.specs.Stamps.{stamps_of}
use Rattle.fbc_legal.proofs.HeaderGrowth.{exclusive-own}
use Rattle.fbc_closed_cuts.specs.Cut.{Cut, IsClosedCut, view}
use Rattle.fbc_closed_cuts.specs.Views.{IsSameView, IsViewOfEdit, drafted_in}
use Rattle.fbc_closed_cuts.proofs.CutLaws.{edit-sees, edit-spares, edit-views}
use Rattle.fbc_closed_cuts.proofs.MarksKept.{own_of}
use Rattle.fbc_closed_cuts.proofs.UpheldEdits.{newest_fits}
use Rattle.fbc_closed_cuts.proofs.WriteViews.{draft_there}
use Rattle.fbc_soundness.specs.Whole.{IsWhole}
use Rattle.fbc_simulation.specs.Beside.{AreOpenIn, commits_in, machine_of}
use Rattle.fbc_simulation.specs.EditIn.{EditIsMeant, IsEditIn, commands_made, commits_made, is_commit}
use Rattle.fbc_simulation.specs.Simulated.{IsSimulated, OpensAreTheSame, ViewsAreMeant}
use Rattle.fbc_simulation.proofs.EditCommits.{commits-edited, none_before}
use Rattle.fbc_simulation.proofs.EditOpens.{edited-alike, own_goes_on, was_open}
use Rattle.fbc_simulation.proofs.EditUnread.{edit_unread}
use Rattle.fbc_simulation.proofs.LivingOwners.{none_living}
use Rattle.fbc_simulation.proofs.RunsLonger.{machine_after-append, may_all_come-append}
use Rattle.fbc_numbers.proofs.CutFacts.{clash}

and_true : (b : Bool) → (b && true) ≡ b
and_true true = refl
and_true false = refl

module _ (shape : Shape) (file : View) (before : History) (owner page : ℕ) (e : Edit) (landed : Bool) (legal : IsLegal shape file (happens owner (Local (local.Edit page e)) landed ∷ before))
    (whole : IsWhole (scene_of shape file before)) (simulated : IsSimulated (scene_of shape file before)) (content : Page) (is : page_after shape (world_of shape file before) owner page e ≡ Some content)
    (owed : (cut : Cut) (living : List Transaction) → IsEditIn shape file before owner page e content cut living → EditIsMeant shape file before owner page e content cut living)
    (comes : MayAllCome (machine_of shape file before) (commands_made shape (world_of shape file before) owner page e)) where
  abbrev w : World
  w = world_of shape file before

  abbrev made : World
  made = with_edit w owner page e (Some content)

  abbrev edits : Moment
  edits = happens owner (Local (local.Edit page e)) landed

  abbrev after : World
  after = world_of shape file (edits ∷ before)

  abbrev m : Machine
  m = machine_of shape file before

  abbrev commands : List Command
  commands = commands_made shape w owner page e

  abbrev later : Machine
  later = machine_of shape file (edits ∷ before)

  g : GuardOfEdit (scene_of shape file before) owner page e
  g = legal.1.guard

  moved : with_edit w owner page e (page_after shape w owner page e) ≡ made
  moved = ap (with_edit w owner page e) is

  transactions : (o : ℕ) → after.transaction o ≡ made.transaction o
  transactions o = ap (λ (v : World). v.transaction o) moved

  commands_are : commands_at shape w owner (Local (local.Edit page e)) landed ≡ commands
  commands_are = ap (λ o. where_true (is_some o) commands) is

  machine_is : later ≡ machine_after m commands
  machine_is = machine_after-append (meaning_of file) (commands_of shape file before) (commands_at shape w owner (Local (local.Edit page e)) landed) ∙ ap (machine_after m) commands_are

  all_come : MayAllCome (meaning_of file) (commands_of shape file (edits ∷ before))
  all_come =
      may_all_come-append (meaning_of file) (commands_of shape file before) (commands_at shape w owner (Local (local.Edit page e)) landed) simulated.comes
      (subst (MayAllCome m) (sym commands_are) comes)

  orderly : IsOrderly later
  orderly = subst IsOrderly (sym machine_is) (run_orderly m commands simulated.orderly comes)

  opens_same : OpensAreTheSame (scene_of shape file (edits ∷ before))
  opens_same o =
      subst (λ (n : Machine). IsSameOpen (after.transaction o) (open_transaction n o)) (sym machine_is)
      (subst (λ t. IsSameOpen t (open_transaction (machine_after m commands) o)) (sym (transactions o))
      (edited-alike w m simulated.opens shape owner page (Some content) (page_for owner (w.kept page) (w.draft page)) e o))

  module _ (cut : Cut) (living : List Transaction) (closed : IsClosedCut after cut) (opens : AreOpenIn after cut living) where
    abbrev earlier : Cut
    earlier = drafted_in w cut

    -- What reads as the machine after the commands, with the same commits.
    read_after : (seen : View) (commits : ℕ → Bool) → seen ≡ view after cut → ((o : ℕ) → commits_in after cut o ≡ commits o)
        → ReadsAs (meaning_with living seen) (settled_by living commits (machine_after m commands)) → ReadsAs (meaning_with living (view after cut)) (settled_by living (commits_in after cut) later)
    read_after seen commits one same reads =
        subst (λ (n : Machine). ReadsAs (meaning_with living (view after cut)) (settled_by living (commits_in after cut) n)) (sym machine_is)
        (subst (ReadsAs (meaning_with living (view after cut))) (sym (other_commits_same living (commits_in after cut) commits (λ o ends. same o) (machine_after m commands)))
        (subst (λ v. ReadsAs (meaning_with living v) (settled_by living commits (machine_after m commands))) one reads))

    commits_are : (o : ℕ) → commits_in after cut o ≡ (if o == owner then (is_commit e (w.transaction owner) && cut page) else commits_in w earlier o)
    commits_are o = ap (λ (v : World). commits_in v cut o) moved ∙ commits-edited w whole.order.upheld.marks owner page e content g.unmarked cut o

    made_open : (t : Transaction) → Contains living t → made.transaction t.owner ≡ Some t
    made_open t lives = sym (transactions t.owner) ∙ opens.each t lives

    each_before : (t : Transaction) → Contains living t → w.transaction t.owner ≡ Some t
    each_before t lives = was_open w owner page e content t.owner t (made_open t lives)

    -- A draft of another page was there before.
    other_draft : (t : Transaction) (p : ℕ) → Contains living t → is_draft_of t.owner (w.draft p) ≡ true → p == page ≡ false → cut p ≡ true
    other_draft t p lives own apart = opens.drafts t p lives (subst (λ (v : World). is_draft_of t.owner (v.draft p) ≡ true) (sym moved) (rw apart own))

    in_both : (p : ℕ) → cut p ≡ true → is_some (w.draft p) ≡ true → earlier p ≡ true
    in_both p in_cut there = rw (in_cut, there) refl

    module _ (in_cut : cut page ≡ true) where
      changed : IsViewOfEdit w (stamps_of shape file before) after (stamps_of shape file (edits ∷ before)) page content cut
      changed = edit-views shape file before owner page e landed content cut is closed in_cut

      drafts_before : (t : Transaction) (p : ℕ) → Contains living t → is_draft_of t.owner (w.draft p) ≡ true → earlier p ≡ true
      drafts_before t p lives own = in_both p (go (p == page) refl) (draft_there t.owner (w.draft p) own) where
        go : (b : Bool) → p == page ≡ b → cut p ≡ true
        go true same = rw (same_from_test p page same) in_cut
        go false apart = other_draft t p lives own apart

      edit_in : IsEditIn shape file before owner page e content earlier living
      edit_in = record {
        whole = whole;
        simulated = simulated;
        made = is;
        closed = changed.closed;
        sees = record {
          guard = g;
          sees = edit-sees shape file before owner page e landed content cut is legal.0 closed in_cut;
          of_shape = whole.order.upheld.of_shape earlier changed.closed;
          fits = rw changed.was (newest_fits shape file before owner page e content legal.0 g.exclusive is);
          sound = whole.order.upheld.sound earlier changed.closed;
        };
        drafted = λ there. in_both page in_cut there;
        opens = record { each = each_before; drafts = drafts_before };
        goes_on = λ t lives own. own_goes_on w owner page e content t.owner t (made_open t lives) own;
      }

      same_made : (o : ℕ) → commits_in after cut o ≡ commits_made w owner e earlier o
      same_made o = commits_are o ∙ ap (λ b. if o == owner then b else commits_in w earlier o) (ap (λ b. is_commit e (w.transaction owner) && b) in_cut ∙ and_true (is_commit e (w.transaction owner)))

      meant_with : ReadsAs (meaning_with living (view after cut)) (settled_by living (commits_in after cut) later)
      meant_with = read_after (with_page (view w earlier) page content) (commits_made w owner e earlier) (sym (fun_ext (λ p. changed.pages p))) same_made (owed earlier living edit_in)

    module _ (out : cut page ≡ false) where
      spared : IsSameView w (stamps_of shape file before) after (stamps_of shape file (edits ∷ before)) cut earlier
      spared = edit-spares shape file before owner page e landed content cut is closed out

      -- The editor is not living: its draft is out of the cut.
      apart : (t : Transaction) → Contains living t → ¬ (t.owner ≡ owner)
      apart t lives same =
          clash (cut page)
          (opens.drafts t page lives (subst (λ (v : World). is_draft_of t.owner (v.draft page) ≡ true) (sym moved) (rw (test_of_same page page refl) (test_of_same owner t.owner (sym same)))))
          out

      gone : is_owner_of living owner ≡ false
      gone = none_living living owner apart

      -- No other owner has a draft of the page.
      others_before : (t : Transaction) (p : ℕ) → Contains living t → is_draft_of t.owner (w.draft p) ≡ true → earlier p ≡ true
      others_before t p lives own = in_both p (go (p == page) refl) (draft_there t.owner (w.draft p) own) where
        go : (b : Bool) → p == page ≡ b → cut p ≡ true
        go true same =
            let its : is_draft_of t.owner (w.draft page) ≡ true = subst (λ q. is_draft_of t.owner (w.draft q) ≡ true) (same_from_test p page same) own in
            absurd (apart t lives (same_from_test t.owner owner (own_of owner t.owner (w.draft page) (exclusive-own w whole.order.upheld.coherent owner page g.exclusive) its)))
        go false other = other_draft t p lives own other

      none : commits_in w earlier owner ≡ false
      none = none_before w whole.order.upheld.marks owner page e content g.unmarked cut

      same_before : (o : ℕ) → commits_in after cut o ≡ commits_in w earlier o
      same_before o = commits_are o ∙ go (o == owner) refl where
        go : (b : Bool) → o == owner ≡ b → (if b then (is_commit e (w.transaction owner) && cut page) else commits_in w earlier o) ≡ commits_in w earlier o
        go true same = ap (λ b. is_commit e (w.transaction owner) && b) out ∙ and_right (is_commit e (w.transaction owner)) false refl ∙ sym (ap (commits_in w earlier) (same_from_test o owner same) ∙ none)
        go false other = refl

      meant_without : ReadsAs (meaning_with living (view after cut)) (settled_by living (commits_in after cut) later)
      meant_without =
          read_after (view w earlier) (commits_in w earlier) (sym (fun_ext (λ p. spared.pages p))) same_before
          (edit_unread living (commits_in w earlier) owner gone none (meaning_with living (view w earlier)) m
          (simulated.meant earlier living spared.closed (record { each = each_before; drafts = others_before }))
          shape (w.transaction owner) (page_for owner (w.kept page) (w.draft page)) e)

  views_meant : ViewsAreMeant (scene_of shape file (edits ∷ before))
  views_meant cut living closed opens = go (cut page) refl where
    go : (b : Bool) → cut page ≡ b → ReadsAs (meaning_with living (view after cut)) (settled_by living (commits_in after cut) later)
    go true in_cut = meant_with cut living closed opens in_cut
    go false out = meant_without cut living closed opens out

  edit_made : IsSimulated (scene_of shape file (edits ∷ before))
  edit_made = record { comes = all_come; orderly = orderly; opens = opens_same; meant = views_meant }

pub edit_simulated : (shape : Shape) (file : View) (before : History) (owner page : ℕ) (e : Edit) (landed : Bool) → IsLegal shape file (happens owner (Local (local.Edit page e)) landed ∷ before)
    → IsWhole (scene_of shape file before) → IsSimulated (scene_of shape file before)
    → ((content : Page) (cut : Cut) (living : List Transaction) → IsEditIn shape file before owner page e content cut living → EditIsMeant shape file before owner page e content cut living)
    → MayAllCome (machine_of shape file before) (commands_made shape (world_of shape file before) owner page e)
    → IsSimulated (scene_of shape file (happens owner (Local (local.Edit page e)) landed ∷ before))
edit_simulated shape file before owner page e landed legal whole simulated owed comes = go (page_after shape (world_of shape file before) owner page e) refl legal.1.guard.fits where
  go : (o : Option Page) → page_after shape (world_of shape file before) owner page e ≡ o → is_some o ≡ true → IsSimulated (scene_of shape file (happens owner (Local (local.Edit page e)) landed ∷ before))
  go None is fits = absurd cc
  go (Some content) is fits = edit_made shape file before owner page e landed legal whole simulated content is (owed content) comes
