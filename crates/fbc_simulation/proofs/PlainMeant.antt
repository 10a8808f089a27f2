-- Edits of headers, page inventories and pointer pages, and formats: the view reads as before, and they are no commands.
use Rattle.std.proofs.Common.{◌≡◌, ◌≤◌, ℕ, true, false, List, refl, subst}
use Rattle.std.specs.Prelude.{◌==◌, Contains, if◌then◌else◌}
use Rattle.fbc_kinds.specs.declared.edits.Edit.{Edit}
use Rattle.fbc_kinds.specs.declared.edits.Edit.TheVariants as edit
use Rattle.fbc_kinds.specs.declared.pages.Page.{Page}
use Rattle.fbc_kinds.specs.declared.shapes.Shape.{Shape}
use Rattle.fbc_kinds.specs.declared.snapshots.Transaction.{Transaction}
use Rattle.fbc_kinds.specs.Machine.{Machine}
use Rattle.fbc_kinds.specs.Meaning.{meaning_with}
use Rattle.fbc_kinds.specs.View.{View, next_of}
use Rattle.fbc_meanings.proofs.SameViews.{longer_shows}
use Rattle.fbc_meanings.proofs.Shown.{shown_reads}
use Rattle.fbc_numbers.proofs.BeginFacts.{open-within}
use Rattle.fbc_runs.specs.Ended.{settled_by}
use Rattle.fbc_runs.specs.Reading.{ReadsAs}
use Rattle.fbc_runs.proofs.Ends.{other_commits_same}
use Rattle.fbc_page_edits.specs.Edited.{with_page}
use Rattle.fbc_world.specs.History.{History}
use Rattle.fbc_world.specs.World.{World, world_of}
use Rattle.fbc_legal.specs.Scene.{scene_of}
use Rattle.fbc_closed_cuts.specs.Cut.{Cut, view}
use Rattle.fbc_soundness.specs.Seen.{IsKept}
use Rattle.fbc_soundness.proofs.HeaderEdits.{inventory_kept, pointer_kept, tip_kept}
use Rattle.fbc_soundness.proofs.NextNumbers.{next_kept}
use Rattle.fbc_soundness.proofs.PageEdits.{format_kept, free_kept, name_kept, take_kept, unname_kept}
use Rattle.fbc_simulation.specs.Beside.{commits_in, machine_of}
use Rattle.fbc_simulation.specs.EditIn.{EditIsMeant, IsEditIn}
use Rattle.fbc_simulation.specs.Plain.{is_plain}
use Rattle.fbc_simulation.proofs.LivingOwners.{all_of, same_value}

module _ (shape : Shape) (file : View) (past : History) (owner page : ℕ) (e : Edit) (content : Page) (cut : Cut) (living : List Transaction)
    (is : IsEditIn shape file past owner page e content cut living) where
  abbrev w : World
  w = world_of shape file past

  abbrev seen : View
  seen = view w cut

  abbrev m : Machine
  m = machine_of shape file past

  -- The view before the edit.
  pub read_before : ReadsAs (meaning_with living seen) (settled_by living (commits_in w cut) m)
  read_before = is.simulated.meant cut living is.closed is.opens

  -- Each open number was given out there, or is the next one.
  pub within : (t : Transaction) → Contains living t → t.number ≤ next_of seen
  within t lives =
      open-within (scene_of shape file past) is.whole.order.upheld t.owner is.whole.order.numbered t (is.opens.each t lives) cut
      (record { closed = is.closed; own = λ p own. is.opens.drafts t p lives own })

  -- The owner has no commit before.
  pub no_commit : commits_in w cut owner ≡ false
  no_commit = rw is.sees.guard.unmarked refl

  -- Commits that are no others than before.
  pub same_commits : settled_by living (commits_in w cut) m ≡ settled_by living (λ other. if other == owner then false else commits_in w cut other) m
  same_commits = other_commits_same living (commits_in w cut) _ (λ other ends. same_value false (commits_in w cut) owner no_commit other) m

  kept_means : IsKept seen (with_page seen page content) → ReadsAs (meaning_with living (with_page seen page content)) (settled_by living (λ other. if other == owner then false else commits_in w cut other) m)
  kept_means kept =
      subst (ReadsAs (meaning_with living (with_page seen page content))) same_commits
      (shown_reads _ _ _ (longer_shows living seen (with_page seen page content) kept.alike is.sees.sound kept.next (all_of _ living within)) read_before)

pub plain_meant : (shape : Shape) (file : View) (past : History) (owner page : ℕ) (e : Edit) (content : Page) (cut : Cut) (living : List Transaction) → is_plain e ≡ true
    → IsEditIn shape file past owner page e content cut living → EditIsMeant shape file past owner page e content cut living
plain_meant shape file past owner page (edit.SetNext next) content cut living plain is =
    kept_means shape file past owner page (edit.SetNext next) content cut living is (next_kept shape file past owner page content _ _ next is.sees)
plain_meant shape file past owner page (edit.AddTip added) content cut living plain is =
    kept_means shape file past owner page (edit.AddTip added) content cut living is (tip_kept shape file past owner page content _ _ added is.sees)
plain_meant shape file past owner page (edit.AddPointer relation added) content cut living plain is =
    kept_means shape file past owner page (edit.AddPointer relation added) content cut living is (pointer_kept shape file past owner page content _ _ relation added is.sees)
plain_meant shape file past owner page edit.AddInventory content cut living plain is =
    kept_means shape file past owner page edit.AddInventory content cut living is (inventory_kept shape file past owner page content _ _ is.sees)
plain_meant shape file past owner page (edit.TakePage taken) content cut living plain is =
    kept_means shape file past owner page (edit.TakePage taken) content cut living is (take_kept shape file past owner page content _ _ taken is.sees)
plain_meant shape file past owner page (edit.FreePage freed) content cut living plain is =
    kept_means shape file past owner page (edit.FreePage freed) content cut living is (free_kept shape file past owner page content _ _ freed is.sees)
plain_meant shape file past owner page (edit.Name slot named) content cut living plain is =
    kept_means shape file past owner page (edit.Name slot named) content cut living is (name_kept shape file past owner page content _ _ slot named is.sees)
plain_meant shape file past owner page (edit.Unname slot) content cut living plain is =
    kept_means shape file past owner page (edit.Unname slot) content cut living is (unname_kept shape file past owner page content _ _ slot is.sees)
plain_meant shape file past owner page (edit.Format kind number relation sequence) content cut living plain is =
    kept_means shape file past owner page (edit.Format kind number relation sequence) content cut living is (format_kept shape file past owner page content _ _ kind number relation sequence is.sees)
plain_meant shape file past owner page (edit.Mark number state) content cut living plain is = absurd cc
plain_meant shape file past owner page (edit.PutCell cell new) content cut living plain is = absurd cc
plain_meant shape file past owner page (edit.ClearCell cell) content cut living plain is = absurd cc
