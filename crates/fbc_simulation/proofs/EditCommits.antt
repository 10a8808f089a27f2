-- Whose commits are in a cut after an edit.
use Rattle.std.proofs.Common.{◌≡◌, ℕ, Bool, true, false, ◌==◌, ◌&&◌, if◌then◌else◌, Option, Some, None, refl}
use Rattle.std.specs.Option.{option_map_or}
use Rattle.fbc_kinds.specs.declared.edits.Edit.{Edit}
use Rattle.fbc_kinds.specs.declared.edits.Edit.TheVariants as edit
use Rattle.fbc_kinds.specs.declared.pages.Page.{Page}
use Rattle.fbc_kinds.specs.declared.pages.State.TheVariants.{Active, Committed, Dead, Limbo}
use Rattle.fbc_kinds.specs.declared.snapshots.Transaction.{Transaction}
use Rattle.fbc_kinds.proofs.Tests.{same_from_test}
use Rattle.fbc_world.specs.World.{World, is_number_of, mark_after_edit, with_edit}
use Rattle.fbc_closed_cuts.specs.Cut.{Cut}
use Rattle.fbc_closed_cuts.specs.Upheld.{IsMarkDrafted, MarksAreDrafted}
use Rattle.fbc_closed_cuts.specs.Views.{drafted_in}
use Rattle.fbc_closed_cuts.proofs.WriteViews.{draft_there}
use Rattle.fbc_simulation.specs.Beside.{commits_in}
use Rattle.fbc_simulation.specs.EditIn.{is_commit}

-- The mark of an owner that had none, after its edit.
mark_made : (page : ℕ) (cut : Cut) (e : Edit) (t : Option Transaction) → option_map_or cut (mark_after_edit page e t None) false ≡ (is_commit e t && cut page)
mark_made page cut (edit.Mark number Committed) t = go (is_number_of number t) where
  go : (b : Bool) → option_map_or cut (if b then Some page else None) false ≡ (b && cut page)
  go true = refl
  go false = refl
mark_made page cut (edit.Mark number Active) t = go (is_number_of number t) where
  go : (b : Bool) → option_map_or cut (if b then None else None) false ≡ false
  go true = refl
  go false = refl
mark_made page cut (edit.Mark number Limbo) t = go (is_number_of number t) where
  go : (b : Bool) → option_map_or cut (if b then None else None) false ≡ false
  go true = refl
  go false = refl
mark_made page cut (edit.Mark number Dead) t = go (is_number_of number t) where
  go : (b : Bool) → option_map_or cut (if b then None else None) false ≡ false
  go true = refl
  go false = refl
mark_made page cut _ t = refl

and_true : (b : Bool) → b ≡ (b && true)
and_true true = refl
and_true false = refl

module _ (w : World) (m : MarksAreDrafted w) (owner page : ℕ) (e : Edit) (content : Page) (unmarked : w.marked owner ≡ None) (cut : Cut) where
  abbrev made : World
  made = with_edit w owner page e (Some content)

  -- A mark stands in a draft.
  drafted_mark : (o : ℕ) (mark : Option ℕ) → IsMarkDrafted w o mark → option_map_or cut mark false ≡ option_map_or (drafted_in w cut) mark false
  drafted_mark o None held = refl
  drafted_mark o (Some p) held = rw (draft_there o (w.draft p) held.0) (and_true (cut p))

  pub commits-edited : (o : ℕ) → commits_in made cut o ≡ (if o == owner then (is_commit e (w.transaction owner) && cut page) else commits_in w (drafted_in w cut) o)
  commits-edited o = go (o == owner) refl where
    go : (b : Bool) → o == owner ≡ b
        → option_map_or cut (if b && true then mark_after_edit page e (w.transaction o) (w.marked o) else w.marked o) false ≡ (if b then (is_commit e (w.transaction owner) && cut page) else commits_in w (drafted_in w cut) o)
    go true same = rw (same_from_test o owner same, unmarked) (mark_made page cut e (w.transaction owner))
    go false other = drafted_mark o (w.marked o) (m o)

  pub none_before : commits_in w (drafted_in w cut) owner ≡ false
  none_before = rw unmarked refl
