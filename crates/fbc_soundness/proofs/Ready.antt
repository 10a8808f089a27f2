-- A page that is ready to be named, as an edit leans on it, is ready in each view that sees the edit.
use Rattle.std.proofs.Common.{◌≡◌, ◌/◌, ℕ, true, nat_lt, Some, refl, arith}
use Rattle.std.proofs.lemmas.Bool.Decides.{nat_tests}
use Rattle.fbc_kinds.specs.Limits.{inventory_bits}
use Rattle.fbc_kinds.specs.Sound.{IsSound}
use Rattle.fbc_kinds.specs.View.{View, inventory_of, is_taken}
use Rattle.fbc_page_edits.specs.Edited.{IsOfShape}
use Rattle.fbc_page_edits.specs.Facing.{IsReady}
use Rattle.fbc_page_edits.proofs.HeaderStands.{size_is}
use Rattle.fbc_page_edits.proofs.TakenBy.{taken_from}
use Rattle.fbc_legal.specs.Facts.{Counts, IsEmptyPage, ShowsTaken}
use Rattle.fbc_legal.specs.Leans as leans
use Rattle.fbc_legal.specs.Leans.{IsInUse}
use Rattle.fbc_legal.specs.Scene.{Scene}
use Rattle.fbc_legal.specs.Stamps.{Stamps}
use Rattle.fbc_legal.specs.Traces.{inventory_over}
use Rattle.fbc_closed_cuts.specs.Owed.{SeesEdit}
use Rattle.fbc_closed_cuts.proofs.LeansSeen.{lean-seen}

module _ (at : Scene) (owner edited : ℕ) (seen : View) (stamps : ℕ → Stamps) (sees : SeesEdit at owner edited seen stamps) (of_shape : IsOfShape at.shape seen) (sound : IsSound seen) where
  -- The header counts the page inventory of a page that is in use.
  counted : (page : ℕ) → IsInUse at owner edited page → inventory_of seen (page / inventory_bits at.shape.size) ≡ Some (inventory_over at.shape page)
  counted page in_use =
      let counts = lean-seen at owner edited seen stamps sees (Counts (page / inventory_bits at.shape.size)) 0 in_use.counted in
      let size : counts.0.size ≡ at.shape.size = rw counts.1 at (size_is at.shape seen of_shape sound) in
      let below : nat_lt (page / inventory_bits at.shape.size) counts.0.inventories ≡ true = grind (arith, nat_tests, counts.2) in
      rw (counts.1, below, size) refl

  pub use_taken : (page : ℕ) → IsInUse at owner edited page → is_taken seen page ≡ true
  use_taken page in_use =
      let size = size_is at.shape seen of_shape sound in
      taken_from seen page (inventory_over at.shape page) (record {
        counted = rw size (counted page in_use);
        marked = rw size (lean-seen at owner edited seen stamps sees (ShowsTaken at.shape.size page) (inventory_over at.shape page) in_use.taken);
      })

  pub ready_seen : (page page_kind relation sequence : ℕ) → leans.IsReady at owner edited page page_kind relation sequence → IsReady at.shape seen page page_kind relation sequence
  ready_seen page page_kind relation sequence ready =
      let empty = lean-seen at owner edited seen stamps sees (IsEmptyPage at.shape page_kind page relation sequence) page ready.empty in
      record { content = empty.0; stands = empty.1; empty = empty.2; taken = use_taken page ready.used }
