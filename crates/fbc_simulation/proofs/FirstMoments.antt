-- Before the first event the machine is the meaning of the file, and so is every view.
use Rattle.std.proofs.Common.{◌≡◌, ℕ, Bool, true, false, List, [], ◌∷◌, Option, Some, None, refl, sym, subst, arith}
use Rattle.std.specs.Prelude.{if◌then◌else◌}
use Rattle.std.proofs.Math.Path.{fun_ext}
use Rattle.fbc_kinds.specs.declared.shapes.Shape.{Shape}
use Rattle.fbc_kinds.specs.declared.snapshots.Transaction.{Transaction}
use Rattle.fbc_kinds.specs.Machine.{open_transaction}
use Rattle.fbc_kinds.specs.Meaning.{IsSameOpen, meaning_of, meaning_with}
use Rattle.fbc_kinds.specs.Sound.{IsSound}
use Rattle.fbc_kinds.specs.View.{View, next_of}
use Rattle.fbc_version_edits.proofs.ChainNumbers.{chain_begun}
use Rattle.fbc_version_edits.proofs.Living.{found_lives}
use Rattle.fbc_runs.specs.Ended.{settled_by}
use Rattle.fbc_runs.specs.Reading.{ReadsAs}
use Rattle.fbc_runs.proofs.FileEnds.{file_ends}
use Rattle.fbc_runs.proofs.FileMachines.{file_orderly}
use Rattle.fbc_runs.proofs.Places.{at_head}
use Rattle.fbc_runs.proofs.RowReads.{reads_itself}
use Rattle.fbc_page_edits.specs.Edited.{IsOfShape}
use Rattle.fbc_world.specs.World.{World, world_of}
use Rattle.fbc_legal.specs.Scene.{scene_of}
use Rattle.fbc_closed_cuts.specs.Cut.{Cut, view}
use Rattle.fbc_simulation.specs.Beside.{AreOpenIn, commits_in}
use Rattle.fbc_simulation.specs.Simulated.{IsSimulated}

module _ (shape : Shape) (file : View) where
  abbrev w : World
  w = world_of shape file []

  -- Nobody has an open transaction in the file.
  none_found : (who : ℕ) (found : Option Transaction) → open_transaction (meaning_of file) who ≡ found → IsSameOpen None found
  none_found who None is = tt
  none_found who (Some t) is = absurd (grind (arith, (found_lives file [] (next_of file) who t is).1))

  first_page : (page : ℕ) (b : Bool) → (if b then file page else file page) ≡ file page
  first_page page true = refl
  first_page page false = refl

  first_view : (cut : Cut) → view w cut ≡ file
  first_view cut = fun_ext (λ page. first_page page (cut page))

  first_reads : (cut : Cut) (living : List Transaction) → AreOpenIn w cut living → ReadsAs (meaning_with living (view w cut)) (settled_by living (commits_in w cut) (meaning_of file))
  first_reads cut [] opens =
      subst (λ (v : View). ReadsAs (meaning_of v) (settled_by [] (commits_in w cut) (meaning_of file))) (sym (first_view cut))
      (subst (ReadsAs (meaning_of file)) (sym (file_ends file (commits_in w cut))) (reads_itself (meaning_of file)))
  first_reads cut (t ∷ living) opens = absurd (let is = opens.each t (at_head t living) in cc)

  pub first_simulated : IsOfShape shape file → IsSound file → IsSimulated (scene_of shape file [])
  first_simulated of_shape sound = record {
    comes = tt;
    orderly = file_orderly file (chain_begun shape file of_shape sound);
    opens = λ owner. none_found owner (open_transaction (meaning_of file) owner) refl;
    meant = λ cut living closed opens. first_reads cut living opens;
  }
