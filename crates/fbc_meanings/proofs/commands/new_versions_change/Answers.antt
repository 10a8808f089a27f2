use Rattle.std.proofs.Common.{List, ap, subst}
use Rattle.std.specs.Prelude.{ℕ, Option}
use Rattle.fbc_kinds.specs.Chain.{value_of}
use Rattle.fbc_kinds.specs.Machine.{after_change, open_transaction}
use Rattle.fbc_kinds.specs.Meaning.{meaning_with}
use Rattle.fbc_runs.specs.Reading.{ReadsAs}
use Rattle.fbc_page_edits.specs.Edited.{with_page}
use Rattle.fbc_meanings.proofs.CarriedOut.{over_changed}
use Rattle.fbc_meanings.proofs.commands.new_versions_change.Goals as goal

pub returns : goal.returns
returns c shape view number cell new content living m t relation row put over maker held closed at differ reads =
    let is = over_changed put living t maker relation row at m differ reads over held closed in
    let P : Option (List ℕ) → Type 0 = λ value. ReadsAs (meaning_with living (with_page view number content)) (after_change m t.owner relation row value (open_transaction m t.owner)) in
    record {
      update = λ flag. record { comes = is.done.update_comes new.value; answered = is.done.update_done new.value; reads = subst P (ap (λ f. value_of f new.value) flag) is.reads };
      delete = λ flag. record { comes = is.done.delete_comes; answered = is.done.delete_done; reads = subst P (ap (λ f. value_of f new.value) flag) is.reads };
    }
