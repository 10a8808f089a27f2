-- Views that read alike: with a next number that is no smaller they show the same, and with the same one they mean one machine.
use Rattle.std.proofs.Common.{◌≡◌, ◌≤◌, ℕ, List, sym, subst, map}
use Rattle.std.specs.Prelude.{All}
use Rattle.fbc_kinds.specs.declared.snapshots.Transaction.{Transaction}
use Rattle.fbc_kinds.specs.Chain.{chain}
use Rattle.fbc_kinds.specs.Machine.{Machine, Made}
use Rattle.fbc_kinds.specs.Meaning.{made_of, meaning_with, transactions_up_to}
use Rattle.fbc_kinds.specs.Sound.{IsSound}
use Rattle.fbc_kinds.specs.View.{View, next_of}
use Rattle.fbc_page_edits.specs.Alike.{HaveSameChains, HaveSameStates, ReadAlike}
use Rattle.fbc_page_edits.proofs.NextMeaning.{more_stand_alike}
use Rattle.fbc_page_edits.proofs.SameMeaning.{meaning_same, transactions_same}
use Rattle.fbc_runs.specs.Reading.{ReadsAs}
use Rattle.fbc_meanings.proofs.Shown.{ShowTheSame, stand_alike_shows}

pub longer_shows : (living : List Transaction) (before after : View) → ReadAlike before after → IsSound before → next_of before ≤ next_of after
    → All (λ (t : Transaction). t.number ≤ next_of before) living → ShowTheSame (meaning_with living before) (meaning_with living after)
longer_shows living before after alike sound past numbered =
    let rows : ℕ → ℕ → List Made = λ relation row. map made_of (chain before relation row) in
    let longer : Machine = record { rows = rows; transactions = transactions_up_to before living (next_of after) } in
    let later : longer ≡ meaning_with living after = sym (λ i. record {
      rows = λ relation row. map made_of (alike.chains relation row i);
      transactions = transactions_same living before after alike.states (next_of after) i;
    }) in
    subst (ShowTheSame (meaning_with living before)) later
    (stand_alike_shows rows (transactions_up_to before living (next_of before)) (transactions_up_to before living (next_of after))
    (more_stand_alike living before sound numbered (next_of after) past))

-- Views with the same chains, states and next number mean one machine.
pub same_reads : (living : List Transaction) (before after : View) (m : Machine) → HaveSameChains before after → HaveSameStates before after → next_of after ≡ next_of before
    → ReadsAs (meaning_with living before) m → ReadsAs (meaning_with living after) m
same_reads living before after m chains states next reads = subst (λ a. ReadsAs a m) (sym (meaning_same living before after states chains next)) reads
