-- A number whose mark is written is given up, and so is a relation, legally.
use Rattle.std.proofs.Common.{◌≡◌, ◌==◌, ℕ, Bool, true, false, not, ◌∷◌, ◌∙◌, refl, sym, arith}
use Rattle.std.specs.List.{list_all}
use Rattle.std.proofs.lemmas.Bool.Decides.{nat_tests}
use Rattle.std.proofs.lemmas.Option.{none-some}
use Rattle.fbc_kinds.specs.declared.edits.Edit.TheVariants.{Mark}
use Rattle.fbc_kinds.specs.declared.pages.State.{State}
use Rattle.fbc_kinds.specs.declared.pages.State.TheVariants.{Committed}
use Rattle.fbc_kinds.proofs.Heads.{both_pass}
use Rattle.fbc_world.specs.declared.asks.Cause.{Cause}
use Rattle.fbc_world.specs.declared.asks.Cause.TheVariants as cause
use Rattle.fbc_world.specs.declared.events.Act.{Act}
use Rattle.fbc_world.specs.declared.events.Act.TheVariants.{Local, Write}
use Rattle.fbc_world.specs.declared.events.LocalEvent.TheVariants as local
use Rattle.fbc_world.specs.History.{History, Moment}
use Rattle.fbc_legal.specs.Legal.{IsLegal}
use Rattle.fbc_legal.specs.Marks.{IsUnwrittenOn}
use Rattle.fbc_examples.specs.Files.{empty_file, new_file, small_shape}
use Rattle.fbc_examples.specs.Rows.{with_changed_row}
use Rattle.fbc_examples.specs.Steps.{writes}
use Rattle.fbc_examples.specs.Writing.{with_free_number, with_free_relation, with_relation}
use Rattle.fbc_examples.proofs.ChangedRows.{legal_commit}
use Rattle.fbc_examples.proofs.LegalSteps.{legal_owner}

-- Whether the act does not mark this number.
abbrev pub marks_not : ℕ → Act → Bool
marks_not number (Local (local.Edit page (Mark other state))) = not (other == number)
marks_not number _ = true

-- No moment of a history marks it.
abbrev pub never_marks : ℕ → History → Bool
never_marks number past = list_all (λ (moment : Moment). marks_not number moment.event.act) past

not_itself : (number : ℕ) → not (number == number) ≡ true → ⊥
not_itself number is = grind (arith, nat_tests, is)

-- Where the number was not marked, no mark of it is to be written.
unmarked : (owner number page : ℕ) (past : History) → never_marks number past ≡ true → IsUnwrittenOn owner number page past → ⊥
unmarked owner number page _ all (IsUnwrittenOn.marked before moment state is) =
    let first : marks_not number moment.event.act ≡ true = (both_pass (marks_not number moment.event.act) (never_marks number before) all).0 in
    let none : marks_not number (Local (local.Edit page (Mark number state))) ≡ true = rw is.act at first in not_itself number none
unmarked owner number page _ all (IsUnwrittenOn.still before moment unwritten not_written) = unmarked owner number page before (both_pass _ _ all).1 unwritten

-- Where one mark is the last of all, it is on its own page.
marked_page : (number page marked : ℕ) (state : State) (mark : Moment) (past : History) → mark.event.act ≡ Local (local.Edit marked (Mark number state))
    → never_marks number past ≡ true → IsUnwrittenOn 1 number page (mark ∷ past) → page ≡ marked
marked_page number page marked state mark past act all (IsUnwrittenOn.marked _ _ other is) = cc (is.act)
marked_page number page marked state mark past act all (IsUnwrittenOn.still _ _ unwritten not_written) = absurd (unmarked 1 number page past all unwritten)

-- And where that page is written next, no mark is to be written.
pub written_next : (number page marked : ℕ) (state : State) (reason : Cause) (write mark : Moment) (past : History) → write.event.actor ≡ 1 → write.event.act ≡ Write marked reason false
    → mark.event.act ≡ Local (local.Edit marked (Mark number state)) → never_marks number past ≡ true
    → IsUnwrittenOn 1 number page (write ∷ mark ∷ past) → ⊥
written_next number page marked state reason write mark past actor act marks all (IsUnwrittenOn.marked _ _ other is) = let no : Write marked reason false ≡ Local (local.Edit page (Mark number other)) = sym act ∙ is.act in cc
written_next number page marked state reason write mark past actor act marks all (IsUnwrittenOn.still _ _ unwritten not_written) =
    not_written (record { cause = reason; actor = actor; act = rw (marked_page number page marked state mark past marks all unwritten) act })

pub legal_free_number : IsLegal small_shape empty_file with_free_number
legal_free_number = (
  legal_commit,
  record {
    alive = refl;
    follows = tt;
    guard = record {
      part = refl;
      by_series = record {
        over = λ t open_is. absurd (none-some t open_is);
        written = λ own unwritten. written_next 1 unwritten.0 2 Committed cause.Commit _ _ (writes 4 (writes 0 with_changed_row)) refl refl refl refl unwritten.1;
      };
    };
  },
)

pub legal_relation : IsLegal small_shape new_file with_relation
legal_relation = (
  (
    legal_owner new_file,
    record { alive = refl; follows = tt; guard = record { free = refl; asked = tt; upward = λ queued. absurd cc; no_dead = λ dead is. cc } },
  ),
  record { alive = refl; follows = λ granted. record { actor = refl; act = refl }; guard = record { wanted = refl; beside = λ other apart. refl; begins = λ begins. absurd cc } },
)

pub legal_free_relation : IsLegal small_shape new_file with_free_relation
legal_free_relation = (
  legal_relation,
  record { alive = refl; follows = tt; guard = record { part = refl; by_series = refl } },
)
