-- A file is opened again where all are dead, and what a lost transaction left goes, legally.
use Rattle.std.proofs.Common.{◌≡◌, ◌==◌, ℕ, Bool, true, false, inl, inr, refl, arith}
use Rattle.std.proofs.lemmas.Bool.Decides.{nat_tests}
use Rattle.std.proofs.lemmas.Option.{none-some}
use Rattle.fbc_kinds.specs.declared.edits.Edit.TheVariants.{ClearCell, Mark}
use Rattle.fbc_kinds.specs.declared.pages.State.TheVariants.{Dead}
use Rattle.fbc_levels.specs.declared.levels.Level.TheVariants.{Sr}
use Rattle.fbc_world.specs.declared.events.Act.TheVariants.{Ask, Die, Enter}
use Rattle.fbc_world.specs.History.{History}
use Rattle.fbc_world.specs.World.{world_of}
use Rattle.fbc_legal.specs.Legal.{IsLegal}
use Rattle.fbc_legal.specs.Rows.{IsClearing}
use Rattle.fbc_legal.specs.Scene.{number_resource}
use Rattle.fbc_examples.specs.Files.{empty_file, header, small_shape, value}
use Rattle.fbc_examples.specs.Rows.{with_changed_row}
use Rattle.fbc_examples.specs.Steps.{does, edits_by, holds_by, writes}
use Rattle.fbc_examples.specs.Survivors.{with_heir, with_lost_row, with_reopened_file}
use Rattle.fbc_examples.proofs.ChangedRows.{legal_data_write}
use Rattle.fbc_examples.proofs.LegalSteps.{legal_edits_by, legal_holds_by}

abbrev with_death : History
with_death = does 1 Die (writes 4 (writes 0 with_changed_row))

none_alive : (other : ℕ) (is_first : Bool) → other == 1 ≡ is_first → (world_of small_shape empty_file with_death).is_alive other ≡ false
none_alive other true is = rw is refl
none_alive other false is = rw is refl

pub legal_reopened_file : IsLegal small_shape empty_file with_reopened_file
legal_reopened_file = (
  (legal_data_write, record { alive = refl; follows = tt; guard = tt }),
  record { alive = tt; follows = tt; guard = record { nobody = refl; none_alive = λ other. none_alive other (other == 1) refl } },
)

abbrev with_second_come : History
with_second_come = does 2 (Enter 8 1) with_reopened_file

legal_second_come : IsLegal small_shape empty_file with_second_come
legal_second_come = (
  legal_reopened_file,
  record {
    alive = tt;
    follows = tt;
    guard = record {
      next = refl;
      few = omega arith;
      room = omega arith;
      name_from = omega arith;
      name_to = omega arith;
      fresh = λ other lives same. grind (arith, nat_tests, lives);
    };
  },
)

abbrev with_heir_pages : History
with_heir_pages = holds_by 2 2 (holds_by 2 4 with_second_come)

legal_heir_pages : IsLegal small_shape empty_file with_heir_pages
legal_heir_pages =
    let one = legal_holds_by 2 empty_file with_second_come 4 legal_second_come tt refl refl (omega arith) (λ other apart. refl) in
    legal_holds_by 2 empty_file (holds_by 2 4 with_second_come) 2 one tt refl refl (omega arith) (λ other apart. rw apart refl)

legal_heir_ask : IsLegal small_shape empty_file (does 2 (Ask (number_resource 1) Sr true 0) with_heir_pages)
legal_heir_ask = (
  legal_heir_pages,
  record {
    alive = refl;
    follows = tt;
    guard = record {
      free = refl;
      asked = record { from_one = omega arith; begun = omega arith; fresh = refl; alone = λ other r is. absurd (none-some r is) };
      upward = λ queued. absurd cc;
      no_dead = λ dead is. cc;
    };
  },
)

legal_heir : IsLegal small_shape empty_file with_heir
legal_heir = (
  legal_heir_ask,
  record {
    alive = refl;
    follows = λ granted. record { actor = refl; act = refl };
    guard = record { wanted = refl; beside = λ other apart. grind (arith, nat_tests, apart); begins = λ begins. absurd cc };
  },
)

pub legal_lost_row : IsLegal small_shape empty_file with_lost_row
legal_lost_row =
    let marked =
    legal_edits_by 2 empty_file with_heir 2 (Mark 1 Dead) legal_heir tt refl refl tt
    (record { newest = (header 2, refl, omega arith); in_time = inr (inl (header 2, refl, omega arith)) })
    (record { newest = refl; in_file = inl refl })
    (inr (refl, refl)) in
    legal_edits_by 2 empty_file (edits_by 2 2 (Mark 1 Dead) with_heir) 4 (ClearCell 0) marked tt refl refl tt
    (λ is_value. absurd cc)
    (record { pointer = 3; pointed = refl; named = refl; pointed_in_file = inl refl; named_in_file = inl refl })
    (IsClearing.backout (value 1 66) refl refl refl refl)
