-- The lock table is full of a dead owner's requests, a page is given up, and a write fails, legally.
use Rattle.std.proofs.Common.{Bool, true, false, [], inl, inr, refl, arith}
use Rattle.std.proofs.lemmas.Bool.Decides.{nat_tests}
use Rattle.fbc_kinds.specs.declared.edits.Edit.TheVariants.{TakePage}
use Rattle.fbc_levels.specs.declared.levels.Level.TheVariants.{Ex}
use Rattle.fbc_world.specs.declared.asks.Ask.TheVariants as ask
use Rattle.fbc_world.specs.declared.asks.Cause.TheVariants as cause
use Rattle.fbc_world.specs.declared.events.Act.TheVariants.{Die, Enter, Opened, Read, Reap}
use Rattle.fbc_world.specs.History.{History}
use Rattle.fbc_levels.specs.Resources.{page_resource}
use Rattle.fbc_world.specs.World.{world_of}
use Rattle.fbc_legal.specs.Guards.{IsInWayOfAsk}
use Rattle.fbc_legal.specs.Legal.{IsLegal}
use Rattle.fbc_examples.specs.Files.{new_file, small_shape}
use Rattle.fbc_examples.specs.Owners.{with_draft, with_failed_write, with_full_table, with_given_up}
use Rattle.fbc_examples.specs.Steps.{does, gets, holds, with_owner}
use Rattle.fbc_examples.proofs.LegalSteps.{legal_edits, legal_gets, legal_holds, legal_owner, legal_writes}
use Rattle.fbc_examples.proofs.Nothing.{nothing_before}

abbrev in_little_room : History
in_little_room = does 2 (Enter 8 2) (does 1 (Enter 8 1) (does 0 (Opened 1) []))

legal_little_room : IsLegal small_shape new_file in_little_room
legal_little_room = (
  (
    (tt, record { alive = tt; follows = tt; guard = record { nobody = refl; none_alive = λ other. refl } }),
    record {
      alive = tt;
      follows = tt;
      guard = record { next = refl; few = omega arith; room = omega arith; name_from = omega arith; name_to = omega arith; fresh = λ other lives. absurd cc };
    },
  ),
  record {
    alive = tt;
    follows = tt;
    guard = record {
      next = refl;
      few = omega arith;
      room = omega arith;
      name_from = omega arith;
      name_to = omega arith;
      fresh = λ other lives same. grind (arith, nat_tests, lives, same);
    };
  },
)

pub legal_full : IsLegal small_shape new_file (gets 1 (page_resource 1) 0 in_little_room)
legal_full =
    legal_gets new_file in_little_room 1 (page_resource 1) 0 legal_little_room tt refl
    (record { fresh = refl; room = omega arith })
    (λ other apart. refl)
    (λ begins. absurd cc)

abbrev with_room_again : History
with_room_again = does 2 (Reap 1 (ask.Lock (page_resource 4) Ex true 0)) (does 1 Die (gets 1 (page_resource 1) 0 in_little_room))

legal_room_again : IsLegal small_shape new_file with_room_again
legal_room_again = (
  (legal_full, record { alive = refl; follows = tt; guard = tt }),
  record { alive = refl; follows = tt; guard = record { is_dead = refl; in_way = IsInWayOfAsk.fills _ refl refl refl } },
)

pub legal_full_table : IsLegal small_shape new_file with_full_table
legal_full_table =
    legal_gets new_file with_room_again 2 (page_resource 4) 0 legal_room_again tt refl
    (record { fresh = refl; room = omega arith })
    (λ other apart. grind (arith, nat_tests))
    (λ begins. absurd cc)

legal_got : IsLegal small_shape new_file (gets 1 (page_resource 1) 0 with_owner)
legal_got =
    legal_gets new_file with_owner 1 (page_resource 1) 0 (legal_owner new_file) tt refl
    (record { fresh = refl; room = omega arith })
    (λ other apart. refl)
    (λ begins. absurd cc)

pub legal_reads : IsLegal small_shape new_file (does 1 (Read 1 false) (does 1 (Read 1 true) (gets 1 (page_resource 1) 0 with_owner)))
legal_reads = (
  (legal_got, record { alive = refl; follows = tt; guard = record { held = inr refl; none = refl } }),
  record { alive = refl; follows = tt; guard = record { held = inr refl; none = refl } },
)

pub legal_given_up : IsLegal small_shape new_file with_given_up
legal_given_up = (
  legal_reads,
  record {
    alive = refl;
    follows = tt;
    guard = record {
      part = refl;
      by_series = record {
        clean = refl;
        unpinned = refl;
        last = λ high. nothing_before (world_of small_shape new_file (does 1 (Read 1 false) (does 1 (Read 1 true) (gets 1 (page_resource 1) 0 with_owner)))) 1 (λ owner above. refl) high;
        reason = inl refl;
      };
    };
  },
)

pub legal_holding : IsLegal small_shape new_file (holds 1 with_owner)
legal_holding = legal_holds new_file with_owner 1 (legal_owner new_file) tt refl refl (omega arith) (λ other apart. refl)

pub legal_draft : IsLegal small_shape new_file with_draft
legal_draft = (
  legal_edits new_file (holds 1 with_owner) 1 (TakePage 4) legal_holding tt refl refl tt tt tt refl,
  record { alive = refl; follows = tt; guard = λ is t open_is. absurd cc },
)

pub legal_failed_write : (landed : Bool) → IsLegal small_shape new_file (with_failed_write landed)
legal_failed_write landed = legal_writes new_file with_draft 1 cause.Commit true landed legal_draft tt refl refl (λ owner high. refl) (inl tt)
