-- Pages are written as an owner goes, against a circle of pairs, for room and for a callback, legally.
use Rattle.std.proofs.Common.{◌≡◌, ◌≤◌, ℕ, zero, suc, true, false, [], None, inl, inr, refl, arith}
use Rattle.std.specs.Prelude.{IsSome}
use Rattle.std.proofs.lemmas.Bool.Decides.{nat_tests}
use Rattle.fbc_blocking.specs.Callbacks.{IsNextCallback, IsPast, blocked_by}
use Rattle.fbc_kinds.specs.declared.edits.Edit.TheVariants.{TakePage}
use Rattle.fbc_levels.specs.declared.levels.Level.TheVariants.{Free, Pr}
use Rattle.fbc_levels.specs.declared.resources.Callback.{Callback}
use Rattle.fbc_world.specs.declared.asks.Cause.TheVariants as cause
use Rattle.fbc_world.specs.declared.events.Act.TheVariants.{Enter, Lower, Opened, Poll, Write}
use Rattle.fbc_world.specs.History.{History}
use Rattle.fbc_levels.specs.Resources.{page_resource}
use Rattle.fbc_world.specs.Locks.{locks_of}
use Rattle.fbc_world.specs.World.{world_of}
use Rattle.fbc_kinds.specs.Order.{StandsBefore}
use Rattle.fbc_legal.specs.Causes.{IsPolled}
use Rattle.fbc_legal.specs.Legal.{IsLegal}
use Rattle.fbc_examples.specs.Files.{new_file, small_shape}
use Rattle.fbc_examples.specs.Owners.{with_draft}
use Rattle.fbc_examples.specs.Pages.{with_taken_page}
use Rattle.fbc_examples.specs.Steps.{does, holds}
use Rattle.fbc_examples.specs.Writing.{with_callback, with_cycle, with_detach, with_eviction, with_little_room, with_two_readers, with_wanted_draft}
use Rattle.fbc_examples.proofs.LegalSteps.{legal_edits, legal_gets, legal_holds, legal_writes}
use Rattle.fbc_examples.proofs.Nothing.{nothing_before}
use Rattle.fbc_examples.proofs.OwnersGoing.{legal_draft}
use Rattle.fbc_examples.proofs.TakenPages.{legal_taken_page}

pub legal_detach : IsLegal small_shape new_file with_detach
legal_detach = legal_writes new_file with_draft 1 cause.Detach false false legal_draft tt refl refl (λ owner high. refl) (inl tt)

pub legal_cycle : IsLegal small_shape new_file with_cycle
legal_cycle =
    legal_writes new_file with_taken_page 1 (cause.Cycle 4) false false legal_taken_page tt refl refl (λ owner high. grind (arith, nat_tests))
    (inl (refl, refl, StandsBefore.straight 1 4 (1, refl)))

abbrev opened : History
opened = does 1 (Enter 1 1) (does 0 (Opened 16) [])

legal_opened : IsLegal small_shape new_file opened
legal_opened = (
  (tt, record { alive = tt; follows = tt; guard = record { nobody = refl; none_alive = λ other. refl } }),
  record {
    alive = tt;
    follows = tt;
    guard = record { next = refl; few = omega arith; room = omega arith; name_from = omega arith; name_to = omega arith; fresh = λ other lives. absurd cc };
  },
)

legal_little_room : IsLegal small_shape new_file with_little_room
legal_little_room =
    let one = legal_holds new_file opened 1 legal_opened tt refl refl (omega arith) (λ other apart. refl) in (
      legal_edits new_file (holds 1 opened) 1 (TakePage 4) one tt refl refl tt tt tt refl,
      record { alive = refl; follows = tt; guard = λ is t open_is. absurd cc },
    )

abbrev evicted : History
evicted = does 1 (Write 1 (cause.Evict 4) false) with_little_room

pub legal_evicted : IsLegal small_shape new_file evicted
legal_evicted =
    legal_writes new_file with_little_room 1 (cause.Evict 4) false false legal_little_room tt refl refl (λ owner high. refl)
    (inl (record { full = refl; absent = refl }))

legal_given_up : IsLegal small_shape new_file (does 1 (Lower (page_resource 1) Free) evicted)
legal_given_up = (
  legal_evicted,
  record {
    alive = refl;
    follows = tt;
    guard = record {
      part = refl;
      by_series = record {
        clean = refl;
        unpinned = refl;
        last = λ high. nothing_before (world_of small_shape new_file evicted) 1 (λ owner above. grind (arith, nat_tests)) high;
        reason = inl refl;
      };
    };
  },
)

pub legal_eviction : IsLegal small_shape new_file with_eviction
legal_eviction =
    legal_gets new_file (does 1 (Lower (page_resource 1) Free) evicted) 1 (page_resource 4) 0 legal_given_up tt refl
    (record { fresh = refl; room = omega arith })
    (λ other apart. rw apart refl)
    (λ begins. absurd cc)

legal_wanted_draft : IsLegal small_shape new_file with_wanted_draft
legal_wanted_draft = (
  (
    legal_draft,
    record { alive = tt; follows = tt; guard = record { next = refl; few = omega arith; room = omega arith; name_from = omega arith; name_to = omega arith; fresh = λ other lives same. grind (arith, nat_tests, lives, same) } },
  ),
  record {
    alive = refl;
    follows = tt;
    guard = record {
      free = refl;
      asked = record { fresh = refl; room = omega arith };
      upward = λ queued none pin pinned. absurd cc;
      no_dead = λ dead is. cc;
    };
  },
)

-- Owner 1 is called back on page 1 for owner 2, and keeps PR.
abbrev callback : Callback
callback = record { page = 1; asker = 2; keep = Pr }

least_page : (other : ℕ) → IsPast None other → IsSome (blocked_by (locks_of with_wanted_draft) 1 other) → 1 ≤ other
least_page zero past blocks = let no : false ≡ true = blocks in cc
least_page (suc other) past blocks = omega arith

next_callback : IsNextCallback (locks_of with_wanted_draft) 1 None callback
next_callback = record { page = record { past = tt; blocks = refl; least = least_page }; asker = refl; keep = refl }

polled : IsPolled 1 callback (does 1 (Poll None) with_wanted_draft)
polled = IsPolled.answered _ _ None refl refl next_callback

legal_poll : IsLegal small_shape new_file (does 1 (Poll None) with_wanted_draft)
legal_poll = (legal_wanted_draft, record { alive = refl; follows = λ granted. absurd cc; guard = tt })

pub legal_callback : IsLegal small_shape new_file with_callback
legal_callback =
    legal_writes new_file (does 1 (Poll None) with_wanted_draft) 1 (cause.CallbackOf 2) false false legal_poll tt refl refl (λ owner high. refl)
    (inl (callback, polled, refl, refl))

pub legal_two_readers : IsLegal small_shape new_file with_two_readers
legal_two_readers = (
  (
    (
      legal_callback,
      record {
        alive = refl;
        follows = tt;
        guard = record {
          part = refl;
          by_series = record {
            clean = refl;
            unpinned = refl;
            last = λ high. nothing_before (world_of small_shape new_file with_callback) 1 (λ owner above. grind (arith, nat_tests)) high;
            reason = inr (callback, IsPolled.still _ _ polled (λ above actor act. cc), refl, refl);
          };
        };
      },
    ),
    record { alive = refl; follows = tt; guard = record { wanted = refl; beside = λ other apart. grind (arith, nat_tests); begins = λ begins. absurd cc } },
  ),
  record { alive = refl; follows = tt; guard = record { held = inl refl; none = refl } },
)
