-- Owners come, wait, look, withdraw, go and die, and what a dead one left is taken away, legally.
use Rattle.std.proofs.Common.{◌≡◌, ℕ, true, inl, refl, arith}
use Rattle.std.proofs.lemmas.Bool.Decides.{nat_tests}
use Rattle.fbc_levels.specs.declared.levels.Level.TheVariants.{Ex}
use Rattle.fbc_world.specs.declared.asks.Ask.TheVariants as ask
use Rattle.fbc_world.specs.declared.events.Act.TheVariants.{Die, Enter, Reap}
use Rattle.fbc_world.specs.History.{History}
use Rattle.fbc_levels.specs.Resources.{page_resource}
use Rattle.fbc_world.specs.World.{world_of}
use Rattle.fbc_legal.specs.Guards.{IsInWayOfAsk}
use Rattle.fbc_legal.specs.Legal.{IsLegal}
use Rattle.fbc_examples.specs.Files.{new_file, small_shape}
use Rattle.fbc_examples.specs.Owners.{with_leave, with_reaped_holder, with_reaped_owner, with_two, with_upward_wait, with_waiter, with_withdrawal}
use Rattle.fbc_examples.specs.Steps.{does, gets, holds, with_owner}
use Rattle.fbc_examples.proofs.LegalSteps.{legal_gets, legal_holds, legal_owner}

pub legal_second : IsLegal small_shape new_file (does 2 (Enter 8 2) with_owner)
legal_second = (
  legal_owner new_file,
  record {
    alive = tt;
    follows = tt;
    guard = record {
      next = refl;
      few = omega arith;
      room = omega arith;
      name_from = omega arith;
      name_to = omega arith;
      fresh = λ other lives same. grind (arith, nat_tests, lives, same);
    };
  },
)

pub legal_two : IsLegal small_shape new_file with_two
legal_two =
    legal_gets new_file (does 2 (Enter 8 2) with_owner) 1 (page_resource 1) 0 legal_second tt refl
    (record { fresh = refl; room = omega arith })
    (λ other apart. refl)
    (λ begins. absurd cc)

pub legal_waiter : IsLegal small_shape new_file with_waiter
legal_waiter = (
  legal_two,
  record {
    alive = refl;
    follows = tt;
    guard = record {
      free = refl;
      asked = record { fresh = refl; room = omega arith };
      upward = λ queued none pin pinned. absurd cc;
      no_dead = λ dead is. cc;
    };
  },
)

pub legal_withdrawal : IsLegal small_shape new_file with_withdrawal
legal_withdrawal = (
  (
    (legal_waiter, record { alive = refl; follows = λ granted. absurd cc; guard = tt }),
    record { alive = refl; follows = tt; guard = tt },
  ),
  record { alive = refl; follows = tt; guard = tt },
)

pub legal_leave : IsLegal small_shape new_file with_leave
legal_leave = (
  (
    (legal_withdrawal, record { alive = refl; follows = tt; guard = tt }),
    record { alive = refl; follows = tt; guard = tt },
  ),
  record {
    alive = refl;
    follows = tt;
    guard = record { requests = λ resource. refl; drafts = λ page drafted. absurd cc; pins = λ page. refl; settled = refl };
  },
)

pub legal_reaped_holder : IsLegal small_shape new_file with_reaped_holder
legal_reaped_holder = (
  (
    (
      (legal_waiter, record { alive = refl; follows = λ granted. absurd cc; guard = tt }),
      record { alive = refl; follows = tt; guard = tt },
    ),
    record {
      alive = refl;
      follows = tt;
      guard = record { is_dead = refl; in_way = record { wait = _; level = Ex; holder = _; waits = refl; wanted = refl; in_way = refl; is = refl } };
    },
  ),
  record {
    alive = refl;
    follows = tt;
    guard = record { wanted = refl; beside = λ other apart. grind (arith, nat_tests); begins = λ begins. absurd cc };
  },
)

abbrev with_first : History
with_first = does 2 (Enter 8 2) (holds 4 with_owner)

legal_first : IsLegal small_shape new_file with_first
legal_first = (
  legal_holds new_file with_owner 4 (legal_owner new_file) tt refl refl (omega arith) (λ other apart. refl),
  record {
    alive = tt;
    follows = tt;
    guard = record {
      next = refl;
      few = omega arith;
      room = omega arith;
      name_from = omega arith;
      name_to = omega arith;
      fresh = λ other lives same. grind (arith, nat_tests, lives, same);
    };
  },
)

legal_other : IsLegal small_shape new_file (gets 2 (page_resource 1) 0 with_first)
legal_other =
    legal_gets new_file with_first 2 (page_resource 1) 0 legal_first tt refl
    (record { fresh = refl; room = omega arith })
    (λ other apart. grind (arith, nat_tests))
    (λ begins. absurd cc)

-- Page 4 alone is pinned.
pin_is : (pin : ℕ) → (world_of small_shape new_file (gets 2 (page_resource 1) 0 with_first)).is_pinned 1 pin ≡ true → pin ≡ 4
pin_is pin pinned = grind (arith, nat_tests, pinned)

pub legal_upward_wait : IsLegal small_shape new_file with_upward_wait
legal_upward_wait = (
  legal_other,
  record {
    alive = refl;
    follows = tt;
    guard = record {
      free = refl;
      asked = record { fresh = refl; room = omega arith };
      upward = λ queued none pin pinned. rw (pin_is pin pinned) (inl (omega arith));
      no_dead = λ dead is. cc;
    };
  },
)

pub legal_reap : IsLegal small_shape new_file (does 2 (Reap 1 (ask.Lock (page_resource 1) Ex true 0)) (does 1 Die with_two))
legal_reap = (
  (legal_two, record { alive = refl; follows = tt; guard = tt }),
  record { alive = refl; follows = tt; guard = record { is_dead = refl; in_way = IsInWayOfAsk.holds _ refl refl refl } },
)

pub legal_reaped_owner : IsLegal small_shape new_file with_reaped_owner
legal_reaped_owner =
    legal_gets new_file (does 2 (Reap 1 (ask.Lock (page_resource 1) Ex true 0)) (does 1 Die with_two)) 2 (page_resource 1) 0 legal_reap tt refl
    (record { fresh = refl; room = omega arith })
    (λ other apart. grind (arith, nat_tests))
    (λ begins. absurd cc)
