-- An ask is answered that its owner does not wait for, that there is no room for, or that would close a circle, legally.
use Rattle.std.proofs.Common.{true, refl, arith}
use Rattle.std.proofs.lemmas.Bool.Decides.{nat_tests}
use Rattle.fbc_levels.specs.declared.levels.Level.TheVariants.{Sr}
use Rattle.fbc_world.specs.declared.events.Act.TheVariants.{Ask, Enter, Grant}
use Rattle.fbc_world.specs.History.{History}
use Rattle.fbc_legal.specs.Legal.{IsLegal}
use Rattle.fbc_examples.specs.Files.{new_file, small_shape}
use Rattle.fbc_examples.specs.Owners.{with_busy_ask, with_circle, with_full_ask, with_shared_relation}
use Rattle.fbc_examples.specs.Steps.{does, relation_resource, with_owner}
use Rattle.fbc_examples.proofs.OwnersComing.{legal_second, legal_two}
use Rattle.fbc_examples.proofs.OwnersGoing.{legal_full}

pub legal_busy_ask : IsLegal small_shape new_file with_busy_ask
legal_busy_ask = (
  legal_two,
  record {
    alive = refl;
    follows = tt;
    guard = record { free = refl; asked = record { fresh = refl; room = omega arith }; upward = λ queued. absurd cc; no_dead = λ dead is. cc };
  },
)

pub legal_full_ask : IsLegal small_shape new_file with_full_ask
legal_full_ask = (
  legal_full,
  record {
    alive = refl;
    follows = tt;
    guard = record { free = refl; asked = record { fresh = refl; room = omega arith }; upward = λ queued. absurd cc; no_dead = λ dead is. cc };
  },
)

-- Owners 1 and 2 share the relation.
abbrev with_first_share : History
with_first_share = does 1 (Grant relation_resource Sr) (does 1 (Ask relation_resource Sr true 0) (does 2 (Enter 8 2) with_owner))

legal_first_share : IsLegal small_shape new_file with_first_share
legal_first_share = (
  (
    legal_second,
    record { alive = refl; follows = tt; guard = record { free = refl; asked = tt; upward = λ queued. absurd cc; no_dead = λ dead is. cc } },
  ),
  record { alive = refl; follows = λ granted. record { actor = refl; act = refl }; guard = record { wanted = refl; beside = λ other apart. refl; begins = λ begins. absurd cc } },
)

legal_shared_relation : IsLegal small_shape new_file with_shared_relation
legal_shared_relation = (
  (
    legal_first_share,
    record { alive = refl; follows = tt; guard = record { free = refl; asked = tt; upward = λ queued. absurd cc; no_dead = λ dead is. cc } },
  ),
  record {
    alive = refl;
    follows = λ granted. record { actor = refl; act = refl };
    guard = record { wanted = refl; beside = λ other apart. grind (arith, nat_tests); begins = λ begins. absurd cc };
  },
)

pub legal_circle : IsLegal small_shape new_file with_circle
legal_circle = (
  (
    legal_shared_relation,
    record { alive = refl; follows = tt; guard = record { free = refl; asked = tt; upward = λ queued none pin. refl; no_dead = λ dead is. cc } },
  ),
  record { alive = refl; follows = λ granted. absurd cc; guard = record { free = refl; asked = tt; upward = λ queued none pin. refl; no_dead = λ dead is. cc } },
)
